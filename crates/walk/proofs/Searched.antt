-- Where the store's checks found nothing, the walks by searches are the walks of the definition. Assumes nothing.
use Prim.Native.Nat.{ℕ, ◌≤◌}
use mathlib.Core.Path.{◌≡◌, refl, sym, ap, subst, ◌∙◌}
use mathlib.Core.Bool.{Bool, true, ◌||◌}
use mathlib.Core.List.{List}
use native.Mathlib.Omega.{arith}
use borrow.Author.Tests.{leb-true}
use lib.Dec.{eqb, leb, ltb}
use lib.IntN.{ℤ, pos, negsuc, nat_abs}
use lib.ListN.{length, take, drop, length-take}
use Rattle.laws.proofs.Tests.{by_test}
use Rattle.std.specs.Prelude.{Option, Some, None, Result, Ok, Err}
use Rattle.refusal.specs.Refusal.{Refusal}
use Rattle.refusal.specs.Check.{Check}
use Rattle.targets.specs.declared.PoolSlots.{PoolSlots}
use Rattle.search.specs.declared.Walked.{Walked}
use Rattle.refusal.specs.declared.Fault.TheVariants as fault
use Rattle.refusal.specs.Check.{first_refusal, refuse_unless, guarded_on}
use Rattle.store.specs.declared.Object.{Object}
use Rattle.store.specs.Records.{object_of}
use Rattle.serializer.specs.declared.Elem.{Elem}
use Rattle.layout.specs.declared.Layout.{Layout}
use Rattle.layout.specs.Layout.{layout_of}
use Rattle.tables.specs.Check.{check_table}
use Rattle.header.specs.declared.Header.{Header}
use Rattle.header.specs.Header.{length_by, length_ok, code_span, header_with, header_by}
use Rattle.header.specs.mirror.Header.{header_searched}
use Rattle.targets.specs.Targets.{found}
use Rattle.targets.specs.mirror.Search.{pool_searched}
use Rattle.refusal.proofs.Laws.{or_right, good_is}
use Rattle.bytecode.specs.Decode.{check_code}
use Rattle.function.specs.declared.Function.{Function}
use Rattle.function.specs.Files.{Files, check_files, check_pool_object, check_lent}
use Rattle.function.specs.Pool.{pool_of, lent_pool}
use Rattle.function.specs.Code.{code_of, header_check, header_at}
use Rattle.function.specs.mirror.Pool.{pool_found, lent_found}
use Rattle.function.specs.mirror.Function.{function_of}
use Rattle.function.proofs.Searched.{header_found_lem, pool_found_lem, elems_found, lent_pool_lem, lent_elems}
use Rattle.walk.specs.Walk.{walk_source, held_check, Given, object_with, walk_with, lent_with, walk_lent_with}
use Rattle.flow.specs.Opcodes.{opcodes_of}
use Rattle.steps.specs.Steps.{Source}
use Rattle.walk.specs.mirror.Search.{source_of, source_by, header_found, WalkedBy, walk_searched}

-- ---- the code of a header is at most 65,536 bytes long
abbrev Short : Result Header Refusal → Type 0
Short (Ok h) = h.code_len ≤ 65536
Short (Err r) = Unit {0}

module _ (payload : List ℕ) (raw : ℕ → ℕ → Option ℕ) (rt : ℕ → ℕ) (l : Layout) where
  len_le : (a : Option ℕ) (n : ℕ) → (code_span a n).len ≤ n
  len_le (Some a) n = omega arith
  len_le None n = omega arith

  with_short : (n : ℕ) → n ≤ 65536 → (header_with payload raw rt l n).code_len ≤ 65536
  unfolding header_with
  with_short n h = omega (arith, len_le (raw (rt l.header_size) n) n)

  abs_le : (z : ℤ) → length_ok z ≡ true → nat_abs z ≤ 65536
  abs_le (pos n) h = leb-true n 65536 h
  abs_le (negsuc n) h = let x : ◌≡◌ {A = ℕ} 0 1 = cc in absurd (omega arith)

  header_short : Short (header_by payload raw rt l)
  unfolding header_by
  header_short = by_test Short (length_ok (length_by payload raw rt l)) (λ h. with_short _ (abs_le (length_by payload raw rt l) h)) (λ h. tt)

-- the code that a found header tells of
pub code_short : (slots payload : List ℕ) (o : Object) (l : Layout) (h : Header) → header_searched slots payload o l ≡ Ok h → length (take h.code_len (drop h.code_at payload)) ≤ 65536
code_short slots payload o l h e =
    let s = subst Short e (header_short payload _ _ l) in
    omega (arith, length-take h.code_len (drop h.code_at payload), s)

-- ---- an object
module _ (f : Files) (g : Given) (M : List ℕ) where
  abbrev walk_by : Result Header Refusal → Option PoolSlots → (ℕ → Option Elem) → Result Walked Refusal × List ℕ
  walk_by h p el =
      let l = layout_of f.layout in
      guarded_on (first_refusal (header_check h) (held_check h)) Err M (walk_source (record { code = code_of f h; opcodes = opcodes_of f.opcodes; types = f.types; rfs = l.frame.reg_file_start; pooled = found p; elem = el; handlers = g.handlers }) M)

  pub walked_searched : (k : ℕ) → check_files f k ≡ Ok tt → walk_searched f g (object_of f.objects k) M ≡ walk_with f g k M
  unfolding walk_searched walk_with
  walked_searched k ok =
      let o = object_of f.objects k in
      let l = layout_of f.layout in
      let p = pool_found f.objects f.slots l o in
      ap (λ (x : Result Header Refusal). walk_by x p (pool_searched f.slots f.payload l.tagged_size p)) (header_found_lem f k ok)
      ∙ ap (λ (x : Option PoolSlots). walk_by (header_at f k) x (pool_searched f.slots f.payload l.tagged_size x)) (pool_found_lem f k ok)
      ∙ ap (λ (x : ℕ → Option Elem). walk_by (header_at f k) (pool_of f o) x) (elems_found f k ok)
      ∙ sym (ap (λ (c : Check). guarded_on (first_refusal c (first_refusal (header_check (header_at f k)) (held_check (header_at f k)))) Err M (walk_source (object_with f g k) M)) ok)

-- a header that was found, and its code
module _ (f : Files) (g : Given) (o : Object) (code : List ℕ) (l : Layout) (h : Header) (e1 : l ≡ layout_of f.layout) (e3 : header_searched f.slots f.payload o l ≡ Ok h)
    (e4 : code ≡ take h.code_len (drop h.code_at f.payload)) where
  pub object_short : length code ≤ 65536
  object_short = subst (λ (c : List ℕ). length c ≤ 65536) (sym e4) (code_short f.slots f.payload o l h e3)

  -- what is found once of it is u
  -- none holds it
  pub object_unheld : (M : List ℕ) {r : Refusal} → held_check (Ok h) ≡ Err r → WalkedBy (walk_searched f g o M) (Err r) M
  unfolding walk_searched
  object_unheld M none =
      let at : header_found f o ≡ Ok h = ap (λ (x : Layout). header_searched f.slots f.payload o x) (sym e1) ∙ e3 in
      rw (at, none) (refl, refl)

  pub object_walked : (eqb h.length 0 || ltb 0 h.code_len) ≡ true → (M : List ℕ) (u : Function) (p : Option PoolSlots) (params : ℤ) → u ≡ function_of f.opcodes l p params → p ≡ pool_found f.objects f.slots l o
      → walk_source (source_of code f.opcodes f.types f.slots f.payload g.handlers u) M ≡ walk_searched f g o M
  unfolding walk_searched
  object_walked held M u p params e e2 =
      let at : header_found f o ≡ Ok h = ap (λ (x : Layout). header_searched f.slots f.payload o x) (sym e1) ∙ e3 in
      let q = pool_found f.objects f.slots (layout_of f.layout) o in
      let pool : p ≡ q = e2 ∙ ap (λ (x : Layout). pool_found f.objects f.slots x o) e1 in
      let source : List ℕ → Layout → Option PoolSlots → Source = λ c x y. source_by c f.opcodes f.types f.slots f.payload g x y in
      ap (λ (x : Function). walk_source (source_of code f.opcodes f.types f.slots f.payload g.handlers x) M) e
      ∙ ap (λ (c : List ℕ). walk_source (source c l p) M) e4
      ∙ ap (λ (x : Layout). walk_source (source (code_of f (Ok h)) x p) M) e1
      ∙ ap (λ (x : Option PoolSlots). walk_source (source (code_of f (Ok h)) (layout_of f.layout) x) M) pool
      ∙ sym (ap (λ (c : Bool). guarded_on (refuse_unless c fault.CodeNotHeld) Err M (walk_source (source (code_of f (Ok h)) (layout_of f.layout) q) M)) held)
      ∙ sym (ap (λ (x : Result Header Refusal). guarded_on (first_refusal (header_check x) (held_check x)) Err M (walk_source (source (code_of f x) (layout_of f.layout) q) M)) at)

-- ---- lent code
module _ (f : Files) (g : Given) (w : Option ℕ) (code : List ℕ) where
  pub lent_short : check_lent f w code ≡ Ok tt → length code ≤ 65536
  lent_short ok =
      let c = or_right (check_pool_object f.objects f.slots f.payload w) (check_code code) (or_right (check_table f.opcodes f.types f.runtime f.intrinsic f.layout) _ ok) in
      leb-true (length code) 65536 (good_is (leb (length code) 65536) fault.LongCode c)

  -- what is found once of it is u
  pub lent_walked : (M : List ℕ) → check_lent f w code ≡ Ok tt → (u : Function) (l : Layout) (p : Option PoolSlots) {params : ℤ} → u ≡ function_of f.opcodes l p params → l ≡ layout_of f.layout
      → p ≡ lent_found f.objects f.slots l w → walk_source (source_of code f.opcodes f.types f.slots f.payload g.handlers u) M ≡ walk_lent_with f g w code M
  unfolding walk_lent_with
  lent_walked M ok u l p e e1 e2 =
      let at = layout_of f.layout in
      let pool = e2 ∙ ap (λ (x : Layout). lent_found f.objects f.slots x w) e1 in
      let source : Bool → (ℕ → Option Elem) → Source = λ x el. record { code = code; opcodes = opcodes_of f.opcodes; types = f.types; rfs = at.frame.reg_file_start; pooled = x; elem = el; handlers = g.handlers } in
      ap (λ (x : Function). walk_source (source_of code f.opcodes f.types f.slots f.payload g.handlers x) M) e
      ∙ ap (λ (x : Layout). walk_source (source_by code f.opcodes f.types f.slots f.payload g x p) M) e1
      ∙ ap (λ (x : Option PoolSlots). walk_source (source (found x) (pool_searched f.slots f.payload at.tagged_size p)) M) (lent_pool_lem f w code ok pool)
      ∙ ap (λ (x : ℕ → Option Elem). walk_source (source (found (lent_pool f w)) x) M) (lent_elems f w code ok pool)
      ∙ sym (ap (λ (c : Check). guarded_on c Err M (walk_source (lent_with f g w code) M)) ok)
