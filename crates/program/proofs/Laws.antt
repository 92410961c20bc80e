-- The listing within the limit; what is shown, and that the program's buffer has room for it. Assumes nothing.
use Prim.Native.Nat.{ℕ, ◌≤◌}
use mathlib.Core.Path.{◌≡◌, refl, sym, ap, subst, ◌∙◌}
use mathlib.Core.Bool.{Bool, true, false, cond}
use mathlib.Core.List.{List, ◌++◌}
use native.Mathlib.Omega.{arith}
use native.Mathlib.Decide.{dec_le}
use borrow.Author.Tests.{le-leb, lt-leb}
use lib.Dec.{leb}
use lib.ListN.{length, drop, replicate, length-append, length-replicate}
use lib.Seq.{take-append_seam, drop-append_seam}
use Rattle.refusal.specs.Refusal.{Refusal}
use Rattle.std.specs.Prelude.{Option, Result, Ok, Err}
use Rattle.refusal.specs.Check.{Check}
use Rattle.header.specs.declared.Header.{Header}
use Rattle.targets.specs.declared.PoolSlots.{PoolSlots}
use Rattle.search.specs.declared.Walked.{Walked}
use Rattle.refusal.specs.declared.Fault.TheVariants as fault
use Rattle.search.specs.declared.Walked.TheVariants as walked
use Rattle.refusal.specs.Check.{refusal_at, first_refusal, refuse_unless, guarded_on}
use Rattle.refusal.specs.Fault.{number_of}
use Rattle.refusal.proofs.Laws.{or_assoc}
use Rattle.text.specs.Put.{Put}
use Rattle.text.proofs.Put.{kept, fits}
use Rattle.text.proofs.Texts.{digits_few}
use Rattle.store.specs.Records.{object_of}
use Rattle.store.specs.Check.{check_store, check_code_object}
use Rattle.serializer.specs.declared.Elem.{Elem}
use Rattle.layout.specs.Layout.{layout_of}
use Rattle.tables.specs.Check.{check_table}
use Rattle.header.specs.Header.{header_of}
use Rattle.targets.specs.Targets.{pool_elem}
use Rattle.decoder.specs.Listed.{listed}
use Rattle.text.specs.Written.{put_text}
use Rattle.function.specs.Files.{Files, check_files}
use Rattle.function.specs.Pool.{pool_of}
use Rattle.function.specs.Code.{header_check, header_at, listing_check}
use Rattle.disasm.specs.Listing.{header_text, lines_text, view_by, list_view, list_header, list_object, list_call}
use Rattle.walk.specs.Walk.{walk_check, walk_found, walk_source, held_check, Promise, Given, object_with, walk_with}
use Rattle.walk.proofs.Answers.{promise_unless}
use Rattle.program.specs.Printed.{refusal_text, within_limit, limit_check, limited, told, shown, Printed, walk_text, walk_limited, walk_answer, walk_shown, WalkPrinted}

-- a check made twice says what it says once
once : (a b : Check) (o : List ℕ) (x : Result ℕ Refusal × List ℕ) → guarded_on (first_refusal a (Ok tt)) Err o (guarded_on (first_refusal a b) Err o x) ≡ guarded_on (first_refusal a b) Err o x
once (Ok tt) b o x = refl
once (Err r) b o x = refl

pub within : (f : Files) (o : List ℕ) → within_limit (length f.objects) (length f.slots) (length f.payload) ≡ true → limited f o ≡ list_call f 0 o
unfolding limited list_call
within f o h =
    rw h
    (once (check_table f.opcodes f.types f.runtime f.intrinsic f.layout) (first_refusal (check_store f.objects f.slots f.payload) (check_code_object f.objects 0)) o
    (list_object f (object_of f.objects 0) o))

-- ---- what is shown does not depend on what the buffer held

-- a call on a buffer, which either refuses every buffer or puts one text into it
data Call (g : List ℕ → Result ℕ Refusal × List ℕ) : Type 0 where
  refuses : (r : Refusal) → ((o : List ℕ) → g o ≡ (Err r, o)) → Call g
  puts : (t : List ℕ) → ((o : List ℕ) → g o ≡ put_text t o) → Call g

checked : (c : Check) (g : List ℕ → Result ℕ Refusal × List ℕ) → Call g → Call (λ o. guarded_on c Err o (g o))
checked (Ok tt) g s = s
checked (Err r) g s = refuses r (λ o. refl)

headed : (f : Files) (h : Result Header Refusal) (p : Option PoolSlots) (el : ℕ → Option Elem) → Call (list_header f h p el)
unfolding list_view
headed f (Err r) p el = refuses r (λ o. refl)
headed f (Ok h) p el =
    let v = view_by f h p el in
    let l = listed v.code v.opcodes f.types v.frame.reg_file_start in
    let t = header_text h ++ lines_text v l.instrs in
    checked (listing_check v.opcodes v.pooled l) (put_text t) (puts t (λ o. refl))

listed_call : (f : Files) → Call (list_call f 0)
unfolding list_call
listed_call f =
    let o = object_of f.objects 0 in
    let l = layout_of f.layout in
    checked (check_files f 0) (list_object f o)
    (headed f (header_of f.slots f.payload o l) (pool_of f o) (pool_elem f.slots f.payload l.tagged_size (pool_of f o)))

limited_call : (f : Files) → Call (limited f)
unfolding limited
limited_call f = checked (limit_check f) (list_call f 0) (listed_call f)

-- An answer on the buffer o, the buffer that it left, and the text t: the listing is t, with the rest of o behind it; a refusal leaves o.
abbrev Told : List ℕ → Result ℕ Refusal → List ℕ → List ℕ → Type 0
Told o (Ok n) o' t = (length t ≤ length o) × (n ≡ length t) × (o' ≡ t ++ drop (length t) o)
Told o (Err r) o' t = (o' ≡ o) × (t ≡ refusal_text r)

-- what a call x on o told is what a call y on another buffer tells
abbrev Alike : List ℕ → Result ℕ Refusal × List ℕ → Result ℕ Refusal × List ℕ → Type 0
Alike o x y = Told o x.0 x.1 (told y.0 y.1)

text_alike : (t o : List ℕ) → Alike o (put_text t o) (put_text t (replicate (length o) 0))
text_alike t o = rw length-replicate (go (dec_le (length t) (length o)))
  where
    go : Dec (length t ≤ length o)
        → Alike o (put_text t o) (cond (leb (length t) (length o)) (Ok (length t), t ++ drop (length t) (replicate (length o) 0)) (Err (refusal_at fault.ShortOutput 0), replicate (length o) 0))
    go (yes l) = rw (le-leb _ _ l, take-append_seam) (l, refl, refl)
    go (no n) = rw (lt-leb (length t) (length o) (omega arith)) (refl, refl)

alike : (g : List ℕ → Result ℕ Refusal × List ℕ) → Call g → (o : List ℕ) → Alike o (g o) (g (replicate (length o) 0))
alike g (refuses r e) o = rw (e o, e (replicate (length o) 0)) (refl, refl)
alike g (puts t e) o = rw (e o, e (replicate (length o) 0)) (text_alike t o)

limited_tells : (f : Files) (o : List ℕ) → Told o (limited f o).0 (limited f o).1 (shown f (length o))
limited_tells f o = alike (limited f) (limited_call f) o

-- ---- a refusal's line fits 64 bytes

line : (r : Refusal) → length (refusal_text r) ≤ 64
unfolding refusal_text
line r = rw (length-append, length-append, length-append, length-append) (omega (arith, digits_few (number_of r.fault), digits_few r.place))

-- ---- what is printed

-- a text that is put whole
printed : (t o o' : List ℕ) (r : ℕ) → length o ≡ 65536 → length t ≤ 65536 → Put o 0 t o' r → Printed t o o' r
printed t o o' r s h p = record {
  within = omega (arith, size, room, kept p);
  start = rw (size, fits room p) (take-append_seam t (drop (length t) o));
  rest = rw (size, fits room p) (drop-append_seam t (drop (length t) o));
}
  where
    room : length t ≤ length o
    room = omega (arith, s)

    size : r ≡ length t
    size = omega (arith, p.end)

-- for a listing, and for a refusal whose line was put into the buffer that the call left
module _ (f : Files) (o : List ℕ) (whole : length o ≡ 65536) {x : Result ℕ Refusal} {o₁ : List ℕ} (e : x ≡ (limited f o).0) (e₁ : o₁ ≡ (limited f o).1) where
  tells : Told o x o₁ (shown f 65536)
  tells = rw (← e, ← e₁, whole) at (limited_tells f o)

  pub printed_listing : (n : ℕ) → x ≡ Ok n → Printed (shown f 65536) o o₁ n
  printed_listing n h =
      let a : Told o (Ok n) o₁ (shown f 65536) = rw h at tells in
      printed (shown f 65536) o o₁ n whole (omega (arith, a.0, whole))
      (record { text = a.2 ∙ sym (fits {o = o} {t = shown f 65536} a.0 (record { text = refl; end = refl })); end = omega (arith, a.0, a.1, whole) })

  pub printed_refusal : (r : Refusal) {o' : List ℕ} {n : ℕ} → x ≡ Err r → Put o₁ 0 (refusal_text r) o' n → Printed (shown f 65536) o o' n
  printed_refusal r {o'} {n} h p =
      let a : Told o (Err r) o₁ (shown f 65536) = rw h at tells in
      printed (shown f 65536) o o' n whole (rw a.1 (omega (arith, line r))) (rw (a.0, ← a.1) at p)

-- ---- the walk program

-- a check made twice says what it says once
walk_once : (a b : Check) (M : List ℕ) (x : Result Walked Refusal × List ℕ) → guarded_on (first_refusal a (Ok tt)) Err M (guarded_on (first_refusal a b) Err M x) ≡ guarded_on (first_refusal a b) Err M x
walk_once (Ok tt) b M x = refl
walk_once (Err r) b M x = refl

-- what the walk check asks of the header: 9 and 19
abbrev walk_header : Files → Check
walk_header f = first_refusal (header_check (header_at f 0)) (held_check (header_at f 0))

pub walk_within : (f : Files) (g : Given) (M : List ℕ) → within_limit (length f.objects) (length f.slots) (length f.payload) ≡ true → walk_limited f g M ≡ walk_with f g 0 M
unfolding walk_limited walk_with
walk_within f g M h =
    let t = check_table f.opcodes f.types f.runtime f.intrinsic f.layout in
    let b = first_refusal (check_store f.objects f.slots f.payload) (check_code_object f.objects 0) in
    let x = walk_source (object_with f g 0) M in
    rw (h, or_assoc t b (walk_header f)) (walk_once t (first_refusal b (walk_header f)) M x)

-- the answer depends on how many marks there are, not on what they are
unless_blind : (c c' : Check) (M M' : List ℕ) (x x' : Result Walked Refusal × List ℕ) → c ≡ c' → x.0 ≡ x'.0 → (guarded_on c Err M x).0 ≡ (guarded_on c' Err M' x').0
unless_blind c c' M M' x x' e h = rw e (go c')
  where
    go : (c : Check) → (guarded_on c Err M x).0 ≡ (guarded_on c Err M' x').0
    go (Ok tt) = h
    go (Err r) = refl

pub walk_blind : (f : Files) (g : Given) (M : List ℕ) (n : ℕ) → length M ≡ n → (walk_limited f g M).0 ≡ walk_answer f g n
unfolding walk_answer walk_limited walk_with walk_source
walk_blind f g M n e =
    let M' : List ℕ = replicate n 0 in
    let s = object_with f g 0 in
    let same : length M ≡ length M' = e ∙ sym (length-replicate {A = ℕ} n 0) in
    let c = first_refusal (check_files f 0) (walk_header f) in
    unless_blind (limit_check f) (limit_check f) M M' (walk_with f g 0 M) (walk_with f g 0 M') refl
    (unless_blind c c M M' (walk_source s M) (walk_source s M') refl
    (unless_blind (walk_check s (length M)) (walk_check s (length M')) M M' (walk_found s M) (walk_found s M') (ap (walk_check s) same) refl))

-- files beyond the limit, and a table that is refused before
module _ (f : Files) (g : Given) (n : ℕ) (beyond : within_limit (length f.objects) (length f.slots) (length f.payload) ≡ false) where
  pub walk_beyond : check_table f.opcodes f.types f.runtime f.intrinsic f.layout ≡ Ok tt → Err (refusal_at fault.StoreSize 0) ≡ walk_answer f g n
  unfolding walk_answer walk_limited
  walk_beyond e =
      let M : List ℕ = replicate n 0 in
      let b = within_limit (length f.objects) (length f.slots) (length f.payload) in
      sym
      (ap (λ (c : Check). (guarded_on (first_refusal c (refuse_unless b fault.StoreSize)) Err M (walk_with f g 0 M)).0) e
      ∙ ap (λ (x : Bool). (guarded_on (refuse_unless x fault.StoreSize) Err M (walk_with f g 0 M)).0) beyond)

  pub walk_refused : (r : Refusal) → check_table f.opcodes f.types f.runtime f.intrinsic f.layout ≡ Err r → Err r ≡ walk_answer f g n
  unfolding walk_answer walk_limited
  walk_refused r e =
      let M : List ℕ = replicate n 0 in
      let b = within_limit (length f.objects) (length f.slots) (length f.payload) in
      sym (ap (λ (c : Check). (guarded_on (first_refusal c (refuse_unless b fault.StoreSize)) Err M (walk_with f g 0 M)).0) e)

walk_line : (w : Result Walked Refusal) → length (walk_text w) ≤ 64
unfolding walk_text
walk_line (Ok walked.Closed) = omega arith
walk_line (Ok (walked.Leaves n o)) = rw (length-append, length-append, length-append, length-append) (omega (arith, digits_few n, digits_few o))
walk_line (Err r) = line r

pub walk_printed : (f : Files) (g : Given) (o : List ℕ) → length o ≡ 65536 → (w : Result Walked Refusal) → w ≡ walk_answer f g 65536 → {o' : List ℕ} {n : ℕ} → Put o 0 (walk_text w) o' n → Printed (walk_shown f g) o o' n
walk_printed f g o whole w e {o'} {n} p =
    subst (λ (x : Result Walked Refusal). Printed (walk_text x) o o' n) e (printed (walk_text w) o o' n whole (omega (arith, walk_line w)) p)

-- ---- demand 3
call_promised : (f : Files) (g : Given) (M : List ℕ) → Promise (object_with f g 0) (walk_with f g 0 M).0 (walk_with f g 0 M).1
unfolding walk_with
call_promised f g M = promise_unless (object_with f g 0) (first_refusal (check_files f 0) (walk_header f)) M (refl, refl)

walk_promised : (f : Files) (g : Given) (M : List ℕ) → Promise (object_with f g 0) (walk_limited f g M).0 (walk_limited f g M).1
unfolding walk_limited
walk_promised f g M = go (limit_check f)
  where
    go : (c : Check) → let x = guarded_on c Err M (walk_with f g 0 M) in Promise (object_with f g 0) x.0 x.1
    go (Ok tt) = call_promised f g M
    go (Err r) = tt

answer_promised : (f : Files) (g : Given) → Promise (object_with f g 0) (walk_answer f g 65536) (walk_limited f g (replicate 65536 0)).1
unfolding walk_answer
answer_promised f g = walk_promised f g (replicate 65536 0)

pub walk_printed_promised : (f : Files) (g : Given) (o : List ℕ) → length o ≡ 65536 → (w : Result Walked Refusal) → w ≡ walk_answer f g 65536 → {o' : List ℕ} {n : ℕ} → Put o 0 (walk_text w) o' n → WalkPrinted f g o o' n
walk_printed_promised f g o whole w e p =
    record { text = walk_printed f g o whole w e p; marks = (walk_limited f g (replicate 65536 0)).1; promise = answer_promised f g }
