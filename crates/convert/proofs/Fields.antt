-- What is read of a record's name, mark, count and codes is read of these 50 bytes, wherever they stand. Assumes nothing.
use Prim.Native.Nat.{ℕ, ◌+◌, ◌-◌, ◌<◌, ◌≤◌}
use mathlib.Core.Path.{◌≡◌, refl, sym, ap, ◌∙◌}
use mathlib.Core.Bool.{Bool, true, false, not, ◌&&◌}
use mathlib.Core.List.{List}
use mathlib.Core.Logic.{⊎_elim}
use native.Mathlib.Omega.{arith}
use native.Mathlib.Nat.{zero-add}
use borrow.Author.Tests.{lt-ltb, le-ltb, leb-true}
use lib.Dec.{ltb, leb, eqb}
use lib.ListN.{get_or, drop}
use lib.Seq.{get_or-take, get_or-drop, take-take}
use Rattle.laws.specs.Scan.{first_from}
use Rattle.laws.proofs.Scan.{first_along, first-within}
use Rattle.laws.proofs.Tests.{under?, eqb_along}
use Rattle.tables.specs.Names.{is_name, not_name, not_zero, is_zero, name_ok, name_at, is_named}
use Rattle.tables.specs.Records.{no_type, zeros, fields_ok}
use Rattle.tables.proofs.Rows.{named_same}
use Rattle.convert.specs.Names.{has_flow_name, flow_number, flow_by}
use Rattle.convert.specs.Convert.{fields, named_flow}

ltb_along : (d e : ℕ) → ltb d (d + e) ≡ ltb 0 e
ltb_along d e = ⊎_elim (λ (l : 0 < e). lt-ltb d (d + e) (omega arith) ∙ sym (lt-ltb 0 e l)) (λ (l : e ≤ 0). le-ltb d (d + e) (omega arith) ∙ sym (le-ltb 0 e l)) (under? 0 e)

and_agree : (m c a b x y : Bool) → (c ≡ true → (a ≡ x) × (b ≡ y)) → (m && c && a && b) ≡ (m && c && x && y)
and_agree true true a b x y h = rw ((h refl).0, (h refl).1)
and_agree true false a b x y h = refl
and_agree false c a b x y h = refl

module _ (s : List ℕ) (at : ℕ) where
  abbrev f : List ℕ
  f = fields s at

  pub fields_byte : (k : ℕ) → k < 50 → get_or s (at + k) 0 ≡ get_or f k 0
  fields_byte k l = sym (get_or-take 50 (drop at s) k 0 l ∙ get_or-drop at s k 0)

  -- a search by the bytes
  along : (p : ℕ → Bool) (i n : ℕ) → i + n ≤ 50 → first_from (λ j. p (get_or s j 0)) (at + i) n ≡ at + first_from (λ j. p (get_or f j 0)) i n
  along p i n h = first_along (λ j. p (get_or s j 0)) (λ j. p (get_or f j 0)) at i n (λ k low high. ap p (fields_byte k (omega arith)))

  pub fields_named : (name : List ℕ) → is_named s at 40 name ≡ is_named f 0 40 name
  fields_named name = named_same s f at 0 40 name name (λ i l. rw (zero-add i, fields_byte i (omega arith)))

  pub fields_name : name_at s at 40 ≡ name_at f 0 40
  unfolding name_at
  fields_name =
      let z = first_from (is_zero f) 0 40 in
      let a : at + 0 ≡ at = omega arith in
      let e : first_from (is_zero s) at 40 - at ≡ z - 0 = omega (arith, rw a at (along (λ b. eqb b 0) 0 40 (omega arith))) in
      rw e (sym (take-take (z - 0) 50 (drop at s) (omega (arith, (first-within (is_zero f) 0 40).1))))

  pub fields_name_ok : name_ok s at 40 ≡ name_ok f 0 40
  unfolding name_ok
  fields_name_ok =
      let e = first_from (not_name f) 0 40 in
      let a : at + 0 ≡ at = omega arith in
      let z : 0 + 40 - e ≡ 40 - e = omega arith in
      let y : at + 40 - (at + e) ≡ 40 - e = omega arith in
      let here : first_from (not_name s) at 40 ≡ at + e = rw a at (along (λ b. not (is_name b)) 0 40 (omega arith)) in
      rw (here, z, y, along (λ b. not (eqb b 0)) e (40 - e) (omega (arith, (first-within (not_name f) 0 40).1)), ltb_along at e, eqb_along at (first_from (not_zero f) e (40 - e)) 40)

  pub fields_ok_lem : (n : ℕ) → fields_ok s at n ≡ fields_ok f 0 n
  unfolding fields_ok
  fields_ok_lem n = rw (fields_byte 40 (omega arith), fields_byte 41 (omega arith)) (and_agree (leb (get_or f 40 0) 2) (leb count 8) _ _ _ _ (λ h. (codes (leb-true count 8 h), rest (leb-true count 8 h))))
    where
      count : ℕ
      count = get_or f 41 0

      codes : count ≤ 8 → eqb (first_from (no_type s n) (at + 42) count) (at + 42 + count) ≡ eqb (first_from (no_type f n) (0 + 42) count) (0 + 42 + count)
      codes few =
          let a : at + 42 + count ≡ at + (42 + count) = omega arith in
          rw (along (λ b. leb n b) 42 count (omega arith), a, eqb_along at (first_from (no_type f n) 42 count) (42 + count))

      rest : count ≤ 8 → zeros s (at + 42 + count) (at + 50) ≡ zeros f (0 + 42 + count) (0 + 50)
      rest few =
          let a : at + 42 + count ≡ at + (42 + count) = omega arith in
          let b : at + 50 - (at + (42 + count)) ≡ 50 - (42 + count) = omega arith in
          rw (a, b, along (λ x. not (eqb x 0)) (42 + count) (50 - (42 + count)) (omega arith), eqb_along at (first_from (not_zero f) (42 + count) (50 - (42 + count))) 50)

  pub fields_number : flow_number s at ≡ flow_number f 0
  unfolding flow_number
  fields_number = rw (zero-add (first_from (has_flow_name f 0) 0 37)) at (first_along (has_flow_name s at) (has_flow_name f 0) 0 0 37 (λ k low high. rw (zero-add k) (fields_named _)))

  pub fields_flow : named_flow s at ≡ named_flow f 0
  fields_flow = ap flow_by fields_number

-- ---- so records of two files with the same 50 bytes say the same
module _ (s t : List ℕ) (at bt : ℕ) (same : fields s at ≡ fields t bt) where
  pub same_byte : (k : ℕ) → k < 50 → get_or s (at + k) 0 ≡ get_or t (bt + k) 0
  same_byte k l = fields_byte s at k l ∙ ap (λ (x : List ℕ). get_or x k 0) same ∙ sym (fields_byte t bt k l)

  pub same_named : (name : List ℕ) → is_named s at 40 name ≡ is_named t bt 40 name
  same_named name = fields_named s at name ∙ ap (λ (x : List ℕ). is_named x 0 40 name) same ∙ sym (fields_named t bt name)

  pub same_name : name_at s at 40 ≡ name_at t bt 40
  same_name = fields_name s at ∙ ap (λ (x : List ℕ). name_at x 0 40) same ∙ sym (fields_name t bt)

  pub same_name_ok : name_ok s at 40 ≡ name_ok t bt 40
  same_name_ok = fields_name_ok s at ∙ ap (λ (x : List ℕ). name_ok x 0 40) same ∙ sym (fields_name_ok t bt)

  pub same_fields : (n : ℕ) → fields_ok s at n ≡ fields_ok t bt n
  same_fields n = fields_ok_lem s at n ∙ ap (λ (x : List ℕ). fields_ok x 0 n) same ∙ sym (fields_ok_lem t bt n)

  pub same_flow : named_flow s at ≡ named_flow t bt
  same_flow = fields_flow s at ∙ ap (λ (x : List ℕ). named_flow x 0) same ∙ sym (fields_flow t bt)
