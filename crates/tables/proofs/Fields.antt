-- Fields of names, many bytes at a time. Assumes nothing.
use Rattle.std.proofs.Common.{◌≡◌, ℕ, zero, suc, ◌+◌, ◌-◌, ◌/◌, ◌%◌, ◌<◌, ◌≤◌, max, true, false, not, eqb, List, [], length, get_or, take, drop, sym, refl, ap, ◌∙◌, ⊎_elim, zero-add, arith, length-drop, length-take-le, get_or-drop, get_or-take, lt-ltb, eq-eqb, ne_eqb, eqb-true, le-leb}
use borrow.Author.Tests.{lt-leb, not-true, not-false}
use Rattle.laws.specs.Scan.{first_from, within}
use Rattle.laws.proofs.Scan.{first-here, first_next, first_end, first-within, first_holds, first_none, first_is, first_along}
use Rattle.laws.proofs.Tests.{clash, under?, same?, or_either, eqb_along}
use Rattle.words.specs.Le.{le_at}
use Rattle.words.proofs.Le.{Bytes, le_at_none, le_at_past}
use Rattle.tables.specs.Records.{no_type, fields_ok}
use Rattle.tables.specs.Names.{is_name, not_name, not_zero, name_ok, differs, is_named}
use Rattle.tables.specs.mirror.Fields.{is_fine, Fine, codes_fit}
use Rattle.tables.proofs.Rows.{le_at_same, named_byte, named_same}

-- ---- a field with the empty name has only zeros
pub no_bytes : Bytes []
no_bytes k = record { fits = omega arith }

-- ---- the part of a file from from to to
module _ (s : List ℕ) (from to : ℕ) (room : to ≤ length s) where
  abbrev part : List ℕ
  part = take (to - from) (drop from s)

  pub part_length : length part ≡ to - from
  part_length = length-take-le (to - from) (drop from s) (omega (arith, length-drop from s))

  -- what it holds, the whole holds there
  pub part_named : (name : List ℕ) → is_named part 0 (length part) name ≡ is_named s from (to - from) name
  part_named name = rw part_length (named_same part s 0 from (to - from) name name same)
    where
      same : (i : ℕ) → i < to - from → differs part 0 name i ≡ differs s from name i
      same i l = ap (λ (b : ℕ). not (eqb b (get_or name i 0))) (rw (zero-add i) (get_or-take (to - from) (drop from s) i 0 l ∙ get_or-drop from s i 0))

  pub part_zeros : is_named part 0 (length part) [] ≡ true → (k : ℕ) → from ≤ k → k < to → get_or s k 0 ≡ 0
  part_zeros h k low high =
      let e : from + (k - from) ≡ k = omega arith in
      rw e at (named_byte s from (to - from) [] (sym (part_named []) ∙ h) (k - from) (omega arith))

  -- a number in it is one in the whole
  pub part_word : (m : ℕ) → m ≤ to - from → le_at part 0 m ≡ le_at s from m
  part_word m h = le_at_same part s 0 from m (λ k l. rw (zero-add k) (get_or-take (to - from) (drop from s) k 0 (omega arith) ∙ get_or-drop from s k 0))

  -- it has only zeros where a search in the whole finds nothing else
  pub zeros_part : from ≤ to → is_named part 0 (length part) [] ≡ eqb (first_from (not_zero s) from (to - from)) to
  unfolding is_named
  zeros_part order = part_named [] ∙ sym (eqb_along from _ _) ∙ ap (λ (k : ℕ). eqb k (from + (to - from))) (sym found) ∙ ap (λ (k : ℕ). eqb (first_from (not_zero s) from (to - from)) k) end
    where
      end : from + (to - from) ≡ to
      end = omega arith

      found : first_from (not_zero s) from (to - from) ≡ from + first_from (differs s from []) 0 (to - from)
      found = let start : from + 0 ≡ from = omega arith in rw start at (first_along (not_zero s) (differs s from []) from 0 (to - from) (λ k low high. refl))

-- ---- a search that finds nothing, in the bytes of a number
none_word : (s : List ℕ) (i m : ℕ) → eqb (le_at s i m) 0 ≡ eqb (first_from (not_zero s) i m) (i + m)
none_word s i m = ⊎_elim (λ (z : le_at s i m ≡ 0). eq-eqb _ _ z ∙ sym (eq-eqb _ _ (none z))) (λ (x : le_at s i m ≡ 0 → ⊥). ne_eqb _ _ x ∙ sym (ne_eqb _ _ (λ e. x (zero e)))) (same? (le_at s i m) 0)
  where
    none : le_at s i m ≡ 0 → first_from (not_zero s) i m ≡ i + m
    none z = first_is (not_zero s) i m (i + m) (omega arith) (omega arith) (λ j low l. let e : i + (j - i) ≡ j = omega arith in ap not (eq-eqb _ _ (rw e at (le_at_none s i m z (j - i) (omega arith))))) (λ l. absurd (omega arith))

    zero : first_from (not_zero s) i m ≡ i + m → le_at s i m ≡ 0
    zero e = le_at_same s [] i 0 m (λ k l. eqb-true _ _ (not-false _ (first_none (not_zero s) i m e (i + k) (omega arith) (omega arith)))) ∙ le_at_past [] 0 m (omega arith)

-- ---- type codes that are read as one number: the next is what is left of a division by 256
code_next : (s : List ℕ) → Bytes s → (i k : ℕ) → k < 8 → (le_at s (i + k) (8 - k) % 256 ≡ get_or s (i + k) 0) × (le_at s (i + k) (8 - k) / 256 ≡ le_at s (i + (k + 1)) (8 - (k + 1)))
unfolding le_at
code_next s bytes i k l =
    let e : 8 - k ≡ suc (8 - (k + 1)) = omega arith in
    let f : i + k + 1 ≡ i + (k + 1) = omega arith in
    rw (e, f) (omega (arith, bytes (i + k)), omega (arith, bytes (i + k)))

-- k of the codes are passed, and rest has the others
pub record Passed (s : List ℕ) (at count known k rest : ℕ) : Type 0 where
  pub most : k ≤ count
  pub left : rest ≡ le_at s (at + k) (8 - k)
  pub found : first_from (no_type s known) at count ≡ first_from (no_type s known) (at + k) (at + count - (at + k))

pub passed_none : (s : List ℕ) (at count known rest : ℕ) → rest ≡ le_at s at 8 → Passed s at count known 0 rest
passed_none s at count known rest is =
    let e : at + 0 ≡ at = omega arith in
    let n : at + count - at ≡ count = omega arith in
    record { most = omega arith; left = rw e is; found = rw (e, n) }

module _ (s : List ℕ) (bytes : Bytes s) (at count known k rest : ℕ) (few : count ≤ 8) (p : Passed s at count known k rest) where
  code_is : k < count → rest % 256 ≡ get_or s (at + k) 0
  code_is l = ap (λ (r : ℕ). r % 256) p.left ∙ (code_next s bytes at k (omega arith)).0

  pub passed_bad : k < count → known ≤ rest % 256 → false ≡ codes_fit s at count known
  unfolding codes_fit
  passed_bad l h = rw (ne_eqb _ _ other)
    where
      here : first_from (no_type s known) at count ≡ at + k
      here = p.found ∙ first-here (no_type s known) (at + k) (at + count) (omega arith) (le-leb _ _ (rw (code_is l) at h))

      other : first_from (no_type s known) at count ≡ at + count → ⊥
      other e = let h = here in omega arith

  pub passed_more : k < count → rest % 256 < known → Passed s at count known (k + 1) (rest / 256)
  passed_more l h =
      let e : at + k + 1 ≡ at + (k + 1) = omega arith in
      record {
        most = omega arith;
        left = ap (λ (r : ℕ). r / 256) p.left ∙ (code_next s bytes at k (omega arith)).1;
        found = p.found ∙ rw e at (first_next (no_type s known) (at + k) (at + count) (omega arith) (lt-leb _ _ (rw (code_is l) at h)));
      }

  pub passed_all : count ≤ k → eqb rest 0 ≡ codes_fit s at count known
  unfolding codes_fit
  passed_all h =
      let e : k ≡ count = omega arith in
      rw (eq-eqb _ _ (p.found ∙ first_end (no_type s known) (at + k) (at + count) (omega arith) ∙ ap (λ (j : ℕ). at + j) e), p.left, e)

-- the codes of an opcode record
pub codes_zeros : (s : List ℕ) (at known : ℕ) → get_or s (at + 40) 0 ≤ 2 → get_or s (at + 41) 0 ≤ 8 → codes_fit s (at + 42) (get_or s (at + 41) 0) known ≡ fields_ok s at known
unfolding codes_fit fields_ok
codes_zeros s at known mark few =
    let n = get_or s (at + 41) 0 in
    let e : at + 42 + n + (8 - n) ≡ at + 50 = omega arith in
    let w : at + 50 - (at + 42 + n) ≡ 8 - n = omega arith in
    rw (le-leb _ _ mark, le-leb _ _ few, w, none_word s (at + 42 + n) (8 - n), e)

-- ---- bytes that may each stand before the next

-- two runs that meet
pub fine_both : (s : List ℕ) (a b c d : ℕ) → c ≤ b → Fine s a b → Fine s c d → Fine s a d
fine_both s a b c d meet f g k low high = ⊎_elim (λ (l : k < b). f k low l) (λ (l : b ≤ k). g k (omega arith) high) (under? k b)

zero_none : is_name 0 ≡ false
unfolding within
zero_none = refl

-- fine bytes up to e, the first of them not zero, and zeros behind them are a good name
module _ (s : List ℕ) (at w e : ℕ) (some : at < e) (room : e ≤ at + w) (fine : Fine s at e) (zeros : (k : ℕ) → e ≤ k → k < at + w → get_or s k 0 ≡ 0) where
  -- what is no character is zero, and so is what comes behind a zero
  no_name : (k : ℕ) → at ≤ k → k < at + w → is_name (get_or s k 0) ≡ false → (get_or s k 0 ≡ 0) × (k + 1 < at + w → get_or s (k + 1) 0 ≡ 0)
  unfolding is_fine
  no_name k low high h = ⊎_elim (λ (l : k < e). before l) (λ (l : e ≤ k). (zeros k l high, λ m. zeros (k + 1) (omega arith) m)) (under? k e)
    where
      before : k < e → (get_or s k 0 ≡ 0) × (k + 1 < at + w → get_or s (k + 1) 0 ≡ 0)
      before l = ⊎_elim (λ t. clash t h) (λ t. let z : max (get_or s k 0) (get_or s (k + 1) 0) ≡ 0 = eqb-true _ _ t in (omega arith, λ m. omega arith)) (or_either (is_name (get_or s k 0)) _ (fine k low l))

  abbrev f : ℕ
  f = first_from (not_name s) at w

  at_end : f < at + w → is_name (get_or s f 0) ≡ false
  at_end l = not-true _ (first_holds (not_name s) at w l)

  behind : (d : ℕ) → f + d < at + w → get_or s (f + d) 0 ≡ 0
  behind zero l = let e : f + 0 ≡ f = omega arith in rw e (no_name f (first-within (not_name s) at w).0 (omega arith) (at_end (omega arith))).0
  behind (suc d) l =
      let e : f + suc d ≡ f + d + 1 = omega arith in
      let z = behind d (omega arith) in
      rw e ((no_name (f + d) (omega (arith, (first-within (not_name s) at w).0)) (omega arith) (ap is_name z ∙ zero_none)).1 (omega arith))

  pub plain_name : (get_or s at 0 ≡ 0 → ⊥) → name_ok s at w ≡ true
  unfolding name_ok
  plain_name set = rw (lt-ltb at f begun, eq-eqb _ _ ended)
    where
      begun : at < f
      begun = ⊎_elim (λ (l : at < f). l) (λ (l : f ≤ at). let e : f ≡ at = omega (arith, (first-within (not_name s) at w).0) in absurd (set (no_name at (omega arith) (omega arith) (rw e at (at_end (omega arith)))).0)) (under? at f)

      ended : first_from (not_zero s) f (at + w - f) ≡ at + w
      ended = let h = (first-within (not_name s) at w).1 in first_is (not_zero s) f (at + w - f) (at + w) h (omega arith) zero_there (λ l. absurd (omega arith))
        where
          zero_there : (j : ℕ) → f ≤ j → j < at + w → not_zero s j ≡ false
          zero_there j low high = let e : f + (j - f) ≡ j = omega arith in ap not (eq-eqb _ _ (rw e at (behind (j - f) (omega arith))))
