-- At most one name can be a record's: that at the record's place in the index. Assumes nothing.
use Prim.Native.Nat.{ℕ, zero, suc, ◌+◌, ◌<◌}
use mathlib.Core.Path.{◌≡◌, refl, sym, ap, ◌∙◌}
use mathlib.Core.List.{List, [], ◌∷◌}
use mathlib.Core.Bool.{Bool, true, false, ◌&&◌}
use native.Mathlib.Omega.{arith}
use native.Mathlib.Nat.{zero-add}
use borrow.Author.Tests.{eqb-true, lt-ltb}
use Rattle.std.specs.Prelude.{Some, None}
use Rattle.laws.specs.Scan.{first_from}
use lib.Dec.{eqb}
use lib.ListN.{length, get_or}
use Rattle.laws.proofs.Scan.{first_is}
use Rattle.laws.proofs.Tests.{and_left, and_right, clash}
use Rattle.tables.specs.Records.{opcode_name_size}
use Rattle.tables.proofs.Rows.{named_byte}
use Rattle.convert.specs.Names.{flow_names, has_flow_name, flow_number}
use Rattle.convert.specs.mirror.Index.{place_of, number_as, Indexed}

-- ---- the index is right, tested at each name
unfoldable pub index_right : List ℕ → ℕ → List (List ℕ) → Bool
index_right t k [] = true
index_right t k (name ∷ names) = eqb (get_or t (place_of name 0) 0) k && index_right t (suc k) names

right_at : (t : List ℕ) (k : ℕ) (names : List (List ℕ)) → index_right t k names ≡ true → (i : ℕ) → i < length names → get_or t (place_of (get_or names i []) 0) 0 ≡ k + i
unfolding index_right
right_at t k [] h i l = absurd (omega arith)
right_at t k (name ∷ names) h zero l = let e : k + 0 ≡ k = omega arith in rw e (eqb-true _ _ (and_left (eqb (get_or t (place_of name 0) 0) k) (index_right t (suc k) names) h))
right_at t k (name ∷ names) h (suc i) l = let e : k + suc i ≡ suc k + i = omega arith in rw e (right_at t (suc k) names (and_right (eqb (get_or t (place_of name 0) 0) k) (index_right t (suc k) names) h) i (omega arith))

pub indexed : (t : List ℕ) → index_right t 0 flow_names ≡ true → Indexed t
unfolding flow_names
indexed t h = record { number = λ k l. right_at t 0 flow_names h k l ∙ zero-add k }

-- ---- a record's number by the index
pub place_low : (s : List ℕ) (at : ℕ) → place_of s at < 256
unfolding place_of
place_low s at = omega arith

not_name_lem : (b : Bool) → (b ≡ true → ⊥) → b ≡ false
not_name_lem true h = absurd (h refl)
not_name_lem false h = refl

module _ (ops : List ℕ) (at : ℕ) (t : List ℕ) (right : Indexed t) (k : ℕ) (is : k ≡ get_or t (place_of ops at) 0) where
  -- a name that is the record's stands at the record's place
  one_name : (j : ℕ) → j < 37 → has_flow_name ops at j ≡ true → j ≡ k
  unfolding place_of
  one_name j l h =
      let name = get_or flow_names j [] in
      let b = named_byte ops at opcode_name_size name h in
      sym (right.number j l) ∙ sym (is ∙ rw (b 2 (omega arith), b 7 (omega arith), b 12 (omega arith), b 17 (omega arith), b 24 (omega arith)))

  -- it is the record's, or the record has none
  pub number_is : k < 37 → has_flow_name ops at k ≡ true → Some k ≡ number_as (flow_number ops at)
  unfolding flow_number
  number_is l h = rw (is_first, lt-ltb k 37 l)
    where
      is_first : first_from (has_flow_name ops at) 0 37 ≡ k
      is_first = first_is (has_flow_name ops at) 0 37 k (omega arith) (omega arith) (λ j low m. not_name_lem _ (λ e. let z : j ≡ k = one_name j (omega arith) e in omega arith)) (λ m. h)

  pub number_none : (k < 37 → has_flow_name ops at k ≡ false) → None ≡ number_as (flow_number ops at)
  unfolding flow_number
  number_none h = rw is_last
    where
      other : (j : ℕ) → j < 37 → has_flow_name ops at j ≡ true → j ≡ k → ⊥
      other j m e same = clash e (ap (has_flow_name ops at) same ∙ h (omega arith))

      is_last : first_from (has_flow_name ops at) 0 37 ≡ 37
      is_last = first_is (has_flow_name ops at) 0 37 37 (omega arith) (omega arith) (λ j low m. not_name_lem _ (λ e. other j m e (one_name j m e))) (λ m. absurd (omega arith))
