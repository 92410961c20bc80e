-- A pass over the instructions of a code: what holds at each of them, and what its end says. Assumes nothing.
use Prim.Native.Nat.{ℕ, suc, ◌-◌, ◌<◌, ◌≤◌}
use mathlib.Core.Path.{◌≡◌, ap, ◌∙◌}
use mathlib.Core.List.{[], ◌∷◌}
use native.Mathlib.Omega.{arith}
use Rattle.refusal.specs.Refusal.{Refusal}
use Rattle.std.specs.Prelude.{None, Ok, Err}
use Rattle.decoder.specs.Decode.{Decoded, instr_in, Done}
use Rattle.decoder.specs.Listed.{Listing, list_from}
use Rattle.decoder.proofs.Listed.{list_done, list_end_lem, list_refused}

module _ (d : ℕ → Decoded) (len : ℕ) where
  abbrev pub all_of : Listing
  all_of = list_from d (suc len) 0

  -- what is left where n instructions are passed, up to place i of the code
  abbrev pub rest_of : ℕ → ℕ → Listing
  rest_of n i = list_from d (suc len - n) i

  pub record PassInv (n i : ℕ) : Type 0 where
    pub few : n ≤ i
    pub inside : i ≤ len
    pub check : all_of.check ≡ (rest_of n i).check

  pub pass_start : PassInv 0 0
  pass_start = let z : suc len - 0 ≡ suc len = omega arith in record { few = omega arith; inside = omega arith; check = rw z }

  module _ {n i : ℕ} (s : PassInv n i) where
    -- what is left, by what is decoded at i
    rest_is : {l : Listing} → list_from d (suc (len - n)) i ≡ l → rest_of n i ≡ l
    rest_is e = let fuel : suc len - n ≡ suc (len - n) = omega (arith, s.few, s.inside) in ap (λ (f : ℕ). list_from d f i) fuel ∙ e

    pub pass_refused : (r : Refusal) → d i ≡ Err r → all_of.check ≡ Err r
    pass_refused r e = s.check ∙ ap (λ (l : Listing). l.check) (rest_is (list_refused d (len - n) i r e))

    pub pass_end : d i ≡ Ok None → (all_of.check ≡ Ok tt) × ((rest_of n i).instrs ≡ [])
    pass_end e =
        let rest = rest_is (list_end_lem d (len - n) i e) in
        (s.check ∙ ap (λ (l : Listing). l.check) rest, ap (λ (l : Listing). l.instrs) rest)

    -- the instruction at i, and what is left behind it
    pub pass_instrs : Done (d i) → (rest_of n i).instrs ≡ instr_in (d i) ∷ (rest_of (suc n) (instr_in (d i)).end).instrs
    pass_instrs e =
        let next : suc len - suc n ≡ len - n = omega arith in
        rw next (ap (λ (l : Listing). l.instrs) (rest_is (list_done d (len - n) i e)))

    pub pass_done : Done (d i) → i < (instr_in (d i)).end → (instr_in (d i)).end ≤ len → PassInv (suc n) (instr_in (d i)).end
    pass_done e low high =
        let next : suc len - suc n ≡ len - n = omega arith in
        record {
          few = omega (arith, s.few);
          inside = high;
          check = rw next (s.check ∙ ap (λ (l : Listing). l.check) (rest_is (list_done d (len - n) i e)));
        }
