-- The listed instructions are what is decoded at their offsets, which rise. Assumes nothing.
use Prim.Native.Nat.{ℕ, zero, suc, ◌≤◌}
use mathlib.Core.Path.{◌≡◌, refl, sym, ap, ◌∙◌}
use mathlib.Core.Bool.{Bool, true, false, cond}
use mathlib.Core.List.{List, [], ◌∷◌, ◌++◌, map}
use mathlib.Core.Logic.{⊎_elim}
use native.Mathlib.Omega.{arith}
use borrow.Author.Tests.{eqb-true, eq-eqb}
use lib.Dec.{eqb}
use lib.ListN.{length}
use lib.IntN.{ℤ}
use Rattle.laws.proofs.Tests.{clash, or_either}
use Rattle.graph.specs.Lists.{elem}
use Rattle.graph.specs.Graph.{Step, Good, Rising, is_start}
use Rattle.std.specs.Prelude.{Some, None, Ok, Err}
use Rattle.decoder.specs.declared.Instr.{Instr}
use Rattle.decoder.specs.Decode.{Decoded, Done, instr_in}
use Rattle.decoder.specs.Listed.{list_on, list_from, decodes}
use Rattle.decoder.proofs.Tiles.{Tiles, decode_says, list_tiles}
use Rattle.flow.specs.Opcodes.{Opcodes, prefixes_with}
use Rattle.steps.specs.Steps.{Source, instr_steps, handler_steps, steps_at, listing, offset, walk_graph}

-- an instruction starts where it was decoded
pub own_offset : (code : List ℕ) (ops : Opcodes) (types : List ℕ) (rfs : ℤ) (at : ℕ)
    → Done (decodes code ops types rfs at) → (instr_in (decodes code ops types rfs at)).offset ≡ at
own_offset code ops types rfs at e = rw e at (decode_says code ops types rfs (prefixes_with ops) at)

-- ---- the listed instructions are what is decoded at their offsets
abbrev Own : (ℕ → Decoded) → List Instr → Type 0
Own d [] = Unit {0}
Own d (i ∷ is) = (instr_in (d i.offset) ≡ i) × Own d is

module _ (s : Source) where
  abbrev dec : ℕ → Decoded
  dec = decodes s.code s.opcodes s.types s.rfs

  own : (f at : ℕ) → Own dec (list_from dec f at).instrs
  unfolding list_from
  own zero at = tt
  own (suc f) at = go (dec at) refl (own f (instr_in (dec at)).end)
    where
      go : (x : Decoded) → dec at ≡ x → Own dec (list_from dec f (instr_in (dec at)).end).instrs → Own dec (list_on x (list_from dec f (instr_in (dec at)).end)).instrs
      go (Ok None) e rest = tt
      go (Err r) e rest = tt
      go (Ok (Some i)) e rest =
          let is : instr_in (dec at) ≡ i = ap instr_in e in
          let at_i : i.offset ≡ at = ap offset (sym is) ∙ own_offset s.code s.opcodes s.types s.rfs at (e ∙ sym (ap (λ (j : Instr). Ok (Some j)) is)) in
          (ap (λ (o : ℕ). instr_in (dec o)) at_i ∙ is, rest)

  abbrev pub own_steps : ℕ → List Step
  own_steps o = let i = instr_in (dec o) in handler_steps s i ++ instr_steps s.elem s.pooled (s.opcodes.flow i.opcode) i

  steps_own : (is : List Instr) (o : ℕ) → Own dec is → elem o (map offset is) ≡ true → steps_at s is o ≡ own_steps o
  unfolding steps_at
  steps_own [] o w e = clash e refl
  steps_own (i ∷ is) o w e = go (eqb i.offset o) refl (steps_own is o w.1)
    where
      steps : Instr → List Step
      steps j = handler_steps s j ++ instr_steps s.elem s.pooled (s.opcodes.flow j.opcode) j

      go : (b : Bool) → eqb i.offset o ≡ b → (elem o (map offset is) ≡ true → steps_at s is o ≡ own_steps o) → cond b (steps i) (steps_at s is o) ≡ own_steps o
      go true h rest = ap steps (sym w.0 ∙ ap (λ (p : ℕ). instr_in (dec p)) (eqb-true i.offset o h))
      go false h rest = rest (⊎_elim (λ (x : eqb o i.offset ≡ true). clash (eq-eqb i.offset o (sym (eqb-true o i.offset x))) h) (λ x. x) (or_either (eqb o i.offset) (elem o (map offset is)) e))

  -- the steps from a start
  pub at_start : (o : ℕ) → is_start (walk_graph s) o ≡ true → (walk_graph s).steps o ≡ own_steps o
  unfolding walk_graph is_start
  at_start o e = steps_own (listing s).instrs o (own (suc (length s.code)) 0) e

-- ---- the graph is good
rises : (at e : ℕ) (is : List Instr) → Tiles at is e → Rising at (map offset is)
rises at e [] t = tt
rises at e (i ∷ is) t = (omega (arith, t.0), lower i.end (suc i.offset) (map offset is) (omega (arith, t.0, t.1)) (rises i.end e is t.2))
  where
    lower : (a b : ℕ) (l : List ℕ) → b ≤ a → Rising a l → Rising b l
    lower a b [] h r = tt
    lower a b (x ∷ l) h r = (omega (arith, r.0), r.1)

module _ (s : Source) (ended : (listing s).check ≡ Ok tt) where
  tiles : Tiles 0 (listing s).instrs (length s.code)
  tiles = list_tiles s.code s.opcodes s.types s.rfs (prefixes_with s.opcodes) (suc (length s.code)) 0 (omega arith) (omega arith) ended

  pub walk_good : Good (walk_graph s)
  unfolding walk_graph
  walk_good = record { rising = rises 0 (length s.code) (listing s).instrs tiles }
