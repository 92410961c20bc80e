-- A whole code listed and written is the code. Assumes nothing.
use Prim.Native.Nat.{ℕ, zero, suc, ◌-◌}
use mathlib.Core.Path.{◌≡◌, refl, sym, ap, ◌∙◌}
use mathlib.Core.List.{List, [], ◌∷◌}
use native.Mathlib.Omega.{arith}
use lib.ListN.{length, take, drop}
use lib.IntN.{ℤ}
use Rattle.words.proofs.Le.{Bytes}
use Rattle.std.specs.Prelude.{Some, None, Ok, Err}
use Rattle.flow.specs.Opcodes.{Opcodes, prefixes_with}
use Rattle.decoder.specs.declared.Instr.{Instr}
use Rattle.decoder.specs.Decode.{Decoded, instr_in, operand_types}
use Rattle.decoder.specs.Listed.{list_on, list_from, decodes, listed}
use Rattle.decoder.proofs.Tiles.{bytes_of, all_bytes, list_tiles, tiles_bytes}
use Rattle.writer.specs.Write.{check_write, written_bytes}
use Rattle.writer.specs.Narrow.{AllNarrow}
use Rattle.writer.specs.Whole.{NarrowTable, all_written}
use Rattle.writer.proofs.Again.{own_place, written_again, again_types}

-- each of the instructions
abbrev pub Each : (Instr → Type 0) → List Instr → Type 0
Each P [] = Unit {0}
Each P (i ∷ is) = P i × Each P is

each_list : (P : Instr → Type 0) (d : ℕ → Decoded) → ((at : ℕ) (i : Instr) → d at ≡ Ok (Some i) → P i) → (f at : ℕ) → Each P (list_from d f at).instrs
unfolding list_from
each_list P d all zero at = tt
each_list P d all (suc f) at = go (d at) refl (each_list P d all f (instr_in (d at)).end)
  where
    go : (x : Decoded) → d at ≡ x → Each P (list_from d f (instr_in (d at)).end).instrs → Each P (list_on x (list_from d f (instr_in (d at)).end)).instrs
    go (Ok (Some i)) e rest = (all at i e, rest)
    go (Ok None) e rest = tt
    go (Err r) e rest = tt

-- what each has written is what all have
all_alike : (code : List ℕ) (ops : Opcodes) (types : List ℕ) (rfs : ℤ) (is : List Instr) → Each (λ i. written_bytes ops types rfs i ≡ bytes_of code i) is → all_written ops types rfs is ≡ all_bytes code is
all_alike code ops types rfs [] h = refl
all_alike code ops types rfs (i ∷ is) h = rw (h.0, all_alike code ops types rfs is h.1)

-- a law of each, along another
each_with : (P Q : Instr → Type 0) (is : List Instr) → Each (λ i. P i → Q i) is → Each P is → Each Q is
each_with P Q [] f h = tt
each_with P Q (i ∷ is) f h = (f.0 h.0, each_with P Q is f.1 h.1)

module _ (code : List ℕ) (ops : Opcodes) (types : List ℕ) (rfs : ℤ) (bytes : Bytes code) where
  -- no listed instruction is refused, however the listing ended
  pub listed_accepted : Each (λ i. check_write ops types rfs i ≡ Ok tt) (listed code ops types rfs).instrs
  listed_accepted = each_list (λ i. check_write ops types rfs i ≡ Ok tt) (decodes code ops types rfs) (λ at i e. (written_again ops types rfs code bytes at i e).0) (suc (length code)) 0

  -- "Writing what was decoded gives back the bytes": a code that was listed to its end is written as it was, one instruction behind the other, where the
  -- widths of the listed opcodes' types are narrow
  pub written_whole : (listed code ops types rfs).check ≡ Ok tt → Each (λ i. AllNarrow types i.scale (operand_types ops i.opcode)) (listed code ops types rfs).instrs
      → all_written ops types rfs (listed code ops types rfs).instrs ≡ code
  written_whole ended narrow =
      let d = decodes code ops types rfs in
      let f = suc (length code) in
      let is = (list_from d f 0).instrs in
      let each = each_list (λ i. AllNarrow types i.scale (operand_types ops i.opcode) → written_bytes ops types rfs i ≡ bytes_of code i) d
      (λ at i e n. (written_again ops types rfs code bytes at i e).1 n ∙ ap (λ (k : ℕ). take (i.end - k) (drop k code)) (sym (own_place ops types rfs code bytes at i e))) f 0 in
      all_alike code ops types rfs is (each_with (λ i. AllNarrow types i.scale (operand_types ops i.opcode)) (λ i. written_bytes ops types rfs i ≡ bytes_of code i) is each narrow)
      ∙ tiles_bytes code is 0 (length code) refl (list_tiles code ops types rfs (prefixes_with ops) f 0 (omega arith) (omega arith) ended)

  -- and by a narrow table
  pub written_listed : NarrowTable types → (listed code ops types rfs).check ≡ Ok tt → all_written ops types rfs (listed code ops types rfs).instrs ≡ code
  written_listed small ended =
      written_whole ended
      (each_list (λ i. AllNarrow types i.scale (operand_types ops i.opcode)) (decodes code ops types rfs) (λ at i e. again_types ops types rfs code bytes at i e small) (suc (length code)) 0)
