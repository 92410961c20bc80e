-- What is found of the numbers that keep a code is found of its walks: `keeps_found`. Assumes nothing.
use Prim.Native.Nat.{ℕ, ◌-◌, ◌<◌, ◌≤◌}
use mathlib.Core.Path.{◌≡◌, sym, ap, subst, ◌∙◌}
use mathlib.Core.Bool.{true, not}
use mathlib.Core.List.{List, ◌++◌}
use native.Mathlib.Omega.{arith}
use borrow.Author.Tests.{eq-eqb}
use lib.ListN.{length, get_or}
use Rattle.laws.proofs.Tests.{clash}
use Rattle.graph.specs.Graph.{Step, is_start}
use Rattle.std.specs.Prelude.{Ok}
use Rattle.decoder.specs.Decode.{Done, instr_in}
use Rattle.decoder.proofs.Listed.{past}
use Rattle.decoder.proofs.Short.{short}
use Rattle.flow.specs.Opcodes.{prefixes_with}
use Rattle.search.specs.declared.Walked.{Walked}
use Rattle.search.specs.mirror.Kept.{catch_steps, kept_steps, kept_graph, IsFound}
use Rattle.search.proofs.Kept.{Same, same_append, kept_starts, kept_found}
use Rattle.steps.specs.Steps.{Source, instr_steps, handler_steps, listing, walk_graph}
use Rattle.steps.specs.mirror.Keeping.{decoded_at, kept_at, Holds, Keeps, Catches}
use Rattle.steps.proofs.Same.{kept_same}
use Rattle.steps.proofs.Caught.{catch_same}
use Rattle.steps.proofs.Listed.{own_offset, at_start, walk_good}

-- the instruction decoded at o: where it ends, and how long it is
module _ (s : Source) (o : ℕ) (done : Done (decoded_at s o)) where
  pub behind : (o < (instr_in (decoded_at s o)).end) × ((instr_in (decoded_at s o)).end ≤ length s.code)
  behind = past s.code s.opcodes s.types s.rfs (prefixes_with s.opcodes) o done

  pub few_bytes : (instr_in (decoded_at s o)).end - o < 256
  few_bytes = omega (arith, short s.code o s.opcodes s.types s.rfs (prefixes_with s.opcodes))

module _ (s : Source) (heads words catches : List ℕ) (k : Keeps s heads words) (c : Catches s catches) (few : length s.code ≤ 65536) (small : length heads ≤ 65536) where
  -- where an instruction starts there is a head
  held : (o : ℕ) → is_start (walk_graph s) o ≡ true → Holds s heads words o
  held o e = k.holds o (λ z. clash (sym (k.starts o) ∙ e) (ap not (eq-eqb (get_or heads o 0) 0 z)))

  -- its own steps, and the one to its handler
  own_same : (o : ℕ) → is_start (walk_graph s) o ≡ true → let i = instr_in (decoded_at s o) in
      Same heads (instr_steps s.elem s.pooled (s.opcodes.flow i.opcode) i) (kept_steps s.elem words o (get_or heads o 0))
  unfolding kept_at
  own_same o e =
      let h = held o e in
      let i = instr_in (decoded_at s o) in
      let b = behind s o h.done in
      subst (λ (x : ℕ). Same heads (instr_steps s.elem s.pooled (s.opcodes.flow i.opcode) i) (kept_steps s.elem words o x)) (sym h.head)
      (kept_same s.elem heads words (omega arith) o (i.end - o) (few_bytes s o h.done) i (own_offset s.code s.opcodes s.types s.rfs o h.done) (omega (arith, b)) (omega (arith, b)) s.pooled (s.opcodes.flow i.opcode) h.word)

  handler_same : (o : ℕ) → is_start (walk_graph s) o ≡ true → Same heads (handler_steps s (instr_in (decoded_at s o))) (catch_steps catches o)
  handler_same o e =
      let h = held o e in
      catch_same s heads catches small (instr_in (decoded_at s o)) o (own_offset s.code s.opcodes s.types s.rfs o h.done) (c o (omega (arith, behind s o h.done)) h.done)

  same_steps : (o : ℕ) → is_start (walk_graph s) o ≡ true → Same heads ((walk_graph s).steps o) (catch_steps catches o ++ kept_steps s.elem words o (get_or heads o 0))
  same_steps o e = subst (λ (l : List Step). Same heads l (catch_steps catches o ++ kept_steps s.elem words o (get_or heads o 0))) (sym (at_start s o e)) (same_append (handler_same o e) (own_same o e))

  pub keeps_found : (listing s).check ≡ Ok tt → (n : ℕ) (r : Walked) (M : List ℕ) → IsFound (kept_graph s.elem heads words catches) n r M → IsFound (walk_graph s) n r M
  keeps_found ended n r M f =
      let g = walk_good s ended in
      kept_found s.elem heads words catches (walk_graph s) g (kept_starts s.elem heads words catches (walk_graph s) g k.starts) same_steps n r M f
