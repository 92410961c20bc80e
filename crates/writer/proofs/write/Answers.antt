use Rattle.std.proofs.Common.{◌≡◌, List, [], ℕ, Ok, Err, SFits, w32, sym, ◌∙◌}
use Rattle.std.proofs.lemmas.Result.{err_from_is_err_and}
use borrow.Author.Rules.{rules}
use mir.Facts.{to_z-of_z}
use mir.Val.{to_z, of_z}
use Rattle.refusal.specs.Refusal.{Refusal}
use Rattle.refusal.specs.Check.{Check, first_refusal}
use Rattle.text.proofs.Numbers.{written_as}
use Rattle.layout.specs.declared.Layout.{Layout}
use Rattle.layout.specs.Layout.{layout_of, signed_value}
use Rattle.tables.specs.Check.{check_table}
use Rattle.flow.specs.Opcodes.{opcodes_of}
use Rattle.decoder.specs.declared.Instr.{Instr}
use Rattle.writer.specs.Write.{check_write}
use Rattle.writer.proofs.Laws.{accepted, answer_reads_back, call_refused, call_written}
use Rattle.writer.proofs.write.Goals as goal

-- reg_file_start
start_is : (s : Layout) (l : List ℕ) → s ≡ layout_of l → s.frame.reg_file_start ≡ signed_value l 13
unfolding layout_of
start_is s l e = rw e

-- what the second check answers, by the layout's file
instr_checked : (ops types l : List ℕ) (s : Layout) (i : Instr) {k : Check} → SFits w32 s.frame.reg_file_start → s ≡ layout_of l
    → k ≡ check_write (opcodes_of ops) types (to_z w32 (of_z w32 s.frame.reg_file_start)) i → k ≡ check_write (opcodes_of ops) types (signed_value l 13) i
instr_checked ops types l s i f e h = rw (start_is s l e) at (simp (to_z-of_z f) at h)

-- both checks, by what each answers
by_first : (a b : Check) {t : Check} {r : Refusal} → t ≡ a → t ≡ Err r → first_refusal a b ≡ Err r
by_first a b e h = rw (sym e ∙ h)

by_second : (a b : Check) {t k x : Check} → t ≡ a → t ≡ Ok tt → k ≡ b → k ≡ x → first_refusal a b ≡ x
by_second a b e h f g = rw (sym e ∙ h) (sym f ∙ g)

pub returns-in_err-check_table : goal.returns-in_err-check_table
returns-in_err-check_table c =
    let a = c.args in
    let checks = by_first (check_table a.opcodes.now a.types.now [] [] a.layout.now) (check_write (opcodes_of a.opcodes.now) a.types.now (signed_value a.layout.now 13) a.instr) c.check_table.ensures c.in_err-check_table.was in
    let w = call_refused a.opcodes.now a.types.now a.layout.now a.instr a.out.now checks in
    let p = err_from_is_err_and c.from_residual.result c.from_residual.ensures.1 in
    rw (p.1, p.2) (written_as w, tt)

pub returns-in_err-check_write : goal.returns-in_err-check_write
returns-in_err-check_write c =
    let a = c.args in
    let f : SFits w32 c.layout_of-start.result.frame.reg_file_start = search rules in
    let told = instr_checked a.opcodes.now a.types.now a.layout.now _ a.instr f c.layout_of-start.ensures c.check_write.ensures in
    let checks = by_second (check_table a.opcodes.now a.types.now [] [] a.layout.now) _ c.check_table.ensures c.in_ok-check_table.was told c.in_err-check_write.was in
    let w = call_refused a.opcodes.now a.types.now a.layout.now a.instr a.out.now checks in
    let p = err_from_is_err_and c.from_residual-in_err-check_write.result c.from_residual-in_err-check_write.ensures.1 in
    rw (p.1, p.2) (written_as w, tt)

pub write_unchecked-requires : goal.write_unchecked-requires
write_unchecked-requires c =
    let a = c.args in
    let f : SFits w32 c.layout_of-start.result.frame.reg_file_start = search rules in
    let told = instr_checked a.opcodes.now a.types.now a.layout.now _ a.instr f c.layout_of-start.ensures c.check_write.ensures in
    let ok = accepted (opcodes_of a.opcodes.now) a.types.now (signed_value a.layout.now 13) a.instr (sym told ∙ c.in_ok-check_write.was) in
    (ok.few, ok.hold)

pub returns : goal.returns
returns c =
    let a = c.args in
    let f : SFits w32 c.layout_of-start.result.frame.reg_file_start = search rules in
    let told = instr_checked a.opcodes.now a.types.now a.layout.now _ a.instr f c.layout_of-start.ensures c.check_write.ensures in
    let checks = by_second (check_table a.opcodes.now a.types.now [] [] a.layout.now) _ c.check_table.ensures c.in_ok-check_table.was told c.in_ok-check_write.was in
    let put = rw (start_is _ _ c.layout_of-start.ensures) at (simp (to_z-of_z f) at c.write_unchecked.ensures) in
    let w = call_written a.opcodes.now a.types.now a.layout.now a.instr a.out.now checks put in
    (written_as w, answer_reads_back a.opcodes.now a.types.now a.layout.now a.instr a.out.now w)
