-- What Wish 1 moved: until then `jump_table` was `table_unprefixed`. Of an instruction without a prefix it still is; under a prefix it is what that says of
-- the same operands without one. Assumes nothing.
use Rattle.std.proofs.Common.{◌≡◌, ◌+◌, Bool, true, false, cond, ◌&&◌, eqb, refl}
use Rattle.decoder.specs.declared.Instr.{Instr}
use Rattle.flow.specs.declared.Flow.{Flow}
use Rattle.std.specs.Prelude.{Option, None, Result, Ok}
use Rattle.targets.specs.declared.Entries.{Entries}
use Rattle.targets.specs.Targets.{operand_of, index_of, number_of, base_of, is_switch, table_by, jump_table}
use Rattle.targets.specs.declared.BadSwitch.{BadSwitch}

-- 01: "only the two unprefixed switch names have entries"
abbrev pub table_unprefixed : Bool → Flow → Instr → Result (Option Entries) BadSwitch
table_unprefixed pooled flow i =
    cond (is_switch flow.kind && eqb i.scale 1)
    (table_by pooled (index_of (operand_of i flow.first)) (number_of (operand_of i (flow.first + 1))) (base_of flow.base (operand_of i (flow.first + 2))))
    (Ok None)

-- the instruction as if it had no prefix
abbrev pub unprefixed : Instr → Instr
unprefixed i = record { offset = i.offset; opcode = i.opcode; scale = 1; end = i.end; count = i.count; operands = i.operands }

by_name : (b : Bool) (t : Result (Option Entries) BadSwitch) → cond b t (Ok None) ≡ cond (b && true) t (Ok None)
by_name true t = refl
by_name false t = refl

module _ (pooled : Bool) (flow : Flow) (i : Instr) where
  pub table_unprefixed_lem : i.scale ≡ 1 → jump_table pooled flow i ≡ table_unprefixed pooled flow i
  unfolding jump_table
  table_unprefixed_lem one = rw one (by_name (is_switch flow.kind) _)

  pub table_any_scale : jump_table pooled flow i ≡ table_unprefixed pooled flow (unprefixed i)
  unfolding jump_table operand_of
  table_any_scale = by_name (is_switch flow.kind) _
