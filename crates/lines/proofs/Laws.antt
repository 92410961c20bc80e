-- Laws of the lines' texts. Assumes nothing.
use Prim.Native.Nat.{ℕ, zero, suc, ◌+◌, ◌-◌, ◌<◌, ◌≤◌}
use mathlib.Core.Path.{◌≡◌, refl}
use mathlib.Core.Bool.{Bool}
use mathlib.Core.List.{[], ◌++◌, append_assoc}
use native.Mathlib.Omega.{arith}
use lib.IntN.{ℤ}
use Rattle.laws.specs.Ascii.{ascii}
use Rattle.layout.specs.declared.Frame.{Frame}
use Rattle.decoder.specs.declared.Instr.{Instr}
use Rattle.bytecode.specs.Texts.{NameFiles, operand_text}
use Rattle.std.specs.Prelude.{Option}
use Rattle.serializer.specs.declared.Elem.{Elem}
use Rattle.flow.specs.declared.Flow.{Flow}
use Rattle.flow.specs.declared.Kind.TheVariants.{On, Ends}
use Rattle.targets.specs.Targets.{operand_of, jump_target, jump_table, entry_at}
use Rattle.targets.specs.declared.Entries.{Entries}
use Rattle.lines.specs.Line.{View, before, operands_by, entry_text, shown_after, entries_from, bytes_of, line_by}
use Rattle.lines.specs.mirror.Parts.{instr_by, goes_by}

pub before_more : (k : ℕ) → (k ≡ 0 → ⊥) → before k ≡ ascii ", "
before_more zero h = absurd (h refl)
before_more (suc k) h = refl

module _ (names : NameFiles) (frame : Frame) (params : ℤ) (i : Instr) (n k : ℕ) where
  pub operands_next : k < n → operands_by names frame params i k (n - k) ≡ before k ++ operand_text names frame params (operand_of i k) ++ operands_by names frame params i (k + 1) (n - (k + 1))
  unfolding operands_by
  operands_next l = let e : n - k ≡ suc (n - (k + 1)) = omega arith in rw e

  pub operands_end : n ≤ k → operands_by names frame params i k (n - k) ≡ []
  unfolding operands_by
  operands_end l = let e : n - k ≡ 0 = omega arith in rw e

-- nothing is told of where an instruction goes that goes on or ends a path
module _ (el : ℕ → Option Elem) (pooled : Bool) (flow : Flow) (i : Instr) where
  pub goes_on : flow.kind ≡ On → goes_by el pooled flow i ≡ ascii "\n"
  unfolding jump_target jump_table
  goes_on e = rw e

  pub goes_ends : flow.kind ≡ Ends → goes_by el pooled flow i ≡ ascii "\n"
  unfolding jump_target jump_table
  goes_ends e = rw e

module _ (el : ℕ → Option Elem) (at : ℕ) (e : Entries) (shown : Bool) (n k : ℕ) where
  pub entries_next : k < n → entries_from el at e shown k (n - k) ≡ entry_text shown (entry_at el at e k) ++ entries_from el at e (shown_after shown (entry_at el at e k)) (k + 1) (n - (k + 1))
  unfolding entries_from
  entries_next l = let z : n - k ≡ suc (n - (k + 1)) = omega arith in rw z

  pub entries_end : n ≤ k → entries_from el at e shown k (n - k) ≡ []
  unfolding entries_from
  entries_end l = let z : n - k ≡ 0 = omega arith in rw z

-- a line is its two parts
pub line_parts : (v : View) (flow : Flow) (i : Instr)
    → line_by v flow i ≡ instr_by (bytes_of v.code i) v.opcodes v.names v.frame v.params i ++ goes_by v.elem v.pooled flow i
unfolding line_by
line_parts v flow i = simp append_assoc
