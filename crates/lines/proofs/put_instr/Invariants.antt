use Prim.Native.Nat.{◌-◌}
use Rattle.lines.specs.Line.{operands_by}
use Rattle.lines.specs.mirror.View.{names_of}
use Rattle.text.proofs.PutUpTo.{PutUpTo}
use Rattle.lines.proofs.put_instr.Given as goal

abbrev pub invariant-loop-k : goal.invariant-loop-k
invariant-loop-k l =
    PutUpTo l.initial.out l.initial.p (operands_by (names_of l.types l.runtime l.intrinsic) l.f.frame l.f.params l.instr 0 l.n)
    (operands_by (names_of l.types l.runtime l.intrinsic) l.f.frame l.f.params l.instr l.k (l.n - l.k)) l.out l.p
