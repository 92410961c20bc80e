use Prim.Native.Nat.{◌-◌}
use mathlib.Core.Path.{◌≡◌}
use mathlib.Core.Bool.{false}
use lib.ListN.{length}
use Rattle.targets.specs.mirror.Search.{PoolBlocked}
use Rattle.lines.specs.mirror.View.{elems_of}
use Rattle.lines.specs.Line.{entries_from}
use Rattle.text.proofs.PutUpTo.{PutUpTo}
use Rattle.lines.proofs.put_entries.Given as goal

abbrev pub invariant-loop-k : goal.invariant-loop-k
invariant-loop-k l =
    (length l.out ≡ length l.initial.out)
    × (PoolBlocked l.slots l.f.ts l.f.pool l.blocks → PutUpTo l.initial.out l.at (entries_from (elems_of l.slots l.payload l.f) l.here l.e false 0 l.n) (entries_from (elems_of l.slots l.payload l.f) l.here l.e l.shown l.k (l.n - l.k)) l.out l.p)
