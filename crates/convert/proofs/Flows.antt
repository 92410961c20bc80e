-- Laws of the flows by number. Assumes nothing.
use Prim.Native.Nat.{ℕ, ◌+◌, ◌<◌, ◌≤◌}
use mathlib.Core.Path.{◌≡◌}
use mathlib.Core.Bool.{false}
use lib.ListN.{take, drop, replicate, get_or-eq_default}
use Rattle.laws.proofs.Runs.{run_at}
use Rattle.flow.specs.declared.Kind.TheVariants.{On}
use Rattle.flow.specs.declared.Flow.{Flow}
use Rattle.flow.specs.Flow.{plain}
use Rattle.convert.specs.Names.{flows, flow_by}
use Rattle.convert.specs.mirror.Index.{number_as}
use Rattle.std.specs.Prelude.{Option, Some, None}
use mathlib.Core.Logic.{⊎_elim}
use borrow.Author.Tests.{lt-ltb}
use Rattle.laws.proofs.Tests.{under?}

-- the flows from number from on, n of them, are one
pub flow_run : (f : Flow) (from n : ℕ) → take n (drop from flows) ≡ replicate n f → (k : ℕ) → from ≤ k → k < from + n → flow_by k ≡ f
unfolding flow_by
flow_run f from n e k low high = run_at flows (plain On false) f from n e k low high

pub flow_past : (k : ℕ) → 37 ≤ k → flow_by k ≡ plain On false
unfolding flow_by flows
flow_past k h = get_or-eq_default flows (plain On false) h

-- a record with none of the names
pub flow_none : (n : ℕ) → number_as n ≡ None → flow_by n ≡ plain On false
flow_none n h = flow_past n (⊎_elim (λ (l : n < 37). let z : ◌≡◌ {A = Option ℕ} (Some n) None = rw (lt-ltb n 37 l) at h in cc) (λ (l : 37 ≤ n). l) (under? n 37))
