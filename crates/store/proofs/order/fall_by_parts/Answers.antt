use Prim.Native.Nat.{ℕ, ◌+◌, ◌-◌, ◌*◌, ◌/◌, ◌<◌}
use mathlib.Core.Path.{◌≡◌, refl, ◌∙◌}
use mathlib.Core.List.{List}
use native.Mathlib.Omega.{arith}
use lib.ListN.{get_or}
use Rattle.laws.specs.Scan.{first_from}
use Rattle.store.specs.mirror.Falls.{lower, Later}
use Rattle.store.proofs.Parts.{fall_near, fall_far, fall_behind}
use Rattle.store.proofs.order.fall_by_parts.Goals as goal

pub returns-then-near-edge : goal.returns-then-near-edge
returns-then-near-edge c =
    let a = c.args in
    fall_near a.slots.now a.first a.count a.end c.first_fall_in-near.ensures (omega arith) (omega arith)

-- what is written down of a part is the first lower index from its start, edge, on
found : {s later : List ℕ} {end : ℕ} (part : ℕ) {edge far : ℕ} → Later s end later → 0 < part → edge ≡ part * 256 → edge < end → far ≡ get_or later part 0
    → far ≡ first_from (lower s) edge (end - edge)
found part f z e l h = rw e (h ∙ f.at part z (omega arith))

pub returns-then-far-first : goal.returns-then-far-first
returns-then-far-first c =
    let a = c.args in
    fall_far a.slots.now a.first a.count a.end c.first_fall_in-near.ensures _ (omega arith) (omega arith)
    (found (a.first / 256 + 1) c.requires.1 (omega arith) (omega arith) (omega arith) refl) (omega arith) (omega arith)

pub returns : goal.returns
returns c =
    let a = c.args in
    fall_behind a.slots.now a.first a.count a.end c.first_fall_in-near.ensures _ (omega arith) (omega arith)
    (found (a.first / 256 + 1) c.requires.1 (omega arith) (omega arith) (omega arith) refl) (omega arith)
