use Rattle.std.proofs.Common.{◌≡◌, ℕ, ◌+◌, ◌-◌, List, take, drop, ap, ◌∙◌, arith}
use Rattle.laws.specs.Scan.{first_from}
use Rattle.tables.specs.Names.{name_at, is_zero}
use Rattle.tables.proofs.Laws.{name_none, zero_low, zero_high}
use Rattle.tables.proofs.names.name_at.Goals as goal

-- the first zero, as `zero_from` finds it
found : (s : List ℕ) (at w : ℕ) {e : ℕ} → e ≡ first_from (is_zero s) at (at + w - at) → e ≡ first_from (is_zero s) at w
found s at w h = h ∙ ap (λ (k : ℕ). first_from (is_zero s) at k) (omega arith)

pub returns-then-s-at : goal.returns-then-s-at
returns-then-s-at c = name_none c.args.s.now c.args.at c.args.w c.if-s-at.true

pub slice_bounds-result-count-2 : goal.slice_bounds-result-count-2
slice_bounds-result-count-2 c = omega (arith, found c.args.s.now c.args.at c.args.w c.zero_from-e.ensures, zero_low c.args.s.now c.args.at c.args.w)

pub slice_bounds-result-start-2 : goal.slice_bounds-result-start-2
slice_bounds-result-start-2 c = omega (arith, found c.args.s.now c.args.at c.args.w c.zero_from-e.ensures, zero_low c.args.s.now c.args.at c.args.w)

pub slice_bounds-result-end-2 : goal.slice_bounds-result-end-2
slice_bounds-result-end-2 c = omega (arith, found c.args.s.now c.args.at c.args.w c.zero_from-e.ensures, zero_high c.args.s.now c.args.at c.args.w c.if-s-at.false)

pub returns : goal.returns
unfolding name_at
returns c = let a = c.args in ap (λ (k : ℕ). take (k - a.at) (drop a.at a.s.now)) (found c.args.s.now c.args.at c.args.w c.zero_from-e.ensures)
