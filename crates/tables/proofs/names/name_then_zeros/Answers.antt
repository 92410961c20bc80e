use Rattle.std.proofs.Common.{◌≡◌, ℕ, ◌+◌, ◌-◌, ◌≤◌, List, ap, ◌∙◌, arith, le-ltb, lt-ltb}
use Rattle.laws.specs.Scan.{first_from}
use Rattle.laws.proofs.Scan.{first-within}
use Rattle.tables.specs.Names.{name_ok, not_name}
use Rattle.tables.proofs.Fields.{zeros_part}
use Rattle.tables.proofs.names.name_then_zeros.Goals as goal

-- the name's end, as `name_end` finds it
found : (s : List ℕ) (at w : ℕ) {e : ℕ} → e ≡ first_from (not_name s) at (at + w - at) → e ≡ first_from (not_name s) at w
found s at w h = h ∙ ap (λ (k : ℕ). first_from (not_name s) at k) (omega arith)

within : (s : List ℕ) (at w : ℕ) {e : ℕ} → e ≡ first_from (not_name s) at (at + w - at) → e ≤ at + w
within s at w h = rw (found s at w h) (first-within (not_name s) at w).1

pub returns-else-at-e : goal.returns-else-at-e
unfolding name_ok
returns-else-at-e c = rw (← found c.args.s.now c.args.at c.args.w c.name_end-e.ensures, le-ltb _ _ c.if-at-e.false)

pub returns-then-at-e : goal.returns-then-at-e
unfolding name_ok
returns-then-at-e c =
    let a = c.args in
    rw (← found c.args.s.now c.args.at c.args.w c.name_end-e.ensures, lt-ltb _ _ c.if-at-e.true) (c.all_zero.ensures ∙ zeros_part a.s.now c.name_end-e.result (a.at + a.w) c.requires (within c.args.s.now c.args.at c.args.w c.name_end-e.ensures))

pub slice_bounds-all_zero-count : goal.slice_bounds-all_zero-count
slice_bounds-all_zero-count c = within c.args.s.now c.args.at c.args.w c.name_end-e.ensures

pub slice_bounds-all_zero-start : goal.slice_bounds-all_zero-start
slice_bounds-all_zero-start c = omega (arith, within c.args.s.now c.args.at c.args.w c.name_end-e.ensures)
