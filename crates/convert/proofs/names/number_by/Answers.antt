use Prim.Native.Nat.{ℕ}
use mathlib.Core.Path.{sym, ap, ◌∙◌}
use native.Mathlib.Omega.{arith}
use lib.ListN.{get_or}
use Rattle.convert.proofs.Index.{place_low, number_is, number_none}
use Rattle.convert.proofs.names.number_by.Goals as goal
use Rattle.convert.proofs.names.number_by.Goals.{else-k-lt37-via-then-k-lt37+else-has_flow_name, else-k-lt37-via-else-k-lt37}

pub bounds-index-p : goal.bounds-index-p
bounds-index-p c = let a = c.args in rw c.place_of-p.ensures (place_low a.opcodes.now a.at)

pub returns-then-has_flow_name : goal.returns-then-has_flow_name
returns-then-has_flow_name c =
    let s = c in
    let given = ap (λ (p : ℕ). get_or s.args.index.now p 0) c.place_of-p.ensures in
    number_is s.args.opcodes.now s.args.at s.args.index.now s.requires.1 _ given c.if-k-lt37.true (sym c.has_flow_name.ensures ∙ c.if-has_flow_name.true)

pub returns-else-k-lt37 : goal.returns-else-k-lt37
returns-else-k-lt37 c =
    let s = c in
    let given = ap (λ (p : ℕ). get_or s.args.index.now p 0) c.place_of-p.ensures in
    elim c.else-k-lt37.branch [
      | else-k-lt37-via-then-k-lt37+else-has_flow_name w ↦ number_none s.args.opcodes.now s.args.at s.args.index.now s.requires.1 _ given (λ l. sym w.has_flow_name.ensures ∙ w.if-has_flow_name.false)
      | else-k-lt37-via-else-k-lt37 w ↦ number_none s.args.opcodes.now s.args.at s.args.index.now s.requires.1 _ given (λ l. absurd (omega arith))
    ]
