use Rattle.std.proofs.Common.{◌≡◌, ◌+◌, ◌-◌, get_or, sym, ◌∙◌, arith, eqb-true}
use Rattle.tables.proofs.Fields.{plain_name, part_zeros, fine_both}
use Rattle.tables.proofs.names.is_plain_in.Goals as goal
use Rattle.tables.proofs.names.is_plain_in.Goals.{then-s-at-ne0, else-s-at-ne0}

pub returns-then-all_zero : goal.returns-then-all_zero
returns-then-all_zero g c =
    let a = c.args in
    elim c.if-s-at-ne0.branch [
      | then-s-at-ne0 w ↦ λ h. plain_name a.s.now a.at g.row.W (a.at + 32) (omega arith) (omega arith) (w.fine_bytes.ensures (eqb-true _ _ (sym w.value-is ∙ c.if-fine_bytes-eq32.true)))
          (part_zeros a.s.now (a.at + 32) (a.at + g.row.W) c.requires.2 (sym c.all_zero.ensures ∙ h)) w.if-s-at-ne0.true
      | else-s-at-ne0 w ↦ λ h. cc
    ]

pub returns-then-fine_bytes-eq32-2 : goal.returns-then-fine_bytes-eq32-2
returns-then-fine_bytes-eq32-2 g c =
    let a = c.args in
    let t = a.at + g.row.W - 33 in
    let last = a.at + g.row.W - 1 in
    elim c.if-s-at-ne0.branch [
      | then-s-at-ne0 w ↦
          let fine = fine_both a.s.now a.at (a.at + 32) t (t + 32) (omega arith) (w.fine_bytes.ensures (eqb-true _ _ (sym w.value-is ∙ c.if-fine_bytes-eq32.true))) (c.fine_bytes-else-all_zero.ensures c.if-fine_bytes-eq32-2.true) in
          λ h. plain_name a.s.now a.at g.row.W (t + 32) (omega arith) (omega arith) fine
          (λ k low high. let e : last ≡ k = omega arith in let z = eqb-true (get_or a.s.now last 0) 0 h in rw e at z) w.if-s-at-ne0.true
      | else-s-at-ne0 w ↦ λ h. cc
    ]
