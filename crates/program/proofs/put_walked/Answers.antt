use Rattle.program.specs.Printed.{walk_text}
use Rattle.program.proofs.put_walked.Goals as goal

pub returns-in-Ok-Closed : goal.returns-in-Ok-Closed
unfolding walk_text
returns-in-Ok-Closed c =
    let h = c.in-Ok-Closed.is in
    let w = rw h at c.in-Ok-Closed.field-0-is in
    rw (h, w) c.put_bytes.ensures

pub returns-in-Ok-Leaves : goal.returns-in-Ok-Leaves
unfolding walk_text
returns-in-Ok-Leaves c =
    let h = c.in-Ok-Leaves.is in
    let w = rw h at c.in-Ok-Leaves.field-0-is in
    rw (h, w) c.put_leaves.ensures

pub returns-in-Err : goal.returns-in-Err
unfolding walk_text
returns-in-Err c = rw c.in-Err.is c.put_refusal.ensures
