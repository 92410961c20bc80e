use Rattle.function.specs.Files.{lent_files}
use Rattle.capi.specs.Told.{pool_object}
use Rattle.capi.proofs.Laws.{lent_told}
use Rattle.walk.specs.Walk.{plain}
use Rattle.walk.proofs.Rows.{walk_lent_row}
use Rattle.capi.proofs.jscd_walk_code.Goals as goal

pub returns : goal.returns
returns c =
    let a = c.args in
    let f = lent_files a.opcodes.now a.types.now a.layout.now a.objects.now a.slots.now a.payload.now in
    lent_told f plain a.code.now a.marks.now c.pool_object-pool.result (pool_object a.lent a.object) c.pool_object-pool.ensures (walk_lent_row f plain (pool_object a.lent a.object) a.code.now a.marks.now) c.walk_code-walked.result _ c.walk_code-walked.ensures c.tell_walked.ensures
