use Rattle.function.specs.Files.{lent_files}
use Rattle.capi.specs.Told.{pool_object}
use Rattle.capi.proofs.Laws.{lent_told}
use Rattle.walk.specs.Walk.{given_of}
use Rattle.walk.proofs.Rows.{walk_lent_row}
use Rattle.capi.proofs.jscd_walk_code_with.Goals as goal

pub returns : goal.returns
returns c =
    let a = c.args in
    let f = lent_files a.opcodes.now a.types.now a.layout.now a.objects.now a.slots.now a.payload.now in
    let g = given_of a.handlers.now in
    lent_told f g a.code.now a.marks.now c.pool_object-pool.result (pool_object a.lent a.object) c.pool_object-pool.ensures (walk_lent_row f g (pool_object a.lent a.object) a.code.now a.marks.now) c.walk_code_with-walked.result _ c.walk_code_with-walked.ensures c.tell_walked.ensures
