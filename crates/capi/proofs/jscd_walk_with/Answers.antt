use Rattle.function.specs.Files.{files_of}
use Rattle.walk.specs.Walk.{given_of, object_with, walk_with}
use Rattle.walk.proofs.Rows.{walk_row}
use Rattle.capi.proofs.Laws.{walk_told_lem}
use Rattle.capi.proofs.jscd_walk_with.Goals as goal

pub returns : goal.returns
returns c =
    let a = c.args in
    let f = files_of a.opcodes.now a.types.now a.runtime.now a.intrinsic.now a.layout.now a.objects.now a.slots.now a.payload.now in
    let g = given_of a.handlers.now in
    walk_told_lem (object_with f g a.object) c.walk_with-walked.result (walk_with f g a.object a.marks.now) _ c.walk_with-walked.ensures (walk_row f g a.object a.marks.now) c.tell_walked.ensures
