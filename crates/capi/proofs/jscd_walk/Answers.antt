use Rattle.function.specs.Files.{files_of}
use Rattle.walk.specs.Walk.{plain, object_source, walk_call}
use Rattle.walk.proofs.Rows.{walk_row}
use Rattle.capi.proofs.Laws.{walk_told_lem}
use Rattle.capi.proofs.jscd_walk.Goals as goal

pub returns : goal.returns
returns c =
    let a = c.args in
    let f = files_of a.opcodes.now a.types.now a.runtime.now a.intrinsic.now a.layout.now a.objects.now a.slots.now a.payload.now in
    walk_told_lem (object_source f a.object) c.walk-walked.result (walk_call f a.object a.marks.now) _ c.walk-walked.ensures (walk_row f plain a.object a.marks.now) c.tell_walked.ensures
