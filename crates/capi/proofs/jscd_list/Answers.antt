use Rattle.function.specs.Files.{files_of}
use Rattle.disasm.specs.Listing.{list_call}
use Rattle.capi.proofs.Writes.{buffer_told_lem}
use Rattle.capi.proofs.jscd_list.Goals as goal

pub returns : goal.returns
returns c =
    let a = c.args in
    let f = files_of a.opcodes.now a.types.now a.runtime.now a.intrinsic.now a.layout.now a.objects.now a.slots.now a.payload.now in
    buffer_told_lem (list_call f a.object a.out.now) c.list-listed.result c.list-listed.ensures c.tell_written.ensures
