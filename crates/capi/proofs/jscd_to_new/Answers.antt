use Rattle.convert.specs.Convert.{to_new_call}
use Rattle.capi.proofs.Writes.{buffer_told_lem}
use Rattle.capi.proofs.jscd_to_new.Goals as goal

pub returns : goal.returns
returns c =
    let a = c.args in
    buffer_told_lem (to_new_call a.opcodes.now a.types.now a.out.now) c.to_new-written.result c.to_new-written.ensures c.tell_written.ensures
