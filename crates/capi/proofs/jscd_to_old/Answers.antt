use Rattle.convert.specs.Convert.{to_old_call}
use Rattle.capi.proofs.Writes.{buffer_told_lem}
use Rattle.capi.proofs.jscd_to_old.Goals as goal

pub returns : goal.returns
returns c =
    let a = c.args in
    buffer_told_lem (to_old_call a.opcodes.now a.types.now a.out.now) c.to_old-written.result c.to_old-written.ensures c.tell_written.ensures
