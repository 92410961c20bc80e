use Rattle.std.proofs.Common.{◌≡◌, ◌+◌, ◌-◌, ◌*◌, arith}
use Rattle.convert.proofs.Laws.{new_put, old_put}
use Rattle.convert.proofs.put_record.Goals as goal

pub returns-in-New : goal.returns-in-New
returns-in-New c =
    let a = c.args in
    let from = a.k * c.opcode_size.result in
    let e : from ≡ a.k * 64 = rw (c.opcode_size.ensures, c.other.ensures, c.in-New.is) in
    rw c.in-New.is (new_put {w = from + 50 - from} a.opcodes.now a.k (omega (arith, c.well_formed)) (omega arith) c.put_bytes-p.ensures e (rw (c.flow_bytes.ensures, c.named_flow-flow.ensures) at c.put_bytes-p-in-New.ensures) c.put_bytes.ensures)

pub returns-in-Old : goal.returns-in-Old
returns-in-Old c =
    let a = c.args in
    let from = a.k * c.opcode_size.result in
    let e : from ≡ a.k * 72 = rw (c.opcode_size.ensures, c.other.ensures, c.in-Old.is) in
    rw c.in-Old.is (old_put {w = from + 50 - from} a.opcodes.now a.k (omega (arith, c.well_formed)) (omega arith) c.put_bytes-p.ensures e c.put_bytes-in-Old.ensures)
