use native.Mathlib.Omega.{arith}
use Rattle.flow.specs.Opcodes.{opcodes_of}
use Rattle.decoder.proofs.Extents.{size_next}
use Rattle.decoder.proofs.operands_size.Goals as goal

pub loop-k-preserved : goal.loop-k-preserved
loop-k-preserved c =
    let a = c.args in
    let l = c.loop-k in
    (l.invariant.0, omega (arith, l.invariant.1, c.type_size-size.ensures.1), size_next a.types.now a.scale (opcodes_of a.opcodes.now) a.opcode c.min-n.result l.k l.before l.size c.loop-k-test.true c.type_code-t.ensures c.type_size-size.ensures.0 l.invariant.2)
