use native.Mathlib.Omega.{arith}
use Rattle.function.specs.Files.{Files}
use Rattle.program.proofs.Laws.{walk_printed_promised}
use Rattle.walk.specs.Walk.{given_of}
use Rattle.program.proofs.walk_text.Goals as goal

pub returns : goal.returns
returns c =
    let a = c.args in
    let f : Files = record { opcodes = a.opcodes.now; types = a.types.now; runtime = a.runtime.now; intrinsic = a.intrinsic.now; layout = a.layout.now; objects = a.objects.now; slots = a.slots.now; payload = a.payload.now } in
    walk_printed_promised f (given_of a.handlers.now) a.out.now (omega (arith, c.well_formed)) c.walk_marked-walked.result c.walk_marked-walked.ensures c.put_walked.ensures
