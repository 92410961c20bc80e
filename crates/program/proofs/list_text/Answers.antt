use native.Mathlib.Omega.{arith}
use Rattle.function.specs.Files.{Files}
use Rattle.program.proofs.Laws.{printed_listing, printed_refusal}
use Rattle.program.proofs.list_text.Goals as goal

pub returns-in-Ok : goal.returns-in-Ok
returns-in-Ok c =
    let a = c.args in
    let e = c.list_limited-listed.ensures in
    let f : Files = record { opcodes = a.opcodes.now; types = a.types.now; runtime = a.runtime.now; intrinsic = a.intrinsic.now; layout = a.layout.now; objects = a.objects.now; slots = a.slots.now; payload = a.payload.now } in
    printed_listing f a.out.now (omega (arith, c.well_formed)) e.0 e.1 _ c.in-Ok.is

pub returns-in-Err : goal.returns-in-Err
returns-in-Err c =
    let a = c.args in
    let e = c.list_limited-listed.ensures in
    let f : Files = record { opcodes = a.opcodes.now; types = a.types.now; runtime = a.runtime.now; intrinsic = a.intrinsic.now; layout = a.layout.now; objects = a.objects.now; slots = a.slots.now; payload = a.payload.now } in
    printed_refusal f a.out.now (omega (arith, c.well_formed)) e.0 e.1 _ c.in-Err.is c.put_refusal.ensures
