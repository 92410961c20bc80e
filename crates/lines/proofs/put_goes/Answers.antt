use mathlib.Core.Logic.{⊎_elim}
use Rattle.lines.proofs.Laws.{goes_on, goes_ends}
use Rattle.lines.specs.mirror.View.{elems_of}
use Rattle.targets.specs.Targets.{found}
use Rattle.lines.proofs.put_goes.Goals as goal

pub returns-in-On : goal.returns-in-On
returns-in-On c = λ b.
    let a = c.args in
    let el = elems_of a.slots.now a.payload.now a.f in
    rw (⊎_elim (goes_on el (found a.f.pool) a.flow a.instr.now) (goes_ends el (found a.f.pool) a.flow a.instr.now) c.in-On.is) c.put_byte.ensures
