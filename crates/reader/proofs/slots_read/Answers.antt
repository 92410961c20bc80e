use mathlib.Core.Path.{◌≡◌}
use native.Mathlib.Omega.{arith}
use lib.ListN.{length}
use Rattle.std.proofs.lemmas.Iterator.Consumers.{YieldsList-from_first, count_from_yields_List}
use Rattle.reader.specs.Reading.{slots_from}
use Rattle.reader.proofs.Reading.{slots_left}
use Rattle.reader.proofs.slots_read.Goals as goal

pub returns : goal.returns
returns c =
    let s = c.args.slots.now in
    let n : c.count.result ≡ length (slots_from s 0) =
    count_from_yields_List c.new.result c.count.result c.count.ensures.ran (YieldsList-from_first (λ x. x) (λ r. slots_from r.slots.now r.at) (slots_from s 0) (rw (c.new.ensures.0, c.new.ensures.1))) in
    omega (arith, slots_left s 0)
