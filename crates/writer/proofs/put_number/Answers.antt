use mathlib.Core.Path.{◌≡◌}
use Prim.Native.Nat.{min}
use lib.ListN.{take}
use Rattle.words.specs.Le.{le_bytes}
use Rattle.writer.proofs.Loops.{number_bytes, text_is}
use Rattle.writer.proofs.put_number.Goals as goal

pub returns : goal.returns
returns c =
    let a = c.args in
    let bytes : take c.min.result c.to_le_bytes.result ≡ le_bytes (min a.w 8) a.n = rw (c.min.ensures, c.to_le_bytes.ensures) (number_bytes a.w a.n) in
    text_is bytes c.put_bytes.ensures
