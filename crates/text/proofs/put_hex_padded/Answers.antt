use Rattle.std.proofs.Common.{refl, arith}
use Rattle.text.proofs.Put.{filled}
use Rattle.text.proofs.Texts.{column_put}
use Rattle.text.proofs.put_hex_padded.Goals as goal

pub returns-then-has_room : goal.returns-then-has_room
returns-then-has_room c = column_put c.args.s.now c.args.width (omega arith) (omega arith) (omega arith) c.put_spaces.ensures c.put_triples.ensures refl

pub returns : goal.returns
returns c = filled c.saturating_add-from.result c.args.width 32 (omega arith) c.saturating_add-from.ensures c.put_hex-p.ensures c.put_pad.ensures
