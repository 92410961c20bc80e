use mathlib.Core.Path.{◌∙◌}
use mir.Facts.{to_z-of_z}
use mir.Syntax.{w32}
use borrow.Author.Rules.{sfits_of}
use Rattle.numbers.proofs.Back.{narrow_is}
use Rattle.numbers.proofs.narrow.Goals as goal

pub returns : goal.returns
returns c = λ h.
    to_z-of_z {w = w32} {z = c.cast_signed.result} (sfits_of {w = w32} c.cast_signed.type_inv) ∙ c.cast_signed.ensures ∙ narrow_is c.args.a c.ranges.a.fits h
