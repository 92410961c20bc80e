-- What the code's tests on registers say. Assumes nothing.
use mathlib.Core.Path.{◌≡◌, sym, ap, ◌∙◌}
use mathlib.Core.Bool.{Bool, false}
use borrow.Author.Tests.{ne_eqb}
use lib.IntN.{ℤ, pos}
use lib.Signed.{lt_z}
use mir.Syntax.{w32}
use mir.Val.{SFits, to_z, of_z}
use mir.Facts.{to_z-of_z}
use Rattle.words.specs.Signed.{negative, eq_z}
use Rattle.words.proofs.Signs.{below_zero, same_bits}

pub differ : (x y : ℤ) → SFits w32 x → SFits w32 y → (of_z w32 x ≡ of_z w32 y → ⊥) → eq_z x y ≡ false
differ x y f g n = sym (same_bits w32 x y f g) ∙ ne_eqb (of_z w32 x) (of_z w32 y) n

pub sign_is : {t : Bool} (x : ℤ) → SFits w32 x → lt_z (to_z w32 (of_z w32 x)) (pos 0) ≡ t → negative x ≡ t
sign_is x f h = sym (below_zero x) ∙ ap (λ (z : ℤ). lt_z z (pos 0)) (sym (to_z-of_z f)) ∙ h
