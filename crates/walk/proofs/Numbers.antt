-- The numbers of a walk check's answer can be read back, so that no two answers have the same. Assumes nothing.
use mathlib.Core.Path.{◌≡◌, refl, ap}
use mathlib.Core.Bool.{cond}
use mathlib.Core.List.{List}
use lib.Dec.{eqb}
use lib.IntN.{ℤ}
use Rattle.refusal.specs.Numbers.{Numbers}
use Rattle.refusal.proofs.Numbers.{one_by, refused_or, count, refusal_back}
use Rattle.std.specs.Prelude.{Result, Ok, Err}
use Rattle.refusal.specs.Refusal.{Refusal}
use Rattle.search.specs.declared.Walked.{Walked}
use Rattle.search.specs.declared.Walked.TheVariants as walked
use Rattle.walk.specs.Numbers.{walked_numbers}

abbrev walked_of : Numbers → Result Walked Refusal
walked_of n = refused_or Err (λ (vs : List ℤ). cond (eqb n.number 0) (Ok walked.Closed) (Ok (walked.Leaves (count 0 vs) n.place))) n

back : (a : Result Walked Refusal) → walked_of (walked_numbers a) ≡ a
back (Ok walked.Closed) = refl
back (Ok (walked.Leaves n o)) = refl
back (Err r) = ap (λ (x : Refusal). Err x) (refusal_back r)

pub walked_numbers_one : (a b : Result Walked Refusal) → walked_numbers a ≡ walked_numbers b → a ≡ b
walked_numbers_one = one_by walked_numbers walked_of back
