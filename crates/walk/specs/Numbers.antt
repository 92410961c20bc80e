-- The walk check's answers in 01's numbers.
use Rattle.std.specs.Prelude.{[], ◌∷◌, pos}
use Rattle.refusal.specs.Numbers.{Numbers, refusal_numbers, finds_nothing}
use Rattle.std.specs.Prelude.{Result, Ok, Err}
use Rattle.refusal.specs.Refusal.{Refusal}
use Rattle.search.specs.declared.Walked.{Walked}
use Rattle.search.specs.declared.Walked.TheVariants as walked

-- "closed" is 0, and its value: a walk that leaves is sought in vain. "leaves" is 254, its place the offset left from, its value the steps.
-- proofs/Numbers.antt: the numbers are those of one answer only.
abbrev pub walked_numbers : Result Walked Refusal → Numbers
walked_numbers (Ok walked.Closed) = finds_nothing
walked_numbers (Ok (walked.Leaves n o)) = record { number = 254; place = o; values = pos n ∷ [] }
walked_numbers (Err r) = refusal_numbers r
