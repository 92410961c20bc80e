-- What parts of a call promise one another: `written_as` and `written_by` of proofs/Numbers.antt say that it is `WrittenAs`.
use Rattle.std.specs.Prelude.{ℕ, ◌≡◌, List}
use Rattle.std.specs.Prelude.{Result}
use Rattle.refusal.specs.Refusal.{Refusal}

-- an answer r and a buffer o' are those of a call
abbrev pub WrittenBy : Result ℕ Refusal × List ℕ → Result ℕ Refusal → List ℕ → Type 0
WrittenBy a r o' = (r ≡ a.0) × (o' ≡ a.1)
