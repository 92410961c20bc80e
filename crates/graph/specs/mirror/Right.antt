-- Law `found` (proofs/Answers.antt): an `Answer` is `finding`, with the marks of `mark_list`. No contract of a call cites these two names.
-- What the breadth-first search promises of its answer and its marks.
use Rattle.std.specs.Prelude.{ℕ, List}
use Rattle.graph.specs.Graph.{Graph, Answer}
use Rattle.graph.specs.Graph.Finding.{closed, leaves}

abbrev pub IsClosed : Graph → ℕ → List ℕ → Type 0
IsClosed g n M = Answer g n M closed

abbrev pub IsLeaving : Graph → ℕ → List ℕ → ℕ → ℕ → Type 0
IsLeaving g n M s o = Answer g n M (leaves s o)
