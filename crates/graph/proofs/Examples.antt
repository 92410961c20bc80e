-- Small graphs, by computing: the definitions are not empty, and `finding` runs. Assumes nothing.
use Prim.Native.Nat.{ℕ}
use mathlib.Core.Path.{◌≡◌, refl, sym, ap}
use native.Mathlib.Omega.{arith}
use mathlib.Core.List.{List, [], ◌∷◌}
use lib.ListN.{get_or}
use Rattle.laws.specs.Scan.{first_from}
use Rattle.graph.specs.Graph.{Step, Graph, Good, is_start, Leaves, Finding, exits, after, level, first_exit, finding, reached, marked, bits, mark_list}
use Rattle.graph.specs.Graph.Step.{to_offset, no_target}
use Rattle.graph.specs.Graph.Finding.{closed, leaves}
use Rattle.graph.proofs.Findings.{claim_is}

-- the starts, and the steps by offset
abbrev graph : List ℕ → List (List Step) → Graph
graph os ss = record { starts = os; steps = λ o. get_or ss o [] }

-- the finding, and then the marks of so many bytes
pub record Result : Type 0 where
  pub found : Finding
  pub marks : List ℕ

abbrev result : Graph → ℕ → Result
result g n = record { found = finding g; marks = mark_list g (finding g) n }

-- an instruction of two bytes that jumps to itself
loop : Graph
loop = graph (0 ∷ []) ((to_offset 0 ∷ []) ∷ [])

loop_closed : result loop 2 ≡ record { found = closed; marks = 1 ∷ 0 ∷ [] }
unfolding loop first_from is_start exits after level first_exit finding reached marked bits mark_list
loop_closed = refl

-- three instructions, one after the other, and no end
line : Graph
line = graph (0 ∷ 1 ∷ 2 ∷ []) ((to_offset 1 ∷ []) ∷ (to_offset 2 ∷ []) ∷ (to_offset 3 ∷ []) ∷ [])

line_leaves : result line 3 ≡ record { found = leaves 3 2; marks = 1 ∷ 1 ∷ 1 ∷ [] }
unfolding line first_from is_start exits after level first_exit finding reached marked bits mark_list
line_leaves = refl

-- and so no walk leaves in fewer steps
line_good : Good line
unfolding line is_start
line_good = record { rising = omega arith }

line_claim : Leaves line 3 2
line_claim = (claim_is line_good (leaves 3 2)).1 (ap (λ (r : Result). r.found) (sym line_leaves))

-- two ways out in two steps, the higher one taken first, and a third in three: the lower of the two is reported, and what it takes two steps to reach is not marked
fork : Graph
fork = graph (0 ∷ 2 ∷ 4 ∷ 5 ∷ []) ((to_offset 4 ∷ to_offset 2 ∷ []) ∷ [] ∷ (to_offset 5 ∷ to_offset 3 ∷ []) ∷ [] ∷ (no_target ∷ []) ∷ (no_target ∷ []) ∷ [])

fork_lower : result fork 6 ≡ record { found = leaves 2 2; marks = 1 ∷ 0 ∷ 1 ∷ 0 ∷ 1 ∷ 0 ∷ [] }
unfolding fork first_from is_start exits after level first_exit finding reached marked bits mark_list
fork_lower = refl

-- an instruction that ends the walk, and behind it one that no walk reaches and that would leave
behind : Graph
behind = graph (0 ∷ 1 ∷ []) ([] ∷ (no_target ∷ []) ∷ [])

behind_closed : result behind 2 ≡ record { found = closed; marks = 1 ∷ 0 ∷ [] }
unfolding behind first_from is_start exits after level first_exit finding reached marked bits mark_list
behind_closed = refl

-- no instruction at all: closed, and no mark
empty : Graph
empty = graph [] []

empty_closed : result empty 0 ≡ record { found = closed; marks = [] }
unfolding empty first_from is_start exits after level first_exit finding reached marked bits mark_list
empty_closed = refl
