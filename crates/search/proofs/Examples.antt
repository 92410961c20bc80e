-- Small graphs in numbers, by computing: heads and words mean what they should. Assumes nothing.
use Prim.Native.Nat.{ℕ}
use mathlib.Core.Path.{◌≡◌, refl}
use mathlib.Core.List.{List, [], ◌∷◌}
use lib.IntN.{pos, negsuc}
use lib.ListN.{get_or}
use Rattle.laws.specs.Scan.{first_from}
use Rattle.words.specs.Signed.{modulo}
use Rattle.std.specs.Prelude.{Option, Some, None}
use Rattle.serializer.specs.declared.Elem.{Elem}
use Rattle.graph.specs.Graph.{Graph, Step, is_start, Finding, exits, after, level, first_exit, finding, reached, marked, bits, mark_list}
use Rattle.graph.specs.Graph.Step.{to_offset}
use Rattle.graph.specs.Graph.Finding.{closed, leaves}
use Rattle.search.specs.mirror.Kept.{entries_from, target_steps, table_steps, on_steps, catch_steps, places, kept_graph}
use Rattle.serializer.specs.declared.Elem.TheVariants as elem

-- elements 1 and 3 are small integers, 2 is none
pool : ℕ → Option Elem
pool n = get_or (None ∷ Some (elem.Smi (pos 4)) ∷ None ∷ Some (elem.Smi (negsuc 1)) ∷ []) n None

-- at 0 and 1 instructions of a byte, at 2 a switch of four bytes with a table of elements 1 to 3, at 6 one that ends the walk
caught : ℕ → List ℕ → Graph
caught switch catches = kept_graph pool (257 ∷ 257 ∷ switch ∷ 0 ∷ 0 ∷ 0 ∷ 1 ∷ []) (0 ∷ 0 ∷ 1 ∷ []) catches

kept : ℕ → Graph
kept switch = caught switch []

pub record Result : Type 0 where
  pub steps : List Step
  pub found : Finding
  pub marks : List ℕ

-- the steps of the switch, the finding and the marks
abbrev result : Graph → Result
result g = record { steps = g.steps 2; found = finding g; marks = mark_list g (finding g) 7 }

-- 4 + 256 * 5 + 4096 * 3: two of the three entries are shown, and it goes on
plain : result (kept 13572) ≡ record { steps = to_offset 6 ∷ to_offset 0 ∷ to_offset 6 ∷ []; found = closed; marks = 1 ∷ 1 ∷ 1 ∷ 0 ∷ 0 ∷ 0 ∷ 1 ∷ [] }
unfolding kept caught pool catch_steps kept_graph places entries_from target_steps table_steps on_steps modulo first_from is_start exits after level first_exit finding reached marked bits mark_list
plain = refl

-- with distances that count from behind a prefix an entry goes where nothing starts
prefixed : result (kept 15620) ≡ record { steps = to_offset 7 ∷ to_offset 1 ∷ to_offset 6 ∷ []; found = leaves 3 2; marks = 1 ∷ 1 ∷ 1 ∷ 0 ∷ 0 ∷ 0 ∷ 0 ∷ [] }
unfolding kept caught pool catch_steps kept_graph places entries_from target_steps table_steps on_steps modulo first_from is_start exits after level first_exit finding reached marked bits mark_list
prefixed = refl

-- with a target as well, and without going on
target : result (kept 14084) ≡ record { steps = to_offset 1 ∷ to_offset 6 ∷ to_offset 0 ∷ to_offset 6 ∷ []; found = closed; marks = 1 ∷ 1 ∷ 1 ∷ 0 ∷ 0 ∷ 0 ∷ 1 ∷ [] }
unfolding kept caught pool catch_steps kept_graph places entries_from target_steps table_steps on_steps modulo first_from is_start exits after level first_exit finding reached marked bits mark_list
target = refl

-- with a handler at 0 for what starts at 1, and one at 5, where nothing starts, for the switch
handled : result (caught 13572 (0 ∷ 1 ∷ 6 ∷ [])) ≡ record { steps = to_offset 5 ∷ to_offset 6 ∷ to_offset 0 ∷ to_offset 6 ∷ []; found = leaves 3 2; marks = 1 ∷ 1 ∷ 1 ∷ 0 ∷ 0 ∷ 0 ∷ 0 ∷ [] }
unfolding caught pool catch_steps kept_graph places entries_from target_steps table_steps on_steps modulo first_from is_start exits after level first_exit finding reached marked bits mark_list
handled = refl
