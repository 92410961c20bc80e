-- The answers of the calls at a place of lent code, in 01's numbers; "end" is told at that place.
use Rattle.std.specs.Prelude.{ℕ, [], ◌∷◌, pos, Some, None, Ok, Err}
use Rattle.refusal.specs.Numbers.{Numbers, refusal_numbers, answered, finds, finds_nothing, end_at}
use Rattle.targets.specs.declared.Entries.{Entries}
use Rattle.jumps.specs.Jumps.{Asked}
use Rattle.jumps.specs.declared.Entry.{Entry}
use Rattle.jumps.specs.declared.Entry.TheVariants.{Shown, Skipped, Beyond}

-- nothing where the instruction has no target or table, "end" at the code's end
abbrev pub asked_numbers : {A : Type 0} → (A → Numbers) → ℕ → Asked A → Numbers
asked_numbers told at (Ok (Some (Some a))) = told a
asked_numbers told at (Ok (Some None)) = finds_nothing
asked_numbers told at (Ok None) = end_at at
asked_numbers told at (Err r) = refusal_numbers r

abbrev pub target_numbers : ℕ → Asked ℕ → Numbers
target_numbers at a = asked_numbers (λ t. finds (pos t ∷ [])) at a

-- the pool element of the first entry, the number of entries, the first case
abbrev pub table_numbers : ℕ → Asked Entries → Numbers
table_numbers at a = asked_numbers (λ (e : Entries). finds (pos e.start ∷ pos e.count ∷ e.base ∷ [])) at a

-- 1, a case and its target; 2 for an element that is skipped, 3 for no entry of the table
abbrev pub shown_numbers : Entry → Numbers
shown_numbers (Shown c) = finds (c.case ∷ pos c.target ∷ [])
shown_numbers Skipped = answered (pos 2 ∷ [])
shown_numbers Beyond = answered (pos 3 ∷ [])

-- the same; 0 for no table
abbrev pub entry_numbers : ℕ → Asked Entry → Numbers
entry_numbers at a = asked_numbers shown_numbers at a
