-- What the contracts of `inputs` cite of a buffer whose start counts.
use Rattle.std.specs.Prelude.{◌≡◌, ℕ, ◌≤◌, List, length, take}

-- The buffer's first n bytes are there, and are n. The second part follows from the first, and spares a caller's `&buffer[..n]` a proof file.
abbrev pub IsPrefixLen : ℕ → List ℕ → Type 0
IsPrefixLen n xs = (n ≤ length xs) × (n ≡ length (take n xs))
