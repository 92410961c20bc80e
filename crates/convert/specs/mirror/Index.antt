-- The table that gives a name's number by five of its bytes; `one_name` of proofs/Index.antt ties it to `flow_number`.
use Rattle.std.specs.Prelude.{ℕ, ◌+◌, ◌%◌, ◌<◌, ◌≡◌, List, [], get_or, cond, nat_lt, Option, Some, None}
use Rattle.convert.specs.Names.{flow_names}

-- the place of the name at place at of s
unfoldable pub place_of : List ℕ → ℕ → ℕ
place_of s at = (get_or s (at + 2) 0 + get_or s (at + 7) 0 + get_or s (at + 12) 0 + get_or s (at + 17) 0 + get_or s (at + 24) 0) % 256

-- a table that has each name's number at the name's place
pub record Indexed (t : List ℕ) : Type 0 where
  pub number : (k : ℕ) → k < 37 → get_or t (place_of (get_or flow_names k []) 0) 0 ≡ k

-- the number of a name as an option, which `flow_number` tells as 37 where the record has none of the names
abbrev pub number_as : ℕ → Option ℕ
number_as k = cond (nat_lt k 37) (Some k) None
