-- Laws `level_leaves`, `level_closed` (proofs/Walks.antt): from these the search has its `Answer`. No contract of a call cites them.
-- What the functions of a breadth-first search keep among themselves: marks M, a queue q and the number k of its entries that count.
--     In q k p             p is among the first k entries
--     Held M q k           the marks are 0 or 1, and 1 just at the entries of the queue; k is how many are 1
--     Grown q k M' q' k' P the queue has grown, by entries of which P holds, and every p with P p is now in it
--     Lowest g q lo hi f   f is the lowest entry in lo .. hi that exits, or none if none does
use Rattle.std.specs.Prelude.{ℕ, ◌+◌, ◌≤◌, ◌<◌, ◌≡◌, true, false, cond, List, [], ◌∷◌, leb, get_or, length}
use Rattle.std.specs.Prelude.{Option, None, Some}
use Rattle.graph.specs.Graph.{Graph, Succ, exits}

pub record In (q : List ℕ) (k p : ℕ) : Type 0 where
  pub at : ℕ
  pub below : at < k
  pub is : get_or q at 0 ≡ p

unfoldable pub sum : List ℕ → ℕ
sum [] = 0
sum (x ∷ xs) = x + sum xs

pub record Held (M q : List ℕ) (k : ℕ) : Type 0 where
  pub bits : (p : ℕ) → get_or M p 0 ≤ 1
  pub count : sum M ≡ k
  pub marked : (p : ℕ) → get_or M p 0 ≡ 1 → In q k p
  pub queued : (i : ℕ) → i < k → get_or M (get_or q i 0) 0 ≡ 1
  pub room : length M ≤ length q
  pub small : length M ≤ 65536

pub record Grown (q : List ℕ) (k : ℕ) (M' q' : List ℕ) (k' : ℕ) (P : ℕ → Type 0) : Type 0 where
  pub held : Held M' q' k'
  pub more : k ≤ k'
  pub kept : (i : ℕ) → i < k → get_or q' i 0 ≡ get_or q i 0
  pub new : (i : ℕ) → k ≤ i → i < k' → P (get_or q' i 0)
  pub all : (p : ℕ) → P p → In q' k' p

-- the successors of the entries in lo .. hi of q
abbrev pub SuccIn : Graph → List ℕ → ℕ → ℕ → ℕ → Type 0
SuccIn g q lo hi t = (i : ℕ) × (lo ≤ i) × (i < hi) × Succ g (get_or q i 0) t

-- no entry in lo .. hi exits
abbrev pub Quiet : Graph → List ℕ → ℕ → ℕ → Type 0
Quiet g q lo hi = (i : ℕ) → lo ≤ i → i < hi → exits g (get_or q i 0) ≡ false

pub record LowestAt (g : Graph) (q : List ℕ) (lo hi o : ℕ) : Type 0 where
  pub at : ℕ
  pub from : lo ≤ at
  pub below : at < hi
  pub is : get_or q at 0 ≡ o
  pub exit : exits g o ≡ true
  pub least : (i : ℕ) → lo ≤ i → i < hi → exits g (get_or q i 0) ≡ true → o ≤ get_or q i 0

abbrev pub Lowest : Graph → List ℕ → ℕ → ℕ → Option ℕ → Type 0
Lowest g q lo hi (Some o) = LowestAt g q lo hi o
Lowest g q lo hi None = Quiet g q lo hi

-- the lower of what was found and o
abbrev pub lower_of : Option ℕ → ℕ → Option ℕ
lower_of (Some p) o = cond (leb p o) (Some p) (Some o)
lower_of None o = Some o
