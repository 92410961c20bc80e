-- 01, "Walks": what a walk is, what is reached, what leaves, and what the walk check finds. Over any graph: nothing here knows an opcode.
use Rattle.std.specs.Prelude.{ℕ, zero, suc, ◌≤◌, ◌<◌, ◌≡◌, Bool, true, false, cond, not, ◌||◌, ◌⊎◌, eqb, ltb, length, get_or}
use mathlib.Core.List.{List, [], ◌∷◌, Memᴰ as Among}
use Rattle.laws.specs.Scan.{first_from}
use Rattle.graph.specs.Lists.{any, keep, elem, first}

-- ---- graphs
-- a step of an instruction: to an offset, or "a step with no target"
pub data Step : Type 0 where
  to_offset : ℕ → Step
  no_target : Step

-- the offsets at which the listed instructions start, and the steps from the instruction at an offset: "goes to the target", "the target or e",
-- "any entry shown or e". An instruction that ends a walk has none.
pub record Graph : Type 0 where
  pub starts : List ℕ
  pub steps : ℕ → List Step

-- whether a listed instruction starts at t
unfoldable pub is_start : Graph → ℕ → Bool
is_start g t = elem t g.starts

-- numbers that rise strictly, from a on
abbrev pub Rising : ℕ → List ℕ → Type 0
Rising a [] = Unit {0}
Rising a (x ∷ xs) = (a ≤ x) × Rising (suc x) xs

-- "Listed instructions are decoded from byte 0 .., each where the last ended": the starts rise strictly
pub record Good (g : Graph) : Type 0 where
  pub rising : Rising 0 g.starts

-- ---- walks
-- "A step with no target, or to a place where no listed instruction starts, leaves."
abbrev pub step_leaves : Graph → Step → Bool
step_leaves g (to_offset t) = not (is_start g t)
step_leaves g no_target = true

-- whether a step goes to t
abbrev pub is_to : ℕ → Step → Bool
is_to t (to_offset u) = eqb t u
is_to t no_target = false

-- some step from o goes to t, and does not leave
pub record Succ (g : Graph) (o t : ℕ) : Type 0 where
  pub step : Step
  pub among : Among step (g.steps o)
  pub goes : is_to t step ≡ true
  pub start : is_start g t ≡ true

-- some step from o leaves
pub record Exits (g : Graph) (o : ℕ) : Type 0 where
  pub step : Step
  pub among : Among step (g.steps o)
  pub leaves : step_leaves g step ≡ true

-- "A walk is any list of steps, also the empty one, starting at byte 0, each from the listed instruction where it then stands".
-- "An offset is reached in m steps if a walk of m steps, none leaving, ends there." Where no instruction starts at byte 0 nothing is reached.
pub data Reach (g : Graph) : ℕ → ℕ → Type 0 where
  here : is_start g 0 ≡ true → Reach g 0 0
  next : {m o t : ℕ} → Reach g m o → Succ g o t → Reach g (suc m) t

-- a walk of n steps that leaves from o: "one that leaves is its last. Its count is all its steps, the leaving one too."
pub data Leaving (g : Graph) : ℕ → ℕ → Type 0 where
  leave : {m o : ℕ} → Reach g m o → Exits g o → Leaving g (suc m) o

-- ---- the claim (demand 3)
-- no walk leaves
pub record Closed (g : Graph) : Type 0 where
  pub never : (n o : ℕ) → Leaving g n o → ⊥

-- a walk of n steps leaves from o, none of fewer steps leaves, and "among equal shortest walks the lowest instruction offset left from is reported"
pub record Leaves (g : Graph) (n o : ℕ) : Type 0 where
  pub leaves : Leaving g n o
  pub soonest : (t p : ℕ) → Leaving g t p → n ≤ t
  pub lowest : (p : ℕ) → Leaving g n p → o ≤ p

pub data Finding : Type 0 where
  closed : Finding
  leaves : (steps offset : ℕ) → Finding

abbrev pub Claim : Graph → Finding → Type 0
Claim g closed = Closed g
Claim g (leaves n o) = Leaves g n o

-- ---- the marks behind a finding
-- "After "closed" the first code-length marks are 1 at offsets reached ..; after "leaves in n steps", 1 at offsets reached in fewer than n."
abbrev pub Marked : Graph → Finding → ℕ → Type 0
Marked g closed p = (m : ℕ) × Reach g m p
Marked g (leaves n o) p = (m : ℕ) × (m < n) × Reach g m p

-- a mark v is 1 just where P holds, "and 0 elsewhere"
abbrev pub Mark : ℕ → Type 0 → Type 0
Mark v P = ((v ≡ 1) × P) ⊎ ((v ≡ 0) × (P → ⊥))

-- the finding is right, and so are the first n marks
pub record Answer (g : Graph) (n : ℕ) (M : List ℕ) (f : Finding) : Type 0 where
  pub claim : Claim g f
  pub marks : (p : ℕ) → p < n → Mark (get_or M p 0) (Marked g f p)

-- ---- the answer, computed. proofs/Findings.antt: it meets the claim, and no other does.
-- whether some step from o leaves
unfoldable pub exits : Graph → ℕ → Bool
exits g o = any (step_leaves g) (g.steps o)

-- the starts to which some step of some offset of l goes
unfoldable pub after : Graph → List ℕ → List ℕ
after g l = keep (λ t. any (λ o. any (is_to t) (g.steps o)) l) g.starts

-- the offsets reached in exactly m steps, rising
unfoldable pub level : Graph → ℕ → List ℕ
level g zero = keep (eqb 0) g.starts
level g (suc m) = after g (level g m)

-- how many levels are looked at: what is reached at all is reached in fewer steps than there are instructions (proofs/Bound.antt)
abbrev pub bound : Graph → ℕ
bound g = length g.starts

-- the first level with an offset that exits; the bound if there is none
unfoldable pub first_exit : Graph → ℕ
first_exit g = first_from (λ m. any (exits g) (level g m)) 0 (bound g)

-- the shortest walk that leaves, of one step more than its level; a level rises, so that the first offset that exits is the lowest
unfoldable pub finding : Graph → Finding
finding g = cond (ltb (first_exit g) (bound g)) (leaves (suc (first_exit g)) (first (exits g) (level g (first_exit g)))) closed

-- ---- the marks, computed. proofs/Marks.antt: they are those of `Marked`.
-- whether p is reached in fewer than n steps
unfoldable pub reached : Graph → ℕ → ℕ → Bool
reached g zero p = false
reached g (suc n) p = reached g n p || elem p (level g n)

-- whether p is marked after a finding
unfoldable pub marked : Graph → Finding → ℕ → Bool
marked g closed p = reached g (bound g) p
marked g (leaves n o) p = reached g n p

-- 1 where p passes and 0 elsewhere, at n places from i on
unfoldable pub bits : (ℕ → Bool) → ℕ → ℕ → List ℕ
bits p i zero = []
bits p i (suc n) = cond (p i) 1 0 ∷ bits p (suc i) n

-- the first len marks
unfoldable pub mark_list : Graph → Finding → ℕ → List ℕ
mark_list g f len = bits (marked g f) 0 len
