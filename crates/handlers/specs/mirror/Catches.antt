-- Law `caught` (proofs/Words.antt): the word of a place says its handler. No contract of a call cites it.
-- The table that a search is lent: of each place of a code a word, 0 where no handler is, else one more than the handler's offset, or than 65,536,
-- where no instruction starts, if that is lower. On the way it holds record numbers, each one more: of places, and of blocks of 256 places that a
-- record holds whole, so that a record costs its blocks and at most two of them place by place.
use Rattle.std.specs.Prelude.{ℕ, zero, suc, ◌+◌, ◌/◌, ◌≤◌, ◌<◌, min, max, ◌≡◌, ◌⊎◌, Bool, cond, ◌&&◌, List, leb, ltb, length, get_or}
use Rattle.std.specs.Prelude.{Option, None, Some}
use Rattle.tables.specs.Records.{is_op}
use Rattle.tables.specs.declared.Prefixes.{Prefixes}
use Rattle.flow.specs.Flow.{is_return}
use Rattle.handlers.specs.Handlers.{handler_offset, is_held, handler_at}

-- ---- words
abbrev pub handler_word : Option ℕ → ℕ
handler_word None = 0
handler_word (Some t) = suc (min t 65536)

-- of an instruction at o, by whether its opcode returns
unfoldable pub catch_word : List ℕ → Bool → ℕ → ℕ
catch_word s returns o = cond returns 0 (handler_word (handler_at s o))

-- the opcode of what is decoded at o: behind a prefix the next byte
abbrev pub opcode_at : List ℕ → Prefixes → ℕ → ℕ
opcode_at code prefixes o =
    cond (is_op prefixes.wide (get_or code o 0)) (get_or code (o + 1) 0)
    (cond (is_op prefixes.extra_wide (get_or code o 0)) (get_or code (o + 1) 0) (get_or code o 0))

-- ---- record numbers
-- one more than the number of the last of the first n records that holds o; 0 where none does
unfoldable pub last_of : List ℕ → ℕ → ℕ → ℕ
last_of s o zero = 0
last_of s o (suc r) = cond (is_held s o r) (suc r) (last_of s o r)

-- the word by such a number
abbrev pub word_by : List ℕ → ℕ → ℕ
word_by s zero = 0
word_by s (suc r) = suc (min (handler_offset s r) 65536)

-- what a table of places and one of blocks say of o: the higher of the two
abbrev pub top : List ℕ → List ℕ → ℕ → ℕ
top P B o = max (get_or P o 0) (get_or B (o / 256) 0)

-- they say of each place the last of the first n records
abbrev pub Painted : List ℕ → List ℕ → List ℕ → ℕ → Type 0
Painted s P B n = (o : ℕ) → o < length P → top P B o ≡ last_of s o n

-- ---- what the functions promise one another
-- v from place a up to e, and what was there elsewhere
pub record Filled (S S' : List ℕ) (a e v : ℕ) : Type 0 where
  pub inside : (i : ℕ) → a ≤ i → i < e → get_or S' i 0 ≡ v
  pub outside : (i : ℕ) → (i < a) ⊎ (e ≤ i) → get_or S' i 0 ≡ get_or S i 0

-- v, where it is no lower than what was said, is said from place a up to e, and elsewhere what was
pub record Said (P B P' B' : List ℕ) (a e v : ℕ) : Type 0 where
  pub inside : (o : ℕ) → a ≤ o → o < e → top P B o ≤ v → top P' B' o ≡ v
  pub outside : (o : ℕ) → (o < a) ⊎ (e ≤ o) → top P' B' o ≡ top P B o

-- the same of each place that there is
abbrev pub Laid : List ℕ → List ℕ → List ℕ → List ℕ → ℕ → ℕ → ℕ → Type 0
Laid P B P' B' a e v = (o : ℕ) → o < length P → top P B o ≤ v → top P' B' o ≡ cond (leb a o && ltb o e) v (top P B o)

-- each place of a code has its word
abbrev pub Caught : List ℕ → List ℕ → List ℕ → Prefixes → List ℕ → Type 0
Caught code ops s prefixes C = (o : ℕ) → o < length code → get_or C o 0 ≡ catch_word s (is_return ops (opcode_at code prefixes o)) o

-- room of zeros for a code, and records that are few enough
pub record Fits (code s C : List ℕ) : Type 0 where
  pub as_long : length C ≡ length code
  pub short : length code ≤ 65536
  pub few : length s ≤ 49152
  pub clear : (o : ℕ) → get_or C o 0 ≡ 0
