-- The word of a place: by the number of the last record that holds it, and of what stands there. Assumes nothing.
use Prim.Native.Nat.{ℕ, zero, suc, ◌+◌, ◌/◌, ◌≤◌, ◌<◌, max}
use mathlib.Core.Path.{◌≡◌, refl, sym, ap, ◌∙◌}
use mathlib.Core.Bool.{Bool, true, false, cond}
use mathlib.Core.List.{List}
use mathlib.Core.Logic.{⊎_elim}
use Rattle.std.specs.Prelude.{Some}
use native.Mathlib.Nat.{le_refl}
use native.Mathlib.Omega.{arith}
use lib.ListN.{length, get_or, set, length-set}
use lib.Seq.{get_or-set_same, get_or-set_other}
use Rattle.laws.proofs.Tests.{same?}
use Rattle.tables.specs.declared.Prefixes.{Prefixes}
use Rattle.flow.specs.Flow.{is_return}
use Rattle.handlers.specs.Handlers.{handler_count, handler_offset, is_held, handler_among}
use Rattle.handlers.specs.mirror.Catches.{handler_word, catch_word, opcode_at, last_of, word_by, top, Painted, Caught}

pub word_last : (s : List ℕ) (o n : ℕ) → word_by s (last_of s o n) ≡ handler_word (handler_among s o n)
unfolding last_of handler_among
word_last s o zero = refl
word_last s o (suc n) = go (is_held s o n) (word_last s o n)
  where
    go : (b : Bool) → word_by s (last_of s o n) ≡ handler_word (handler_among s o n)
        → word_by s (cond b (suc n) (last_of s o n)) ≡ handler_word (cond b (Some (handler_offset s n)) (handler_among s o n))
    go true h = refl
    go false h = h

-- ---- one after the other
module _ (code ops s B : List ℕ) (prefixes : Prefixes) (C₀ : List ℕ) where
  -- the word at o, by what the tables said
  abbrev pub word_at : ℕ → ℕ
  word_at o = cond (is_return ops (opcode_at code prefixes o)) 0 (word_by s (top C₀ B o))

  -- the words up to o stand, and behind them what was said
  pub record Catching (C : List ℕ) (o : ℕ) : Type 0 where
    pub within : o ≤ length code
    pub as_long : length C ≡ length code
    pub done : (t : ℕ) → t < o → get_or C t 0 ≡ word_at t
    pub left : (t : ℕ) → o ≤ t → get_or C t 0 ≡ get_or C₀ t 0

  pub catching_start : length C₀ ≡ length code → Catching C₀ 0
  catching_start h = record { within = omega arith; as_long = h; done = λ t l. absurd (omega (arith, l)); left = λ t l. refl }

  pub catching_more : {C : List ℕ} {o w : ℕ} (r : ℕ) → o < length code → r ≡ max (get_or C o 0) (get_or B (o / 256) 0) → w ≡ cond (is_return ops (opcode_at code prefixes o)) 0 (word_by s r) → Catching C o
      → Catching (set C o w) (o + 1)
  catching_more {C} {o} {w} r h high by k = record {
    within = omega (arith, h);
    as_long = length-set C o w ∙ k.as_long;
    done = λ t l. ⊎_elim
        (λ (e : t ≡ o). ap (λ (x : ℕ). get_or (set C o w) x 0) e ∙ get_or-set_same C o w 0 (omega (arith, h, k.as_long)) ∙ is ∙ ap word_at (sym e))
        (λ (x : t ≡ o → ⊥). get_or-set_other C o t w 0 x ∙ k.done t (omega (arith, l, x)))
        (same? t o);
    left = λ t l. get_or-set_other C o t w 0 (λ e. omega (arith, l, e)) ∙ k.left t (omega (arith, l));
  }
    where
      is : w ≡ word_at o
      is = by ∙ ap (λ (x : ℕ). cond (is_return ops (opcode_at code prefixes o)) 0 (word_by s x)) (high ∙ ap (λ (x : ℕ). max x (get_or B (o / 256) 0)) (k.left o (le_refl o)))

  pub caught : {C : List ℕ} {o : ℕ} → length code ≤ o → length C₀ ≡ length code → Catching C o → Painted s C₀ B (handler_count s) → Caught code ops s prefixes C
  unfolding catch_word
  caught {C} {o} h same k p t l =
      k.done t (omega (arith, h, l)) ∙ ap (λ (x : ℕ). cond (is_return ops (opcode_at code prefixes t)) 0 x) (ap (word_by s) (p t (omega (arith, same, l))) ∙ word_last s t (handler_count s))

-- without records zeros are the words
pub caught_none : (code ops s : List ℕ) (prefixes : Prefixes) (C : List ℕ) → length s ≡ 0 → ((o : ℕ) → get_or C o 0 ≡ 0) → Caught code ops s prefixes C
unfolding catch_word handler_among
caught_none code ops s prefixes C none clear o l = clear o ∙ none_word (is_return ops (opcode_at code prefixes o))
  where
    count : handler_count s ≡ 0
    count = omega (arith, none)

    none_word : (returns : Bool) → 0 ≡ cond returns 0 (handler_word (handler_among s o (handler_count s)))
    none_word true = refl
    none_word false = sym (ap (λ (n : ℕ). handler_word (handler_among s o n)) count)
