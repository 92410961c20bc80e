-- For who keeps a graph in numbers: what the heads and words must say of each start, so that the search finds what is found of the graph itself.
-- Assumes nothing.
use Prim.Native.Nat.{ℕ, ◌+◌, ◌*◌, ◌/◌, ◌%◌, ◌<◌, ◌≤◌, min}
use mathlib.Core.Path.{◌≡◌, refl, sym, ap, ◌∙◌}
use mathlib.Core.Bool.{Bool, true, not, ◌||◌}
use mathlib.Core.List.{List, [], ◌∷◌, ◌++◌}
use mathlib.Core.Logic.{⊎_elim}
use native.Mathlib.Omega.{arith}
use borrow.Author.Tests.{eq-eqb, ne_eqb}
use lib.Dec.{eqb}
use lib.ListN.{get_or, length, get_or-eq_default}
use Rattle.laws.proofs.Tests.{under?}
use Rattle.std.specs.Prelude.{Option}
use Rattle.serializer.specs.declared.Elem.{Elem}
use Rattle.graph.specs.Lists.{any}
use Rattle.graph.specs.Graph.{Graph, Good, Step, is_start, step_leaves, is_to, exits}
use Rattle.graph.specs.Graph.Step.{to_offset, no_target}
use Rattle.graph.proofs.Alike.{Alike, same_start, rising_same, finding_alike, marks_alike}
use Rattle.search.specs.declared.Walked.{Walked}
use Rattle.search.specs.mirror.Kept.{size_of, here_of, count_of, entries_from, on_steps, catch_steps, kept_steps, word_of, places, kept_graph, off_heads, IsFound}
use Rattle.search.proofs.Laws.{any_append, any_same, elem-places, kept_good, leaves_is, inside, on_yes, on_no, target_yes, target_no, table_yes, table_no}

-- ---- steps that do the same over the heads: they go to the same places, and both leave or neither does
pub record Same (heads : List ℕ) (l l' : List Step) : Type 0 where
  pub goes : (t : ℕ) → t < length heads → any (is_to t) l ≡ any (is_to t) l'
  pub leaves : any (off_heads heads) l ≡ any (off_heads heads) l'

module _ {heads : List ℕ} where
  pub same_steps : {l l' : List Step} → l ≡ l' → Same heads l l'
  same_steps e = record { goes = λ t h. ap (any (is_to t)) e; leaves = ap (any (off_heads heads)) e }

  pub same_append : {l l' m m' : List Step} → Same heads l l' → Same heads m m' → Same heads (l ++ m) (l' ++ m')
  same_append {l} {l'} {m} {m'} a b = record {
    goes = λ t h. both (is_to t) (a.goes t h) (b.goes t h);
    leaves = both (off_heads heads) a.leaves b.leaves;
  }
    where
      both : (p : Step → Bool) → any p l ≡ any p l' → any p m ≡ any p m' → any p (l ++ m) ≡ any p (l' ++ m')
      both p x y = any_append p l m ∙ ap (λ (b : Bool). b || any p m) x ∙ ap (λ (b : Bool). any p l' || b) y ∙ sym (any_append p l' m')

-- a place, and one that is no higher than b: beyond the heads neither is a start
pub same_low : (heads : List ℕ) (b : ℕ) → length heads ≤ b → (u : ℕ) → Same heads (to_offset u ∷ []) (to_offset (min u b) ∷ [])
same_low heads b small u = ⊎_elim
    (λ h. same_steps (ap (λ (x : ℕ). to_offset x ∷ []) (let z : u ≡ min u b = omega (arith, h) in z)))
    (λ h. record {
      goes = λ t l. ap (λ (x : Bool). x || any (is_to t) []) (ne_eqb t u (λ e. omega (arith, e, h, l, small)) ∙ sym (ne_eqb t (min u b) (λ e. omega (arith, e, h, l, small))));
      leaves = ap (λ (x : Bool). x || any (off_heads heads) []) (no_head u (omega (arith, h, small)) ∙ sym (no_head (min u b) (omega (arith, h, small))));
    })
    (under? u b)
  where
    no_head : (t : ℕ) → length heads ≤ t → eqb (get_or heads t 0) 0 ≡ true
    no_head t h = eq-eqb (get_or heads t 0) 0 (get_or-eq_default heads 0 h)

-- a step by its word: a place too high for one is no start, as is the place that keeps "no target"
module _ (heads : List ℕ) (small : length heads ≤ 4294967295) where
  no_head : (t : ℕ) → 4294967295 ≤ t → eqb (get_or heads t 0) 0 ≡ true
  no_head t h = eq-eqb (get_or heads t 0) 0 (get_or-eq_default heads 0 (omega (arith, small, h)))

  pub same_word : (s : Step) → Same heads (s ∷ []) (to_offset (word_of s) ∷ [])
  same_word (to_offset u) = same_low heads 4294967295 small u
  same_word no_target = record {
    goes = λ t l. ap (λ (b : Bool). b || any (is_to t) []) (sym (ne_eqb t 4294967295 (λ e. omega (arith, e, l, small))));
    leaves = ap (λ (b : Bool). b || any (off_heads heads) []) (sym (no_head 4294967295 (omega arith)));
  }

-- ---- the steps of each form of head
module _ (el : ℕ → Option Elem) (words : List ℕ) (o size : ℕ) (small : size < 256) where
  -- a head of form f that goes on
  on_end : (h f : ℕ) → h ≡ size + 256 * f → h / 256 % 2 ≡ 1 → on_steps o h ≡ to_offset (o + size) ∷ []
  on_end h f e i = on_yes o h i ∙ ap (λ (x : ℕ). to_offset (o + x) ∷ []) (let z : h % 256 ≡ size = omega (arith, e, small) in z)

  -- it ends the walk
  pub form_ends : kept_steps el words o size ≡ []
  form_ends = rw (target_no o size words (λ i. omega (arith, i, small)), table_no o size words el (λ i. omega (arith, i, small)), on_no o size (λ i. omega (arith, i, small)))

  pub form_on : kept_steps el words o (size + 256) ≡ to_offset (o + size) ∷ []
  form_on = rw (target_no o (size + 256) words (λ i. omega (arith, i, small)), table_no o (size + 256) words el (λ i. omega (arith, i, small)), on_end (size + 256) 1 (omega arith) (omega (arith, small)))

  pub form_jump : kept_steps el words o (size + 512) ≡ to_offset (get_or words o 0) ∷ []
  form_jump = rw (target_yes o (size + 512) words (omega (arith, small)), table_no o (size + 512) words el (λ i. omega (arith, i, small)), on_no o (size + 512) (λ i. omega (arith, i, small)))

  pub form_branch : kept_steps el words o (size + 768) ≡ to_offset (get_or words o 0) ∷ to_offset (o + size) ∷ []
  form_branch = rw (target_yes o (size + 768) words (omega (arith, small)), table_no o (size + 768) words el (λ i. omega (arith, i, small)), on_end (size + 768) 3 (omega arith) (omega (arith, small)))

  -- distances of a table count from behind a prefix or not
  module _ (prefix count : ℕ) (one : prefix ≤ 1) where
    abbrev table_head : ℕ
    table_head = size + 1280 + 2048 * prefix + 4096 * count

    pub form_table : kept_steps el words o table_head ≡ entries_from el (o + prefix) (get_or words o 0) count ++ to_offset (o + size) ∷ []
    form_table = rw (target_no o table_head words (λ i. omega (arith, i, small, one)), table_yes o table_head words el (omega (arith, small, one)), here_is, count_is, on_yes o table_head (omega (arith, small, one)), size_is)
      where
        here_is : here_of o table_head ≡ o + prefix
        here_is = omega (arith, small, one)

        count_is : count_of table_head ≡ count
        count_is = omega (arith, small, one)

        size_is : size_of table_head ≡ size
        size_is = omega (arith, small)

-- ---- the graph that is kept
module _ (el : ℕ → Option Elem) (heads words catches : List ℕ) (g : Graph) (G : Good g) where
  -- the heads stand just at the starts
  pub kept_starts : ((t : ℕ) → is_start g t ≡ not (eqb (get_or heads t 0) 0)) → g.starts ≡ places 0 heads
  unfolding is_start kept_graph
  kept_starts h = rising_same 0 g.starts (places 0 heads) G.rising (kept_good el heads words catches).rising (λ t. h t ∙ sym (elem-places heads t))

  module _ (starts : g.starts ≡ places 0 heads) (steps : (o : ℕ) → is_start g o ≡ true → Same heads (g.steps o) (catch_steps catches o ++ kept_steps el words o (get_or heads o 0))) where
    is_start_lem : (t : ℕ) → is_start g t ≡ is_start (kept_graph el heads words catches) t
    unfolding kept_graph
    is_start_lem t = same_start g (kept_graph el heads words catches) starts t

    off : (s : Step) → step_leaves g s ≡ off_heads heads s
    off (to_offset t) = ap not (is_start_lem t) ∙ leaves_is el heads words catches (to_offset t)
    off no_target = refl

    pub kept_alike : Alike g (kept_graph el heads words catches)
    unfolding kept_graph exits
    kept_alike = record {
      starts = starts;
      goes = λ o t h i. (steps o h).goes t (inside el heads words catches t (sym (is_start_lem t) ∙ i));
      leaves = λ o h. any_same (step_leaves g) off (g.steps o) ∙ (steps o h).leaves ∙ sym (any_same (step_leaves (kept_graph el heads words catches)) (leaves_is el heads words catches) (catch_steps catches o ++ kept_steps el words o (get_or heads o 0)));
    }

    -- so what is found of the kept graph is found of it
    pub kept_found : (n : ℕ) (r : Walked) (M : List ℕ) → IsFound (kept_graph el heads words catches) n r M → IsFound g n r M
    kept_found n r M f = (f.0 ∙ sym (finding_alike G kept_alike), f.1 ∙ sym (marks_alike G kept_alike n))
