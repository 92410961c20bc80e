-- The graph that lies in lent numbers: where it starts, its steps part by part, and the entries of a table one by one. Assumes nothing.
use Prim.Native.Nat.{ℕ, zero, suc, ◌+◌, ◌-◌, ◌/◌, ◌%◌, ◌≤◌, ◌<◌}
use mathlib.Core.Path.{◌≡◌, refl, sym, ap, ◌∙◌, subst}
use mathlib.Core.Bool.{Bool, true, false, cond, not, ◌||◌}
use mathlib.Core.List.{List, [], ◌∷◌, ◌++◌}
use mathlib.Core.Logic.{◌⊎◌, inl, inr, ⊎_elim}
use native.Mathlib.Omega.{arith}
use borrow.Author.Tests.{eqb-true, eq-eqb, ne_eqb, not-false}
use lib.Dec.{eqb}
use lib.ListN.{get_or, length, replicate, get_or-eq_default}
use Rattle.laws.proofs.Tests.{by_test, either, clash, or_either, under?}
use Rattle.std.specs.Prelude.{Option}
use Rattle.serializer.specs.declared.Elem.{Elem}
use Rattle.graph.specs.Lists.{any, elem}
use Rattle.graph.specs.Graph.{Graph, Good, Rising, Step, is_start, step_leaves, is_to, Succ, Reach, Leaving, Answer, exits}
use Rattle.graph.specs.Graph.Step.{to_offset, no_target}
use Rattle.graph.specs.Graph.Reach.{here, next}
use Rattle.graph.specs.Graph.Leaving.{leave}
use Rattle.graph.specs.Graph.Finding.{closed}
use Rattle.graph.specs.mirror.Queue.{Held, Grown}
use Rattle.graph.proofs.Lists.{or_left, or_right, any_among, among_any, none_among}
use Rattle.graph.proofs.Queues.{zero_at, grown_none, grown_join, grown_same}
use Rattle.graph.proofs.Answers.{found}
use Rattle.targets.specs.Targets.{smi_of, target_from}
use Rattle.search.specs.declared.Walked.{Walked}
use Rattle.search.specs.mirror.Kept.{size_of, here_of, count_of, shown, entries_from, target_steps, table_steps, on_steps, catch_steps, places, kept_graph, off_heads, Goes, Below, finding_as, IsFound}

-- ---- tests on lists
module _ {A : Type 0} (p : A → Bool) where
  pub any_append : (l m : List A) → any p (l ++ m) ≡ (any p l || any p m)
  any_append [] m = refl
  any_append (x ∷ l) m = ap (λ (b : Bool). p x || b) (any_append l m) ∙ grouped (p x) (any p l) (any p m)
    where
      grouped : (a b c : Bool) → (a || (b || c)) ≡ ((a || b) || c)
      grouped true b c = refl
      grouped false b c = refl

  pub any_same : {q : A → Bool} → ((x : A) → p x ≡ q x) → (l : List A) → any p l ≡ any q l
  any_same h [] = refl
  any_same {q} h (x ∷ l) = ap (λ (b : Bool). b || any p l) (h x) ∙ ap (λ (b : Bool). q x || b) (any_same h l)

or_false : (a b : Bool) → (a || b) ≡ false → (a ≡ false) × (b ≡ false)
or_false true b h = clash refl h
or_false false b h = (refl, h)

-- ---- the starts
module _ (S : List ℕ) where
  abbrev headless : ℕ → Bool
  headless t = eqb (get_or S t 0) 0

places_yes : (i j : ℕ) (S : List ℕ) → headless S j ≡ false → elem (i + j) (places i S) ≡ true
unfolding places
places_yes i j [] e = clash refl e
places_yes i zero (x ∷ S) e = let z : i + 0 ≡ i = omega arith in subst (λ (b : Bool). elem (i + 0) (cond b (places (suc i) S) (i ∷ places (suc i) S)) ≡ true) (sym e) (or_left _ (eq-eqb (i + 0) i z))
places_yes i (suc j) (x ∷ S) e =
    let r = let z : suc i + j ≡ i + suc j = omega arith in subst (λ (t : ℕ). elem t (places (suc i) S) ≡ true) z (places_yes (suc i) j S e) in
    by_test (λ (l : List ℕ). elem (i + suc j) l ≡ true) (eqb x 0) (λ _. r) (λ _. or_right (eqb (i + suc j) i) r)

places_back : (i t : ℕ) (S : List ℕ) → elem t (places i S) ≡ true → (j : ℕ) × (t ≡ i + j) × (headless S j ≡ false)
unfolding places
places_back i t [] e = clash e refl
places_back i t (x ∷ S) e = go (eqb x 0) refl e (places_back (suc i) t S)
  where
    later : ((j : ℕ) × (t ≡ suc i + j) × (headless S j ≡ false)) → (j : ℕ) × (t ≡ i + j) × (headless (x ∷ S) j ≡ false)
    later r = (suc r.0, omega (arith, r.1), r.2)

    go : (b : Bool) → eqb x 0 ≡ b → elem t (cond b (places (suc i) S) (i ∷ places (suc i) S)) ≡ true → (elem t (places (suc i) S) ≡ true → (j : ℕ) × (t ≡ suc i + j) × (headless S j ≡ false))
        → (j : ℕ) × (t ≡ i + j) × (headless (x ∷ S) j ≡ false)
    go true h e rest = later (rest e)
    go false h e rest = ⊎_elim (λ z. (0, let y = eqb-true t i z in omega (arith, y), h)) (λ z. later (rest z)) (or_either (eqb t i) (elem t (places (suc i) S)) e)

places_rise : (a i : ℕ) (S : List ℕ) → a ≤ i → Rising a (places i S)
unfolding places
places_rise a i [] h = tt
places_rise a i (x ∷ S) h = by_test (Rising a) (eqb x 0) (λ _. places_rise a (suc i) S (omega arith)) (λ _. (h, places_rise (suc i) (suc i) S (omega arith)))

pub elem-places : (S : List ℕ) (t : ℕ) → elem t (places 0 S) ≡ not (headless S t)
elem-places S t = go (headless S t) refl (either (elem t (places 0 S)))
  where
    go : (b : Bool) → headless S t ≡ b → (elem t (places 0 S) ≡ true) ⊎ (elem t (places 0 S) ≡ false) → elem t (places 0 S) ≡ not b
    go true h (inl x) = let y = places_back 0 t S x in clash (ap (headless S) (let z : y.0 ≡ t = omega (arith, y.1) in z) ∙ h) y.2
    go true h (inr x) = x
    go false h x = let z : 0 + t ≡ t = omega arith in subst (λ (y : ℕ). elem y (places 0 S) ≡ true) z (places_yes 0 t S h)

module _ (el : ℕ → Option Elem) (heads words catches : List ℕ) where
  abbrev g : Graph
  g = kept_graph el heads words catches

  pub kept_good : Good g
  unfolding kept_graph
  kept_good = record { rising = places_rise 0 0 heads (omega arith) }

  pub start_is : (t : ℕ) → is_start g t ≡ not (headless heads t)
  unfolding kept_graph is_start
  start_is t = elem-places heads t

  -- a start lies inside
  pub inside : (t : ℕ) → is_start g t ≡ true → t < length heads
  inside t e = ⊎_elim (λ (h : t < length heads). h) (λ h. clash (sym (start_is t) ∙ e) (ap not (eq-eqb (get_or heads t 0) 0 (get_or-eq_default heads 0 h)))) (under? t (length heads))

  pub a_first : (get_or heads 0 0 ≡ 0 → ⊥) → is_start g 0 ≡ true
  a_first e = start_is 0 ∙ ap not (ne_eqb (get_or heads 0 0) 0 e)

  -- ---- what leaves
  pub leaves_is : (s : Step) → step_leaves g s ≡ off_heads heads s
  leaves_is (to_offset t) = ap not (start_is t) ∙ twice (headless heads t)
    where
      twice : (b : Bool) → not (not b) ≡ b
      twice true = refl
      twice false = refl
  leaves_is no_target = refl

  module _ (o h : ℕ) (is : h ≡ get_or heads o 0) where
    steps_are : g.steps o ≡ catch_steps catches o ++ ((target_steps words o h ++ table_steps el words o h) ++ on_steps o h)
    unfolding kept_graph
    steps_are = ap (λ (x : ℕ). catch_steps catches o ++ ((target_steps words o x ++ table_steps el words o x) ++ on_steps o x)) (sym is)

    -- a test on all steps, part by part, in the order in which the code asks
    parts : (p : Step → Bool) → any p (g.steps o) ≡ (any p (on_steps o h) || (any p (target_steps words o h) || (any p (catch_steps catches o) || any p (table_steps el words o h))))
    parts p =
        ap (any p) steps_are ∙ any_append p (catch_steps catches o) ((target_steps words o h ++ table_steps el words o h) ++ on_steps o h)
        ∙ ap (λ (b : Bool). any p (catch_steps catches o) || b) (any_append p (target_steps words o h ++ table_steps el words o h) (on_steps o h))
        ∙ ap (λ (b : Bool). any p (catch_steps catches o) || (b || any p (on_steps o h))) (any_append p (target_steps words o h) (table_steps el words o h))
        ∙ turned (any p (catch_steps catches o)) (any p (target_steps words o h)) (any p (table_steps el words o h)) (any p (on_steps o h))
      where
        turned : (c t e n : Bool) → (c || ((t || e) || n)) ≡ (n || (t || (c || e)))
        turned true true e true = refl
        turned true true e false = refl
        turned true false e true = refl
        turned true false e false = refl
        turned false true e true = refl
        turned false true e false = refl
        turned false false true true = refl
        turned false false true false = refl
        turned false false false true = refl
        turned false false false false = refl

    exits_by : exits g o ≡ (any (off_heads heads) (on_steps o h) || (any (off_heads heads) (target_steps words o h) || (any (off_heads heads) (catch_steps catches o) || any (off_heads heads) (table_steps el words o h))))
    unfolding exits
    exits_by = any_same (step_leaves g) leaves_is (g.steps o) ∙ parts (off_heads heads)

    pub exits_on : any (off_heads heads) (on_steps o h) ≡ true → exits g o ≡ true
    exits_on e = exits_by ∙ or_left _ e

    pub exits_target : any (off_heads heads) (target_steps words o h) ≡ true → exits g o ≡ true
    exits_target e = exits_by ∙ or_right (any (off_heads heads) (on_steps o h)) (or_left _ e)

    pub exits_catch : any (off_heads heads) (catch_steps catches o) ≡ true → exits g o ≡ true
    exits_catch e = exits_by ∙ or_right (any (off_heads heads) (on_steps o h)) (or_right (any (off_heads heads) (target_steps words o h)) (or_left _ e))

    pub exits_table : any (off_heads heads) (on_steps o h) ≡ false → any (off_heads heads) (target_steps words o h) ≡ false → any (off_heads heads) (catch_steps catches o) ≡ false
        → exits g o ≡ any (off_heads heads) (table_steps el words o h)
    exits_table a b d = rw (exits_by, a, b, d)

    -- ---- the steps of an instruction of which none leaves
    module _ (quiet : exits g o ≡ false) where
      -- where they go, an instruction starts
      goes_start : (t : ℕ) → Goes (g.steps o) t → is_start g t ≡ true
      unfolding exits
      goes_start t e = let x = any_among (is_to t) (g.steps o) e in go x.0 (none_among (step_leaves g) quiet x.1) x.2
        where
          go : (s : Step) → step_leaves g s ≡ false → is_to t s ≡ true → is_start g t ≡ true
          go (to_offset u) q h = ap (is_start g) (eqb-true t u h) ∙ not-false (is_start g u) q
          go no_target q h = clash h refl

      on_goes : (t : ℕ) → Goes (on_steps o h) t → Goes (g.steps o) t
      on_goes t e = parts (is_to t) ∙ or_left _ e

      target_goes : (t : ℕ) → Goes (target_steps words o h) t → Goes (g.steps o) t
      target_goes t e = parts (is_to t) ∙ or_right (any (is_to t) (on_steps o h)) (or_left _ e)

      catch_goes : (t : ℕ) → Goes (catch_steps catches o) t → Goes (g.steps o) t
      catch_goes t e = parts (is_to t) ∙ or_right (any (is_to t) (on_steps o h)) (or_right (any (is_to t) (target_steps words o h)) (or_left _ e))

      table_goes : (t : ℕ) → Goes (table_steps el words o h) t → Goes (g.steps o) t
      table_goes t e = parts (is_to t) ∙ or_right (any (is_to t) (on_steps o h)) (or_right (any (is_to t) (target_steps words o h)) (or_right (any (is_to t) (catch_steps catches o)) e))

      pub on_below : (n : ℕ) → n ≡ length heads → Below (on_steps o h) n
      on_below n e t x = omega (arith, inside t (goes_start t (on_goes t x)), e)

      pub target_below : (n : ℕ) → n ≡ length heads → Below (target_steps words o h) n
      target_below n e t x = omega (arith, inside t (goes_start t (target_goes t x)), e)

      pub catch_below : (n : ℕ) → n ≡ length heads → Below (catch_steps catches o) n
      catch_below n e t x = omega (arith, inside t (goes_start t (catch_goes t x)), e)

      pub table_below : (n : ℕ) → n ≡ length heads → Below (table_steps el words o h) n
      table_below n e t x = omega (arith, inside t (goes_start t (table_goes t x)), e)

      to_succ : (t : ℕ) → Goes (g.steps o) t → Succ g o t
      to_succ t e = let x = any_among (is_to t) (g.steps o) e in record { step = x.0; among = x.1; goes = x.2; start = goes_start t e }

      from_succ : (t : ℕ) → Succ g o t → Goes (g.steps o) t
      from_succ t s = among_any (is_to t) s.among s.goes

      -- pushed part by part
      pub grown_parts : {q q₁ q₂ q₃ q₄ M₁ M₂ M₃ M₄ : List ℕ} {k k₁ k₂ k₃ k₄ : ℕ} → Grown q k M₁ q₁ k₁ (Goes (on_steps o h)) → Grown q₁ k₁ M₂ q₂ k₂ (Goes (target_steps words o h))
          → Grown q₂ k₂ M₃ q₃ k₃ (Goes (catch_steps catches o)) → Grown q₃ k₃ M₄ q₄ k₄ (Goes (table_steps el words o h)) → Grown q k M₄ q₄ k₄ (Succ g o)
      grown_parts a b c d =
          let ab = grown_join {P = λ (t : ℕ). (any (is_to t) (on_steps o h) || any (is_to t) (target_steps words o h)) ≡ true} a b (λ t x. or_left _ x) (λ t x. or_right (any (is_to t) (on_steps o h)) x) (λ t x. or_either _ _ x) in
          let abc = grown_join {P = λ (t : ℕ). ((any (is_to t) (on_steps o h) || any (is_to t) (target_steps words o h)) || any (is_to t) (catch_steps catches o)) ≡ true} ab c (λ t x. or_left _ x)
          (λ t x. or_right (any (is_to t) (on_steps o h) || any (is_to t) (target_steps words o h)) x) (λ t x. or_either _ _ x) in
          grown_join abc d
          (λ t x. to_succ t (⊎_elim (λ y. ⊎_elim (on_goes t) (target_goes t) (or_either _ _ y)) (catch_goes t) (or_either _ _ x)))
          (λ t x. to_succ t (table_goes t x))
          (λ t s. split (any (is_to t) (on_steps o h)) (any (is_to t) (target_steps words o h)) (any (is_to t) (catch_steps catches o)) (sym (parts (is_to t)) ∙ from_succ t s))
        where
          split : (a b c : Bool) {d : Bool} → (a || (b || (c || d))) ≡ true → (((a || b) || c) ≡ true) ⊎ (d ≡ true)
          split true b c e = inl refl
          split false true c e = inl refl
          split false false true e = inl refl
          split false false false e = inr e

-- nothing is pushed for no steps
pub grown_nothing : {M q : List ℕ} {k : ℕ} (l : List Step) → l ≡ [] → Held M q k → Grown q k M q k (Goes l)
grown_nothing l e h = grown_none h (λ t x. clash x (ap (any (is_to t)) e))

-- one push for one step
pub grown_one : {q M' q' : List ℕ} {k k' u : ℕ} (l : List Step) (t : ℕ) → l ≡ to_offset t ∷ [] → u ≡ t → Grown q k M' q' k' (λ p. p ≡ u) → Grown q k M' q' k' (Goes l)
grown_one l t e i G =
    grown_same (λ p x. ap (any (is_to p)) e ∙ or_left _ (eq-eqb p t (x ∙ i)))
    (λ p x. ⊎_elim (λ z. eqb-true p t z ∙ sym i) (λ z. clash z refl) (or_either (eqb p t) false (sym (ap (any (is_to p)) e) ∙ x))) G

pub below_one : {l : List Step} {n : ℕ} (t u : ℕ) → l ≡ to_offset t ∷ [] → u ≡ t → Below l n → u < n
below_one {l} t u e i b = omega (arith, i, b t (ap (any (is_to t)) e ∙ or_left _ (eq-eqb t t refl)))

-- ---- the parts, by the head and by the handler
module _ (catches : List ℕ) (o : ℕ) {c : ℕ} (is : c ≡ get_or catches o 0) where
  pub catch_yes : (c ≡ 0 → ⊥) → catch_steps catches o ≡ to_offset (c - 1) ∷ []
  unfolding catch_steps
  catch_yes e = rw (← is, ne_eqb c 0 e) refl

  pub catch_no : c ≡ 0 → catch_steps catches o ≡ []
  unfolding catch_steps
  catch_no e = rw (← is, eq-eqb c 0 e) refl

module _ (o h : ℕ) where
  pub on_yes : h / 256 % 2 ≡ 1 → on_steps o h ≡ to_offset (o + size_of h) ∷ []
  unfolding on_steps
  on_yes e = rw (eq-eqb _ 1 e)

  pub on_no : (h / 256 % 2 ≡ 1 → ⊥) → on_steps o h ≡ []
  unfolding on_steps
  on_no e = rw (ne_eqb _ 1 e)

  module _ (words : List ℕ) where
    pub target_yes : h / 512 % 2 ≡ 1 → target_steps words o h ≡ to_offset (get_or words o 0) ∷ []
    unfolding target_steps
    target_yes e = rw (eq-eqb _ 1 e)

    pub target_no : (h / 512 % 2 ≡ 1 → ⊥) → target_steps words o h ≡ []
    unfolding target_steps
    target_no e = rw (ne_eqb _ 1 e)

    module _ (el : ℕ → Option Elem) where
      pub table_yes : h / 1024 % 2 ≡ 1 → table_steps el words o h ≡ entries_from el (here_of o h) (get_or words o 0) (count_of h)
      unfolding table_steps
      table_yes e = rw (eq-eqb _ 1 e)

      pub table_no : (h / 1024 % 2 ≡ 1 → ⊥) → table_steps el words o h ≡ []
      unfolding table_steps
      table_no e = rw (ne_eqb _ 1 e)

-- ---- the entries of a table, one by one
module _ (el : ℕ → Option Elem) (at : ℕ) where
  abbrev pub entry : ℕ → List Step
  entry n = shown (target_from at (smi_of (el n)))

  module _ (p : Step → Bool) where
    -- one more
    entries_suc : (n k : ℕ) → any p (entries_from el at n (suc k)) ≡ (any p (entries_from el at n k) || any p (entry (n + k)))
    unfolding entries_from
    entries_suc n zero = let z : n ≡ n + 0 = omega arith in any_append p (entry n) [] ∙ last (any p (entry n)) ∙ ap (λ (x : ℕ). any p (entry x)) z
      where
        last : (a : Bool) → (a || false) ≡ a
        last true = refl
        last false = refl
    entries_suc n (suc k) =
        let z : suc n + k ≡ n + suc k = omega arith in
        any_append p (entry n) (entries_from el at (suc n) (suc k)) ∙ ap (λ (b : Bool). any p (entry n) || b) (entries_suc (suc n) k) ∙ grouped (any p (entry n)) _ _
        ∙ ap (λ (b : Bool). b || any p (entry (suc n + k))) (sym (any_append p (entry n) (entries_from el at (suc n) k)))
        ∙ ap (λ (x : ℕ). any p (entries_from el at n (suc k)) || any p (entry x)) z
      where
        grouped : (a b c : Bool) → (a || (b || c)) ≡ ((a || b) || c)
        grouped true b c = refl
        grouped false b c = refl

    pub entries_more : (n k : ℕ) → any p (entries_from el at n (k + 1)) ≡ (any p (entries_from el at n k) || any p (entry (n + k)))
    entries_more n k = let z : k + 1 ≡ suc k = omega arith in ap (λ (x : ℕ). any p (entries_from el at n x)) z ∙ entries_suc n k

    -- what some of the first k do, some of the first m do
    entries_up : (n k d : ℕ) → any p (entries_from el at n k) ≡ true → any p (entries_from el at n (d + k)) ≡ true
    entries_up n k zero e = let z : 0 + k ≡ k = omega arith in rw z e
    entries_up n k (suc d) e = let z : suc d + k ≡ suc (d + k) = omega arith in rw z (entries_suc n (d + k) ∙ or_left _ (entries_up n k d e))

    pub entries_one : (n k m : ℕ) → k < m → any p (entry (n + k)) ≡ true → any p (entries_from el at n m) ≡ true
    entries_one n k m l e =
        let z : (m - suc k) + suc k ≡ m = omega arith in
        subst (λ (x : ℕ). any p (entries_from el at n x) ≡ true) z (entries_up n (suc k) (m - suc k) (entries_suc n k ∙ or_right (any p (entries_from el at n k)) e))

    pub entries_start : (n : ℕ) → any p (entries_from el at n 0) ≡ false
    unfolding entries_from
    entries_start n = refl

    pub entries_past : (n k : ℕ) → any p (entries_from el at n k) ≡ false → any p (entry (n + k)) ≡ false → any p (entries_from el at n (k + 1)) ≡ false
    entries_past n k a b = rw (entries_more n k, a, b)

  -- pushed one by one
  pub entries_none : {M q : List ℕ} {k : ℕ} (n : ℕ) → Held M q k → Grown q k M q k (Goes (entries_from el at n 0))
  unfolding entries_from
  entries_none n h = grown_nothing _ refl h

  pub entries_grown : {q q₁ q₂ M₁ M₂ : List ℕ} {i i₁ i₂ : ℕ} (n k : ℕ) → Grown q i M₁ q₁ i₁ (Goes (entries_from el at n k)) → Grown q₁ i₁ M₂ q₂ i₂ (Goes (entry (n + k)))
      → Grown q i M₂ q₂ i₂ (Goes (entries_from el at n (k + 1)))
  entries_grown n k a b = grown_join a b
      (λ t x. entries_more (is_to t) n k ∙ or_left _ x)
      (λ t x. entries_more (is_to t) n k ∙ or_right (any (is_to t) (entries_from el at n k)) x)
      (λ t x. or_either _ _ (sym (entries_more (is_to t) n k) ∙ x))

  pub entry_below : (n k m b : ℕ) → k < m → Below (entries_from el at n m) b → Below (entry (n + k)) b
  entry_below n k m b l h t x = h t (entries_one (is_to t) n k m l x)

-- the same entries, by numbers that were read
pub entries_read : (el : ℕ → Option Elem) {at at' n n' k k' : ℕ} → at ≡ at' → n ≡ n' → k ≡ k' → entries_from el at n k ≡ entries_from el at' n' k'
entries_read el a b c = cc

pub grown_read : {q M' q' : List ℕ} {k k' : ℕ} {l l' : List Step} → l ≡ l' → Grown q k M' q' k' (Goes l) → Grown q k M' q' k' (Goes l')
grown_read {q} {M'} {q'} {k} {k'} e G = subst (λ (x : List Step). Grown q k M' q' k' (Goes x)) e G

pub below_read : {l l' : List Step} {n n' : ℕ} → l ≡ l' → n ≡ n' → Below l n → Below l' n'
below_read {l' = l'} {n = n} e i b t x = omega (arith, i, b t (ap (any (is_to t)) e ∙ x))

-- ---- the answer
module _ (el : ℕ → Option Elem) (heads words catches : List ℕ) where
  -- where no instruction starts at 0, nothing is reached
  not-reached : {m p : ℕ} → get_or heads 0 0 ≡ 0 → Reach (kept_graph el heads words catches) m p → ⊥
  not-reached e (here z) = clash (sym (start_is el heads words catches 0) ∙ z) (ap not (eq-eqb (get_or heads 0 0) 0 e))
  not-reached e (next r s) = not-reached e r

  pub answered : (n : ℕ) (M : List ℕ) (r : Walked) → length M ≡ n → Answer (kept_graph el heads words catches) n M (finding_as r) → IsFound (kept_graph el heads words catches) n r M
  answered n M r len a = found (kept_good el heads words catches) len a

  pub none_answered : (n : ℕ) (M : List ℕ) → M ≡ replicate n 0 → get_or heads 0 0 ≡ 0 → Answer (kept_graph el heads words catches) n M closed
  none_answered n M clear e = record {
    claim = record { never = λ m p w. never w };
    marks = λ p l. inr (ap (λ (x : List ℕ). get_or x p 0) clear ∙ zero_at n p, λ x. not-reached e x.1);
  }
    where
      never : {m p : ℕ} → Leaving (kept_graph el heads words catches) m p → ⊥
      never (leave r x) = not-reached e r

-- ---- a part of no step, or of one, at a place whose head was read
pub leaves_nothing : (heads : List ℕ) {l : List Step} → l ≡ [] → false ≡ any (off_heads heads) l
leaves_nothing heads e = sym (ap (any (off_heads heads)) e)

pub leaves_one : (heads : List ℕ) {l : List Step} {r u : ℕ} (t : ℕ) → l ≡ to_offset t ∷ [] → u ≡ t → r ≡ get_or heads u 0 → eqb r 0 ≡ any (off_heads heads) l
leaves_one heads {r = r} t e i h = ap (λ (x : ℕ). eqb x 0) (h ∙ ap (λ (x : ℕ). get_or heads x 0) i) ∙ sym (or_none _) ∙ sym (ap (any (off_heads heads)) e)
  where
    or_none : (a : Bool) → (a || false) ≡ a
    or_none true = refl
    or_none false = refl
