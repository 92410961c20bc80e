-- What is kept of an instruction does the same as its steps: `kept_same`. Assumes nothing.
use Rattle.std.specs.Prelude.{ℤ}
use Prim.Native.Nat.{ℕ, zero, suc, ◌+◌, ◌<◌, ◌≤◌}
use mathlib.Core.Path.{◌≡◌, refl, sym, ap, subst, ◌∙◌}
use mathlib.Core.Bool.{Bool}
use mathlib.Core.List.{List, [], ◌∷◌, ◌++◌}
use native.Mathlib.Omega.{arith}
use lib.Dec.{ltb}
use lib.ListN.{length, get_or}
use Rattle.laws.proofs.Tests.{by_test}
use Rattle.graph.specs.Graph.{Step}
use Rattle.graph.specs.Graph.Step.{to_offset}
use Rattle.decoder.specs.declared.Instr.{Instr}
use Rattle.flow.specs.declared.Flow.{Flow}
use Rattle.flow.specs.declared.Kind.{Kind}
use Rattle.flow.specs.declared.Kind.TheVariants.{On, Ends, Jumps, Branches, JumpsBack, Switch}
use Rattle.std.specs.Prelude.{Option, Some, None, Result, Ok, Err}
use Rattle.serializer.specs.declared.Elem.{Elem}
use Rattle.targets.specs.Targets.{here, smi_of, target_from, jump_target, jump_table, entry_by, entry_at}
use Rattle.targets.specs.declared.Entries.{Entries}
use Rattle.search.specs.mirror.Kept.{shown, entries_from, kept_steps, word_of}
use Rattle.search.proofs.Kept.{Same, same_steps, same_append, same_word, form_ends, form_on, form_jump, form_branch, form_table}
use Rattle.steps.specs.Steps.{to_target, entry_steps, entries_steps, table_steps, jumps_by, on_by, jump_steps, instr_steps}
use Rattle.steps.specs.mirror.Keeping.{prefix_of, kept_table, kept_by, kept_of, stored}
use Rattle.targets.specs.declared.BadSwitch.{BadSwitch}

-- ---- the entries of a table
module _ (el : ℕ → Option Elem) (at : ℕ) (e : Entries) where
  entry_is : (k : ℕ) → entry_steps (entry_at el at e k) ≡ shown (target_from at (smi_of (el (e.start + k))))
  unfolding entry_at
  entry_is k = go (smi_of (el (e.start + k)))
    where
      go : (n : Option ℤ) → entry_steps (entry_by n at e k) ≡ shown (target_from at n)
      go (Some v) = refl
      go None = refl

  entries_are : (k n m : ℕ) → m ≡ e.start + k → entries_steps el at e k n ≡ entries_from el at m n
  unfolding entries_steps entries_from
  entries_are k zero m h = refl
  entries_are k (suc n) m h =
      ap (λ (l : List Step). l ++ entries_steps el at e (k + 1) n) (entry_is k ∙ ap (λ (x : ℕ). shown (target_from at (smi_of (el x)))) (sym h))
      ∙ ap (λ (l : List Step). shown (target_from at (smi_of (el m))) ++ l) (entries_are (k + 1) n (suc m) (omega (arith, h)))

-- ---- the steps of an instruction at o of so many bytes
module _ (el : ℕ → Option Elem) (heads words : List ℕ) (low : length heads ≤ 4294967295) (o size : ℕ) (small : size < 256) where
  -- one that has no table goes on
  goes_on : Same heads (to_offset (o + size) ∷ []) (kept_steps el words o (size + 256))
  goes_on = same_steps (sym (form_on el words o size small))

  -- a target by its word
  target_same : (t : Option ℕ) → get_or words o 0 ≡ word_of (to_target t) → Same heads (to_target t ∷ []) (to_offset (get_or words o 0) ∷ [])
  target_same t w = rw w (same_word heads low (to_target t))

  table_same : (t : Result (Option Entries) BadSwitch) (prefix at : ℕ) → prefix ≤ 1 → at ≡ o + prefix → get_or words o 0 ≡ (stored size (kept_table t prefix size)).word
      → Same heads (table_steps el at t ++ to_offset (o + size) ∷ []) (kept_steps el words o (stored size (kept_table t prefix size)).head)
  table_same (Ok None) prefix at one h w = goes_on
  table_same (Ok (Some e)) prefix at one h w =
      same_steps
      (ap (λ (l : List Step). l ++ to_offset (o + size) ∷ [])
      (entries_are el at e 0 e.count e.start (omega arith) ∙ ap (λ (x : ℕ). entries_from el x e.start e.count) h ∙ ap (λ (x : ℕ). entries_from el (o + prefix) x e.count) (sym w))
      ∙ sym (form_table el words o size small prefix e.count one))
  table_same (Err e) prefix at one h w = goes_on

  by_kind : (k : Kind) (t : Option ℕ) (entries : Result (Option Entries) BadSwitch) (prefix at : ℕ) → prefix ≤ 1 → at ≡ o + prefix → get_or words o 0 ≡ (stored size (kept_by k t entries prefix size)).word
      → Same heads (jumps_by k t (table_steps el at entries) ++ on_by k (o + size)) (kept_steps el words o (stored size (kept_by k t entries prefix size)).head)
  by_kind On t entries prefix at one h w = goes_on
  by_kind Ends t entries prefix at one h w = same_steps (sym (form_ends el words o size small))
  by_kind Jumps t entries prefix at one h w = rw (form_jump el words o size small) (target_same t w)
  by_kind JumpsBack t entries prefix at one h w = rw (form_jump el words o size small) (target_same t w)
  by_kind Branches t entries prefix at one h w = rw (form_branch el words o size small) (same_append (target_same t w) (same_steps refl))
  by_kind Switch t entries prefix at one h w = table_same entries prefix at one h w

  module _ (i : Instr) (own : i.offset ≡ o) (ends : i.end ≡ o + size) (inside : o ≤ 4294967295) where
    one_byte : prefix_of i.scale ≤ 1
    one_byte = by_test (λ (p : ℕ). p ≤ 1) (ltb 1 i.scale) (λ _. omega arith) (λ _. omega arith)

    -- the word at o is what is kept of it
    pub kept_same : (pooled : Bool) (flow : Flow) → get_or words o 0 ≡ (stored size (kept_of el pooled flow i size)).word
        → Same heads (instr_steps el pooled flow i) (kept_steps el words o (stored size (kept_of el pooled flow i size)).head)
    unfolding instr_steps kept_of
    kept_same pooled flow w =
        subst (λ (e : ℕ). Same heads (jump_steps el pooled flow i ++ on_by flow.kind e) (kept_steps el words o (stored size (kept_of el pooled flow i size)).head)) (sym ends)
        (by_kind flow.kind (jump_target el flow i) (jump_table pooled flow i) (prefix_of i.scale) (here i) one_byte (omega (arith, own, inside, one_byte)) w)
