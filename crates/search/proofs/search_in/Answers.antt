use mathlib.Core.Path.{sym, ap, ◌∙◌, subst}
use mathlib.Core.List.{List}
use Prim.Native.Nat.{ℕ}
use native.Mathlib.Omega.{arith}
use lib.ListN.{length, replicate}
use Rattle.graph.specs.mirror.Queue.{Held}
use Rattle.graph.proofs.Queues.{held_none}
use Rattle.targets.specs.mirror.Search.{pool_searched}
use Rattle.search.specs.declared.Walked.TheVariants.{Closed}
use Rattle.search.proofs.Laws.{a_first, answered, none_answered}
use Rattle.search.proofs.search_in.Goals as goal

pub returns-then-number_at-eq0 : goal.returns-then-number_at-eq0
returns-then-number_at-eq0 c =
    let s = c in
    let a = s.args in
    let el = pool_searched a.slots.now a.payload.now a.e.ts a.e.pool in
    let m = c.fill in
    let z = m.ensures.after (λ y h. h) ∙ ap (λ (n : ℕ). replicate n 0) s.requires.0.as_many in
    answered el a.heads.now a.words.now a.catches.now _ _ Closed (m.auto.self ∙ s.requires.0.as_many) (none_answered el a.heads.now a.words.now a.catches.now _ _ z (sym c.number_at.ensures ∙ c.if-number_at-eq0.true))

pub levels-requires : goal.levels-requires
levels-requires c =
    let s = c in
    let a = s.args in
    let m = c.fill in (
      subst (λ (M : List ℕ). Held M a.queue.now 0) (sym (m.ensures.after (λ y h. h))) (held_none (length a.marks.now) a.queue.now (omega (arith, s.requires.0.as_many, s.requires.0.room)) (omega (arith, s.requires.0.as_many, s.requires.0.small))),
      m.auto.self ∙ s.requires.0.as_many,
      a_first (pool_searched a.slots.now a.payload.now a.e.ts a.e.pool) a.heads.now a.words.now a.catches.now (λ z. c.if-number_at-eq0.false (c.number_at.ensures ∙ z)),
      s.requires.1,
    )

pub returns : goal.returns
returns c =
    let s = c in
    let a = s.args in
    answered (pool_searched a.slots.now a.payload.now a.e.ts a.e.pool) a.heads.now a.words.now a.catches.now _ _ c.levels.result (c.levels.auto.marks ∙ c.fill.auto.self ∙ s.requires.0.as_many) c.levels.ensures
