-- The pass that keeps the instructions of a code: what holds at each of them, and what its end says. Assumes nothing.
use Prim.Native.Nat.{ℕ, suc, ◌-◌, ◌<◌}
use mathlib.Core.Path.{◌≡◌, refl, sym, ap, subst, ◌∙◌}
use mathlib.Core.Bool.{Bool, true, false, not, ◌||◌}
use mathlib.Core.List.{List, map}
use mathlib.Core.Logic.{⊎_elim}
use native.Mathlib.Omega.{arith}
use borrow.Author.Tests.{eq-eqb, ne_eqb}
use lib.Dec.{eqb}
use lib.ListN.{length, get_or, set, length-set}
use lib.Seq.{get_or-set_same, get_or-set_other}
use Rattle.laws.proofs.Tests.{same?}
use Rattle.refusal.specs.Refusal.{Refusal}
use Rattle.std.specs.Prelude.{None, Result, Ok, Err}
use Rattle.refusal.specs.Check.{Check}
use Rattle.std.specs.Result.{result_and, result_unwrap_or}
use Rattle.refusal.specs.Check.{first_refusal}
use Rattle.decoder.specs.declared.Instr.{Instr}
use Rattle.decoder.specs.Decode.{Decoded, Done, instr_in}
use Rattle.targets.specs.declared.BadSwitch.{BadSwitch}
use Rattle.targets.specs.Targets.{jump_table}
use Rattle.function.specs.Code.{table_check}
use Rattle.function.proofs.Passing.{all_of, rest_of, Going, going_start, going_refused, going_end, going_instrs, going_done}
use Rattle.graph.specs.Lists.{elem}
use Rattle.graph.specs.Graph.{is_start}
use Rattle.steps.specs.declared.Kept.{Kept}
use Rattle.steps.specs.Steps.{Source, offset, walk_graph}
use Rattle.steps.specs.mirror.Keeping.{kept_on, decoded_at, kept_of, stored, kept_at, Holds}
use Rattle.steps.proofs.Laws.{refused_is, head_most}
use Rattle.steps.proofs.Listed.{own_offset}
use Rattle.steps.proofs.Keeps.{behind}
use Rattle.walk.specs.mirror.Search.{Clear, kept_check, Started}
use Rattle.walk.proofs.Laws.{kept_is_refused, and_is, stored_is}

or_false : (a : Bool) → (a || false) ≡ a
or_false true = refl
or_false false = refl

or_three : (a b c : Bool) → (a || (b || c)) ≡ ((a || b) || c)
or_three true b c = refl
or_three false b c = refl

or_true : (a : Bool) → (a || true) ≡ true
or_true true = refl
or_true false = refl

-- whether there is a head at t
abbrev headed : List ℕ → ℕ → Bool
headed H t = not (eqb (get_or H t 0) 0)

no_head : (H : List ℕ) (t : ℕ) → get_or H t 0 ≡ 0 → headed H t ≡ false
no_head H t e = ap not (eq-eqb _ _ e)

a_head : (H : List ℕ) (t : ℕ) → (get_or H t 0 ≡ 0 → ⊥) → headed H t ≡ true
a_head H t e = ap not (ne_eqb _ _ e)

-- one more head, at i
set-head : (H : List ℕ) (i v t : ℕ) → i < length H → (v ≡ 0 → ⊥) → headed (set H i v) t ≡ (headed H t || eqb t i)
set-head H i v t h some =
    ⊎_elim
    (λ e. a_head (set H i v) t (λ z. some (sym (get_or-set_same H i v 0 h) ∙ ap (λ (p : ℕ). get_or (set H i v) p 0) (sym e) ∙ z)) ∙ sym (ap (λ (b : Bool). headed H t || b) (eq-eqb t i e) ∙ or_true (headed H t)))
    (λ ne. ap (λ (x : ℕ). not (eqb x 0)) (get_or-set_other H i t v 0 ne) ∙ sym (ap (λ (b : Bool). headed H t || b) (ne_eqb t i ne) ∙ or_false (headed H t)))
    (same? t i)

module _ (s : Source) where
  abbrev d : ℕ → Decoded
  d = decoded_at s

  abbrev len : ℕ
  len = length s.code

  -- some instructions are passed, up to place i of the code, and are kept
  pub record Keeping (H W : List ℕ) (check : Check) (i : ℕ) : Type 0 where
    pub going : Going s.opcodes s.pooled d len check i
    pub starts : (t : ℕ) → elem t (map offset (all_of d len).instrs) ≡ (headed H t || elem t (map offset (rest_of d len going.passed i).instrs))
    pub holds : (t : ℕ) → (get_or H t 0 ≡ 0 → ⊥) → Holds s H W t
    pub heads : length H ≡ len
    pub words : length W ≡ len

  pub keeping_start : {H W : List ℕ} → Clear H → length H ≡ len → length W ≡ len → Keeping H W (Ok tt) 0
  unfolding going_start
  keeping_start {H} {W} c h w =
      let z : suc len - 0 ≡ suc len = omega arith in
      record { going = going_start s.opcodes s.pooled d len; starts = λ t. rw (z, no_head H t (c t)) refl; holds = λ t n. absurd (n (c t)); heads = h; words = w }

  module _ {H W : List ℕ} {check : Check} {i : ℕ} (m : Keeping H W check i) where
    pub keeping_refused : (r : Refusal) → d i ≡ Err r → Started s H W (Err r)
    keeping_refused r e =
        let g = going_refused s.opcodes s.pooled d len m.going r e in
        record { checked = g.0; keeps = λ ok. absurd (g.1 ok) }

    pub keeping_end : d i ≡ Ok None → Started s H W check
    unfolding is_start walk_graph
    keeping_end e =
        let g = going_end s.opcodes s.pooled d len m.going e in
        record {
          checked = g.0;
          keeps = λ ok. record { starts = λ t. m.starts t ∙ ap (λ (is : List Instr). headed H t || elem t (map offset is)) g.1 ∙ or_false (headed H t); holds = m.holds };
        }

    module _ (done : Done (d i)) where
      -- the instruction at i, what is kept of it, and what is stored
      abbrev x : Instr
      x = instr_in (d i)

      abbrev kept : Result Kept BadSwitch
      kept = kept_of s.elem s.pooled (s.opcodes.flow x.opcode) x (x.end - i)

      abbrev at_i : Kept
      at_i = kept_at s i

      some_head : at_i.head ≡ 0 → ⊥
      unfolding kept_at
      some_head z = omega (arith, z, behind s i done, head_most s.elem s.pooled (s.opcodes.flow x.opcode) x (x.end - i))

      in_heads : i < length H
      in_heads = omega (arith, behind s i done, m.heads)

      in_words : i < length W
      in_words = omega (arith, behind s i done, m.words)

      checked : (c' : Check) → c' ≡ result_and check (kept_check kept i) → c' ≡ first_refusal check (table_check (jump_table s.pooled (s.opcodes.flow x.opcode) x) x.offset)
      checked c' is =
          let t = jump_table s.pooled (s.opcodes.flow x.opcode) x in
          is ∙ and_is check (kept_check kept i)
          ∙ ap (first_refusal check) (kept_is_refused kept t i (refused_is s.elem s.pooled (s.opcodes.flow x.opcode) x (x.end - i)) ∙ ap (table_check t) (sym (own_offset s.code s.opcodes s.types s.rfs i done)))

      now_holds : (t : ℕ) → (get_or (set H i at_i.head) t 0 ≡ 0 → ⊥) → Holds s (set H i at_i.head) (set W i at_i.word) t
      now_holds t n =
          ⊎_elim
          (λ e. subst (Holds s (set H i at_i.head) (set W i at_i.word)) (sym e) (record { done = done; head = get_or-set_same H i at_i.head 0 in_heads; word = get_or-set_same W i at_i.word 0 in_words }))
          (λ ne. let h = get_or-set_other H i t at_i.head 0 ne in let x = m.holds t (λ z. n (h ∙ z)) in record { done = x.done; head = h ∙ x.head; word = get_or-set_other W i t at_i.word 0 ne ∙ x.word })
          (same? t i)

      pub keeping_done : (c' : Check) → c' ≡ result_and check (kept_check kept i) → Keeping (set H i at_i.head) (set W i at_i.word) c' x.end
      unfolding going_done
      keeping_done c' is =
          let g = m.going in
          let b = behind s i done in
          let r = (rest_of d len (suc g.passed) x.end).instrs in
          record {
            going = going_done s.opcodes s.pooled d len g c' done b.0 b.1 (checked c' is);
            starts = λ t. m.starts t ∙ ap (λ (is : List Instr). headed H t || elem t (map offset is)) (going_instrs s.opcodes s.pooled d len g done)
                ∙ or_three (headed H t) (eqb t x.offset) (elem t (map offset r))
                ∙ ap (λ (b : Bool). b || elem t (map offset r)) (ap (λ (p : ℕ). headed H t || eqb t p) (own_offset s.code s.opcodes s.types s.rfs i done) ∙ sym (set-head H i at_i.head t in_heads some_head));
            holds = now_holds;
            heads = length-set H i at_i.head ∙ m.heads;
            words = length-set W i at_i.word ∙ m.words;
          }

      -- the same, of what calls gave
      pub kept_done : (k : Result Kept BadSwitch) (size : ℕ) (on p : Kept) (c' : Check) (e : ℕ) → k ≡ kept → size ≡ x.end - i → on ≡ kept_on size → p ≡ result_unwrap_or k on → c' ≡ result_and check (kept_check k i) → e ≡ x.end
          → Keeping (set H i p.head) (set W i p.word) c' e
      unfolding kept_at
      kept_done k size on p c' e is long goes has checked ends =
          let h : p ≡ at_i = has ∙ ap (result_unwrap_or k) (goes ∙ ap kept_on long) ∙ stored_is (x.end - i) k ∙ ap (stored (x.end - i)) is in
          subst (λ (y : Kept). Keeping (set H i y.head) (set W i y.word) c' e) (sym h)
          (subst (Keeping (set H i at_i.head) (set W i at_i.word) c') (sym ends) (keeping_done c' (checked ∙ ap (λ (y : Result Kept BadSwitch). result_and check (kept_check y i)) is)))
