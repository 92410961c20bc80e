-- The head of an instruction, its prefix and opcode, written and read back. Assumes nothing.
use Prim.Native.Nat.{ℕ, suc, ◌+◌, ◌<◌, min}
use mathlib.Core.Path.{◌≡◌, refl, sym, ap, ◌∙◌}
use mathlib.Core.Bool.{Bool, true, false, cond, not, ◌&&◌}
use mathlib.Core.List.{List, [], ◌∷◌, ◌++◌, append_assoc}
use native.Mathlib.Omega.{arith}
use borrow.Author.Tests.{lt-ltb, le-ltb, ltb-true, ltb-false, lt-leb, leb-false, eq-eqb, ne_eqb, eqb-true, eqb-false, not-true}
use lib.Dec.{leb, ltb, eqb}
use lib.ListN.{length, get_or, length-append}
use lib.Seq.{get_or-append_seam}
use Rattle.laws.specs.Scan.{first_from}
use Rattle.laws.proofs.Scan.{first_holds}
use Rattle.laws.proofs.Tests.{by_test, and_left, and_right, clash}
use Rattle.tables.specs.Records.{is_marked, first_marked, is_op}
use Rattle.flow.specs.Opcodes.{Opcodes, prefix_with, prefixes_with}
use Rattle.std.specs.Prelude.{Option, Some, None, Ok, Err}
use Rattle.prefix.specs.Head.{Begins, op_at, behind, head_at}
use Rattle.writer.specs.Bytes.{prefix_byte, head_bytes}
use Rattle.writer.specs.Write.{is_some, scale_ok, opcode_fits}
use Rattle.writer.proofs.Spans.{Spans, spans_none, spans_byte}
use Rattle.refusal.specs.declared.Fault.{Fault}
use Rattle.refusal.specs.declared.Fault.TheVariants as fault

-- an opcode with its scale, and where its operands begin
abbrev pub begun : ℕ → ℕ → ℕ → Begins
begun opcode scale at = Ok (Some (record { opcode = opcode; scale = scale; at = at }))

none_some : {A : Type 0} (n : ℕ) → ◌≡◌ {A = Option ℕ} None (Some n) → A
none_some n h = let z : ◌≡◌ {A = ℕ} 0 1 = cc in absurd (omega arith)

module _ (ops : Opcodes) where
  abbrev wide : Option ℕ
  wide = prefix_with ops 1

  abbrev extra : Option ℕ
  extra = prefix_with ops 2

  -- what the code has at a place
  abbrev pub head_of : List ℕ → ℕ → Begins
  head_of code at = head_at code ops.many at (prefixes_with ops)

  -- ---- the two prefix opcodes are not one: each has its mark
  prefix_mark_lem : (mark op : ℕ) → prefix_with ops mark ≡ Some op → ops.mark op ≡ mark
  unfolding first_marked
  prefix_mark_lem mark op h = go (ltb first n) refl h
    where
      n : ℕ
      n = min ops.many 256

      first : ℕ
      first = first_from (is_marked ops.mark mark) 0 (min ops.many 256)

      go : (b : Bool) → ltb first n ≡ b → cond b (Some first) None ≡ Some op → ops.mark op ≡ mark
      go true e l =
          let z : first ≡ op = cc in
          ap ops.mark (sym z) ∙ eqb-true (ops.mark first) mark (first_holds (is_marked ops.mark mark) 0 n (omega (arith, ltb-true first n e)))
      go false e l = none_some op l

  prefix_apart : (w x : ℕ) → wide ≡ Some w → extra ≡ Some x → x ≡ w → ⊥
  prefix_apart w x p q e =
      let z : ◌≡◌ {A = ℕ} 2 1 = sym (prefix_mark_lem 2 x q) ∙ ap ops.mark e ∙ prefix_mark_lem 1 w p in
      omega arith

  -- so a byte that is the second is not the first
  not_wide : (x : ℕ) → extra ≡ Some x → is_op wide x ≡ false
  not_wide x q = go wide refl
    where
      go : (p : Option ℕ) → wide ≡ p → is_op p x ≡ false
      go None e = refl
      go (Some w) e = ne_eqb x w (prefix_apart w x e q)

  -- ---- what was written is read
  module _ (code s : List ℕ) (opcode : ℕ) (has : opcode < ops.many) where
    not_last : (x : ℕ) (r : List ℕ) → code ≡ s ++ (x ∷ r) → (ltb (length code) (length s) ≡ false) × (eqb (length s) (length code) ≡ false) × (get_or code (length s) 0 ≡ x)
    not_last x r e =
        let n : length code ≡ length s + suc (length r) = ap length e ∙ length-append s (x ∷ r) in (
          le-ltb (length code) (length s) (omega arith),
          ne_eqb (length s) (length code) (λ p. omega arith),
          ap (λ (l : List ℕ). get_or l (length s) 0) e ∙ get_or-append_seam s x r 0,
        )

    plain-head : (r : List ℕ) → code ≡ s ++ (opcode ∷ r) → is_op wide opcode ≡ false → is_op extra opcode ≡ false → head_of code (length s) ≡ begun opcode 1 (length s + 1)
    unfolding head_at
    plain-head r e p q = let n = not_last opcode r e in rw (n.0, n.1, n.2, p, q, lt-leb ops.many opcode has)

    -- the opcode behind a prefix
    behind_as : (x : ℕ) (f : Fault) (k : ℕ) (r : List ℕ) → code ≡ s ++ (x ∷ opcode ∷ r) → behind code ops.many (length s) f k ≡ begun opcode k (length s + 2)
    behind_as x f k r e =
        let split : code ≡ (s ++ (x ∷ [])) ++ (opcode ∷ r) = e ∙ sym (append_assoc s (x ∷ []) (opcode ∷ r)) in
        let n : length (s ++ (x ∷ [])) ≡ length s + 1 = length-append s (x ∷ []) in
        let l : length code ≡ length s + 1 + suc (length r) = ap length split ∙ length-append (s ++ (x ∷ [])) (opcode ∷ r) ∙ ap (λ (m : ℕ). m + suc (length r)) n in
        let b : get_or code (length s + 1) 0 ≡ opcode =
        ap (λ (m : ℕ). get_or code m 0) (sym n) ∙ ap (λ (c : List ℕ). get_or c (length (s ++ (x ∷ []))) 0) split ∙ get_or-append_seam (s ++ (x ∷ [])) opcode r 0 in
        let z : length s + 1 + 1 ≡ length s + 2 = omega arith in
        rw (ne_eqb (length s + 1) (length code) (λ p. omega arith), b, lt-leb ops.many opcode has) (ap (λ (m : ℕ). begun opcode k m) z)

    wide_head : (w : ℕ) (r : List ℕ) → wide ≡ Some w → code ≡ s ++ (w ∷ opcode ∷ r) → head_of code (length s) ≡ begun opcode 2 (length s + 2)
    unfolding head_at
    wide_head w r p e = let n = not_last w (opcode ∷ r) e in rw (n.0, n.1, n.2, p, eq-eqb w w refl) (behind_as w fault.EndsAfterWide 2 r e)

    extra_head : (x : ℕ) (r : List ℕ) → extra ≡ Some x → code ≡ s ++ (x ∷ opcode ∷ r) → head_of code (length s) ≡ begun opcode 4 (length s + 2)
    unfolding head_at
    extra_head x r q e =
        let n = not_last x (opcode ∷ r) e in
        rw (n.0, n.1, n.2, not_wide x q, q, eq-eqb x x refl) (behind_as x fault.EndsAfterExtraWide 4 r e)

  pub written_head : (scale opcode : ℕ) (code s u : List ℕ) → scale_ok ops scale ≡ true → opcode_fits ops scale opcode ≡ true → code ≡ s ++ (head_bytes ops scale opcode ++ u)
      → head_of code (length s) ≡ begun opcode scale (length s + length (head_bytes ops scale opcode))
  unfolding head_bytes scale_ok opcode_fits
  written_head scale opcode code s u so op is = go (eqb scale 1) refl (eqb scale 2) refl so op is
    where
      -- the bytes of the head, by the tests for scale 1 and 2
      head : Bool → Bool → List ℕ
      head a b = cond a [] (cond b (prefix_byte wide) (prefix_byte extra)) ++ (opcode ∷ [])

      free : Bool
      free = not (is_op wide opcode) && not (is_op extra opcode)

      has : (y : Bool) → (ltb opcode ops.many && y) ≡ true → opcode < ops.many
      has y h = ltb-true opcode ops.many (and_left (ltb opcode ops.many) y h)

      -- at scale 2, and at scale 4
      two : (p : Option ℕ) → wide ≡ p → is_some p ≡ true → opcode < ops.many → code ≡ s ++ ((prefix_byte p ++ (opcode ∷ [])) ++ u)
          → head_of code (length s) ≡ begun opcode 2 (length s + length (prefix_byte p ++ (opcode ∷ [])))
      two None p h l e = clash h refl
      two (Some w) p h l e = wide_head code s opcode l w u p e

      four : (p : Option ℕ) → extra ≡ p → is_some p ≡ true → opcode < ops.many → code ≡ s ++ ((prefix_byte p ++ (opcode ∷ [])) ++ u)
          → head_of code (length s) ≡ begun opcode 4 (length s + length (prefix_byte p ++ (opcode ∷ [])))
      four None p h l e = clash h refl
      four (Some x) p h l e = extra_head code s opcode l x u p e

      go : (a : Bool) → eqb scale 1 ≡ a → (b : Bool) → eqb scale 2 ≡ b → cond a true (cond b (is_some wide) (eqb scale 4 && is_some extra)) ≡ true
          → (ltb opcode ops.many && cond a free true) ≡ true → code ≡ s ++ (head a b ++ u) → head_of code (length s) ≡ begun opcode scale (length s + length (head a b))
      go true p b q h k e =
          let m = and_right (ltb opcode ops.many) free k in
          let x = not-true (is_op wide opcode) (and_left (not (is_op wide opcode)) (not (is_op extra opcode)) m) in
          let y = not-true (is_op extra opcode) (and_right (not (is_op wide opcode)) (not (is_op extra opcode)) m) in
          plain-head code s opcode (has free k) u e x y ∙ ap (λ (n : ℕ). begun opcode n (length s + 1)) (sym (eqb-true scale 1 p))
      go false p true q h k e = two wide refl h (has true k) e ∙ ap (λ (n : ℕ). begun opcode n (length s + length (head false true))) (sym (eqb-true scale 2 q))
      go false p false q h k e =
          let z = eqb-true scale 4 (and_left (eqb scale 4) (is_some extra) h) in
          four extra refl (and_right (eqb scale 4) (is_some extra) h) (has true k) e ∙ ap (λ (n : ℕ). begun opcode n (length s + length (head false false))) (sym z)

  -- ---- what was read can be written, and has the bytes it was read from
  pub record Headed (code : List ℕ) (at scale opcode place : ℕ) : Type 0 where
    pub scale_fine : scale_ok ops scale ≡ true
    pub opcode_fine : opcode_fits ops scale opcode ≡ true
    pub bytes_are : Spans code at place (head_bytes ops scale opcode)

  abbrev pub HeadSays : List ℕ → ℕ → Begins → Type 0
  HeadSays code at (Ok (Some h)) = Headed code at h.scale h.opcode h.at
  HeadSays code at (Ok None) = Unit {0}
  HeadSays code at (Err r) = Unit {0}

  module _ (code : List ℕ) (at : ℕ) where
    plain_says : (below : at < length code) → is_op wide (get_or code at 0) ≡ false → is_op extra (get_or code at 0) ≡ false → HeadSays code at (op_at code ops.many at 1 at)
    unfolding scale_ok opcode_fits head_bytes
    plain_says below f g =
        by_test (HeadSays code at) (leb ops.many (get_or code at 0)) (λ k. tt)
        (λ k. record {
          scale_fine = refl;
          opcode_fine = rw (lt-ltb (get_or code at 0) ops.many (leb-false ops.many (get_or code at 0) k), f, g);
          bytes_are = spans_byte code at (at + 1) [] below (spans_none code (at + 1));
        })

    -- an opcode behind the prefix x of a scale
    behind_says : (x : ℕ) (f : Fault) (scale : ℕ) → at < length code → get_or code at 0 ≡ x → scale_ok ops scale ≡ true → eqb scale 1 ≡ false
        → ((opcode : ℕ) → head_bytes ops scale opcode ≡ x ∷ opcode ∷ []) → HeadSays code at (behind code ops.many at f scale)
    unfolding opcode_fits
    behind_says x f scale below b so n made =
        by_test (HeadSays code at) (eqb (at + 1) (length code)) (λ h. tt)
        (λ h. by_test (HeadSays code at) (leb ops.many (get_or code (at + 1) 0)) (λ k. tt)
        (λ k.
        let opcode = get_or code (at + 1) 0 in
        let room : at + 1 < length code = omega (arith, eqb-false (at + 1) (length code) h) in
        record {
          scale_fine = so;
          opcode_fine = rw (n, lt-ltb opcode ops.many (leb-false ops.many opcode k));
          bytes_are =
              rw (made opcode, ← b)
              (spans_byte code at (at + 1 + 1) (opcode ∷ []) below (spans_byte code (at + 1) (at + 1 + 1) [] room (spans_none code (at + 1 + 1))));
        }))

    wide_says : (p : Option ℕ) → wide ≡ p → at < length code → is_op p (get_or code at 0) ≡ true → HeadSays code at (behind code ops.many at fault.EndsAfterWide 2)
    unfolding scale_ok head_bytes
    wide_says None p below f = clash f refl
    wide_says (Some w) p below f = behind_says w fault.EndsAfterWide 2 below (eqb-true (get_or code at 0) w f) (rw p refl) refl (λ opcode. rw p refl)

    extra_says : (p : Option ℕ) → extra ≡ p → at < length code → is_op p (get_or code at 0) ≡ true → HeadSays code at (behind code ops.many at fault.EndsAfterExtraWide 4)
    unfolding scale_ok head_bytes
    extra_says None p below f = clash f refl
    extra_says (Some x) p below f = behind_says x fault.EndsAfterExtraWide 4 below (eqb-true (get_or code at 0) x f) (rw p refl) refl (λ opcode. rw p refl)

    pub head_says : HeadSays code at (head_of code at)
    unfolding head_at
    head_says =
        by_test (HeadSays code at) (ltb (length code) at) (λ h. tt)
        (λ h. by_test (HeadSays code at) (eqb at (length code)) (λ e. tt)
        (λ e.
        let below : at < length code = omega (arith, ltb-false (length code) at h, eqb-false at (length code) e) in
        by_test (HeadSays code at) (is_op wide (get_or code at 0)) (wide_says wide refl below)
        (λ f. by_test (HeadSays code at) (is_op extra (get_or code at 0)) (extra_says extra refl below) (plain_says below f))))
