-- The operands of a list of types, written and read back. Assumes nothing.
use Prim.Native.Nat.{ℕ, ◌+◌, ◌%◌, ◌^◌, ◌≤◌}
use mathlib.Core.Path.{◌≡◌, refl, sym, ap, ◌∙◌}
use mathlib.Core.Bool.{Bool, true, false, cond, ◌&&◌}
use mathlib.Core.List.{List, [], ◌∷◌, ◌++◌, append_assoc, append-nil}
use mathlib.Core.Logic.{◌⊎◌, inl, inr, ⊎_elim}
use native.Mathlib.Omega.{arith}
use native.Mathlib.Nat.{mod-eq_of_lt, lt_of_lt_of_le, pow-le-pow_right}
use borrow.Author.Tests.{le-leb, leb-true}
use lib.Dec.{eqb, leb}
use lib.ListN.{length, take, drop, length-append}
use lib.Seq.{drop-drop, take-add}
use lib.IntN.{ℤ}
use Rattle.laws.proofs.Tests.{and_left, and_right, and_both, clash, either, same?}
use Rattle.words.specs.Le.{le_at, le_bytes}
use Rattle.words.proofs.Le.{Bytes, le_at-lt}
use Rattle.words.proofs.LeBytes.{length_bytes, le_of_bytes, bytes_mod, bytes_of-le}
use Rattle.refusal.specs.Refusal.{Refusal}
use Rattle.refusal.specs.Check.{refusal_at}
use Rattle.tables.specs.Records.{width}
use Rattle.operand.specs.Operand.{kinds, kind_of, of_kind, is_list, interpret}
use Rattle.operand.specs.Operand.Kind.{list}
use Rattle.operand.specs.declared.Operand.{Operand}
use Rattle.decoder.proofs.Agree.{Got, add, got}
use Rattle.decoder.proofs.Agree.Got.{bad, good}
use Rattle.writer.specs.Bytes.{stored_of, count_of, operand_bytes, bytes_by}
use Rattle.writer.specs.Write.{same_operand, back_as, reads_back, operands_ok}
use Rattle.writer.specs.Narrow.{Narrow, AllNarrow}
use Rattle.writer.proofs.Spans.{front, Spans, spans_none, spans_more}
use Rattle.writer.proofs.Operands.{same_itself, same_one, back_same, stored_low}
use Rattle.refusal.specs.declared.Fault.TheVariants as fault

-- a list is of the kind that keeps its count
list_kind : (t : ℕ) → is_list t ≡ true → kind_of t ≡ list
unfolding is_list kind_of kinds
list_kind t h =
    let p = leb-true 6 t (and_left (leb 6 t) (leb t 7) h) in
    let q = leb-true t 7 (and_right (leb 6 t) (leb t 7) h) in
    ⊎_elim (λ (e : t ≡ 6). rw e) (λ (n : t ≡ 6 → ⊥). let e : t ≡ 7 = omega arith in rw e) (same? t 6)

list_count : (t v w c : ℕ) (rfs : ℤ) → is_list t ≡ true → count_of (interpret t v w c rfs) ≡ c
unfolding interpret of_kind
list_count t v w c rfs h = rw (list_kind t h)

not_good : {P : Type 0} (r : Refusal) (e : ℕ) (os : List Operand) → bad r ≡ good e os → P
not_good r e os h = let z : ◌≡◌ {A = ℕ} 0 1 = cc in absurd (omega arith)

module _ (types : List ℕ) (scale : ℕ) (rfs : ℤ) where
  abbrev own : ℕ → ℕ
  own t = width types t scale

  abbrev counts : ℕ
  counts = width types 8 scale

  -- how many bytes an operand takes, a list its count's too
  abbrev size_by : Bool → ℕ → ℕ
  size_by r t = own t + cond r counts 0

  abbrev pub size_of : ℕ → ℕ
  size_of t = size_by (is_list t) t

  pub operand_size : (t : ℕ) (o : Operand) → length (operand_bytes types scale rfs t o) ≡ size_of t
  unfolding operand_bytes
  operand_size t o = go (is_list t)
    where
      go : (r : Bool) → length (le_bytes (own t) (stored_of rfs o) ++ cond r (le_bytes counts (count_of o)) []) ≡ size_by r t
      go true = omega (arith, length-append (le_bytes (own t) (stored_of rfs o)) (le_bytes counts (count_of o)), length_bytes (own t) (stored_of rfs o), length_bytes counts (count_of o))
      go false = omega (arith, length-append (le_bytes (own t) (stored_of rfs o)) [], length_bytes (own t) (stored_of rfs o))

  -- the operand of type t at a place, with the count behind it if it is a list
  abbrev read_by : List ℕ → ℕ → ℕ → Bool → Operand
  read_by code at t r = interpret t (le_at code at (own t)) (own t) (cond r (le_at code (at + own t) counts % 2 ^ 32) 0) rfs

  -- ---- a type in front of others: the RegCount of the list before it, or an operand
  module _ (t : ℕ) (ts : List ℕ) (after : Bool) where
    pub ok_skip : (os : List Operand) → (eqb t 8 && after) ≡ true → operands_ok types scale rfs after (t ∷ ts) os ≡ operands_ok types scale rfs false ts os
    unfolding operands_ok
    ok_skip [] h = rw h
    ok_skip (o ∷ os) h = rw h

    ok_none : (eqb t 8 && after) ≡ false → operands_ok types scale rfs after (t ∷ ts) [] ≡ false
    unfolding operands_ok
    ok_none h = rw h

    pub ok_one : (o : Operand) (os : List Operand) → (eqb t 8 && after) ≡ false
        → operands_ok types scale rfs after (t ∷ ts) (o ∷ os) ≡ (reads_back types scale rfs t o && operands_ok types scale rfs (is_list t) ts os)
    unfolding operands_ok
    ok_one o os h = rw h

    bytes_skip : (os : List Operand) → (eqb t 8 && after) ≡ true → bytes_by types scale rfs after (t ∷ ts) os ≡ bytes_by types scale rfs false ts os
    unfolding bytes_by
    bytes_skip [] h = none ts
      where
        none : (ts : List ℕ) → [] ≡ bytes_by types scale rfs false ts []
        none [] = refl
        none (t ∷ ts) = refl
    bytes_skip (o ∷ os) h = rw h

    bytes_one : (o : Operand) (os : List Operand) → (eqb t 8 && after) ≡ false
        → bytes_by types scale rfs after (t ∷ ts) (o ∷ os) ≡ operand_bytes types scale rfs t o ++ bytes_by types scale rfs (is_list t) ts os
    unfolding bytes_by
    bytes_one o os h = rw h

    module _ (code : List ℕ) (at : ℕ) where
      got_skip : (eqb t 8 && after) ≡ true → got code types scale rfs after at (t ∷ ts) ≡ got code types scale rfs false at ts
      unfolding got
      got_skip h = rw h

      -- the operand at place at, and those behind it
      got_one : (eqb t 8 && after) ≡ false → at + size_of t ≤ length code
          → got code types scale rfs after at (t ∷ ts) ≡ add (read_by code at t (is_list t)) (got code types scale rfs (is_list t) (at + size_of t) ts)
      unfolding got
      got_one h room = rw h (go (is_list t) room)
        where
          go : (r : Bool) → at + size_by r t ≤ length code
              → cond (leb (at + own t) (length code))
              (cond r
              (cond (leb (at + own t + counts) (length code)) (add (read_by code at t true) (got code types scale rfs true (at + own t + counts) ts)) (bad (refusal_at fault.EndsInCount (at + own t))))
              (add (read_by code at t false) (got code types scale rfs false (at + own t) ts)))
              (bad (refusal_at fault.EndsInOperand at))
              ≡ add (read_by code at t r) (got code types scale rfs r (at + size_by r t) ts)
          go true room =
              let e : at + own t + counts ≡ at + (own t + counts) = omega arith in
              rw (le-leb (at + own t) (length code) (omega arith), le-leb (at + own t + counts) (length code) (omega arith), e)
          go false room =
              let e : at + own t ≡ at + (own t + 0) = omega arith in
              rw (le-leb (at + own t) (length code) (omega arith)) (ap (λ (k : ℕ). add (read_by code at t false) (got code types scale rfs false k ts)) e)

      -- what follows where all was read
      record NextBy (r : Bool) (e : ℕ) (os : List Operand) : Type 0 where
        rest : List Operand
        inside : at + size_by r t ≤ length code
        reads : got code types scale rfs r (at + size_by r t) ts ≡ good e rest
        is : os ≡ read_by code at t r ∷ rest

      got_next : (e : ℕ) (os : List Operand) → (eqb t 8 && after) ≡ false → got code types scale rfs after at (t ∷ ts) ≡ good e os → NextBy (is_list t) e os
      unfolding got
      got_next e os h g = go (is_list t) (leb (at + own t) (length code)) refl (leb (at + own t + counts) (length code)) refl (rw h at g)
        where
          add_good : (o : Operand) (g : Got) → add o g ≡ good e os → (l : List Operand) × (g ≡ good e l) × (os ≡ o ∷ l)
          add_good o (bad r) h = not_good r e os h
          add_good o (good f l) h = let p : f ≡ e = cc in let q : os ≡ o ∷ l = cc in (l, ap (λ (k : ℕ). good k l) p, q)

          go : (r q : Bool) → leb (at + own t) (length code) ≡ q → (u : Bool) → leb (at + own t + counts) (length code) ≡ u
              → cond q
              (cond r
              (cond u (add (read_by code at t true) (got code types scale rfs true (at + own t + counts) ts)) (bad (refusal_at fault.EndsInCount (at + own t))))
              (add (read_by code at t false) (got code types scale rfs false (at + own t) ts)))
              (bad (refusal_at fault.EndsInOperand at))
              ≡ good e os → NextBy r e os
          go r false p u m g = not_good (refusal_at fault.EndsInOperand at) e os g
          go true true p false m g = not_good (refusal_at fault.EndsInCount (at + own t)) e os g
          go true true p true m g =
              let i = add_good (read_by code at t true) (got code types scale rfs true (at + own t + counts) ts) g in
              let z : at + (own t + counts) ≡ at + own t + counts = omega arith in
              record {
                rest = i.0;
                inside = omega (arith, leb-true (at + own t + counts) (length code) m);
                reads = ap (λ (k : ℕ). got code types scale rfs true k ts) z ∙ i.1;
                is = i.2;
              }
          go false true p u m g =
              let i = add_good (read_by code at t false) (got code types scale rfs false (at + own t) ts) g in
              let z : at + (own t + 0) ≡ at + own t = omega arith in
              record {
                rest = i.0;
                inside = omega (arith, leb-true (at + own t) (length code) p);
                reads = ap (λ (k : ℕ). got code types scale rfs false k ts) z ∙ i.1;
                is = i.2;
              }

  -- ---- what was written, with anything before and behind it, is read as it was given
  operand_read : (t : ℕ) (o : Operand) (code s u : List ℕ) → code ≡ s ++ (operand_bytes types scale rfs t o ++ u) → reads_back types scale rfs t o ≡ true → read_by code (length s) t (is_list t) ≡ o
  unfolding operand_bytes reads_back back_as
  operand_read t o code s u is ok =
      ap (λ (v : ℕ). interpret t v (own t) (cond (is_list t) (le_at code (length s + own t) counts % 2 ^ 32) 0) rfs) (value (is_list t) is)
      ∙ ap (λ (c : ℕ). interpret t (stored_of rfs o % 256 ^ own t) (own t) c rfs) (count (is_list t) is) ∙ same_one (back_as t (own t) counts rfs o) o ok
    where
      L : List ℕ
      L = le_bytes (own t) (stored_of rfs o)

      C : List ℕ
      C = le_bytes counts (count_of o)

      value : (r : Bool) → code ≡ s ++ ((L ++ cond r C []) ++ u) → le_at code (length s) (own t) ≡ stored_of rfs o % 256 ^ own t
      value r e =
          ap (λ (c : List ℕ). le_at c (length s) (own t)) (e ∙ ap (λ (l : List ℕ). s ++ l) (append_assoc L (cond r C []) u)) ∙ le_of_bytes s (own t) (stored_of rfs o) (cond r C [] ++ u)

      count : (r : Bool) → code ≡ s ++ ((L ++ cond r C []) ++ u) → cond r (le_at code (length s + own t) counts % 2 ^ 32) 0 ≡ cond r (count_of o % 256 ^ counts % 2 ^ 32) 0
      count false e = refl
      count true e =
          let n : length (s ++ L) ≡ length s + own t = length-append s L ∙ ap (λ (k : ℕ). length s + k) (length_bytes (own t) (stored_of rfs o)) in
          ap (λ (v : ℕ). v % 2 ^ 32)
          (ap (λ (k : ℕ). le_at code k counts) (sym n) ∙ ap (λ (c : List ℕ). le_at c (length (s ++ L)) counts) (e ∙ front s L C u) ∙ le_of_bytes (s ++ L) counts (count_of o) u)

  pub written_reads : (ts : List ℕ) (after : Bool) (os : List Operand) (code s u : List ℕ) → code ≡ s ++ (bytes_by types scale rfs after ts os ++ u)
      → operands_ok types scale rfs after ts os ≡ true → got code types scale rfs after (length s) ts ≡ good (length s + length (bytes_by types scale rfs after ts os)) os
  unfolding got bytes_by operands_ok
  written_reads [] after [] code s u is ok = let z : length s ≡ length s + 0 = omega arith in ap (λ (n : ℕ). good n []) z
  written_reads [] after (o ∷ os) code s u is ok = clash ok refl
  written_reads (t ∷ ts) after os code s u is ok = go os (either (eqb t 8 && after)) (written_reads ts) is ok
    where
      Reads : List ℕ → Bool → List Operand → List ℕ → List ℕ → List ℕ → Type 0
      Reads ts after os code s u =
          code ≡ s ++ (bytes_by types scale rfs after ts os ++ u) → operands_ok types scale rfs after ts os ≡ true
          → got code types scale rfs after (length s) ts ≡ good (length s + length (bytes_by types scale rfs after ts os)) os

      All : Type 0
      All = (after : Bool) (os : List Operand) (code s u : List ℕ) → Reads ts after os code s u

      skip : (os : List Operand) → (eqb t 8 && after) ≡ true → All → Reads (t ∷ ts) after os code s u
      skip os h rest is ok =
          let same = bytes_skip t ts after os h in
          got_skip t ts after code (length s) h
          ∙ rest false os code s u (is ∙ ap (λ (l : List ℕ). s ++ (l ++ u)) same) (sym (ok_skip t ts after os h) ∙ ok)
          ∙ ap (λ (l : List ℕ). good (length s + length l) os) (sym same)

      one : (o : Operand) (os : List Operand) → (eqb t 8 && after) ≡ false → All → Reads (t ∷ ts) after (o ∷ os) code s u
      one o os h rest is ok =
          let A = operand_bytes types scale rfs t o in
          let B = bytes_by types scale rfs (is_list t) ts os in
          let same : bytes_by types scale rfs after (t ∷ ts) (o ∷ os) ≡ A ++ B = bytes_one t ts after o os h in
          let both = sym (ok_one t ts after o os h) ∙ ok in
          let e : code ≡ s ++ ((A ++ B) ++ u) = is ∙ ap (λ (l : List ℕ). s ++ (l ++ u)) same in
          let n : length (s ++ A) ≡ length s + size_of t = length-append s A ∙ ap (λ (k : ℕ). length s + k) (operand_size t o) in
          let room : length s + size_of t ≤ length code = omega (arith, ap length (e ∙ front s A B u), length-append (s ++ A) (B ++ u)) in
          let back = operand_read t o code s (B ++ u) (e ∙ ap (λ (l : List ℕ). s ++ l) (append_assoc A B u)) (and_left (reads_back types scale rfs t o) (operands_ok types scale rfs (is_list t) ts os) both) in
          let on = rest (is_list t) os code (s ++ A) u (e ∙ front s A B u) (and_right (reads_back types scale rfs t o) (operands_ok types scale rfs (is_list t) ts os) both) in
          let m : length (s ++ A) + length B ≡ length s + length (A ++ B) = omega (arith, length-append s A, length-append A B) in
          got_one t ts after code (length s) h room ∙ ap (λ (x : Operand). add x (got code types scale rfs (is_list t) (length s + size_of t) ts)) back
          ∙ ap (λ (k : ℕ). add o (got code types scale rfs (is_list t) k ts)) (sym n) ∙ ap (add o) on ∙ ap (λ (k : ℕ). good k (o ∷ os)) m ∙ ap (λ (l : List ℕ). good (length s + length l) (o ∷ os)) (sym same)

      go : (os : List Operand) → ((eqb t 8 && after) ≡ true) ⊎ ((eqb t 8 && after) ≡ false) → All → Reads (t ∷ ts) after os code s u
      go os (inl h) rest is ok = skip os h rest is ok
      go [] (inr h) rest is ok = clash ok (ok_none t ts after h)
      go (o ∷ os) (inr h) rest is ok = one o os h rest is ok

  -- ---- what was read, written
  module _ (code : List ℕ) (bytes : Bytes code) where
    operand_back : (t at : ℕ) → reads_back types scale rfs t (read_by code at t (is_list t)) ≡ true
    unfolding reads_back
    operand_back t at =
        let o = read_by code at t (is_list t) in
        let v = le_at code at (own t) in
        let c = le_at code (at + own t) counts in
        ap (λ (x : Operand). same_operand x o) (back_same t v (own t) c counts rfs (le_at-lt code bytes at (own t)) (le_at-lt code bytes (at + own t) counts)) ∙ same_itself o

    -- it is accepted, by any table
    pub read_accepted : (ts : List ℕ) (after : Bool) (at e : ℕ) (os : List Operand) → got code types scale rfs after at ts ≡ good e os → operands_ok types scale rfs after ts os ≡ true
    unfolding got operands_ok
    read_accepted [] after at e os h = let z : os ≡ [] = cc in rw z
    read_accepted (t ∷ ts) after at e os h =
        ⊎_elim (λ (p : (eqb t 8 && after) ≡ true). ok_skip t ts after os p ∙ read_accepted ts false at e os (sym (got_skip t ts after code at p) ∙ h))
        (λ (p : (eqb t 8 && after) ≡ false).
        let n = got_next t ts after code at e os p h in
        ap (operands_ok types scale rfs after (t ∷ ts)) n.is ∙ ok_one t ts after (read_by code at t (is_list t)) n.rest p
        ∙ and_both (operand_back t at) (read_accepted ts (is_list t) (at + size_of t) e n.rest n.reads))
        (either (eqb t 8 && after))

    -- an operand's own bytes are those it was read from, and so are its count's
    own_bytes : (t at c : ℕ) → Narrow (kind_of t) (own t) → at + own t ≤ length code → le_bytes (own t) (stored_of rfs (interpret t (le_at code at (own t)) (own t) c rfs)) ≡ take (own t) (drop at code)
    own_bytes t at c narrow room =
        let v = le_at code at (own t) in
        let h = le_at-lt code bytes at (own t) in
        bytes_mod (own t) (stored_of rfs (interpret t v (own t) c rfs)) v (stored_low t v (own t) c rfs h narrow ∙ sym (mod-eq_of_lt h)) ∙ bytes_of-le code bytes (own t) at room

    count_bytes : (t v w at : ℕ) → is_list t ≡ true → counts ≤ 4 → at + counts ≤ length code → le_bytes counts (count_of (interpret t v w (le_at code at counts % 2 ^ 32) rfs)) ≡ take counts (drop at code)
    count_bytes t v w at f narrow room =
        let c = le_at code at counts in
        let e : c % 2 ^ 32 ≡ c = mod-eq_of_lt (lt_of_lt_of_le (le_at-lt code bytes at counts) (pow-le-pow_right {n = 256} (omega arith) narrow)) in
        ap (le_bytes counts) (list_count t v w (c % 2 ^ 32) rfs f ∙ e) ∙ bytes_of-le code bytes counts at room

    operand_bytes_lem : (t at : ℕ) → Narrow (kind_of t) (own t) → (is_list t ≡ true → counts ≤ 4) → at + size_of t ≤ length code
        → operand_bytes types scale rfs t (read_by code at t (is_list t)) ≡ take (size_of t) (drop at code)
    unfolding operand_bytes
    operand_bytes_lem t at narrow counted room = go (is_list t) refl room
      where
        go : (r : Bool) → is_list t ≡ r → at + size_by r t ≤ length code
            → le_bytes (own t) (stored_of rfs (read_by code at t r)) ++ cond r (le_bytes counts (count_of (read_by code at t r))) [] ≡ take (size_by r t) (drop at code)
        go true f room =
            let c = le_at code (at + own t) counts % 2 ^ 32 in
            rw (own_bytes t at c narrow (omega arith), count_bytes t (le_at code at (own t)) (own t) (at + own t) f (counted f) (omega arith), take-add (own t) counts (drop at code), drop-drop (own t) at code)
        go false f room = let z : own t + 0 ≡ own t = omega arith in rw (own_bytes t at 0 narrow (omega arith), append-nil (take (own t) (drop at code)), z)

    -- where the widths are narrow it is written as the bytes it was read from
    pub read_writes : (ts : List ℕ) (after : Bool) (at e : ℕ) (os : List Operand) → AllNarrow types scale ts → got code types scale rfs after at ts ≡ good e os
        → Spans code at e (bytes_by types scale rfs after ts os)
    unfolding got bytes_by
    read_writes [] after at e os narrow h = let p : at ≡ e = cc in rw p (spans_none code e)
    read_writes (t ∷ ts) after at e os narrow h =
        ⊎_elim (λ (p : (eqb t 8 && after) ≡ true). rw (bytes_skip t ts after os p) (read_writes ts false at e os narrow.2 (sym (got_skip t ts after code at p) ∙ h)))
        (λ (p : (eqb t 8 && after) ≡ false).
        let n = got_next t ts after code at e os p h in
        let o = read_by code at t (is_list t) in
        let s : bytes_by types scale rfs after (t ∷ ts) os ≡ operand_bytes types scale rfs t o ++ bytes_by types scale rfs (is_list t) ts n.rest =
        ap (bytes_by types scale rfs after (t ∷ ts)) n.is ∙ bytes_one t ts after o n.rest p in
        rw s
        (spans_more code at (size_of t) e (operand_bytes types scale rfs t o) (bytes_by types scale rfs (is_list t) ts n.rest) n.inside (operand_bytes_lem t at narrow.0 narrow.1 n.inside)
        (read_writes ts (is_list t) (at + size_of t) e n.rest narrow.2 n.reads)))
        (either (eqb t 8 && after))
