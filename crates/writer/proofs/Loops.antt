-- What the code's tests and loops go by: the definitions, one type and one operand at a time. Assumes nothing.
use Prim.Native.Nat.{ℕ, zero, suc, ◌+◌, ◌-◌, ◌/◌, ◌%◌, ◌^◌, ◌<◌, ◌≤◌, min}
use native.Mathlib.Nat.{not-suc-le-zero, le_of_suc-le-suc, div-one, div-div-eq-div-mul, pow-suc}
use native.Mathlib.Numerals.{add-one}
use mathlib.Core.Path.{◌≡◌, refl, sym, ap, subst, ◌∙◌}
use mathlib.Core.Bool.{Bool, true, false, cond, ◌&&◌}
use mathlib.Core.List.{List, [], ◌∷◌, ◌++◌, append-nil}
use mathlib.Core.Logic.{⊎_elim}
use native.Mathlib.Omega.{arith}
use borrow.Author.Tests.{le-leb, eq-eqb, ne_eqb, eqb-true}
use lib.Dec.{eqb, leb}
use lib.IntN.{ℤ, pos}
use lib.ListN.{length, get_or, take, drop, length-take, drop_of_length-le}
use lib.Seq.{drop-cons}
use Rattle.laws.proofs.Tests.{and_left, and_right, clash, same?}
use Rattle.words.specs.Le.{le_bytes}
use Rattle.words.specs.Signed.{eq_z}
use Rattle.text.specs.Put.{Put}
use Rattle.tables.specs.Records.{width}
use Rattle.operand.specs.Operand.{is_list, interpret}
use Rattle.operand.specs.mirror.Step.{is_counted}
use Rattle.operand.specs.Numbers.{operand_numbers, number_of}
use Rattle.operand.specs.declared.Operand.{Operand}
use Rattle.operand.specs.declared.Operand.TheVariants.{Reg, RegList, Imm, Idx, Flag8, Flag16, RuntimeId, IntrinsicId, Raw}
use Rattle.flow.specs.Opcodes.{Opcodes, prefix_with}
use Rattle.std.specs.Prelude.{Option, Some, None}
use Rattle.std.specs.Int.{w64, byte_at, bytes_low_first, to_le_bytes}
use Rattle.decoder.specs.declared.OperandRecord.{OperandRecord}
use Rattle.decoder.specs.declared.Instr.{Instr}
use Rattle.decoder.specs.Decode.{codes_from, operand_types, record_of, with_held, operands_in}
use Rattle.decoder.proofs.Extents.{width_eight}
use Rattle.writer.specs.Bytes.{stored_of, count_of, operand_bytes, bytes_by, prefix_byte, head_bytes}
use Rattle.writer.specs.Write.{same_numbers, same_operand, reads_back, back_as, operands_ok, holds, all_hold, given}

-- ---- two operands, number by number
three : (o : Operand) → operand_numbers o ≡ number_of o 0 ∷ number_of o 1 ∷ number_of o 2 ∷ []
three (Reg i) = refl
three (RegList first count) = refl
three (Imm v) = refl
three (Idx v) = refl
three (Flag8 v) = refl
three (Flag16 v) = refl
three (RuntimeId v) = refl
three (IntrinsicId v) = refl
three (Raw ty value) = refl

module _ (a b : Operand) where
  by_three : same_operand a b ≡ (eq_z (number_of a 0) (number_of b 0) && (eq_z (number_of a 1) (number_of b 1) && (eq_z (number_of a 2) (number_of b 2) && true)))
  unfolding same_operand
  by_three =
      ap (λ (l : List ℤ). same_numbers l (operand_numbers b)) (three a) ∙ ap (same_numbers (number_of a 0 ∷ number_of a 1 ∷ number_of a 2 ∷ [])) (three b)

  -- x and y are the kinds, f and g the first numbers, u and v the second
  module _ {x y : ℕ} (p : pos x ≡ number_of a 0) (q : pos y ≡ number_of b 0) where
    by_kind : same_operand a b ≡ (eqb x y && (eq_z (number_of a 1) (number_of b 1) && (eq_z (number_of a 2) (number_of b 2) && true)))
    by_kind =
        let rest = eq_z (number_of a 1) (number_of b 1) && (eq_z (number_of a 2) (number_of b 2) && true) in
        by_three ∙ ap (λ (z : ℤ). eq_z z (number_of b 0) && rest) (sym p) ∙ ap (λ (z : ℤ). eq_z (pos x) z && rest) (sym q)

    pub kinds_differ : (x ≡ y → ⊥) → same_operand a b ≡ false
    kinds_differ n = by_kind ∙ ap (λ (t : Bool). t && (eq_z (number_of a 1) (number_of b 1) && (eq_z (number_of a 2) (number_of b 2) && true))) (ne_eqb x y n)

    module _ {f g : ℤ} (r : f ≡ number_of a 1) (s : g ≡ number_of b 1) (same : x ≡ y) where
      by_first : same_operand a b ≡ (eq_z f g && (eq_z (number_of a 2) (number_of b 2) && true))
      by_first =
          let rest = eq_z (number_of a 2) (number_of b 2) && true in
          by_kind ∙ ap (λ (t : Bool). t && (eq_z (number_of a 1) (number_of b 1) && rest)) (eq-eqb x y same)
          ∙ ap (λ (z : ℤ). eq_z z (number_of b 1) && rest) (sym r) ∙ ap (λ (z : ℤ). eq_z f z && rest) (sym s)

      pub firsts_differ : eq_z f g ≡ false → same_operand a b ≡ false
      firsts_differ h = by_first ∙ ap (λ (t : Bool). t && (eq_z (number_of a 2) (number_of b 2) && true)) h

      pub by_second : {u v : ℕ} → eq_z f g ≡ true → pos u ≡ number_of a 2 → pos v ≡ number_of b 2 → same_operand a b ≡ eqb u v
      by_second {u} {v} h m n =
          by_first ∙ ap (λ (t : Bool). t && (eq_z (number_of a 2) (number_of b 2) && true)) h ∙ ap (λ (z : ℤ). eq_z z (number_of b 2) && true) (sym m)
          ∙ ap (λ (z : ℤ). eq_z (pos u) z && true) (sym n) ∙ alone (eqb u v)
        where
          alone : (t : Bool) → (t && true) ≡ t
          alone true = refl
          alone false = refl

-- what is none of the others
pub is_none : {A : Type 0} (p : Option A) → ((x : A) → p ≡ Some x → ⊥) → p ≡ None
is_none None h = refl
is_none (Some x) h = absurd (h x refl)

-- ---- the places that are given, from place j on
none_some : {A : Type 0} (o : Operand) → ◌≡◌ {A = Option Operand} None (Some o) → A
none_some o h = let z : ◌≡◌ {A = ℕ} 0 1 = cc in absurd (omega arith)

pub place_next : (ps : List OperandRecord) (j : ℕ) (o : Operand) → (get_or ps j (record_of None)).operand ≡ Some o → drop j ps ≡ record_of (Some o) ∷ drop (j + 1) ps
place_next ps j o h = rw add-one (go ps j h)
  where
    go : (ps : List OperandRecord) (j : ℕ) → (get_or ps j (record_of None)).operand ≡ Some o → drop j ps ≡ record_of (Some o) ∷ drop (suc j) ps
    go [] j h = none_some o h
    go (p ∷ ps) zero h = ap (λ (q : Option Operand). record_of q ∷ ps) h
    go (p ∷ ps) (suc j) h = go ps j h

pub place_below : (ps : List OperandRecord) (j : ℕ) (o : Operand) → (get_or ps j (record_of None)).operand ≡ Some o → j < length ps
place_below [] j o h = none_some o h
place_below (p ∷ ps) zero o h = omega arith
place_below (p ∷ ps) (suc j) o h = let l = place_below ps j o h in omega arith

-- where each holds an operand, one that holds none is behind the last
pub places_end : (ps : List OperandRecord) (j : ℕ) → all_hold ps ≡ true → (get_or ps j (record_of None)).operand ≡ None → drop j ps ≡ []
places_end [] zero all h = refl
places_end [] (suc j) all h = refl
places_end (p ∷ ps) zero all h = clash (and_left (holds p.operand) (all_hold ps) all) (ap holds h)
places_end (p ∷ ps) (suc j) all h = places_end ps j (and_right (holds p.operand) (all_hold ps) all) h

abbrev pub places : Instr → List OperandRecord
places i = take i.count i.operands

-- ---- the types of an opcode, from number k on
module _ (ops : Opcodes) (op n k : ℕ) where
  codes_next : {t : ℕ} → k < n → t ≡ ops.code op k → codes_from ops op k (n - k) ≡ t ∷ codes_from ops op (k + 1) (n - (k + 1))
  codes_next h e = let m : n - k ≡ suc (n - (k + 1)) = omega arith in rw (m, e)

  codes_end : n ≤ k → codes_from ops op k (n - k) ≡ []
  codes_end h = let m : n - k ≡ 0 = omega arith in rw m

-- a RegCount that takes no operand is no list
counted_eight : (t before : ℕ) → is_counted t before ≡ true → is_list t ≡ false
unfolding is_counted is_list
counted_eight t before h = let e : t ≡ 8 = eqb-true t 8 (and_left (eqb t 8) (is_list before) h) in rw e

module _ (types : List ℕ) (scale : ℕ) (rfs : ℤ) where
  -- what is accepted and what is put of the operands l from here on, where the type before was one
  abbrev pub ok_from : ℕ → List ℕ → List Operand → Bool
  ok_from before ts l = operands_ok types scale rfs (is_list before) ts l

  abbrev pub bytes_from : ℕ → List ℕ → List Operand → List ℕ
  bytes_from before ts l = bytes_by types scale rfs (is_list before) ts l

  ok_skip : (t before : ℕ) (ts : List ℕ) (l : List Operand) → is_counted t before ≡ true → ok_from before (t ∷ ts) l ≡ ok_from t ts l
  unfolding operands_ok is_counted
  ok_skip t before ts [] h = rw (h, counted_eight t before h)
  ok_skip t before ts (o ∷ l) h = rw (h, counted_eight t before h)

  ok_own : (t before : ℕ) (ts : List ℕ) (o : Operand) (l : List Operand) → is_counted t before ≡ false
      → ok_from before (t ∷ ts) (o ∷ l) ≡ (reads_back types scale rfs t o && ok_from t ts l)
  unfolding operands_ok is_counted
  ok_own t before ts o l h = rw h

  ok_none : (t before : ℕ) (ts : List ℕ) → is_counted t before ≡ false → ok_from before (t ∷ ts) [] ≡ false
  unfolding operands_ok is_counted
  ok_none t before ts h = rw h

  bytes_none : (ts : List ℕ) (before : ℕ) → bytes_from before ts [] ≡ []
  unfolding bytes_by
  bytes_none [] before = refl
  bytes_none (t ∷ ts) before = refl

  bytes_skip : (t before : ℕ) (ts : List ℕ) (l : List Operand) → is_counted t before ≡ true → bytes_from before (t ∷ ts) l ≡ bytes_from t ts l
  unfolding bytes_by is_counted
  bytes_skip t before ts [] h = sym (bytes_none ts t)
  bytes_skip t before ts (o ∷ l) h = rw (h, counted_eight t before h)

  bytes_own : (t before : ℕ) (ts : List ℕ) (o : Operand) (l : List Operand) → is_counted t before ≡ false
      → bytes_from before (t ∷ ts) (o ∷ l) ≡ operand_bytes types scale rfs t o ++ bytes_from t ts l
  unfolding bytes_by is_counted
  bytes_own t before ts o l h = rw h

  -- the loops: at type k of n, which is t, and operand j
  module _ (ops : Opcodes) (op n k t before : ℕ) (under : k < n) (is : t ≡ ops.code op k) (l : List Operand) where
    abbrev now_codes : List ℕ
    now_codes = codes_from ops op k (n - k)

    abbrev next_codes : List ℕ
    next_codes = codes_from ops op (k + 1) (n - (k + 1))

    ok_takes : (o : Operand) (rest : List Operand) → is_counted t before ≡ false → l ≡ o ∷ rest → ok_from before now_codes l ≡ (reads_back types scale rfs t o && ok_from t next_codes rest)
    ok_takes o rest h e = ap (ok_from before now_codes) e ∙ ap (λ (ts : List ℕ). ok_from before ts (o ∷ rest)) (codes_next ops op n k under is) ∙ ok_own t before next_codes o rest h

    pub bytes_passes : is_counted t before ≡ true → bytes_from before now_codes l ≡ bytes_from t next_codes l
    bytes_passes h = ap (λ (ts : List ℕ). bytes_from before ts l) (codes_next ops op n k under is) ∙ bytes_skip t before next_codes l h

    pub bytes_takes : (o : Operand) (rest : List Operand) → is_counted t before ≡ false → l ≡ o ∷ rest → bytes_from before now_codes l ≡ operand_bytes types scale rfs t o ++ bytes_from t next_codes rest
    bytes_takes o rest h e = ap (bytes_from before now_codes) e ∙ ap (λ (ts : List ℕ). bytes_from before ts (o ∷ rest)) (codes_next ops op n k under is) ∙ bytes_own t before next_codes o rest h

  -- what is accepted of places from here on
  abbrev pub ok_places : ℕ → List ℕ → List OperandRecord → Bool
  ok_places before ts ps = all_hold ps && ok_from before ts (operands_in ps)

  no_more : (b : Bool) → (b && false) ≡ false
  no_more true = refl
  no_more false = refl

  -- at type k of n, which is t, and place j of ps
  module _ (ops : Opcodes) (op n k t before : ℕ) (under : k < n) (is : t ≡ ops.code op k) where
    abbrev codes_now : List ℕ
    codes_now = codes_from ops op k (n - k)

    abbrev codes_then : List ℕ
    codes_then = codes_from ops op (k + 1) (n - (k + 1))

    pub ok_passes : (ps : List OperandRecord) → is_counted t before ≡ true → ok_places before codes_now ps ≡ ok_places t codes_then ps
    ok_passes ps h =
        let l = operands_in ps in
        ap (λ (b : Bool). all_hold ps && b) (ap (λ (ts : List ℕ). ok_from before ts l) (codes_next ops op n k under is) ∙ ok_skip t before codes_then l h)

    ok_place : (ps : List OperandRecord) (j : ℕ) (o : Operand) → is_counted t before ≡ false → (get_or ps j (record_of None)).operand ≡ Some o
        → ok_places before codes_now (drop j ps) ≡ (all_hold (drop (j + 1) ps) && (reads_back types scale rfs t o && ok_from t codes_then (operands_in (drop (j + 1) ps))))
    ok_place ps j o h e =
        let rest = drop (j + 1) ps in
        ap (ok_places before codes_now) (place_next ps j o e)
        ∙ ap (λ (b : Bool). all_hold rest && b) (ok_takes ops op n k t before under is (o ∷ operands_in rest) o (operands_in rest) h refl)

    pub ok_fails : (ps : List OperandRecord) (j : ℕ) (o : Operand) → is_counted t before ≡ false → (get_or ps j (record_of None)).operand ≡ Some o → reads_back types scale rfs t o ≡ false
        → ok_places before codes_now (drop j ps) ≡ false
    ok_fails ps j o h e b =
        let rest = drop (j + 1) ps in
        ok_place ps j o h e ∙ ap (λ (x : Bool). all_hold rest && (x && ok_from t codes_then (operands_in rest))) b ∙ no_more (all_hold rest)

    pub ok_goes : (ps : List OperandRecord) (j : ℕ) (o : Operand) → is_counted t before ≡ false → (get_or ps j (record_of None)).operand ≡ Some o → reads_back types scale rfs t o ≡ true
        → ok_places before codes_now (drop j ps) ≡ ok_places t codes_then (drop (j + 1) ps)
    ok_goes ps j o h e b =
        let rest = drop (j + 1) ps in
        ok_place ps j o h e ∙ ap (λ (x : Bool). all_hold rest && (x && ok_from t codes_then (operands_in rest))) b

    pub ok_lacks : (ps : List OperandRecord) (j : ℕ) → is_counted t before ≡ false → (get_or ps j (record_of None)).operand ≡ None → ok_places before codes_now (drop j ps) ≡ false
    ok_lacks ps j h e = go ps j e
      where
        nothing : ok_places before codes_now [] ≡ false
        nothing = ap (λ (ts : List ℕ). ok_from before ts []) (codes_next ops op n k under is) ∙ ok_none t before codes_then h

        go : (ps : List OperandRecord) (j : ℕ) → (get_or ps j (record_of None)).operand ≡ None → ok_places before codes_now (drop j ps) ≡ false
        go [] zero e = nothing
        go [] (suc j) e = nothing
        go (p ∷ ps) zero e = ap (λ (q : Option Operand). holds q && all_hold ps && ok_from before codes_now (with_held q (operands_in ps))) e
        go (p ∷ ps) (suc j) e = go ps j e

  -- behind the last type, and behind the last operand
  module _ (ops : Opcodes) (op n k before : ℕ) where
    pub bytes_lack : (l : List Operand) → l ≡ [] → bytes_from before (codes_from ops op k (n - k)) l ≡ []
    bytes_lack l e = ap (bytes_from before (codes_from ops op k (n - k))) e ∙ bytes_none (codes_from ops op k (n - k)) before

    pub bytes_end : (l : List Operand) → n ≤ k → bytes_from before (codes_from ops op k (n - k)) l ≡ []
    unfolding bytes_by
    bytes_end l h = rw (codes_end ops op n k h)

    -- places behind the last type are too many
    ok_left : (p : OperandRecord) (ps : List OperandRecord) → ok_places before [] (p ∷ ps) ≡ false
    unfolding operands_ok
    ok_left p ps = go p.operand
      where
        go : (q : Option Operand) → (holds q && all_hold ps && ok_from before [] (with_held q (operands_in ps))) ≡ false
        go None = refl
        go (Some o) = no_more (all_hold ps)

    pub ok_end : (i : Instr) (j : ℕ) → i.count ≤ 8 → length i.operands ≡ 8 → j ≤ i.count → n ≤ k → ok_places before (codes_from ops op k (n - k)) (drop j (places i)) ≡ eqb j i.count
    unfolding operands_ok
    ok_end i j few eight low h = ap (λ (ts : List ℕ). ok_places before ts (drop j (places i))) (codes_end ops op n k h) ∙ ⊎_elim
        (λ (e : j ≡ i.count). let past : length (places i) ≤ j = omega (arith, many) in rw (drop_of_length-le (places i) past) (sym (eq-eqb j i.count e)))
        (λ (d : j ≡ i.count → ⊥).
        let in_it : j < length (places i) = omega (arith, many) in
        rw (drop-cons (places i) j (record_of None) in_it) (ok_left (get_or (places i) j (record_of None)) (drop (suc j) (places i)) ∙ sym (ne_eqb j i.count d)))
        (same? j i.count)
      where
        many : length (places i) ≡ i.count
        many = length-take i.count i.operands ∙ omega (arith, few, eight)

-- ---- all operands of an instruction, from the first type on; n is how many types its opcode has
module _ (types : List ℕ) (rfs : ℤ) (ops : Opcodes) (i : Instr) {n : ℕ} (all : n ≡ min (ops.operands i.opcode) 8) where
  pub ok_told : {x : Bool} → i.count ≤ 8 → ok_places types i.scale rfs 0 (codes_from ops i.opcode 0 n) (places i) ≡ x
      → (leb i.count 8 && all_hold (take i.count i.operands) && operands_ok types i.scale rfs false (operand_types ops i.opcode) (given i)) ≡ x
  unfolding is_list
  ok_told few e = rw (le-leb i.count 8 few, ← all) e

  pub bytes_told : bytes_from types i.scale rfs 0 (codes_from ops i.opcode 0 n) (given i) ≡ bytes_by types i.scale rfs false (operand_types ops i.opcode) (given i)
  unfolding is_list
  bytes_told = rw (← all)

-- ---- the head: the prefix of the scale, and the opcode
pub head_is : (ops : Opcodes) (scale opcode : ℕ) {p : Option ℕ} → p ≡ cond (eqb scale 1) None (cond (eqb scale 2) (prefix_with ops 1) (prefix_with ops 2))
    → head_bytes ops scale opcode ≡ prefix_byte p ++ (opcode ∷ [])
unfolding head_bytes
head_is ops scale opcode e = go (eqb scale 1) (eqb scale 2) ∙ ap (λ (q : Option ℕ). prefix_byte q ++ (opcode ∷ [])) (sym e)
  where
    go : (a b : Bool) → cond a [] (cond b (prefix_byte (prefix_with ops 1)) (prefix_byte (prefix_with ops 2))) ++ (opcode ∷ [])
        ≡ prefix_byte (cond a None (cond b (prefix_with ops 1) (prefix_with ops 2))) ++ (opcode ∷ [])
    go true b = refl
    go false true = refl
    go false false = refl

-- ---- a number's bytes, as std has them
byte_is : (i n : ℕ) → byte_at i n ≡ n / 256 ^ i % 256
byte_is zero n = ap (λ (k : ℕ). k % 256) (sym (div-one n))
byte_is (suc i) n = refl

low_first : (m k i n : ℕ) → m ≤ k → take m (bytes_low_first i k n) ≡ le_bytes m (n / 256 ^ i)
unfolding le_bytes
low_first zero k i n h = refl
low_first (suc m) zero i n h = absurd (not-suc-le-zero h)
low_first (suc m) (suc k) i n h =
    let next : n / 256 ^ suc i ≡ n / 256 ^ i / 256 = ap (λ (p : ℕ). n / p) (pow-suc 256 i) ∙ sym (div-div-eq-div-mul n (256 ^ i) 256) in
    ap (λ (b : ℕ). b ∷ take m (bytes_low_first (suc i) k n)) (byte_is i n) ∙ ap (λ (l : List ℕ). n / 256 ^ i % 256 ∷ l) (low_first m k (suc i) n (le_of_suc-le-suc h) ∙ ap (le_bytes m) next)

pub number_bytes : (w n : ℕ) → take (min w 8) (to_le_bytes w64 n) ≡ le_bytes (min w 8) n
number_bytes w n = low_first (min w 8) 8 0 n (omega arith) ∙ ap (le_bytes (min w 8)) (div-one n)

-- ---- one operand
pub text_is : {o o' t t' : List ℕ} {p r : ℕ} → t ≡ t' → Put o p t o' r → Put o p t' o' r
text_is {o} {o'} {t} {t'} {p} {r} e put = subst (λ (x : List ℕ). Put o p x o' r) e put

module _ (types : List ℕ) (t scale : ℕ) where
  whole_width : {w : ℕ} → w ≡ width types t scale → min w 8 ≡ width types t scale
  whole_width e = omega (arith, width_eight types t scale)

  pub low_is : {r m n w : ℕ} → r ≡ m % 256 ^ min w 8 → m ≡ n → w ≡ width types t scale → r ≡ n % 256 ^ width types t scale
  low_is {r} {m} {n} {w} e f g = e ∙ ap (λ (k : ℕ). k % 256 ^ min w 8) f ∙ ap (λ (k : ℕ). n % 256 ^ k) (whole_width g)

  pub number_is : {m n w : ℕ} → m ≡ n → w ≡ width types t scale → le_bytes (min w 8) m ≡ le_bytes (width types t scale) n
  number_is {m} {n} {w} f g = ap (le_bytes (min w 8)) f ∙ ap (λ (k : ℕ). le_bytes k n) (whole_width g)

  module _ (rfs : ℤ) (o : Operand) where
    pub plain_bytes : is_list t ≡ false → le_bytes (width types t scale) (stored_of rfs o) ≡ operand_bytes types scale rfs t o
    unfolding operand_bytes
    plain_bytes h = rw (h, append-nil)

    pub list_bytes : is_list t ≡ true → le_bytes (width types t scale) (stored_of rfs o) ++ le_bytes (width types 8 scale) (count_of o) ≡ operand_bytes types scale rfs t o
    unfolding operand_bytes
    list_bytes h = rw h

    -- an operand b that was read from v at a width w, with a count n
    pub back_by : {v w n : ℕ} (b : Operand) → w ≡ width types t scale → v ≡ stored_of rfs o % 256 ^ width types t scale
        → n ≡ cond (is_list t) (count_of o % 256 ^ width types 8 scale % 2 ^ 32) 0 → b ≡ interpret t v w n rfs → same_operand b o ≡ reads_back types scale rfs t o
    unfolding reads_back back_as
    back_by b e f g h = ap (λ (x : Operand). same_operand x o) (h ∙ rw (e, f, g))
