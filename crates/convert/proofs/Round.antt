-- 02, Wish 6: "Old to new to old gives the same bytes", and new to old to new where the way back refuses nothing; what is converted passes the check
-- of its form. Assumes nothing.
use Prim.Native.Nat.{ℕ, zero, suc, ◌+◌, ◌-◌, ◌*◌, ◌/◌, ◌%◌, ◌<◌, ◌≤◌}
use mathlib.Core.Path.{◌≡◌, refl, sym, ap, ◌∙◌}
use mathlib.Core.Bool.{Bool, true, false, cond, ◌&&◌}
use mathlib.Core.List.{List, [], ◌∷◌, ◌++◌}
use native.Mathlib.Omega.{arith}
use borrow.Author.Tests.{le-leb, leb-true, eq-eqb, eqb-true, not-false}
use lib.Dec.{leb, eqb}
use lib.ListN.{length, get_or, take, drop, replicate, length-drop, length-replicate, get_or-replicate}
use lib.Seq.{length-take-le, get_or-take, get_or-drop, get_or-append-add, drop-cons, take-add, drop-drop, ext_get_or}
use Rattle.laws.proofs.Tests.{and_left, and_right}
use Rattle.std.specs.Prelude.{Ok, Option, Some, None}
use Rattle.refusal.specs.declared.Fault.{Fault}
use Rattle.refusal.specs.declared.Fault.TheVariants as fault
use Rattle.refusal.specs.Check.{first_bad}
use Rattle.refusal.proofs.Laws.{or_left, or_right}
use Rattle.text.specs.Written.{put_text}
use Rattle.tables.specs.declared.Form.TheVariants.{Old, New}
use Rattle.tables.specs.Records.{type_count, fields_ok, flow_fits, zeros}
use Rattle.tables.specs.Check.{check_pair}
use Rattle.flow.specs.declared.Kind.{Kind}
use Rattle.flow.specs.declared.Kind.TheVariants.{On, Ends, Jumps, Branches, JumpsBack, Switch}
use Rattle.flow.specs.declared.Flow.{Flow}
use Rattle.flow.specs.Flow.{plain}
use Rattle.convert.specs.Names.{flows, flow_by, flow_number}
use Rattle.convert.specs.Records.{joined}
use Rattle.convert.specs.Convert.{kind_byte, bit, flow_bytes, named_flow, fields, new_record, new_file, old_record, old_file, other_flow, check_back, to_new_call, to_old_call}
use Rattle.convert.proofs.Records.{joined_whole}
use Rattle.convert.proofs.Convert.{new_length, new_fields, flow_byte, old_length, old_zero, old_fields}
use Rattle.convert.proofs.Fields.{same_name_ok, same_fields, same_flow}
use Rattle.convert.proofs.Good.{Good, pair_good, good_pair, none_bad, all_good, no_rest, as_many, zeros_byte, byte_zeros}

-- ---- the bytes of a name's flow are those that there are
kind_low : (k : Kind) → kind_byte k ≤ 5
kind_low On = omega arith
kind_low Ends = omega arith
kind_low Jumps = omega arith
kind_low Branches = omega arith
kind_low JumpsBack = omega arith
kind_low Switch = omega arith

bit_low : (b : Bool) → bit b ≤ 1
bit_low true = omega arith
bit_low false = omega arith

low_firsts : List Flow → Bool
low_firsts [] = true
low_firsts (f ∷ fs) = leb f.first 7 && low_firsts fs

low_at : (fs : List Flow) → low_firsts fs ≡ true → (k : ℕ) → (get_or fs k (plain On false)).first ≤ 7
unfolding low_firsts
low_at [] h k = omega arith
low_at (f ∷ fs) h zero = leb-true f.first 7 (and_left (leb f.first 7) (low_firsts fs) h)
low_at (f ∷ fs) h (suc k) = low_at fs (and_right (leb f.first 7) (low_firsts fs) h) k

first_low : (k : ℕ) → (flow_by k).first ≤ 7
unfolding flow_by flows low_firsts
first_low k = low_at flows refl k

-- ---- what the check of a record says, and what it asks
old_says : (a b : Bool) → ◌≡◌ {A = Option Fault} (cond (a && b) None (Some fault.BadOpcode)) None → (a ≡ true) × (b ≡ true)
old_says true true h = (refl, refl)
old_says true false h = cc
old_says false b h = cc

new_says : (a b c : Bool) → ◌≡◌ {A = Option Fault} (cond (a && b) (cond c None (Some fault.BadFlow)) (Some fault.BadOpcode)) None → (a ≡ true) × (b ≡ true)
new_says true true c h = (refl, refl)
new_says true false c h = cc
new_says false b c h = cc

-- ---- parts of a file by their bytes
zero_part : (s : List ℕ) (at w : ℕ) → at + w ≤ length s → ((k : ℕ) → at ≤ k → k < at + w → get_or s k 0 ≡ 0) → take w (drop at s) ≡ replicate w 0
zero_part s at w room h =
    let e : length (take w (drop at s)) ≡ w = length-take-le w (drop at s) (rw length-drop (omega arith)) in
    ext_get_or 0 (take w (drop at s)) (replicate w 0) (e ∙ sym (length-replicate w 0))
    (λ i l. get_or-take w (drop at s) i 0 (omega arith) ∙ get_or-drop at s i 0 ∙ h (at + i) (omega arith) (omega arith) ∙ sym (get_or-replicate w i 0 0 (omega arith)))

four_part : (s : List ℕ) (at : ℕ) → at + 4 ≤ length s → take 4 (drop at s) ≡ get_or s at 0 ∷ get_or s (at + 1) 0 ∷ get_or s (at + 2) 0 ∷ get_or s (at + 3) 0 ∷ []
four_part s at h =
    let a : at + 1 ≡ suc at = omega arith in
    let b : at + 2 ≡ suc (suc at) = omega arith in
    let c : at + 3 ≡ suc (suc (suc at)) = omega arith in
    ap (take 4) (drop-cons s at 0 (omega arith) ∙ ap (λ (l : List ℕ). get_or s at 0 ∷ l) (drop-cons s (suc at) 0 (omega arith)
    ∙ ap (λ (l : List ℕ). get_or s (suc at) 0 ∷ l) (drop-cons s (suc (suc at)) 0 (omega arith)
    ∙ ap (λ (l : List ℕ). get_or s (suc (suc at)) 0 ∷ l) (drop-cons s (suc (suc (suc at))) 0 (omega arith)))))
    ∙ rw (a, b, c)

-- ---- to new
module _ (ops tys : List ℕ) (ok : check_pair Old ops tys ≡ Ok tt) where
  good : Good Old ops tys
  good = pair_good Old ops tys ok

  abbrev n : ℕ
  n = length ops / 64

  rest : length ops % 64 ≡ 0
  rest = no_rest 64 1 256 (length ops) good.whole

  many : length (new_file ops) / 72 ≡ n
  many = omega (arith, new_length ops)

  record_says : (k : ℕ) → k < n → (fields_ok ops (k * 64) (type_count tys) ≡ true) × (zeros ops (k * 64 + 50) (k * 64 + 64) ≡ true)
  record_says k l = old_says _ _ (good.faults k l)

  -- byte 50 + i of a new record
  zero-behind : (k : ℕ) → k < n → zeros (new_file ops) (k * 72 + 54) (k * 72 + 72) ≡ true
  zero-behind k l = byte_zeros (new_file ops) (k * 72 + 54) (k * 72 + 72) (omega arith) byte
    where
      byte : (j : ℕ) → k * 72 + 54 ≤ j → j < k * 72 + 72 → get_or (new_file ops) j 0 ≡ 0
      byte j low high =
          let i = j - (k * 72 + 54) in
          let e : j ≡ k * 72 + (50 + (4 + i)) = omega arith in
          rw e (flow_byte ops k (4 + i) l (omega arith) ∙ get_or-append-add (flow_bytes (named_flow ops (k * 64))) (replicate 18 0) i 0 ∙ get_or-replicate 18 i 0 0 (omega arith))

  flow_good : (k : ℕ) → k < n → flow_fits (new_file ops) (k * 72) ≡ true
  unfolding flow_fits
  flow_good k l =
      let f = named_flow ops (k * 64) in
      let a : get_or (new_file ops) (k * 72 + 50) 0 ≡ kind_byte f.kind = flow_byte ops k 0 l (omega arith) in
      let b : get_or (new_file ops) (k * 72 + 51) 0 ≡ bit f.pool = flow_byte ops k 1 l (omega arith) in
      let c : get_or (new_file ops) (k * 72 + 52) 0 ≡ f.first = flow_byte ops k 2 l (omega arith) in
      let d : get_or (new_file ops) (k * 72 + 53) 0 ≡ bit f.base = flow_byte ops k 3 l (omega arith) in
      rw (a, b, c, d, le-leb _ _ (kind_low f.kind), le-leb _ _ (bit_low f.pool), le-leb _ _ (first_low (flow_number ops (k * 64))), le-leb _ _ (bit_low f.base))

  -- a converted file passes the check of its form, 26 with it
  pub new_good : check_pair New (new_file ops) tys ≡ Ok tt
  new_good = good_pair New (new_file ops) tys (record {
    whole = as_many 64 72 1 256 (length ops) (length (new_file ops)) good.whole (omega (arith, new_length ops)) many;
    types_whole = good.types_whole;
    names = λ k l. let m : k < n = omega (arith, many) in same_name_ok (new_file ops) ops (k * 72) (k * 64) (new_fields ops k m) ∙ good.names k m;
    names_of_types = good.names_of_types;
    faults = λ k l. let m : k < n = omega (arith, many) in
        rw (same_fields (new_file ops) ops (k * 72) (k * 64) (new_fields ops k m) (type_count tys) ∙ (record_says k m).0, zero-behind k m, flow_good k m);
    types = good.types;
  })

  -- its flows are those of the names, so the way back refuses nothing
  no_other : (k : ℕ) → k < n → other_flow (new_file ops) k ≡ false
  unfolding other_flow
  no_other k l =
      let f = named_flow ops (k * 64) in
      let a : get_or (new_file ops) (k * 72 + 50) 0 ≡ kind_byte f.kind = flow_byte ops k 0 l (omega arith) in
      let b : get_or (new_file ops) (k * 72 + 51) 0 ≡ bit f.pool = flow_byte ops k 1 l (omega arith) in
      let c : get_or (new_file ops) (k * 72 + 52) 0 ≡ f.first = flow_byte ops k 2 l (omega arith) in
      let d : get_or (new_file ops) (k * 72 + 53) 0 ≡ bit f.base = flow_byte ops k 3 l (omega arith) in
      rw (same_flow (new_file ops) ops (k * 72) (k * 64) (new_fields ops k l), a, b, c, d, eq-eqb (kind_byte f.kind) _ refl, eq-eqb (bit f.pool) _ refl, eq-eqb f.first _ refl, eq-eqb (bit f.base) _ refl)

  pub back_good : check_back (new_file ops) tys ≡ Ok tt
  unfolding check_back
  back_good = rw (new_good, all_good fault.OtherFlow (other_flow (new_file ops)) (length (new_file ops) / 72) (λ k l. no_other k (omega (arith, many))))

  -- old to new to old
  pub old_new_old : old_file (new_file ops) ≡ ops
  unfolding old_file
  old_new_old = ap (joined (old_record (new_file ops)) 0) many ∙ joined_whole (old_record (new_file ops)) 64 n ops (omega (arith, rest)) back
    where
      back : (k : ℕ) → k < n → take 64 (drop (k * 64) ops) ≡ old_record (new_file ops) k
      back k l =
          let z : take 14 (drop 50 (drop (k * 64) ops)) ≡ replicate 14 0 = ap (take 14) (drop-drop 50 (k * 64) ops)
          ∙ zero_part ops (k * 64 + 50) 14 (omega arith) (λ j low high. zeros_byte ops (k * 64 + 50) (k * 64 + 64) (omega arith) (record_says k l).1 j low (omega arith)) in
          take-add 50 14 (drop (k * 64) ops) ∙ ap (λ (x : List ℕ). fields ops (k * 64) ++ x) z ∙ ap (λ (x : List ℕ). x ++ replicate 14 0) (sym (new_fields ops k l))

  -- the way back of a converted file answers the file
  pub back_answers : (out : List ℕ) → to_old_call (new_file ops) tys out ≡ put_text ops out
  unfolding to_old_call
  back_answers out = rw (back_good, old_new_old)

-- ---- and back
module _ (ops tys : List ℕ) (ok : check_back ops tys ≡ Ok tt) where
  table : Good New ops tys
  unfolding check_back
  table = pair_good New ops tys (or_left (check_pair New ops tys) (first_bad fault.OtherFlow (other_flow ops) (length ops / 72)) ok)

  named : (k : ℕ) → k < length ops / 72 → other_flow ops k ≡ false
  unfolding check_back
  named = none_bad fault.OtherFlow (other_flow ops) (length ops / 72) (or_right (check_pair New ops tys) (first_bad fault.OtherFlow (other_flow ops) (length ops / 72)) ok)

  abbrev m : ℕ
  m = length ops / 72

  left : length ops % 72 ≡ 0
  left = no_rest 72 1 256 (length ops) table.whole

  few : length (old_file ops) / 64 ≡ m
  few = omega (arith, old_length ops)

  says : (k : ℕ) → k < m → (fields_ok ops (k * 72) (type_count tys) ≡ true) × (zeros ops (k * 72 + 54) (k * 72 + 72) ≡ true)
  says k l = new_says _ _ (flow_fits ops (k * 72)) (table.faults k l)

  old_behind : (k : ℕ) → k < m → zeros (old_file ops) (k * 64 + 50) (k * 64 + 64) ≡ true
  old_behind k l = byte_zeros (old_file ops) (k * 64 + 50) (k * 64 + 64) (omega arith) byte
    where
      byte : (j : ℕ) → k * 64 + 50 ≤ j → j < k * 64 + 64 → get_or (old_file ops) j 0 ≡ 0
      byte j low high =
          let i = j - (k * 64 + 50) in
          let e : j ≡ k * 64 + (50 + i) = omega arith in
          rw e (old_zero ops k i l (omega arith) ∙ get_or-replicate 14 i 0 0 (omega arith))

  -- what is converted back passes 01's check
  pub old_good : check_pair Old (old_file ops) tys ≡ Ok tt
  old_good = good_pair Old (old_file ops) tys (record {
    whole = as_many 72 64 1 256 (length ops) (length (old_file ops)) table.whole (omega (arith, old_length ops)) few;
    types_whole = table.types_whole;
    names = λ k l. let h : k < m = omega (arith, few) in same_name_ok (old_file ops) ops (k * 64) (k * 72) (old_fields ops k h) ∙ table.names k h;
    names_of_types = table.names_of_types;
    faults = λ k l. let h : k < m = omega (arith, few) in
        rw (same_fields (old_file ops) ops (k * 64) (k * 72) (old_fields ops k h) (type_count tys) ∙ (says k h).0, old_behind k h);
    types = table.types;
  })

  -- its four bytes are those of the name
  flow_back : (k : ℕ) → k < m → take 4 (drop (k * 72 + 50) ops) ≡ flow_bytes (named_flow ops (k * 72))
  unfolding other_flow
  flow_back k l =
      let f = named_flow ops (k * 72) in
      let a = eqb (get_or ops (k * 72 + 50) 0) (kind_byte f.kind) in
      let b = eqb (get_or ops (k * 72 + 51) 0) (bit f.pool) in
      let c = eqb (get_or ops (k * 72 + 52) 0) f.first in
      let d = eqb (get_or ops (k * 72 + 53) 0) (bit f.base) in
      let all : (a && b && c && d) ≡ true = not-false _ (named k l) in
      let abc = and_left (a && b && c) d all in
      let ab = and_left (a && b) c abc in
      let p : k * 72 + 50 + 1 ≡ k * 72 + 51 = omega arith in
      let q : k * 72 + 50 + 2 ≡ k * 72 + 52 = omega arith in
      let r : k * 72 + 50 + 3 ≡ k * 72 + 53 = omega arith in
      let w : get_or ops (k * 72 + 50) 0 ≡ kind_byte f.kind = eqb-true _ _ (and_left a b ab) in
      let x : get_or ops (k * 72 + 51) 0 ≡ bit f.pool = eqb-true _ _ (and_right a b ab) in
      let y : get_or ops (k * 72 + 52) 0 ≡ f.first = eqb-true _ _ (and_right (a && b) c abc) in
      let z : get_or ops (k * 72 + 53) 0 ≡ bit f.base = eqb-true _ _ (and_right (a && b && c) d all) in
      four_part ops (k * 72 + 50) (omega arith) ∙ rw (p, q, r, w, x, y, z)

  -- new to old to new
  pub new_old_new : new_file (old_file ops) ≡ ops
  unfolding new_file
  new_old_new = ap (joined (new_record (old_file ops)) 0) few ∙ joined_whole (new_record (old_file ops)) 72 m ops (omega (arith, left)) back
    where
      back : (k : ℕ) → k < m → take 72 (drop (k * 72) ops) ≡ new_record (old_file ops) k
      back k l =
          let s = drop (k * 72) ops in
          let z : take 18 (drop 54 s) ≡ replicate 18 0 = ap (take 18) (drop-drop 54 (k * 72) ops)
          ∙ zero_part ops (k * 72 + 54) 18 (omega arith) (λ j low high. zeros_byte ops (k * 72 + 54) (k * 72 + 72) (omega arith) (says k l).1 j low (omega arith)) in
          let f : take 4 (drop 50 s) ≡ flow_bytes (named_flow ops (k * 72)) = ap (take 4) (drop-drop 50 (k * 72) ops) ∙ flow_back k l in
          let same = old_fields ops k l in
          take-add 54 18 s ∙ ap (λ (x : List ℕ). x ++ take 18 (drop 54 s)) (take-add 50 4 s) ∙ rw (z, f, same_flow (old_file ops) ops (k * 64) (k * 72) same, same)

  -- and the way to new of what was converted back answers the file
  pub forth_answers : (out : List ℕ) → to_new_call (old_file ops) tys out ≡ put_text ops out
  unfolding to_new_call
  forth_answers out = rw (old_good, new_old_new)
