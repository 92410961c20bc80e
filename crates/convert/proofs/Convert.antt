-- What a converted file holds, record by record. Assumes nothing.
use Prim.Native.Nat.{ℕ, ◌+◌, ◌-◌, ◌*◌, ◌/◌, ◌<◌, ◌≤◌}
use mathlib.Core.Path.{◌≡◌, refl, ap, ◌∙◌}
use mathlib.Core.List.{List, ◌++◌, append_assoc}
use native.Mathlib.Omega.{arith}
use lib.ListN.{length, get_or, take, drop, replicate, length-append, length-drop}
use lib.Seq.{length-take-le, get_or-append-add, take_at}
use Rattle.convert.specs.Records.{joined}
use Rattle.convert.specs.Convert.{flow_bytes, named_flow, fields, new_record, new_file, old_record, old_file}
use Rattle.convert.specs.mirror.Forms.{other, record_as, file_as}
use Rattle.tables.specs.Records.{size_as}
use Rattle.tables.specs.declared.Form.{Form}
use Rattle.tables.specs.declared.Form.TheVariants.{Old, New}
use Rattle.convert.proofs.Records.{joined_length, joined_at, joined_byte}

-- the 50 bytes that both forms have, from a record that lies within its file
pub fields_long : (s : List ℕ) (at : ℕ) → at + 50 ≤ length s → length (fields s at) ≡ 50
fields_long s at h = length-take-le 50 (drop at s) (rw length-drop (omega arith))

-- ---- to new
module _ (ops : List ℕ) where
  abbrev n : ℕ
  n = length ops / 64

  pub new_long : (k : ℕ) → k < n → length (new_record ops k) ≡ 72
  new_long k h =
      length-append (fields ops (k * 64) ++ flow_bytes (named_flow ops (k * 64))) (replicate 18 0)
      ∙ omega (arith, length-append (fields ops (k * 64)) (flow_bytes (named_flow ops (k * 64))), fields_long ops (k * 64) (omega arith))

  -- as many records, of 72 bytes
  pub new_length : length (new_file ops) ≡ n * 72
  unfolding new_file
  new_length = joined_length (new_record ops) 72 n new_long n 0 (omega arith)

  pub new_rest : (k : ℕ) → new_record ops k ≡ fields ops (k * 64) ++ (flow_bytes (named_flow ops (k * 64)) ++ replicate 18 0)
  new_rest k = append_assoc (fields ops (k * 64)) (flow_bytes (named_flow ops (k * 64))) (replicate 18 0)

  -- byte 50 + i of a new record is byte i of the flow's, then zeros
  pub flow_byte : (op i : ℕ) → op < n → i < 22 → get_or (new_file ops) (op * 72 + (50 + i)) 0 ≡ get_or (flow_bytes (named_flow ops (op * 64)) ++ replicate 18 0) i 0
  unfolding new_file
  flow_byte op i h l =
      let e : 50 + i ≡ length (fields ops (op * 64)) + i = omega (arith, fields_long ops (op * 64) (omega arith)) in
      joined_byte (new_record ops) 72 n new_long op (50 + i) h (omega arith) ∙ ap (λ (x : List ℕ). get_or x (50 + i) 0) (new_rest op)
      ∙ ap (λ (x : ℕ). get_or (fields ops (op * 64) ++ (flow_bytes (named_flow ops (op * 64)) ++ replicate 18 0)) x 0) e
      ∙ get_or-append-add (fields ops (op * 64)) (flow_bytes (named_flow ops (op * 64)) ++ replicate 18 0) i 0

  -- a new record has the fields of the old one
  pub new_fields : (op : ℕ) → op < n → fields (new_file ops) (op * 72) ≡ fields ops (op * 64)
  unfolding new_file
  new_fields op h =
      let front = fields ops (op * 64) in
      let rest = flow_bytes (named_flow ops (op * 64)) ++ replicate 18 0 in
      let after = joined (new_record ops) (op + 1) (n - (op + 1)) in
      ap (take 50) (joined_at (new_record ops) 72 n new_long op h ∙ ap (λ (x : List ℕ). x ++ after) (new_rest op) ∙ append_assoc front rest after)
      ∙ take_at front (rest ++ after) 50 (fields_long ops (op * 64) (omega arith))

-- ---- and back
module _ (ops : List ℕ) where
  abbrev m : ℕ
  m = length ops / 72

  pub old_long : (k : ℕ) → k < m → length (old_record ops k) ≡ 64
  old_long k h = length-append (fields ops (k * 72)) (replicate 14 0) ∙ omega (arith, fields_long ops (k * 72) (omega arith))

  pub old_length : length (old_file ops) ≡ m * 64
  unfolding old_file
  old_length = joined_length (old_record ops) 64 m old_long m 0 (omega arith)

  pub old_fields : (op : ℕ) → op < m → fields (old_file ops) (op * 64) ≡ fields ops (op * 72)
  unfolding old_file
  old_fields op h =
      let front = fields ops (op * 72) in
      let after = joined (old_record ops) (op + 1) (m - (op + 1)) in
      ap (take 50) (joined_at (old_record ops) 64 m old_long op h ∙ append_assoc front (replicate 14 0) after)
      ∙ take_at front (replicate 14 0 ++ after) 50 (fields_long ops (op * 72) (omega arith))

  -- the bytes behind them are zero
  pub old_zero : (op i : ℕ) → op < m → i < 14 → get_or (old_file ops) (op * 64 + (50 + i)) 0 ≡ get_or (replicate 14 0) i 0
  unfolding old_file
  old_zero op i h l =
      let e : 50 + i ≡ length (fields ops (op * 72)) + i = omega (arith, fields_long ops (op * 72) (omega arith)) in
      joined_byte (old_record ops) 64 m old_long op (50 + i) h (omega arith)
      ∙ ap (λ (x : ℕ). get_or (old_record ops op) x 0) e ∙ get_or-append-add (fields ops (op * 72)) (replicate 14 0) i 0

-- ---- in either form
pub file_joined : (to : Form) (ops : List ℕ) → joined (record_as to ops) 0 (length ops / size_as (other to)) ≡ file_as to ops
unfolding new_file old_file
file_joined New ops = refl
file_joined Old ops = refl

pub file_length : (to : Form) (ops : List ℕ) → length (file_as to ops) ≡ length ops / size_as (other to) * size_as to
file_length New ops = new_length ops
file_length Old ops = old_length ops
