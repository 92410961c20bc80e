-- A refusal on lent code is told by one of the numbers 1 to 26, and so never as an answer or as "end". Assumes nothing.
use Prim.Native.Nat.{ℕ, ◌≤◌}
use mathlib.Core.Path.{◌≡◌, refl, sym, ap}
use mathlib.Core.Bool.{Bool, true, false, cond, ◌&&◌}
use mathlib.Core.List.{List, [], ◌∷◌, ◌++◌}
use native.Mathlib.Omega.{arith}
use lib.Dec.{leb, ltb}
use lib.IntN.{ℤ}
use lib.ListN.{length, take, drop}
use Rattle.refusal.specs.Refusal.{Refusal}
use Rattle.std.specs.Prelude.{Option, Some, None, Result, Ok, Err}
use Rattle.refusal.specs.Check.{Check}
use Rattle.targets.specs.declared.Entries.{Entries}
use Rattle.targets.specs.declared.Case.{Case}
use Rattle.refusal.specs.declared.Fault.{Fault}
use Rattle.refusal.specs.declared.Fault.TheVariants as fault
use Rattle.refusal.specs.Fault.{number_of}
use Rattle.refusal.specs.Numbers.{Numbers}
use Rattle.refusal.specs.Check.{refusal_at, first_refusal, refuse_unless, guarded, guarded_on}
use Rattle.refusal.proofs.Laws.{never}
use Rattle.text.specs.Written.{put_text}
use Rattle.serializer.specs.declared.Elem.{Elem}
use Rattle.layout.specs.Layout.{signed_value}
use Rattle.tables.specs.Check.{check_table}
use Rattle.decoder.specs.declared.Instr.{Instr}
use Rattle.decoder.specs.Decode.{Decoded, instr_in, operand_types}
use Rattle.writer.specs.Write.{all_hold, scale_ok, opcode_fits, operands_ok, given, check_write, written_bytes, write_call}
use Rattle.flow.specs.Opcodes.{Opcodes, opcodes_of}
use Rattle.targets.specs.Targets.{here, found, jump_target, jump_table, entry_at}
use Rattle.function.specs.Files.{Files, check_lent}
use Rattle.function.specs.Pool.{lent_pool, lent_elem}
use Rattle.function.specs.Code.{decoded_at}
use Rattle.jumps.specs.declared.Entry.TheVariants.{Beyond}
use Rattle.jumps.specs.Numbers.{target_numbers, entry_numbers}
use Rattle.jumps.specs.Jumps.{target_of, target_call, table_told, table_of, table_call, entry_told, entry_of, entry_call}
use Rattle.walk.proofs.Rows.{RowOf, DecodedRow, table_row, lent_row, decode_row}
use Rattle.targets.specs.declared.BadSwitch.{BadSwitch}

-- the numbers of a refusal, which has no values
abbrev Told : Numbers → Type 0
Told n = n.values ≡ [] → (1 ≤ n.number) × (n.number ≤ 26)

abbrev some : {A : Type 0} (v : ℤ) (vs : List ℤ) → v ∷ vs ≡ [] → A
some v vs e = absurd (omega (arith, ap length e))

-- ---- targets
module _ (at : ℕ) where
  pub target_row : (f : Files) (w : Option ℕ) (code : List ℕ) → Told (target_numbers at (target_call f w code at))
  unfolding target_call target_of
  target_row f w code = checked (check_lent f w code) (lent_row f w code)
    where
      ops : Opcodes
      ops = opcodes_of f.opcodes

      decoded : (d : Decoded) → DecodedRow d → Told (target_numbers at (target_of ops (lent_elem f w) d))
      decoded (Ok (Some i)) row e = told (jump_target (lent_elem f w) (ops.flow i.opcode) i) e
        where
          told : (t : Option ℕ) → Told (target_numbers at (Ok (Some t)))
          told (Some t) e = some _ _ e
          told None e = some _ _ e
      decoded (Ok None) row e = some _ _ e
      decoded (Err r) row e = ((row r refl).least, (row r refl).most)

      checked : (c : Check) → RowOf c → Told (target_numbers at (guarded c Err (target_of ops (lent_elem f w) (decoded_at f code at))))
      checked (Ok tt) row e = decoded (decoded_at f code at) (decode_row code ops f.types (signed_value f.layout 13) at) e
      checked (Err r) row e = ((row.row r refl).least, (row.row r refl).most)

  -- ---- entries
  pub entry_row : (f : Files) (w : Option ℕ) (code : List ℕ) (k : ℕ) → Told (entry_numbers at (entry_call f w code at k))
  unfolding entry_call table_call table_of
  entry_row f w code k = checked (check_lent f w code) (lent_row f w code)
    where
      el : ℕ → Option Elem
      el = lent_elem f w

      from : ℕ
      from = here (instr_in (decoded_at f code at))

      ops : Opcodes
      ops = opcodes_of f.opcodes

      entry_told_lem : (b : Bool) (x : Option Case) → Told (entry_numbers at (Ok (Some (Some (cond b (entry_told x) Beyond)))))
      entry_told_lem true (Some c) e = some _ _ e
      entry_told_lem true None e = some _ _ e
      entry_told_lem false x e = some _ _ e

      shown : (t : Result (Option Entries) BadSwitch) → Told (entry_numbers at (entry_of el from (table_told t at) k))
      shown (Ok None) e = some _ _ e
      shown (Ok (Some s)) e = entry_told_lem (ltb k s.count) (entry_at el from s k) e
      shown (Err b) e = (omega arith, omega arith)

      decoded : (d : Decoded) → DecodedRow d → Told (entry_numbers at (entry_of el from (table_of ops (found (lent_pool f w)) d at) k))
      decoded (Ok (Some i)) row e = shown (jump_table (found (lent_pool f w)) (ops.flow i.opcode) i) e
      decoded (Ok None) row e = some _ _ e
      decoded (Err r) row e = ((row r refl).least, (row r refl).most)

      checked : (c : Check) → RowOf c → Told (entry_numbers at (entry_of el from (guarded c Err (table_of ops (found (lent_pool f w)) (decoded_at f code at) at)) k))
      checked (Ok tt) row e = decoded (decoded_at f code at) (decode_row code ops f.types (signed_value f.layout 13) at) e
      checked (Err r) row e = ((row.row r refl).least, (row.row r refl).most)

-- ---- what is written: 1 to 5, 17, and 02's 21 to 23, so that a refusal is never told as 0
abbrev pub Numbered : Check → Type 0
Numbered c = (r : Refusal) → c ≡ Err r → 1 ≤ number_of r.fault

pub some_unless : (good : Bool) (f : Fault) → 1 ≤ number_of f → Numbered (refuse_unless good f)
some_unless true f h r e = never r (sym e)
some_unless false f h r e = let z : refusal_at f 0 ≡ r = cc in rw (← z) h

pub some_first : (a b : Check) → Numbered a → Numbered b → Numbered (first_refusal a b)
some_first (Ok tt) b p q = q
some_first (Err r) b p q = p

some_write : (ops : Opcodes) (types : List ℕ) (rfs : ℤ) (i : Instr) → Numbered (check_write ops types rfs i)
some_write ops types rfs i =
    let a = scale_ok ops i.scale in
    let b = opcode_fits ops i.scale i.opcode in
    let c = leb i.count 8 && all_hold (take i.count i.operands) && operands_ok types i.scale rfs false (operand_types ops i.opcode) (given i) in
    some_first (refuse_unless a fault.WrongScale) (first_refusal (refuse_unless b fault.WrongOpcode) (refuse_unless c fault.WrongOperands)) (some_unless a fault.WrongScale (omega arith))
    (some_first (refuse_unless b fault.WrongOpcode) (refuse_unless c fault.WrongOperands) (some_unless b fault.WrongOpcode (omega arith)) (some_unless c fault.WrongOperands (omega arith)))

pub write_row : (ops types layout : List ℕ) (i : Instr) (out : List ℕ) (r : Refusal) → (write_call ops types layout i out).0 ≡ Err r → 1 ≤ number_of r.fault
unfolding write_call
write_row ops types layout i out r = go (check_table ops types [] [] layout) (check_write (opcodes_of ops) types (signed_value layout 13) i)
    (λ q e. ((table_row ops types [] [] layout).row q e).least) (some_write (opcodes_of ops) types (signed_value layout 13) i)
  where
    t : List ℕ
    t = written_bytes (opcodes_of ops) types (signed_value layout 13) i

    put : (b : Bool) → let x : Result ℕ Refusal × List ℕ = cond b (Ok (length t), t ++ drop (length t) out) (Err (refusal_at fault.ShortOutput 0), out) in x.0 ≡ Err r → 1 ≤ number_of r.fault
    put true e = let z : ◌≡◌ {A = ℕ} 0 1 = cc in absurd (omega arith)
    put false e = let z : refusal_at fault.ShortOutput 0 ≡ r = cc in rw (← z) (omega arith)

    go : (a b : Check) → Numbered a → Numbered b → let x : Result ℕ Refusal × List ℕ = guarded_on (first_refusal a b) Err out (put_text t out) in x.0 ≡ Err r → 1 ≤ number_of r.fault
    go (Err q) b p s e = let z : q ≡ r = cc in rw (← z) (p q refl)
    go (Ok tt) (Err q) p s e = let z : q ≡ r = cc in rw (← z) (s q refl)
    go (Ok tt) (Ok u) p s e = put (leb (length t) (length out)) e
