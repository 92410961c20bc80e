-- Laws of the listing: what a pass says of the answer, and how long its text can be. Assumes nothing.
use Prim.Native.Nat.{ℕ, ◌<◌, ◌≤◌, ◌^◌}
use mathlib.Core.Path.{◌≡◌, refl, sym, ap, ◌∙◌}
use mathlib.Core.Bool.{Bool, true, false, cond}
use mathlib.Core.List.{List, [], ◌∷◌}
use native.Mathlib.Omega.{arith}
use lib.ListN.{length, length-append}
use Rattle.refusal.specs.Refusal.{Refusal}
use Rattle.std.specs.Prelude.{Option, None, Result, Ok, Err}
use lib.IntN.{ℤ}
use borrow.Author.Tests.{le-ltb}
use Rattle.decoder.specs.Decode.{blank}
use Rattle.flow.specs.declared.Kind.{Kind}
use Rattle.flow.specs.declared.Kind.TheVariants.{On, Ends, Jumps, Branches, JumpsBack, Switch}
use Rattle.refusal.proofs.Laws.{or_left}
use Rattle.text.specs.Put.{Put}
use Rattle.text.specs.Written.{put_text}
use Rattle.text.specs.mirror.Written.{WrittenBy}
use Rattle.text.proofs.PutText.{written_whole}
use Rattle.text.proofs.Texts.{digits_few}
use Rattle.header.specs.declared.Header.{Header}
use Rattle.decoder.specs.declared.Instr.{Instr}
use Rattle.decoder.specs.Listed.{Listing}
use Rattle.flow.specs.Opcodes.{Opcodes}
use Rattle.flow.specs.declared.Flow.{Flow}
use Rattle.targets.specs.Targets.{operand_of, index_of, is_switch, table_by, jump_table}
use Rattle.lines.specs.Line.{View}
use Rattle.lines.proofs.Room.{NamesFit, signed_room, line_room_lem}
use Rattle.disasm.specs.Listing.{header_text, lines_text, listing_text, list_view}
use Rattle.disasm.specs.mirror.Lines.{header_room, lines_room, passed, Checked}

-- ---- room

lines_room_lem : (v : View) → NamesFit v.opcodes → (is : List Instr) → length (lines_text v is) ≤ lines_room v.opcodes v.pooled is
unfolding lines_text lines_room
lines_room_lem v short [] = omega arith
lines_room_lem v short (i ∷ is) = rw length-append (omega (arith, line_room_lem v short (v.opcodes.flow i.opcode) i, lines_room_lem v short is))

header_room_lem : (h : Header) → length (header_text h) ≤ header_room
unfolding header_text
header_room_lem h =
    simp length-append
    (omega
    (arith, digits_few h.length, signed_room h.parameter_count, digits_few h.register_count, digits_few h.frame_size, digits_few h.osr, digits_few h.age))

-- ---- the first pass
-- what is no switch has no table
pub no_table : (pooled : Bool) (flow : Flow) (i : Instr) → is_switch flow.kind ≡ false → Ok None ≡ jump_table pooled flow i
unfolding jump_table
no_table pooled flow i e = rw e

pub not_switch : (k : Kind) → (k ≡ Switch → ⊥) → is_switch k ≡ false
not_switch On h = refl
not_switch Ends h = refl
not_switch Jumps h = refl
not_switch Branches h = refl
not_switch JumpsBack h = refl
not_switch Switch h = absurd (h refl)

-- nor where no instruction was decoded
pub no_instr : (pooled : Bool) (flow : Flow) → Ok None ≡ jump_table pooled flow blank
unfolding jump_table operand_of index_of table_by
no_instr pooled flow = rw (le-ltb flow.first 0 (omega arith)) (go (is_switch flow.kind) pooled _ _)
  where
    go : (s b : Bool) (size base : Option ℤ) → Ok None ≡ cond s (table_by b None size base) (Ok None)
    go true true size base = refl
    go true false size base = refl
    go false b size base = refl

-- where it found nothing, decoding came to the code's end
pub check_fine : {ops : Opcodes} {pooled : Bool} (l : Listing) {m : Result ℕ Refusal} {n : ℕ} → Checked ops pooled l m → m ≡ Ok n → l.check ≡ Ok tt
check_fine l c ok = or_left l.check _ (sym c.checked ∙ ap passed ok)

module _ (v : View) (h : Header) (l : Listing) (o : List ℕ) {m : Result ℕ Refusal} (c : Checked v.opcodes v.pooled l m) where
  pub check_refused : (r : Refusal) → m ≡ Err r → WrittenBy (list_view v h l o) (Err r) o
  unfolding list_view
  check_refused r e = rw (sym c.checked ∙ ap passed e) (refl, refl)

  module _ {n : ℕ} (ok : m ≡ Ok n) where
    -- what is written where 11 to 16 are past
    pub check_written : {r : Result ℕ Refusal} {o' : List ℕ} → WrittenBy (put_text (listing_text v h l) o) r o' → WrittenBy (list_view v h l o) r o'
    unfolding list_view
    check_written w = rw (sym c.checked ∙ ap passed ok) w

    -- a buffer with the room is long enough
    pub check_fits : NamesFit v.opcodes → length o < 2 ^ 63 → n ≤ length o → {o' : List ℕ} {r : ℕ} → Put o 0 (listing_text v h l) o' r
        → WrittenBy (list_view v h l o) (Ok r) o'
    check_fits short small room p =
        let f : length (listing_text v h l) ≤ length o =
        rw length-append (omega (arith, c.room n ok, header_room_lem h, lines_room_lem v short l.instrs)) in
        check_written (written_whole (listing_text v h l) o small f p)
