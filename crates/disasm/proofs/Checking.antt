-- A pass that writes nothing: what holds at each instruction, and what its end says. Assumes nothing.
use Prim.Native.Nat.{ℕ, suc, ◌+◌, ◌-◌, ◌<◌, ◌≤◌, min}
use mathlib.Core.Path.{◌≡◌, refl, sym, ap, ◌∙◌}
use mathlib.Core.Bool.{Bool}
use native.Mathlib.Omega.{arith}
use Rattle.refusal.specs.Refusal.{Refusal}
use Rattle.std.specs.Prelude.{Option, Some, None, Result, Ok, Err}
use Rattle.refusal.specs.Check.{Check}
use Rattle.targets.specs.declared.Entries.{Entries}
use Rattle.refusal.specs.Check.{first_refusal}
use Rattle.text.specs.Put.{place}
use Rattle.decoder.specs.declared.Instr.{Instr}
use Rattle.decoder.specs.Decode.{Decoded, instr_in, Done}
use Rattle.decoder.specs.declared.Extent.{Extent}
use Rattle.decoder.specs.mirror.Extent.{extent_of}
use Rattle.flow.specs.declared.Flow.{Flow}
use Rattle.flow.specs.Opcodes.{Opcodes}
use Rattle.targets.specs.Targets.{jump_table}
use Rattle.lines.specs.mirror.Room.{line_room}
use Rattle.lines.proofs.Room.{room_more}
use Rattle.disasm.specs.mirror.Lines.{header_room, lines_room, passed, Checked}
use Rattle.std.specs.Result.{result_and}
use Rattle.function.specs.Code.{table_check}
use Rattle.function.proofs.Passing.{all_of, rest_of, Going, going_start, going_refused, going_end, going_instrs, going_done}
use Rattle.targets.specs.declared.BadSwitch.{BadSwitch}

-- a check and then room
room_passed : (check : Check) (p : ℕ) → passed (result_and check (Ok p)) ≡ check
room_passed (Ok tt) p = refl
room_passed (Err r) p = refl

room_is : (check : Check) (p n : ℕ) → ◌≡◌ {A = Result ℕ Refusal} (result_and check (Ok p)) (Ok n) → p ≡ n
room_is (Ok tt) p n e = cc
room_is (Err r) p n e = absurd (cc)

never_room : (r : Refusal) (n : ℕ) → ◌≡◌ {A = Result ℕ Refusal} (Err r) (Ok n) → ⊥
never_room r n e = cc

-- the first refusal of two
pub and_is : (a b : Check) → result_and a b ≡ first_refusal a b
and_is (Ok tt) b = refl
and_is (Err r) b = refl

-- ---- what an extent says of what was decoded
extent_refused : (d : Decoded) {r : Refusal} → extent_of d ≡ Err r → d ≡ Err r
extent_refused (Ok (Some i)) e = absurd (cc)
extent_refused (Ok None) e = absurd (cc)
extent_refused (Err q) {r} e = let h : q ≡ r = cc in ap (λ (x : Refusal). Err x) h

extent_end : (d : Decoded) → extent_of d ≡ Ok None → d ≡ Ok None
extent_end (Ok (Some i)) e = absurd (cc)
extent_end (Ok None) e = refl
extent_end (Err r) e = absurd (cc)

abbrev pub extent_in : Instr → Extent
extent_in i = record { opcode = i.opcode; scale = i.scale; end = i.end }

pub extent_some : (d : Decoded) {x : Extent} → extent_of d ≡ Ok (Some x) → Done d × (x ≡ extent_in (instr_in d))
extent_some (Ok (Some i)) {x} e = let h : x ≡ extent_in i = cc in (refl, h)
extent_some (Ok None) e = absurd (cc)
extent_some (Err r) e = absurd (cc)

module _ (ops : Opcodes) (pooled : Bool) (d : ℕ → Decoded) (len : ℕ) where
  -- of the room for all lines and the header, done is counted, or more
  pub record RoomInv (p : ℕ) (check : Check) (i : ℕ) : Type 0 where
    pub going : Going ops pooled d len check i
    pub done : ℕ
    pub enough : place done ≤ p
    pub whole : header_room + lines_room ops pooled (all_of d len).instrs ≡ done + lines_room ops pooled (rest_of d len going.passed i).instrs

  pub room_start : RoomInv header_room (Ok tt) 0
  unfolding going_start
  room_start =
      let z : suc len - 0 ≡ suc len = omega arith in
      record { going = going_start ops pooled d len; done = header_room; enough = omega arith; whole = rw z }

  module _ {p i : ℕ} {check : Check} (s : RoomInv p check i) where
    room_refused : (r : Refusal) → d i ≡ Err r → Checked ops pooled (all_of d len) (Err r)
    room_refused r e = record { checked = (going_refused ops pooled d len s.going r e).0; room = λ n e. absurd (never_room r n e) }

    pub room_end : d i ≡ Ok None → Checked ops pooled (all_of d len) (result_and check (Ok p))
    unfolding lines_room
    room_end e =
        let g = going_end ops pooled d len s.going e in
        let w = ap (lines_room ops pooled) g.1 in
        record { checked = room_passed check p ∙ g.0; room = λ n e. omega (arith, s.enough, s.whole, w, room_is check p n e) }

    -- the flow, the table and the least room of the instruction at i
    abbrev flow : Flow
    flow = ops.flow (instr_in (d i)).opcode

    abbrev table : Result (Option Entries) BadSwitch
    table = jump_table pooled flow (instr_in (d i))

    abbrev least : ℕ
    least = line_room flow (min (instr_in (d i)).count 8) ((instr_in (d i)).end - (instr_in (d i)).offset) table

    room_done : {c' : Check} {p' : ℕ} → Done (d i) → i < (instr_in (d i)).end → (instr_in (d i)).end ≤ len
        → c' ≡ first_refusal check (table_check table (instr_in (d i)).offset) → place (p + least) ≤ p' → RoomInv p' c' (instr_in (d i)).end
    unfolding lines_room going_done
    room_done {c'} e low high is more =
        let g = s.going in
        let w = ap (lines_room ops pooled) (going_instrs ops pooled d len g e) in
        record {
          going = going_done ops pooled d len g c' e low high is;
          done = s.done + least;
          enough = omega (arith, s.enough, more);
          whole = omega (arith, s.whole, w);
        }

    -- the same, of what calls gave: y is the extent of what is decoded at i
    module _ {y : Result (Option Extent) Refusal} (is : y ≡ extent_of (d i)) where
      pub checked_refused : (r : Refusal) → y ≡ Err r → Checked ops pooled (all_of d len) (Err r)
      checked_refused r e = room_refused r (extent_refused (d i) (sym is ∙ e))

      pub checked_end : y ≡ Ok None → Checked ops pooled (all_of d len) (result_and check (Ok p))
      checked_end e = room_end (extent_end (d i) (sym is ∙ e))

    pub checked_done : {x : Extent} → extent_of (d i) ≡ Ok (Some x) → {c' : Check} {p' n : ℕ} {z : Flow} {t : Result (Option Entries) BadSwitch} → i < x.end → x.end ≤ len
        → (instr_in (d i)).offset ≡ i → min (instr_in (d i)).count 8 ≤ n → z ≡ ops.flow x.opcode → t ≡ jump_table pooled z (instr_in (d i))
        → c' ≡ first_refusal check (table_check t i) → p' ≡ place (p + line_room z n (x.end - i) t) → RoomInv p' c' x.end
    checked_done {x} e {c'} {p'} {n} {z} {t} low high off few fl te ce room =
        let is = (extent_some (d i) e).1 in
        let at-end : x.end ≡ (instr_in (d i)).end = ap (λ (y : Extent). y.end) is in
        let f : z ≡ flow = fl ∙ ap (λ (y : Extent). ops.flow y.opcode) is in
        let g : t ≡ table = te ∙ ap (λ (y : Flow). jump_table pooled y (instr_in (d i))) f in
        let size : x.end - i ≡ (instr_in (d i)).end - (instr_in (d i)).offset = omega arith in
        let m : line_room z n (x.end - i) t ≡ line_room flow n ((instr_in (d i)).end - (instr_in (d i)).offset) table = rw (size, g, f) in
        rw at-end (room_done (extent_some (d i) e).0 (omega arith) (omega arith) (ce ∙ rw (g, off)) (omega (arith, room, m, room_more flow ((instr_in (d i)).end - (instr_in (d i)).offset) table few)))
