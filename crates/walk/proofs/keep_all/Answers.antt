use Prim.Native.Nat.{ℕ, ◌-◌}
use mathlib.Core.Path.{◌≡◌, refl, sym, ap, ◌∙◌}
use mathlib.Core.List.{List, []}
use native.Mathlib.Omega.{arith}
use lib.ListN.{length}
use Rattle.std.specs.Prelude.{Option, Some, None, Result, Ok, Err}
use Rattle.std.specs.Result.{result_and}
use Rattle.std.proofs.lemmas.Result.{err_from_is_err_and}
use Rattle.refusal.specs.Refusal.{Refusal}
use Rattle.decoder.specs.declared.Instr.{Instr}
use Rattle.decoder.specs.declared.Extent.{Extent}
use Rattle.decoder.specs.Decode.{Decoded, Done, instr_in, decode_at}
use Rattle.decoder.specs.mirror.Extent.{extent_of}
use Rattle.decoder.proofs.Listed.{decode_end}
use Rattle.flow.specs.declared.Flow.{Flow}
use Rattle.flow.specs.Flow.{flow_of}
use Rattle.flow.specs.Opcodes.{opcodes_of}
use Rattle.function.specs.declared.Function.{Function}
use Rattle.targets.specs.declared.BadSwitch.{BadSwitch}
use Rattle.targets.specs.Targets.{found}
use Rattle.targets.specs.mirror.Search.{pool_searched}
use Rattle.steps.specs.declared.Kept.{Kept}
use Rattle.steps.specs.Steps.{Source}
use Rattle.steps.specs.mirror.Keeping.{decoded_at, kept_of}
use Rattle.steps.proofs.Keeps.{behind, few_bytes}
use Rattle.walk.specs.mirror.Search.{source_of, Prefixed}
use Rattle.walk.proofs.Laws.{decoded_is}
use Rattle.walk.proofs.Keeping.{keeping_start, keeping_refused, keeping_end, kept_done}
use Rattle.walk.proofs.keep_all.Goals as goal

-- ---- what an extent says of the instruction
is_err : (d : Decoded) (r : Refusal) → extent_of d ≡ Err r → d ≡ Err r
is_err (Ok (Some i)) r e = cc
is_err (Ok None) r e = cc
is_err (Err q) r e = cc

is_none : (d : Decoded) → extent_of d ≡ Ok None → d ≡ Ok None
is_none (Ok (Some i)) e = cc
is_none (Ok None) e = cc
is_none (Err q) e = cc

record Shown (d : Decoded) (x : Extent) : Type 0 where
  done : Done d
  opcode : x.opcode ≡ (instr_in d).opcode
  ends : x.end ≡ (instr_in d).end

is_some : (d : Decoded) (x : Extent) → extent_of d ≡ Ok (Some x) → Shown d x
is_some (Ok (Some i)) x e =
    let h : x ≡ record { opcode = i.opcode; scale = i.scale; end = i.end } = cc in
    record { done = refl; opcode = ap (λ (y : Extent). y.opcode) h; ends = ap (λ (y : Extent). y.end) h }
is_some (Ok None) x e = cc
is_some (Err q) x e = cc

-- what the call is about
abbrev source : List ℕ → List ℕ → List ℕ → List ℕ → List ℕ → Function → Source
source code ops types slots payload f = source_of code ops types slots payload [] f

module _ (code ops types slots payload : List ℕ) (f : Function) (i : ℕ) (fixed : Prefixed ops f) where
  -- what is decoded at the place that the loop stands at
  abbrev d : Decoded
  d = decoded_at (source code ops types slots payload f) i

  -- the same with the prefix opcodes found once
  decoded : decode_at code (opcodes_of ops) types i f.frame.reg_file_start f.prefixes ≡ d
  decoded = decoded_is ops f code types f.frame.reg_file_start i fixed

  module _ {x : Result (Option Extent) Refusal} (e : x ≡ extent_of (decode_at code (opcodes_of ops) types i f.frame.reg_file_start f.prefixes)) where
    is : extent_of d ≡ x
    is = sym (e ∙ ap extent_of decoded)

    shown : {y : Option Extent} (z : Extent) → x ≡ Ok y → y ≡ Some z → Shown d z
    shown z h k = is_some d z (is ∙ h ∙ ap (λ (o : Option Extent). Ok o) k)

  -- what is kept of the instruction there
  kept_is : {flow : Flow} {size : ℕ} {k : Result Kept BadSwitch} (z : Extent) → Shown d z → flow ≡ flow_of ops z.opcode → size ≡ z.end - i
      → ((x : Instr) → decode_at code (opcodes_of ops) types i f.frame.reg_file_start f.prefixes ≡ Ok (Some x) → k ≡ kept_of (pool_searched slots payload f.ts f.pool) (found f.pool) flow x size)
      → let x = instr_in d in k ≡ kept_of (pool_searched slots payload f.ts f.pool) (found f.pool) (flow_of ops x.opcode) x (x.end - i)
  kept_is {size = size} z w goes long k =
      let x = instr_in d in
      let keep : Flow → ℕ → Result Kept BadSwitch = λ y n. kept_of (pool_searched slots payload f.ts f.pool) (found f.pool) y x n in
      k x (decoded ∙ w.done) ∙ ap (λ (y : Flow). keep y size) (goes ∙ ap (flow_of ops) w.opcode) ∙ ap (keep (flow_of ops x.opcode)) (long ∙ ap (λ (e : ℕ). e - i) w.ends)

pub loop-i-init : goal.loop-i-init
loop-i-init c = let p = c.requires in keeping_start _ p.4 p.2 p.3

pub returns-in_err-x : goal.returns-in_err-x
returns-in_err-x c =
    let a = c.args in
    let p = err_from_is_err_and c.from_residual.result c.from_residual.ensures.1 in
    let e = is a.code.now a.opcodes.now a.types.now a.slots.now a.payload.now a.f c.loop-i.i c.requires.0 (c.in_err-x.ensures a.f.frame.reg_file_start) in
    rw (p.1, p.2) (keeping_refused _ c.loop-i.invariant _ (is_err _ _ e))

pub returns-in_default : goal.returns-in_default
returns-in_default c =
    let a = c.args in
    let e = is a.code.now a.opcodes.now a.types.now a.slots.now a.payload.now a.f c.loop-i.i c.requires.0 (c.in_ok-x.ensures a.f.frame.reg_file_start) in
    keeping_end _ c.loop-i.invariant (is_none _ (e ∙ ap (λ (o : Option Extent). Ok o) c.in_default.is))

pub overflow_sub-size : goal.overflow_sub-size
overflow_sub-size c =
    let a = c.args in
    let w = shown a.code.now a.opcodes.now a.types.now a.slots.now a.payload.now a.f c.loop-i.i c.requires.0 (c.in_ok-x.ensures a.f.frame.reg_file_start) c.in-Some.x refl c.in-Some.is in
    omega (arith, w.ends, behind (source a.code.now a.opcodes.now a.types.now a.slots.now a.payload.now a.f) c.loop-i.i w.done)

pub overflow_cast-size : goal.overflow_cast-size
overflow_cast-size c =
    let a = c.args in
    let w = shown a.code.now a.opcodes.now a.types.now a.slots.now a.payload.now a.f c.loop-i.i c.requires.0 (c.in_ok-x.ensures a.f.frame.reg_file_start) c.in-Some.x refl c.in-Some.is in
    omega (arith, w.ends, few_bytes (source a.code.now a.opcodes.now a.types.now a.slots.now a.payload.now a.f) c.loop-i.i w.done)

pub loop-i-smaller : goal.loop-i-smaller
loop-i-smaller c =
    let a = c.args in
    let w = shown a.code.now a.opcodes.now a.types.now a.slots.now a.payload.now a.f c.loop-i.i c.requires.0 (c.in_ok-x.ensures a.f.frame.reg_file_start) c.in-Some.x refl c.in-Some.is in
    omega (arith, w.ends, behind (source a.code.now a.opcodes.now a.types.now a.slots.now a.payload.now a.f) c.loop-i.i w.done)

pub loop-i-preserved : goal.loop-i-preserved
loop-i-preserved c =
    let a = c.args in
    let i = c.loop-i in
    let s = source a.code.now a.opcodes.now a.types.now a.slots.now a.payload.now a.f in
    let w = shown a.code.now a.opcodes.now a.types.now a.slots.now a.payload.now a.f i.i c.requires.0 (c.in_ok-x.ensures a.f.frame.reg_file_start) c.in-Some.x refl c.in-Some.is in
    let k = kept_is a.code.now a.opcodes.now a.types.now a.slots.now a.payload.now a.f i.i c.requires.0 c.in-Some.x w c.flow_of-flow.ensures refl c.keep_at-kept.ensures in
    kept_done s i.invariant w.done c.keep_at-kept.result (c.in-Some.x.end - i.i) _ _ _ _ k (ap (λ (e : ℕ). e - i.i) w.ends) c.kept_on.ensures c.unwrap_or-k.ensures (c.and-check.ensures ∙ ap (result_and i.check) c.kept_check.ensures) w.ends

pub returns : goal.returns
returns c =
    let a = c.args in
    let i = c.loop-i in
    let e : i.i ≡ length a.code.now = omega (arith, i.invariant.going.pass.inside, c.loop-i-test.false) in
    keeping_end _ i.invariant (decode_end a.code.now (opcodes_of a.opcodes.now) a.types.now a.f.frame.reg_file_start _ i.i e)
