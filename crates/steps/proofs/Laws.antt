-- What is kept of an instruction, by its kind. Assumes nothing.
use Prim.Native.Nat.{ℕ, ◌≤◌}
use mathlib.Core.Path.{◌≡◌, refl, sym, ap}
use mathlib.Core.Bool.{Bool, true, false, cond}
use native.Mathlib.Omega.{arith}
use Rattle.decoder.specs.declared.Instr.{Instr}
use Rattle.flow.specs.declared.Flow.{Flow}
use Rattle.flow.specs.declared.Kind.{Kind}
use Rattle.std.specs.Prelude.{Option, Some, None, Result, Ok, Err}
use Rattle.targets.specs.declared.Entries.{Entries}
use Rattle.serializer.specs.declared.Elem.{Elem}
use Rattle.flow.specs.declared.Kind.TheVariants.{On, Ends, Jumps, Branches, JumpsBack, Switch}
use Rattle.targets.specs.Targets.{jump_target, is_switch, jump_table}
use Rattle.steps.specs.mirror.Keeping.{prefix_of, kept_table, kept_by, kept_of, stored}
use Rattle.targets.specs.declared.BadSwitch.{BadSwitch}

pub kept_by_lem : (el : ℕ → Option Elem) (pooled : Bool) (flow : Flow) (i : Instr) (size : ℕ) (k : Kind) → flow.kind ≡ k
    → kept_by k (jump_target el flow i) (jump_table pooled flow i) (prefix_of i.scale) size ≡ kept_of el pooled flow i size
unfolding kept_of
kept_by_lem el pooled flow i size k e = ap (λ (x : Kind). kept_by x (jump_target el flow i) (jump_table pooled flow i) (prefix_of i.scale) size) (sym e)

-- number 16 refuses a table just where nothing is kept
abbrev pub is_refused : {A : Type 0} → Result A BadSwitch → Bool
is_refused (Ok x) = false
is_refused (Err e) = true

pub refused_is : (el : ℕ → Option Elem) (pooled : Bool) (flow : Flow) (i : Instr) (size : ℕ) → is_refused (kept_of el pooled flow i size) ≡ is_refused (jump_table pooled flow i)
unfolding kept_of jump_table
refused_is el pooled flow i size = go flow.kind (jump_target el flow i) _ (prefix_of i.scale)
  where
    of_table : (t : Result (Option Entries) BadSwitch) (prefix : ℕ) → is_refused (kept_table t prefix size) ≡ is_refused t
    of_table (Ok None) prefix = refl
    of_table (Ok (Some e)) prefix = refl
    of_table (Err e) prefix = refl

    -- only a switch has a table
    go : (k : Kind) (T : Option ℕ) (t : Result (Option Entries) BadSwitch) (prefix : ℕ) → let u = cond (is_switch k) t (Ok None) in is_refused (kept_by k T u prefix size) ≡ is_refused u
    go On T t prefix = refl
    go Ends T t prefix = refl
    go Jumps T t prefix = refl
    go Branches T t prefix = refl
    go JumpsBack T t prefix = refl
    go Switch T t prefix = of_table t prefix

-- a head is at least the size
pub head_most : (el : ℕ → Option Elem) (pooled : Bool) (flow : Flow) (i : Instr) (size : ℕ) → size ≤ (stored size (kept_of el pooled flow i size)).head
unfolding kept_of
head_most el pooled flow i size = go flow.kind (jump_target el flow i) (jump_table pooled flow i) (prefix_of i.scale)
  where
    of_table : (t : Result (Option Entries) BadSwitch) (prefix : ℕ) → size ≤ (stored size (kept_table t prefix size)).head
    of_table (Ok None) prefix = omega arith
    of_table (Ok (Some e)) prefix = omega arith
    of_table (Err e) prefix = omega arith

    go : (k : Kind) (T : Option ℕ) (t : Result (Option Entries) BadSwitch) (prefix : ℕ) → size ≤ (stored size (kept_by k T t prefix size)).head
    go On T t prefix = omega arith
    go Ends T t prefix = omega arith
    go Jumps T t prefix = omega arith
    go Branches T t prefix = omega arith
    go JumpsBack T t prefix = omega arith
    go Switch T t prefix = of_table t prefix
