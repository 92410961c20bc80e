-- Laws of operands and targets, over plain variables. Assumes nothing.
use Rattle.std.specs.Prelude.{ℤ}
use Rattle.std.proofs.Common.{◌≡◌, ℕ, ◌<◌, min, true, false, get_or, refl, lt-ltb}
use Rattle.laws.proofs.Tests.{clash}
use Rattle.decoder.specs.declared.Instr.{Instr}
use Rattle.flow.specs.declared.Kind.{Kind}
use Rattle.flow.specs.declared.Kind.TheVariants.{On, Ends, Jumps, Branches, JumpsBack, Switch}
use Rattle.flow.specs.declared.Flow.{Flow}
use Rattle.decoder.specs.Decode.{record_of}
use Rattle.std.specs.Prelude.{Option, None}
use Rattle.serializer.specs.declared.Elem.{Elem}
use Rattle.targets.specs.Targets.{operand_of, here, distance_by, target_by, jump_target}
use Rattle.targets.specs.mirror.Jumps.{is_jump}

module _ (i : Instr) (k : ℕ) where
  pub operand_some : k < min i.count 8 → (get_or i.operands k (record_of None)).operand ≡ operand_of i k
  unfolding operand_of
  operand_some h = rw (lt-ltb k (min i.count 8) h)

-- ---- no target
no_kind : (k : Kind) (at : ℕ) (d : Option ℤ) → is_jump k ≡ false → None ≡ target_by k at d
no_kind On at d h = refl
no_kind Ends at d h = refl
no_kind Jumps at d h = clash {b = true} refl h
no_kind Branches at d h = clash {b = true} refl h
no_kind JumpsBack at d h = clash {b = true} refl h
no_kind Switch at d h = refl

-- none of another kind
module _ (el : ℕ → Option Elem) (flow : Flow) (i : Instr) where
  pub no_jump : is_jump flow.kind ≡ false → None ≡ jump_target el flow i
  unfolding jump_target
  no_jump h = no_kind flow.kind (here i) (distance_by el flow.pool (operand_of i flow.first)) h
