-- Law `no_jump` (proofs/Laws.antt): of the other kinds `jump_target` finds none. No contract of a call cites it.
use Rattle.std.specs.Prelude.{Bool, true, false}
use Rattle.flow.specs.declared.Kind.{Kind}
use Rattle.flow.specs.declared.Kind.TheVariants.{On, Ends, Jumps, Branches, JumpsBack, Switch}

-- the kinds of the Rust's list
abbrev pub is_jump : Kind → Bool
is_jump On = false
is_jump Ends = false
is_jump Jumps = true
is_jump Branches = true
is_jump JumpsBack = true
is_jump Switch = false
