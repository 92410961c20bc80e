use mathlib.Core.Path.{◌≡◌}
use native.Mathlib.Omega.{arith}
use Prim.Native.Nat.{ℕ, ◌+◌}
use lib.ListN.{get_or, get_or-eq_default}
use Rattle.convert.specs.mirror.Index.{place_of}
use Rattle.convert.proofs.names.place_of.Goals as goal

pub returns-then-opcodes-at : goal.returns-then-opcodes-at
unfolding place_of
returns-then-opcodes-at c =
    let a = c.args in
    let past : (k : ℕ) → get_or a.opcodes.now (a.at + k) 0 ≡ 0 = λ k. get_or-eq_default a.opcodes.now 0 (omega arith) in
    rw (past 2, past 7, past 12, past 17, past 24)
