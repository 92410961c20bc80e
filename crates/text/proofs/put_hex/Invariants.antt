-- Behind the end the length is known from the number of bytes. The loop's invariant: from where the first byte was put, the first i bytes are.
use Prim.Native.Nat.{ℕ, ◌≤◌, ◌^◌}
use mathlib.Core.List.{List}
use lib.ListN.{length, take}
use Rattle.text.specs.Put.{Put}
use Rattle.text.specs.Texts.{hex_bytes}
use Rattle.text.proofs.put_hex.Given as goal

abbrev pub invariant-loop-i : goal.invariant-loop-i
invariant-loop-i l =
    (o : List ℕ) → length o ≤ 2 ^ 63 → Put o l.at (hex_bytes (take 1 l.s)) l.initial.out l.initial.p → Put o l.at (hex_bytes (take l.i l.s)) l.out l.p
