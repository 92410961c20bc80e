-- 02: "for tables whose widths stay at most 4, whose Flag8 is always 1 byte wide and whose Flag16 at most 2": then nothing that is read is dropped.
use Rattle.std.specs.Prelude.{ℕ, ◌≤◌, ◌≡◌, true, List, [], ◌∷◌}
use Rattle.tables.specs.Records.{width}
use Rattle.operand.specs.Operand.{Kind, kind_of, is_list}
use Rattle.operand.specs.Operand.Kind.{reg, pair, triple, list, index, imm, flag8, flag16, runtime, intrinsic, raw}

-- of an operand of a kind and a width: a raw one keeps all its bytes
abbrev pub Narrow : Kind → ℕ → Type 0
Narrow reg w = w ≤ 4
Narrow pair w = w ≤ 4
Narrow triple w = w ≤ 4
Narrow list w = w ≤ 4
Narrow index w = w ≤ 4
Narrow imm w = w ≤ 4
Narrow flag8 w = w ≤ 1
Narrow flag16 w = w ≤ 2
Narrow runtime w = w ≤ 4
Narrow intrinsic w = w ≤ 4
Narrow raw w = w ≤ 8

-- of operands of these types at a scale, and of the count (8 is RegCount) that a list among them has
abbrev pub AllNarrow : List ℕ → ℕ → List ℕ → Type 0
AllNarrow types scale [] = Unit {0}
AllNarrow types scale (t ∷ ts) = Narrow (kind_of t) (width types t scale) × (is_list t ≡ true → width types 8 scale ≤ 4) × AllNarrow types scale ts
