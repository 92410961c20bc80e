use Prim.Native.Nat.{ℕ, ◌%◌, ◌^◌}
use mathlib.Core.Path.{sym, ap, ◌∙◌}
use Rattle.writer.proofs.Loops.{low_is}
use Rattle.writer.proofs.list_count.Goals as goal

pub returns-then-not-is_list : goal.returns-then-not-is_list
returns-then-not-is_list c =
    rw (sym c.is_list.ensures ∙ c.if-not-is_list.true)

pub returns : goal.returns
returns c =
    let a = c.args in
    rw (sym c.is_list.ensures ∙ c.if-not-is_list.false) (ap (λ (k : ℕ). k % 2 ^ 32) (low_is a.types.now 8 a.scale c.low_bytes.ensures c.count_of.ensures c.type_width-w.ensures))
