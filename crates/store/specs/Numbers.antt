-- A slot's value in 01's numbers: the fields of its record, "kind .., inner kind 0 to 4, .. object number or payload offset, run length, repeat
-- count"; "Unused fields are zero." So `value_of` (Records.antt) of these numbers is the value again.
use Rattle.std.specs.Prelude.{ℕ, List, [], ◌∷◌, ℤ, pos}
use Rattle.store.specs.declared.Inner.{Inner}
use Rattle.store.specs.declared.Inner.TheVariants as inner
use Rattle.store.specs.declared.SlotValue.{SlotValue}
use Rattle.store.specs.declared.SlotValue.TheVariants as value

abbrev pub fields : ℕ → ℕ → ℕ → ℕ → ℕ → List ℤ
fields kind in-kind off len count = pos kind ∷ pos in-kind ∷ pos off ∷ pos len ∷ pos count ∷ []

-- of a repeat
abbrev pub repeat_fields : Inner → ℕ → List ℤ
repeat_fields inner.Other count = fields 5 0 0 0 count
repeat_fields (inner.Object n) count = fields 5 1 n 0 count
repeat_fields inner.Root count = fields 5 2 0 0 count
repeat_fields inner.OtherRef count = fields 5 3 0 0 count
repeat_fields (inner.Raw r) count = fields 5 4 r.off r.len count

abbrev pub value_fields : SlotValue → List ℤ
value_fields value.Other = fields 0 0 0 0 0
value_fields (value.Object n) = fields 1 0 n 0 0
value_fields value.Root = fields 2 0 0 0 0
value_fields value.OtherRef = fields 3 0 0 0 0
value_fields (value.Raw r) = fields 4 0 r.off r.len 0
value_fields (value.Repeat q) = repeat_fields q.inner q.count
