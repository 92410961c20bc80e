-- A slot's numbers say all of its value. Assumes nothing.
use Prim.Native.Nat.{ℕ}
use mathlib.Core.Path.{◌≡◌, refl}
use mathlib.Core.List.{List, [], ◌∷◌}
use lib.IntN.{ℤ, nat_abs}
use Rattle.store.specs.Records.{value_of}
use Rattle.store.specs.Numbers.{repeat_fields, value_fields}
use Rattle.store.specs.declared.Inner.{Inner}
use Rattle.store.specs.declared.Inner.TheVariants as inner
use Rattle.store.specs.declared.SlotValue.{SlotValue}
use Rattle.store.specs.declared.SlotValue.TheVariants as value

-- the value whose record has these fields
abbrev pub value_by : List ℤ → SlotValue
value_by [] = value.Other
value_by (kind ∷ []) = value.Other
value_by (kind ∷ in-kind ∷ []) = value.Other
value_by (kind ∷ in-kind ∷ off ∷ []) = value.Other
value_by (kind ∷ in-kind ∷ off ∷ len ∷ []) = value.Other
value_by (kind ∷ in-kind ∷ off ∷ len ∷ count ∷ vs) = value_of (nat_abs kind) (nat_abs in-kind) (nat_abs off) (nat_abs len) (nat_abs count)

repeat_back : (i : Inner) (count : ℕ) → value_by (repeat_fields i count) ≡ value.Repeat (record { count = count; inner = i })
repeat_back inner.Other count = refl
repeat_back (inner.Object n) count = refl
repeat_back inner.Root count = refl
repeat_back inner.OtherRef count = refl
repeat_back (inner.Raw r) count = refl

pub value_back : (v : SlotValue) → value_by (value_fields v) ≡ v
value_back value.Other = refl
value_back (value.Object n) = refl
value_back value.Root = refl
value_back value.OtherRef = refl
value_back (value.Raw r) = refl
value_back (value.Repeat q) = repeat_back q.inner q.count
