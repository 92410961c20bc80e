-- Elements of an array. The Rust: array_elem.
use Rattle.std.specs.Prelude.{ℤ, ℕ, ◌+◌, ◌-◌, ◌*◌, min, Bool, cond, ◌&&◌, List, eqb, ltb, leb}
use Rattle.store.specs.declared.Run.{Run}
use Rattle.store.specs.declared.Inner.{Inner}
use Rattle.store.specs.declared.Inner.TheVariants as inner
use Rattle.store.specs.declared.Repeat.{Repeat}
use Rattle.store.specs.declared.SlotValue.{SlotValue}
use Rattle.store.specs.declared.SlotValue.TheVariants as value
use Rattle.store.specs.declared.Slot.{Slot}
use Rattle.serializer.specs.Smi.{smi_at}
use Rattle.serializer.specs.Down.{walk_down}
use Rattle.std.specs.Prelude.{Option, Some, None}
use Rattle.serializer.specs.declared.Elem.{Elem}
use Rattle.serializer.specs.declared.Elem.TheVariants as elem

-- bytes of the payload are a small integer, or stay bytes
abbrev pub bytes_or : Option ℤ → ℕ → ℕ → Option Elem
bytes_or (Some v) at len = Some (elem.Smi v)
bytes_or None at len = Some (elem.Bytes (record { at = at; len = len }))

abbrev pub elem_bytes : List ℕ → ℕ → ℕ → Option Elem
elem_bytes payload at len = bytes_or (smi_at payload at len) at len

-- a reference is the element where its index is the one sought
abbrev pub elem_ref : ℕ → ℕ → Option Elem → Option (Option Elem)
elem_ref index want e = cond (eqb index want) (Some e) None

-- a raw run is the element where it holds the whole ts bytes
abbrev pub elem_raw : List ℕ → Run → ℕ → ℕ → ℕ → Option (Option Elem)
elem_raw payload run index ts want =
    cond (leb (index * ts) (want * ts) && leb (want * ts + ts) (index * ts + run.len))
    (Some (elem_bytes payload (run.off + (want * ts - index * ts)) ts))
    None

-- what a repeat repeats: of a run the first ts bytes, or all where it is shorter; another value is no element
abbrev pub elem_inner : List ℕ → Inner → ℕ → Option Elem
elem_inner payload inner.Other ts = None
elem_inner payload (inner.Object n) ts = Some (elem.Object n)
elem_inner payload inner.Root ts = Some elem.Root
elem_inner payload inner.OtherRef ts = Some elem.OtherRef
elem_inner payload (inner.Raw run) ts = elem_bytes payload run.off (min run.len ts)

-- a repeat is the element where the element is among its count
abbrev pub elem_repeat : List ℕ → Repeat → ℕ → ℕ → ℕ → Option (Option Elem)
elem_repeat payload rep index ts want =
    cond (leb (index * ts) (want * ts) && ltb (want * ts) (index * ts + rep.count * ts)) (Some (elem_inner payload rep.inner ts)) None

abbrev pub elem_value : List ℕ → SlotValue → ℕ → ℕ → ℕ → Option (Option Elem)
elem_value payload value.Other index ts want = None
elem_value payload (value.Object n) index ts want = elem_ref index want (Some (elem.Object n))
elem_value payload value.Root index ts want = elem_ref index want (Some elem.Root)
elem_value payload value.OtherRef index ts want = elem_ref index want (Some elem.OtherRef)
elem_value payload (value.Raw run) index ts want = elem_raw payload run index ts want
elem_value payload (value.Repeat rep) index ts want = elem_repeat payload rep index ts want

abbrev pub elem_or : Option (Option Elem) → Option Elem → Option Elem
elem_or (Some e) below = e
elem_or None below = below

abbrev pub elem_look : List ℕ → ℕ → ℕ → Slot → Option Elem → Option Elem
elem_look payload ts want slot below = elem_or (elem_value payload slot.value slot.index ts want) below

-- 01: an "element .. number above 4,294,967,295 finds nothing"; so does a tagged size of 0
abbrev pub elem_sought : ℕ → ℕ → Bool
elem_sought ts n = ltb 0 ts && leb n 4294967295

-- elements start at slot 2
abbrev pub elem_from : List ℕ → List ℕ → ℕ → ℕ → ℕ → ℕ → Option Elem
elem_from s payload first ts n k = cond (elem_sought ts n) (walk_down (elem_look payload ts (n + 2)) None s first (n + 2) k) None

-- element n, by the count slots from number first on
unfoldable pub elem_at : List ℕ → List ℕ → ℕ → ℕ → ℕ → ℕ → Option Elem
elem_at s payload first count ts n = elem_from s payload first ts n count
