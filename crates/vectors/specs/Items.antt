-- What items set, and what is counted of them (oracle/FORMAT.md).
use Rattle.std.specs.Prelude.{ℕ, ◌==◌, List, take, drop, Option, Some, None, cond, slice_set, slice_index_or}
use Rattle.words.specs.Le.{le_at}
use Rattle.vectors.specs.declared.items.Part.{Part}
use Rattle.vectors.specs.declared.items.Kind.{Kind}
use Rattle.vectors.specs.declared.items.Kind.TheVariants as kind
use Rattle.vectors.specs.Numbers.{file_number}

-- what is counted as a kind: a part is named by eight bytes
abbrev pub counted_kind : Option Kind → ℕ → Option Kind
counted_kind None len = None
counted_kind (Some (kind.Sets f)) len = Some (kind.Sets f)
counted_kind (Some (kind.Names f)) len = cond (len == 8) (Some (kind.Names f)) None
counted_kind (Some (kind.Call n)) len = Some (kind.Call n)

-- a part of some bytes, as far as they reach
abbrev pub part_of : List ℕ → Part → List ℕ
part_of s p = take p.len (drop p.at s)

-- the contents of the file of a number, none where there is no such file
abbrev pub contents_of : List ℕ → List Part → ℕ → List ℕ
contents_of s parts k = part_of s (slice_index_or parts k (record { at = 0; len = 0 }))

-- the part that the bytes of a body name; a byte that is not there is 0
abbrev pub named : List ℕ → Part → Part
named s body = record { at = le_at (part_of s body) 0 4; len = le_at (part_of s body) 4 4 }

-- the parts of the files behind an item with this body, however long the body is
abbrev pub parts_after : List ℕ → List Part → Part → Option Kind → List Part
parts_after s parts body None = parts
parts_after s parts body (Some (kind.Sets f)) = slice_set parts (file_number f) body
parts_after s parts body (Some (kind.Names f)) = slice_set parts (file_number f) (named s body)
parts_after s parts body (Some (kind.Call n)) = parts
