-- 02, Wish 6: "The Rust is matched on converted records". By a converted table code decodes, is listed and is walked as by the older one, whose flows are those of its
-- names. Assumes nothing.
use Prim.Native.Nat.{ℕ, ◌%◌}
use mathlib.Core.Path.{◌≡◌, ap}
use mathlib.Core.List.{List}
use mathlib.Core.Bool.{Bool}
use lib.IntN.{ℤ}
use lib.ListN.{length}
use Rattle.std.specs.Prelude.{Option}
use Rattle.serializer.specs.declared.Elem.{Elem}
use Rattle.flow.specs.Opcodes.{Opcodes, opcodes_of}
use Rattle.decoder.specs.Listed.{decodes, listed}
use Rattle.header.specs.declared.Header.{Header}
use Rattle.lines.specs.Line.{View}
use Rattle.disasm.specs.Listing.{list_view}
use Rattle.jumps.specs.Jumps.{target_of, table_of}
use Rattle.steps.specs.Steps.{Source, walk_graph}
use Rattle.walk.specs.Walk.{walk_source}
use Rattle.convert.specs.Convert.{new_file}
use Rattle.convert.specs.Old.{old_opcodes}
use Rattle.convert.proofs.Same.{same_table}

-- with other opcodes
abbrev view_with : View → Opcodes → View
view_with v o = record { code = v.code; opcodes = o; names = v.names; frame = v.frame; params = v.params; pooled = v.pooled; elem = v.elem }

abbrev source_with : Source → Opcodes → Source
source_with s o = record { code = s.code; opcodes = o; types = s.types; rfs = s.rfs; pooled = s.pooled; elem = s.elem; handlers = s.handlers }

module _ (ops : List ℕ) (whole : length ops % 64 ≡ 0) where
  -- one instruction
  pub new_decodes : (code types : List ℕ) (rfs : ℤ) (at : ℕ) → decodes code (opcodes_of (new_file ops)) types rfs at ≡ decodes code (old_opcodes ops) types rfs at
  new_decodes code types rfs at = ap (λ (o : Opcodes). decodes code o types rfs at) (same_table ops whole)

  -- its target, and its table, which the entries are of
  pub new_target : (el : ℕ → Option Elem) (code types : List ℕ) (rfs : ℤ) (at : ℕ) →
      target_of (opcodes_of (new_file ops)) el (decodes code (opcodes_of (new_file ops)) types rfs at) ≡ target_of (old_opcodes ops) el (decodes code (old_opcodes ops) types rfs at)
  new_target el code types rfs at = ap (λ (o : Opcodes). target_of o el (decodes code o types rfs at)) (same_table ops whole)

  pub new_table : (pooled : Bool) (code types : List ℕ) (rfs : ℤ) (at : ℕ) →
      table_of (opcodes_of (new_file ops)) pooled (decodes code (opcodes_of (new_file ops)) types rfs at) at ≡ table_of (old_opcodes ops) pooled (decodes code (old_opcodes ops) types rfs at) at
  new_table pooled code types rfs at = ap (λ (o : Opcodes). table_of o pooled (decodes code o types rfs at) at) (same_table ops whole)

  -- the listing: the checks of the code, the text, and the buffer behind it
  pub new_lists : (v : View) (h : Header) (types : List ℕ) (rfs : ℤ) (out : List ℕ) →
      list_view (view_with v (opcodes_of (new_file ops))) h (listed v.code (opcodes_of (new_file ops)) types rfs) out
      ≡ list_view (view_with v (old_opcodes ops)) h (listed v.code (old_opcodes ops) types rfs) out
  new_lists v h types rfs out = ap (λ (o : Opcodes). list_view (view_with v o) h (listed v.code o types rfs) out) (same_table ops whole)

  -- the graph whose walks are 01's walks, and the walk check's answer and marks
  pub new_graph : (s : Source) → walk_graph (source_with s (opcodes_of (new_file ops))) ≡ walk_graph (source_with s (old_opcodes ops))
  new_graph s = ap (λ (o : Opcodes). walk_graph (source_with s o)) (same_table ops whole)

  pub new_walks : (s : Source) (marks : List ℕ) → walk_source (source_with s (opcodes_of (new_file ops))) marks ≡ walk_source (source_with s (old_opcodes ops)) marks
  new_walks s marks = ap (λ (o : Opcodes). walk_source (source_with s o) marks) (same_table ops whole)
