-- The listing of a function, as one text, and the call that writes it.
use Rattle.std.specs.Prelude.{ℕ, List, [], ◌∷◌, ◌++◌, take, drop}
use Rattle.laws.specs.Ascii.{ascii}
use Rattle.refusal.specs.Check.{guarded_on}
use Rattle.std.specs.Prelude.{Option, Result, Ok, Err}
use Rattle.refusal.specs.Refusal.{Refusal}
use Rattle.targets.specs.declared.PoolSlots.{PoolSlots}
use Rattle.text.specs.Texts.{decimal, signed_decimal}
use Rattle.text.specs.Written.{put_text}
use Rattle.store.specs.declared.Object.{Object}
use Rattle.store.specs.Records.{object_of}
use Rattle.serializer.specs.declared.Elem.{Elem}
use Rattle.layout.specs.Layout.{layout_of}
use Rattle.header.specs.declared.Header.{Header}
use Rattle.header.specs.Header.{header_of}
use Rattle.decoder.specs.declared.Instr.{Instr}
use Rattle.flow.specs.Opcodes.{opcodes_of}
use Rattle.decoder.specs.Listed.{Listing, listed}
use Rattle.targets.specs.Targets.{pool_elem, found}
use Rattle.lines.specs.Line.{View, line_text}
use Rattle.function.specs.Files.{Files, check_files}
use Rattle.function.specs.Pool.{pool_of}
use Rattle.function.specs.Code.{listing_check}

-- the header lines of the Rust's `render_sfi`
unfoldable pub header_text : Header → List ℕ
header_text h =
    ascii "Bytecode length: " ++ decimal h.length ++ ascii "\nParameter count " ++ signed_decimal h.parameter_count
    ++ ascii "\nRegister count " ++ decimal h.register_count ++ ascii "\nFrame size " ++ decimal h.frame_size
    ++ ascii "\nOSR nesting level: " ++ decimal h.osr ++ ascii "\nBytecode Age: " ++ decimal h.age ++ ascii "\n"

-- the lines, one after the other
unfoldable pub lines_text : View → List Instr → List ℕ
lines_text v [] = []
lines_text v (i ∷ is) = line_text v i ++ lines_text v is

-- what the lines are made from, for a header, a pool and its elements
abbrev pub view_by : Files → Header → Option PoolSlots → (ℕ → Option Elem) → View
view_by f h p el = record {
  code = take h.code_len (drop h.code_at f.payload);
  opcodes = opcodes_of f.opcodes;
  names = record { types = f.types; runtime = f.runtime; intrinsic = f.intrinsic };
  frame = (layout_of f.layout).frame;
  params = h.parameter_count;
  pooled = found p;
  elem = el;
}

-- the header and the lines
abbrev pub listing_text : View → Header → Listing → List ℕ
listing_text v h l = header_text h ++ lines_text v l.instrs

-- written once 11 to 16 are past
unfoldable pub list_view : View → Header → Listing → List ℕ → Result ℕ Refusal × List ℕ
list_view v h l o = guarded_on (listing_check v.opcodes v.pooled l) Err o (put_text (listing_text v h l) o)

abbrev pub list_header : Files → Result Header Refusal → Option PoolSlots → (ℕ → Option Elem) → List ℕ → Result ℕ Refusal × List ℕ
list_header f (Err r) p el o = (Err r, o)
list_header f (Ok h) p el o = let v = view_by f h p el in list_view v h (listed v.code v.opcodes f.types v.frame.reg_file_start) o

-- the listing of an object whose files are good
abbrev pub list_object : Files → Object → List ℕ → Result ℕ Refusal × List ℕ
list_object f o out =
    let l = layout_of f.layout in
    list_header f (header_of f.slots f.payload o l) (pool_of f o) (pool_elem f.slots f.payload l.tagged_size (pool_of f o)) out

-- the call: its answer, and the buffer behind it
unfoldable pub list_call : Files → ℕ → List ℕ → Result ℕ Refusal × List ℕ
list_call f object out = guarded_on (check_files f object) Err out (list_object f (object_of f.objects object) out)
