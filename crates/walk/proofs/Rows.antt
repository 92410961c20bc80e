-- A refusal has one of the numbers 1 to 26: so no refusal is told as "closed", "leaves" or "end". Assumes nothing.
use Prim.Native.Nat.{ℕ, zero, suc, ◌+◌, ◌/◌, ◌≤◌}
use mathlib.Core.Path.{◌≡◌, refl, sym, subst}
use mathlib.Core.Bool.{Bool, true, false, cond, ◌&&◌, ◌||◌}
use mathlib.Core.List.{List, [], ◌∷◌, map}
use native.Mathlib.Omega.{arith}
use lib.Dec.{eqb, ltb, leb}
use lib.IntN.{ℤ}
use lib.ListN.{length, get_or}
use Rattle.laws.specs.Scan.{first_from}
use Rattle.refusal.proofs.Laws.{never}
use Rattle.laws.proofs.Tests.{by_test}
use Rattle.refusal.specs.Refusal.{Refusal}
use Rattle.std.specs.Prelude.{Option, Some, None, Result, Ok, Err}
use Rattle.refusal.specs.Check.{Check}
use Rattle.header.specs.declared.Header.{Header}
use Rattle.targets.specs.declared.Entries.{Entries}
use Rattle.search.specs.declared.Walked.{Walked}
use Rattle.refusal.specs.declared.Fault.{Fault}
use Rattle.refusal.specs.declared.Fault.TheVariants as fault
use Rattle.refusal.specs.Fault.{number_of}
use Rattle.search.specs.declared.Walked.TheVariants as walked
use Rattle.refusal.specs.Check.{first_refusal, refusal_at, refuse_unless, first_bad, guarded_on}
use Rattle.store.specs.Records.{object_of, object_count, slot_count}
use Rattle.store.specs.Check.{sizes_ok, bad_object, bad_slot, check_store}
use Rattle.serializer.specs.Field.{raw_at}
use Rattle.tables.specs.Check.{records, check_names, refused_for, is_faulty, first_fault, check_table}
use Rattle.tables.specs.Names.{bad_name}
use Rattle.tables.specs.Records.{opcode_size, opcode_name_size, most_opcodes, type_size, type_name_size, fixed_types, most_types, name_size, most_runtime, most_intrinsic, opcode_count, type_count, opcode_start, zeros, fields_ok, flow_fits, opcode_fault, type_ok, type_fault, is_op}
use Rattle.layout.specs.Layout.{layout_size, bad_value, layout_of}
use Rattle.header.specs.Header.{header_by, length_ok, length_by, rt_for}
use Rattle.tables.specs.declared.Prefixes.{Prefixes}
use Rattle.prefix.specs.Head.{Begins, op_at, behind, head_at}
use Rattle.decoder.specs.declared.Instr.{Instr}
use Rattle.decoder.specs.Decode.{Decoded, instr_in, Part, parts_from, operand_types, part_width, offset_of, is_short, short_fault, refused_at, read_parts, decode_head, decode_at}
use Rattle.decoder.specs.Listed.{list_on, list_from, decodes}
use Rattle.flow.specs.Opcodes.{Opcodes, prefixes_with}
use Rattle.targets.specs.Targets.{jump_table}
use Rattle.function.specs.Files.{Files, check_files, check_pool_object, check_lent}
use Rattle.function.specs.Code.{header_at, header_check, table_check, switch_check}
use Rattle.graph.specs.Graph.{Finding, finding}
use Rattle.graph.specs.Graph.Finding.{closed, leaves}
use Rattle.steps.specs.Steps.{Source, listing, walk_graph}
use Rattle.walk.specs.Walk.{answer, walk_check, walk_found, walk_source, held_check, Given, object_with, walk_with, lent_with, walk_lent_with}
use Rattle.handlers.specs.Handlers.{handler_count, handlers_whole, bad_handler, check_handlers}
use Rattle.targets.specs.declared.BadSwitch.{BadSwitch}

pub record Row (r : Refusal) : Type 0 where
  pub least : 1 ≤ number_of r.fault
  pub most : number_of r.fault ≤ 26

-- ---- checks
refused_one : (r q : Refusal) → ◌≡◌ {A = Check} (Err r) (Err q) → r ≡ q
refused_one r q e = cc

pub record RowOf (c : Check) : Type 0 where
  pub row : (r : Refusal) → c ≡ Err r → Row r

no_row : RowOf (Ok tt)
no_row = record { row = λ r e. never r (sym e) }

its_row : {r : Refusal} → Row r → RowOf (Err r)
its_row {r} h = record { row = λ q e. subst Row (refused_one r q e) h }

either_row : {a b : Check} → RowOf a → RowOf b → RowOf (first_refusal a b)
either_row {a} {b} p q = go a p
  where
    go : (a : Check) → RowOf a → RowOf (first_refusal a b)
    go (Ok tt) p = q
    go (Err r) p = p

unless_row : (good : Bool) (f : Fault) → 1 ≤ number_of f → number_of f ≤ 26 → RowOf (refuse_unless good f)
unless_row true f l h = no_row
unless_row false f l h = its_row (record { least = l; most = h })

bad_row : (f : Fault) (bad : ℕ → Bool) (k : ℕ) → 1 ≤ number_of f → number_of f ≤ 26 → RowOf (first_bad f bad k)
bad_row f bad k l h = by_test RowOf (ltb (first_from bad 0 k) k) (λ t. its_row (record { least = l; most = h })) (λ t. no_row)

-- a row over records, each of which is refused for a fault of its own
fault_row : (wrong : ℕ → Option Fault) (n : ℕ) → ((k : ℕ) → RowOf (refused_for (wrong k) k)) → RowOf (first_fault wrong n)
fault_row wrong n each = by_test RowOf (ltb (first_from (is_faulty wrong) 0 n) n) (λ t. each (first_from (is_faulty wrong) 0 n)) (λ t. no_row)

pub table_row : (ops types runtime intrinsic layout : List ℕ) → RowOf (check_table ops types runtime intrinsic layout)
unfolding check_table
table_row ops types runtime intrinsic layout =
    let right = records opcode_size 1 most_opcodes ops && records type_size fixed_types most_types types && records name_size 0 most_runtime runtime && records name_size 0 most_intrinsic intrinsic && records layout_size 1 1 layout in
    either_row (unless_row right fault.TableSize (omega arith) (omega arith))
    (either_row (either_row (name opcode_size opcode_name_size ops) (either_row (name type_size type_name_size types) (either_row (name name_size name_size runtime) (name name_size name_size intrinsic))))
    (either_row (fault_row (opcode_fault ops (type_count types)) (opcode_count ops) (λ k. opcode (fields_ok ops (opcode_start k) (type_count types) && zeros ops (opcode_start k + 54) (opcode_start k + opcode_size)) (flow_fits ops (opcode_start k)) k))
    (either_row (fault_row (type_fault types) (type_count types) (λ k. type (type_ok types k) k)) (bad_row fault.BadLayout (bad_value layout) 20 (omega arith) (omega arith)))))
  where
    name : (size w : ℕ) (s : List ℕ) → RowOf (check_names size w s)
    name size w s = bad_row fault.BadName (bad_name s size w) (length s / size) (omega arith) (omega arith)

    opcode : (good flow : Bool) (k : ℕ) → RowOf (refused_for (cond good (cond flow None (Some fault.BadFlow)) (Some fault.BadOpcode)) k)
    opcode true true k = no_row
    opcode true false k = its_row (record { least = omega arith; most = omega arith })
    opcode false flow k = its_row (record { least = omega arith; most = omega arith })

    type : (good : Bool) (k : ℕ) → RowOf (refused_for (cond good None (Some fault.BadType)) k)
    type true k = no_row
    type false k = its_row (record { least = omega arith; most = omega arith })

store_row : (o s p : List ℕ) → RowOf (check_store o s p)
unfolding check_store
store_row o s p =
    either_row (unless_row (sizes_ok (length o) (length s) (length p)) fault.StoreSize (omega arith) (omega arith))
    (either_row (bad_row fault.BadRecord (bad_object o (slot_count s)) (object_count o) (omega arith) (omega arith)) (bad_row fault.BadRecord (bad_slot o s p) (slot_count s) (omega arith) (omega arith)))

files_row : (f : Files) (k : ℕ) → RowOf (check_files f k)
files_row f k =
    either_row (table_row f.opcodes f.types f.runtime f.intrinsic f.layout)
    (either_row (store_row f.objects f.slots f.payload) (unless_row (ltb k (object_count f.objects) && eqb (object_of f.objects k).kind 1) fault.NoObject (omega arith) (omega arith)))

header_row : (f : Files) (k : ℕ) → RowOf (header_check (header_at f k))
unfolding header_by
header_row f k =
    let l = layout_of f.layout in
    let o = object_of f.objects k in
    by_test (λ (h : Result Header Refusal). RowOf (header_check h)) (length_ok (length_by f.payload (raw_at f.slots o.first o.count l.tagged_size) (rt_for f.slots o l) l)) {y = Err (refusal_at fault.BadLength 0)} (λ t. no_row) (λ t. its_row (record { least = omega arith; most = omega arith }))

pub lent_row : (f : Files) (w : Option ℕ) (code : List ℕ) → RowOf (check_lent f w code)
lent_row f w code =
    either_row (table_row f.opcodes f.types f.runtime f.intrinsic f.layout)
    (either_row (object w) (unless_row (leb (length code) 65536) fault.LongCode (omega arith) (omega arith)))
  where
    object : (w : Option ℕ) → RowOf (check_pool_object f.objects f.slots f.payload w)
    object None = no_row
    object (Some n) = either_row (store_row f.objects f.slots f.payload) (unless_row (ltb n (object_count f.objects)) fault.NoObject (omega arith) (omega arith))

-- ---- decoding
abbrev HeadRow : Begins → Type 0
HeadRow (Err r) = Row r
HeadRow (Ok None) = Unit {0}
HeadRow (Ok (Some h)) = Unit {0}

op_row : (code : List ℕ) (ops start scale at : ℕ) → HeadRow (op_at code ops start scale at)
op_row code ops start scale at = by_test HeadRow (leb ops (get_or code at 0)) (λ t. record { least = omega arith; most = omega arith }) (λ t. tt)

behind_row : (code : List ℕ) (ops start : ℕ) (f : Fault) (scale : ℕ) → 1 ≤ number_of f → number_of f ≤ 26 → HeadRow (behind code ops start f scale)
behind_row code ops start f scale l h = by_test HeadRow (eqb (start + 1) (length code)) (λ t. record { least = l; most = h }) (λ t. op_row code ops start scale (start + 1))

head_row : (code : List ℕ) (ops start : ℕ) (prefixes : Prefixes) → HeadRow (head_at code ops start prefixes)
unfolding head_at
head_row code ops start prefixes =
    by_test HeadRow (ltb (length code) start) (λ t. record { least = omega arith; most = omega arith })
    (λ t. by_test HeadRow (eqb start (length code)) (λ t. tt)
    (λ t. by_test HeadRow (is_op prefixes.wide (get_or code start 0)) (λ t. behind_row code ops start fault.EndsAfterWide 2 (omega arith) (omega arith))
    (λ t. by_test HeadRow (is_op prefixes.extra_wide (get_or code start 0)) (λ t. behind_row code ops start fault.EndsAfterExtraWide 4 (omega arith) (omega arith)) (λ t. op_row code ops start 1 start))))

abbrev pub DecodedRow : Decoded → Type 0
DecodedRow d = (r : Refusal) → d ≡ Err r → Row r

short_row : (p : Part) → (1 ≤ number_of (short_fault p)) × (number_of (short_fault p) ≤ 26)
short_row (Part.own t) = (omega arith, omega arith)
short_row Part.count = (omega arith, omega arith)

-- an instruction is not refused
read_row : (i : Instr) → DecodedRow (Ok (Some i))
read_row i r e = cc

refused_row : (q : Refusal) → Row q → DecodedRow (Err q)
refused_row q w r e = let h : q ≡ r = cc in subst Row h w

end_row : DecodedRow (Ok None)
end_row r e = cc

parts_row : (code types : List ℕ) (scale opcode : ℕ) (rfs : ℤ) (start at : ℕ) (ps : List Part) → DecodedRow (read_parts code types scale opcode rfs start at ps)
unfolding read_parts
parts_row code types scale opcode rfs start at ps =
    let ws = map (part_width types scale) ps in
    let k = first_from (is_short code ws at) 0 (length ps) in
    let n = short_row (get_or ps k Part.count) in
    by_test DecodedRow (ltb k (length ps)) {x = refused_at (short_fault (get_or ps k Part.count)) (at + offset_of ws k)} (λ t. refused_row _ (record { least = n.0; most = n.1 })) (λ t. read_row _)

pub decode_row : (code : List ℕ) (ops : Opcodes) (types : List ℕ) (rfs : ℤ) (at : ℕ) → DecodedRow (decodes code ops types rfs at)
unfolding decode_at
decode_row code ops types rfs at = go (head_at code ops.many at (prefixes_with ops)) (head_row code ops.many at (prefixes_with ops))
  where
    go : (h : Begins) → HeadRow h → DecodedRow (decode_head h code ops types at rfs)
    go (Ok None) r = end_row
    go (Err q) r = refused_row q r
    go (Ok (Some h)) r = parts_row code types h.scale h.opcode rfs at h.at (parts_from false (operand_types ops h.opcode))

list_row : (d : ℕ → Decoded) → ((at : ℕ) → DecodedRow (d at)) → (f at : ℕ) → RowOf (list_from d f at).check
unfolding list_from
list_row d all zero at = no_row
list_row d all (suc f) at = go (d at) (all at) (list_row d all f (instr_in (d at)).end)
  where
    go : (x : Decoded) → DecodedRow x → RowOf (list_from d f (instr_in (d at)).end).check → RowOf (list_on x (list_from d f (instr_in (d at)).end)).check
    go (Ok None) r rest = no_row
    go (Err q) r rest = its_row (r q refl)
    go (Ok (Some i)) r rest = rest

switch_row : (ops : Opcodes) (pooled : Bool) (is : List Instr) → RowOf (switch_check ops pooled is)
unfolding switch_check
switch_row ops pooled [] = no_row
switch_row ops pooled (i ∷ is) = either_row (go (jump_table pooled (ops.flow i.opcode) i)) (switch_row ops pooled is)
  where
    go : (t : Result (Option Entries) BadSwitch) → RowOf (table_check t i.offset)
    go (Ok None) = no_row
    go (Ok (Some e)) = no_row
    go (Err e) = its_row (record { least = omega arith; most = omega arith })

held_row : (h : Result Header Refusal) → RowOf (held_check h)
held_row (Ok h) = unless_row (eqb h.length 0 || ltb 0 h.code_len) fault.CodeNotHeld (omega arith) (omega arith)
held_row (Err r) = no_row

-- ---- the handler records
handlers_row : (hs : List ℕ) (n : ℕ) → RowOf (check_handlers hs n)
unfolding check_handlers
handlers_row hs n = either_row (unless_row (handlers_whole (length hs)) fault.HandlersSize (omega arith) (omega arith)) (bad_row fault.BadHandler (bad_handler hs n) (handler_count hs) (omega arith) (omega arith))

-- ---- the calls
abbrev pub WalkedRow : Result Walked Refusal → Type 0
WalkedRow (Ok walked.Closed) = Unit {0}
WalkedRow (Ok (walked.Leaves n o)) = Unit {0}
WalkedRow (Err r) = Row r

guarded_row : (c : Check) (M : List ℕ) (x : Result Walked Refusal × List ℕ) → RowOf c → WalkedRow x.0 → WalkedRow (guarded_on c Err M x).0
guarded_row (Ok tt) M x r w = w
guarded_row (Err q) M x r w = r.row q refl

source_row : (s : Source) (M : List ℕ) → WalkedRow (walk_source s M).0
unfolding walk_source
source_row s M =
    let n = length s.code in
    let decoded = list_row (decodes s.code s.opcodes s.types s.rfs) (decode_row s.code s.opcodes s.types s.rfs) (suc n) 0 in
    let room = unless_row (leb n (length M)) fault.ShortMarks (omega arith) (omega arith) in
    guarded_row (walk_check s (length M)) M (walk_found s M)
    (either_row (either_row decoded (switch_row s.opcodes s.pooled (listing s).instrs)) (either_row room (handlers_row s.handlers n))) (found (finding (walk_graph s)))
  where
    found : (f : Finding) → WalkedRow (answer f)
    found closed = tt
    found (leaves n o) = tt

pub walk_row : (f : Files) (g : Given) (k : ℕ) (M : List ℕ) → WalkedRow (walk_with f g k M).0
unfolding walk_with
walk_row f g k M =
    let h = header_at f k in
    guarded_row (first_refusal (check_files f k) (first_refusal (header_check h) (held_check h))) M (walk_source (object_with f g k) M)
    (either_row (files_row f k) (either_row (header_row f k) (held_row h))) (source_row (object_with f g k) M)

pub walk_lent_row : (f : Files) (g : Given) (w : Option ℕ) (code M : List ℕ) → WalkedRow (walk_lent_with f g w code M).0
unfolding walk_lent_with
walk_lent_row f g w code M = guarded_row (check_lent f w code) M (walk_source (lent_with f g w code) M) (lent_row f w code) (source_row (lent_with f g w code) M)
