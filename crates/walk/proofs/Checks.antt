-- The order of the checks in one equation, and the answer of a source with handler records, from what is kept and what they catch. Assumes nothing.
use Prim.Native.Nat.{ℕ, ◌/◌, ◌%◌, ◌≤◌}
use mathlib.Core.Path.{◌≡◌, sym, ap, ◌∙◌}
use mathlib.Core.List.{List, [], ◌++◌}
use native.Mathlib.Omega.{arith}
use borrow.Author.Tests.{eqb-true, leb-true}
use lib.Dec.{eqb, leb}
use lib.ListN.{length, drop}
use Rattle.laws.proofs.Tests.{and_left, and_right}
use Rattle.std.specs.Prelude.{Ok, Err}
use Rattle.refusal.specs.Refusal.{Refusal}
use Rattle.refusal.specs.Check.{Check}
use Rattle.refusal.specs.declared.Fault.TheVariants as fault
use Rattle.refusal.specs.Check.{first_refusal, refuse_unless}
use Rattle.refusal.proofs.Laws.{or_left, or_right, good_is}
use Rattle.tables.specs.Records.{prefixes_of}
use Rattle.tables.specs.declared.Prefixes.{Prefixes}
use Rattle.flow.specs.Flow.{is_return}
use Rattle.flow.specs.Opcodes.{opcodes_of}
use Rattle.function.specs.declared.Function.{Function}
use Rattle.function.specs.Code.{listing_check}
use Rattle.handlers.specs.Handlers.{handlers_whole, check_handlers}
use Rattle.handlers.specs.mirror.Catches.{catch_word, opcode_at, Caught}
use Rattle.graph.specs.Graph.{is_start}
use Rattle.search.specs.declared.Walked.{Walked}
use Rattle.search.specs.mirror.Kept.{kept_graph, IsFound}
use Rattle.steps.specs.Steps.{Source, listing, walk_graph}
use Rattle.steps.specs.mirror.Keeping.{kept_at, Catches}
use Rattle.steps.proofs.Caught.{opcode_is}
use Rattle.walk.specs.Walk.{walk_check, walk_source}
use Rattle.walk.specs.mirror.Search.{source_of, Prefixed, Started, WalkedBy}
use Rattle.walk.proofs.Answers.{source_found}

-- ---- the order of the checks
-- three checks in a row, by what each of them says
at_first : {a x : Check} (b c : Check) {r : Refusal} → x ≡ a → x ≡ Err r → Err r ≡ first_refusal a (first_refusal b c)
at_first b c first h = rw (sym first ∙ h)

at_second : {a b x y : Check} (c : Check) {r : Refusal} → x ≡ a → x ≡ Ok tt → y ≡ b → y ≡ Err r → Err r ≡ first_refusal a (first_refusal b c)
at_second c first passed second h = rw (sym first ∙ passed, sym second ∙ h)

at_third : {a b c x y z : Check} → x ≡ a → x ≡ Ok tt → y ≡ b → y ≡ Ok tt → z ≡ c → z ≡ first_refusal a (first_refusal b c)
at_third first passed second too third = rw (sym first ∙ passed, sym second ∙ too) third

-- the same in one equation
pub walk_check_lem : (s : Source) (kept room check : Check) (n marks : ℕ) (late : Check) → check ≡ first_refusal kept room → room ≡ first_refusal (refuse_unless (leb n marks) fault.ShortMarks) late
    → kept ≡ listing_check s.opcodes s.pooled (listing s) → n ≡ length s.code → late ≡ check_handlers s.handlers (length s.code) → check ≡ walk_check s marks
walk_check_lem s kept room check n marks late first behind whole long last =
    first ∙ ap (λ (x : Check). first_refusal x room) whole ∙ ap (λ (x : Check). first_refusal (listing_check s.opcodes s.pooled (listing s)) x)
    (behind ∙ ap (λ (x : ℕ). first_refusal (refuse_unless (leb x marks) fault.ShortMarks) late) long ∙ ap (λ (x : Check). first_refusal (refuse_unless (leb (length s.code) marks) fault.ShortMarks) x) last)

module _ (s : Source) (marks : ℕ) where
  abbrev listed : Check
  listed = listing_check s.opcodes s.pooled (listing s)

  abbrev room : Check
  room = refuse_unless (leb (length s.code) marks) fault.ShortMarks

  abbrev late : Check
  late = check_handlers s.handlers (length s.code)

  pub first_refused : {x : Check} {r : Refusal} → x ≡ listed → x ≡ Err r → Err r ≡ walk_check s marks
  first_refused is h = at_first room late is h

  pub second_refused : {x y : Check} {r : Refusal} → x ≡ listed → x ≡ Ok tt → y ≡ room → y ≡ Err r → Err r ≡ walk_check s marks
  second_refused is passed second h = at_second late is passed second h

  -- behind the two it is the check of the records
  pub third_is : {x y z : Check} → x ≡ listed → x ≡ Ok tt → y ≡ room → y ≡ Ok tt → z ≡ late → z ≡ walk_check s marks
  third_is is passed second too third = at_third is passed second too third

-- where nothing is refused there are marks enough, and few records
module _ (s : Source) (marks : ℕ) (ok : walk_check s marks ≡ Ok tt) where
  rest : first_refusal (room s marks) (late s marks) ≡ Ok tt
  rest = or_right (listed s marks) _ ok

  pub room_ok : length s.code ≤ marks
  room_ok = leb-true (length s.code) marks (good_is (leb (length s.code) marks) fault.ShortMarks (or_left (room s marks) _ rest))

  pub handlers_few : length s.handlers ≤ 49152
  unfolding check_handlers
  handlers_few =
      let m = length s.handlers in
      let w = good_is (handlers_whole m) fault.HandlersSize (or_left (refuse_unless (handlers_whole m) fault.HandlersSize) _ (or_right (room s marks) _ rest)) in
      let whole = eqb-true (m % 12) 0 (and_left (eqb (m % 12) 0) (leb (m / 12) 4096) w) in
      let few = leb-true (m / 12) 4096 (and_right (eqb (m % 12) 0) (leb (m / 12) 4096) w) in
      omega (arith, whole, few)

-- ---- a source with its records
module _ (code ops types slots payload hs : List ℕ) (f : Function) where
  abbrev source : Source
  source = source_of code ops types slots payload hs f

  -- a pass keeps a code whatever its handlers
  started_with : {heads words : List ℕ} {kept : Check} → Started (source_of code ops types slots payload [] f) heads words kept → Started source heads words kept
  unfolding walk_graph is_start kept_at
  started_with s = record {
    checked = s.checked;
    keeps = λ ok. let k = s.keeps ok in record { starts = k.starts; holds = λ t z. let h = k.holds t z in record { done = h.done; head = h.head; word = h.word } };
  }

  -- a table of the words at each place has those of the instructions
  catches_of : (catches : List ℕ) → Prefixed ops f → Caught code ops hs f.prefixes catches → Catches source catches
  catches_of catches p c o l done = c o l ∙ ap (λ (op : ℕ). catch_word hs (is_return ops op) o) (opcodes ∙ sym (opcode_is code (opcodes_of ops) types f.frame.reg_file_start (prefixes_of ops) o done))
    where
      opcodes : opcode_at code f.prefixes o ≡ opcode_at code (prefixes_of ops) o
      opcodes = ap (λ (a : Prefixes). opcode_at code a o) p

  -- what a search over both finds is the call's answer
  pub found_with : (M catches : List ℕ) {heads words Y : List ℕ} {n : ℕ} {kept : Check} (r : Walked) → Ok tt ≡ walk_check source (length M) → length code ≤ 65536 → n ≡ length code → length heads ≡ n
      → Prefixed ops f → Started (source_of code ops types slots payload [] f) heads words kept → Caught code ops hs f.prefixes catches
      → IsFound (kept_graph source.elem heads words catches) n r Y → WalkedBy (walk_source source M) (Ok r) (Y ++ drop (length code) M)
  found_with M catches r ok few all as_many p k c found = source_found source M catches r ok few all as_many (started_with k) (catches_of catches p c) found
