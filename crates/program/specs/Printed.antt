-- What the programs print.
use Rattle.std.specs.Prelude.{ℕ, ◌≤◌, ◌≡◌, List, ◌++◌, Bool, ◌&&◌, leb, length, take, drop, replicate}
use Rattle.laws.specs.Ascii.{ascii}
use Rattle.refusal.specs.Refusal.{Refusal}
use Rattle.std.specs.Prelude.{Result, Ok, Err}
use Rattle.refusal.specs.Check.{Check}
use Rattle.search.specs.declared.Walked.{Walked}
use Rattle.refusal.specs.declared.Fault.TheVariants as fault
use Rattle.search.specs.declared.Walked.TheVariants as walked
use Rattle.refusal.specs.Fault.{number_of}
use Rattle.refusal.specs.Check.{first_refusal, refuse_unless, guarded_on}
use Rattle.text.specs.Texts.{decimal}
use Rattle.tables.specs.Check.{check_table}
use Rattle.function.specs.Files.{Files}
use Rattle.disasm.specs.Listing.{list_call}
use Rattle.walk.specs.Walk.{Promise, Given, object_with, walk_with}

-- "Either prints a refusal as `refused 14 at 1`"
unfoldable pub refusal_text : Refusal → List ℕ
refusal_text r = ascii "refused " ++ decimal (number_of r.fault) ++ ascii " at " ++ decimal r.place ++ ascii "\n"

-- "Both programs read records from files of up to 65,536 bytes each": store files of so many bytes are. A longer table file has too many
-- records, number 1, by itself.
unfoldable pub within_limit : ℕ → ℕ → ℕ → Bool
within_limit objects slots payload = leb objects 65536 && leb slots 65536 && leb payload 65536

-- A store file beyond the limit is number 6, which comes after 1 to 5.
abbrev pub limit_check : Files → Check
limit_check f =
    first_refusal (check_table f.opcodes f.types f.runtime f.intrinsic f.layout)
    (refuse_unless (within_limit (length f.objects) (length f.slots) (length f.payload)) fault.StoreSize)

-- The listing of object 0 into the buffer o.
unfoldable pub limited : Files → List ℕ → Result ℕ Refusal × List ℕ
limited f o = guarded_on (limit_check f) Err o (list_call f 0 o)

-- The text of an answer and of the buffer that it left: the listing, or the refusal's line.
abbrev pub told : Result ℕ Refusal → List ℕ → List ℕ
told (Ok n) o = take n o
told (Err r) o = refusal_text r

-- "The listing program lends 65,536 bytes for its text; a longer listing is number 17": the text that it prints by way of n bytes. These are
-- n zeros here; that what they held before makes no difference is the contract of `list_text`.
abbrev pub shown : Files → ℕ → List ℕ
shown f n = told (limited f (replicate n 0)).0 (limited f (replicate n 0)).1

-- "The walk program prints `closed` or `leaves steps 2 from 4`."
unfoldable pub walk_text : Result Walked Refusal → List ℕ
walk_text (Ok walked.Closed) = ascii "closed\n"
walk_text (Ok (walked.Leaves n o)) = ascii "leaves steps " ++ decimal n ++ ascii " from " ++ decimal o ++ ascii "\n"
walk_text (Err r) = refusal_text r

-- The walks of object 0 with the marks M. A file of handler records that is beyond the limit has too many of them, number 24, by itself.
unfoldable pub walk_limited : Files → Given → List ℕ → Result Walked Refusal × List ℕ
walk_limited f g M = guarded_on (limit_check f) Err M (walk_with f g 0 M)

-- The answer with n marks, which are zeros here; that what they were before makes no difference is the contract of `walk_text`.
unfoldable pub walk_answer : Files → Given → ℕ → Result Walked Refusal
walk_answer f g n = (walk_limited f g (replicate n 0)).0

-- what the walk program prints: it lends 65,536 marks, as many as a code has bytes at most
abbrev pub walk_shown : Files → Given → List ℕ
walk_shown f g = walk_text (walk_answer f g 65536)

-- What a program that prints the text t leaves: its buffer of 65,536 bytes was o and is o'. The first r bytes are t, and the others are as
-- they were.
pub record Printed (t o o' : List ℕ) (r : ℕ) : Type 0 where
  pub within : r ≤ length o'
  pub start : take r o' ≡ t
  pub rest : drop r o' ≡ drop r o

-- Demand 3 of the walk program: what it prints is the line of an answer that promises of object 0 what the walk check does, with marks that the
-- program keeps to itself.
pub record WalkPrinted (f : Files) (g : Given) (o o' : List ℕ) (r : ℕ) : Type 0 where
  pub text : Printed (walk_shown f g) o o' r
  pub marks : List ℕ
  pub promise : Promise (object_with f g 0) (walk_answer f g 65536) marks
