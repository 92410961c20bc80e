-- Handler records. 02, Wish 5: "Lend handler records of 12 bytes: start, end, handler offset, each 4 bytes."
use Rattle.std.specs.Prelude.{ℕ, zero, suc, ◌+◌, ◌*◌, ◌/◌, ◌%◌, Bool, cond, not, ◌&&◌, List, eqb, leb, ltb, length}
use Rattle.std.specs.Prelude.{Option, None, Some}
use Rattle.words.specs.Le.{le_at}
use Rattle.refusal.specs.Check.{Check}
use Rattle.refusal.specs.declared.Fault.TheVariants as fault
use Rattle.refusal.specs.Check.{first_refusal, refuse_unless, first_bad}

abbrev pub handler_size : ℕ
handler_size = 12

abbrev pub most_handlers : ℕ
most_handlers = 4096

abbrev pub handler_count : List ℕ → ℕ
handler_count s = length s / handler_size

-- the numbers of record r
abbrev pub range_start : List ℕ → ℕ → ℕ
range_start s r = le_at s (r * handler_size) 4

abbrev pub range_end : List ℕ → ℕ → ℕ
range_end s r = le_at s (r * handler_size + 4) 4

abbrev pub handler_offset : List ℕ → ℕ → ℕ
handler_offset s r = le_at s (r * handler_size + 8) 4

-- record r holds an offset: "at least start and below end"
abbrev pub is_held : List ℕ → ℕ → ℕ → Bool
is_held s o r = leb (range_start s r) o && ltb o (range_end s r)

-- the handler by the last of the first n records that holds o
unfoldable pub handler_among : List ℕ → ℕ → ℕ → Option ℕ
handler_among s o zero = None
handler_among s o (suc r) = cond (is_held s o r) (Some (handler_offset s r)) (handler_among s o r)

-- "the last record that holds the offset is the one used". V8: HandlerTable::LookupRange.
abbrev pub handler_at : List ℕ → ℕ → Option ℕ
handler_at s o = handler_among s o (handler_count s)

-- 24: "not whole records or more than 4,096"
abbrev pub handlers_whole : ℕ → Bool
handlers_whole n = eqb (n % handler_size) 0 && leb (n / handler_size) most_handlers

-- 25: "start not below end, or end beyond the code", of a code of so many bytes
abbrev pub bad_handler : List ℕ → ℕ → ℕ → Bool
bad_handler s len r = not (ltb (range_start s r) (range_end s r) && leb (range_end s r) len)

unfoldable pub check_handlers : List ℕ → ℕ → Check
check_handlers s len = first_refusal (refuse_unless (handlers_whole (length s)) fault.HandlersSize) (first_bad fault.BadHandler (bad_handler s len) (handler_count s))
