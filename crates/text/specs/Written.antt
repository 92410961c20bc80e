-- A call that writes a text into a lent buffer.
use Rattle.std.specs.Prelude.{ℕ, List, ◌++◌, cond, leb, length, drop}
use Rattle.refusal.specs.Check.{refusal_at}
use Rattle.std.specs.Prelude.{Result, Ok, Err}
use Rattle.refusal.specs.Refusal.{Refusal}
use Rattle.refusal.specs.declared.Fault.TheVariants as fault

-- the text t into the buffer o: "17: lent output buffer shorter than the whole output"
abbrev pub put_text : List ℕ → List ℕ → Result ℕ Refusal × List ℕ
put_text t o = cond (leb (length t) (length o)) (Ok (length t), t ++ drop (length t) o) (Err (refusal_at fault.ShortOutput 0), o)
