-- Laws that the functions' proofs cite: how a record is put, and what a search for the first record with another flow says. Assumes nothing.
use Prim.Native.Nat.{ℕ, ◌+◌, ◌-◌, ◌*◌, ◌<◌, ◌≤◌, ◌^◌}
use mathlib.Core.Path.{◌≡◌, refl, ◌∙◌}
use mathlib.Core.Bool.{Bool, true, false}
use mathlib.Core.List.{List}
use borrow.Author.Tests.{le-ltb, lt-leb}
use lib.ListN.{length, take, drop, replicate}
use Rattle.laws.specs.Scan.{first_from}
use Rattle.laws.proofs.Scan.{first-here, first_next, first_end}
use Rattle.std.specs.Prelude.{Ok, Err}
use Rattle.refusal.specs.declared.Fault.{Fault}
use Rattle.refusal.specs.declared.Fault.TheVariants.{ShortOutput}
use Rattle.refusal.specs.Check.{refusal_at, at_record, first_bad}
use Rattle.text.specs.Put.{Put}
use Rattle.text.specs.Written.{put_text}
use Rattle.text.specs.mirror.Written.{WrittenBy}
use Rattle.text.proofs.Put.{then}
use Rattle.tables.specs.Records.{opcode_start, old_size}
use Rattle.convert.specs.Convert.{fields, flow_bytes, named_flow, new_record, old_record}

-- ---- bytes and records, put one behind the other
-- the fields of a record, put from the file
pub fields_put : {o o' : List ℕ} {p r w : ℕ} (s : List ℕ) (from : ℕ) → Put o p (take w (drop from s)) o' r → w ≡ 50 → Put o p (fields s from) o' r
fields_put s from put e = rw e at put

module _ {o o₁ o₂ : List ℕ} {p r₁ r₂ w from : ℕ} (ops : List ℕ) (k : ℕ) (small : length o ≤ 2 ^ 63) (few : w ≡ 50) (put : Put o p (take w (drop from ops)) o₁ r₁) where
  pub old_put : from ≡ opcode_start k → Put o₁ r₁ (replicate 14 0) o₂ r₂ → Put o p (old_record ops k) o₂ r₂
  old_put e z = then small (rw e at (fields_put ops from put few)) z

  pub new_put : {o₃ : List ℕ} {r₃ : ℕ} → from ≡ k * old_size → Put o₁ r₁ (flow_bytes (named_flow ops from)) o₂ r₂ → Put o₂ r₂ (replicate 18 0) o₃ r₃ → Put o p (new_record ops k) o₃ r₃
  new_put e f z = rw e at (then small (then small (fields_put ops from put few) f) z)

-- ---- the first bad record, as a loop that has passed the records below k finds it
module _ (fault : Fault) (bad : ℕ → Bool) (n k : ℕ) (passed : first_from bad 0 n ≡ first_from bad k (n - k)) where
  pub bad_here : k < n → bad k ≡ true → at_record fault k n ≡ first_bad fault bad n
  bad_here l h = rw (passed ∙ first-here bad k n l h)

  pub bad_next : k < n → bad k ≡ false → first_from bad 0 n ≡ first_from bad (k + 1) (n - (k + 1))
  bad_next l h = passed ∙ first_next bad k n l h

  pub bad_end : n ≤ k → Ok tt ≡ first_bad fault bad n
  bad_end l = rw (passed ∙ first_end bad k n l, le-ltb k n l)

-- a text that does not fit
pub written_short : (t o : List ℕ) → length o < length t → WrittenBy (put_text t o) (Err (refusal_at ShortOutput 0)) o
written_short t o h = rw (lt-leb (length t) (length o) h) (refl, refl)
