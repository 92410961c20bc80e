-- Laws of a call that writes a text: measured on an empty part of the buffer, or known to fit, and then put. Assumes nothing.
use Prim.Native.Nat.{ℕ, ◌<◌, ◌≤◌, ◌^◌}
use mathlib.Core.Path.{◌≡◌, refl, ap}
use mathlib.Core.List.{List, [], ◌++◌}
use native.Mathlib.Omega.{arith}
use borrow.Author.Tests.{le-leb, lt-leb}
use lib.ListN.{length}
use Rattle.refusal.specs.Check.{refusal_at}
use Rattle.std.specs.Prelude.{Ok, Err}
use Rattle.refusal.specs.declared.Fault.TheVariants as fault
use Rattle.text.specs.Put.{Put}
use Rattle.text.specs.Written.{put_text}
use Rattle.text.specs.mirror.Written.{WrittenBy}
use Rattle.text.proofs.Put.{unchanged, fits}

module _ (t o : List ℕ) (small : length o < 2 ^ 63) where
  -- a text that is known to fit
  pub written_whole : {o' : List ℕ} {r : ℕ} → length t ≤ length o → Put o 0 t o' r → WrittenBy (put_text t o) (Ok r) o'
  written_whole f p = rw (le-leb _ _ f) (ap Ok (omega (arith, p.end)), fits f p)

  -- A text was measured on an empty part b of o, and the test was whether that is at most o's length (o is `u ++ o` since the part came back).
  module _ {b u : List ℕ} {m : ℕ} (put : Put b 0 t u m) (empty : b ≡ []) where
    same : u ++ o ≡ o
    same = unchanged o (simp empty at put)

    -- Where it is, the text fits, and a second put leaves it whole with the rest of o behind it, and answers its length.
    pub fits_then : {o' : List ℕ} {r : ℕ} → m ≤ length (u ++ o) → Put (u ++ o) 0 t o' r → WrittenBy (put_text t o) (Ok r) o'
    fits_then l p = written_whole (omega (arith, put.end, ap length same)) (rw same at p)

    -- Where it is not, the text does not fit, and o is as it was.
    pub refused_then : length (u ++ o) < m → WrittenBy (put_text t o) (Err (refusal_at fault.ShortOutput 0)) (u ++ o)
    refused_then l = rw (lt-leb (length t) (length o) (omega (arith, put.end, ap length same))) (refl, same)
