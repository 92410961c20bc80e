-- On a store that passes its check the code of a header lies inside the payload, and is not too long. Assumes nothing.
use Prim.Native.Nat.{ℕ, ◌+◌, ◌≤◌}
use mathlib.Core.Path.{◌≡◌, refl}
use mathlib.Core.Bool.{Bool, true, false, cond}
use mathlib.Core.List.{List}
use native.Mathlib.Omega.{arith}
use lib.IntN.{ℤ, nat_abs}
use lib.ListN.{length}
use Rattle.std.specs.Prelude.{Option, Some, None, Ok, Err}
use Rattle.refusal.specs.declared.Fault.TheVariants as fault
use Rattle.refusal.specs.Check.{refusal_at}
use Rattle.store.specs.Records.{object_of}
use Rattle.serializer.specs.Field.{raw_at}
use Rattle.serializer.proofs.Inside.{raw_inside}
use Rattle.layout.specs.declared.Layout.{Layout}
use Rattle.header.specs.Header.{length_by, length_ok, code_span, header_with, header_by, header_of, rt_for}
use Rattle.header.specs.Calls.{check_code}
use Rattle.header.specs.declared.Header.{Header}
use Rattle.header.proofs.Laws.{length_small}
use Rattle.header.proofs.Searched.{code_checked}

-- code inside a payload
pub record Inside (p : List ℕ) (h : Header) : Type 0 where
  pub within : h.code_at + h.code_len ≤ length p
  pub short : h.code_len ≤ 65536

pub code_inside : (o s p : List ℕ) (k : ℕ) (l : Layout) {h : Header} → check_code o s p k ≡ Ok tt → header_of s p (object_of o k) l ≡ Ok h → Inside p h
unfolding header_by header_with
code_inside o s p k l {h} ok e = go (length_ok z) refl e
  where
    raw : ℕ → ℕ → Option ℕ
    raw = raw_at s (object_of o k).first (object_of o k).count l.tagged_size

    rt : ℕ → ℕ
    rt = rt_for s (object_of o k) l

    z : ℤ
    z = length_by p raw rt l

    found : (x : Option ℕ) → raw (rt l.header_size) (nat_abs z) ≡ x → nat_abs z ≤ 65536
        → ((code_span x (nat_abs z)).at + (code_span x (nat_abs z)).len ≤ length p) × ((code_span x (nat_abs z)).len ≤ 65536)
    found (Some a) f m = (raw_inside o s p k l.tagged_size (rt l.header_size) (nat_abs z) (code_checked o s p k ok) f, m)
    found None f m = (omega arith, omega arith)

    go : (t : Bool) → length_ok z ≡ t → cond t (Ok (header_with p raw rt l (nat_abs z))) (Err (refusal_at fault.BadLength 0)) ≡ Ok h → Inside p h
    go true f g =
        let same : header_with p raw rt l (nat_abs z) ≡ h = cc in
        let both = found (raw (rt l.header_size) (nat_abs z)) refl (length_small z f) in
        rw (← same) (record { within = both.0; short = both.1 })
    go false f g = let no_one : ◌≡◌ {A = ℕ} 0 1 = cc in absurd (omega arith)
