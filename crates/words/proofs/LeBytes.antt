-- Little-endian bytes written and read, over the width. Assumes nothing.
use Rattle.std.proofs.Common.{◌≡◌, ℕ, zero, suc, ◌+◌, ◌-◌, ◌*◌, ◌/◌, ◌%◌, ◌^◌, ◌<◌, ◌≤◌, List, [], ◌∷◌, ◌++◌, length, get_or, take, drop, sym, refl, ap, ◌∙◌, mod-lt, mod-eq_of_lt, pow-suc, mul_right_comm, arith, drop-cons, get_or-append-add}
use native.Mathlib.Nat.{div-add-mod, mul-add-mod_self_left, one-le-pow}
use Rattle.words.specs.Le.{le_at, le_bytes}
use Rattle.words.proofs.Le.{Bytes}

pub pow_pos : (w : ℕ) → 0 < 256 ^ w
pow_pos w = one-le-pow w 256 (omega arith)

-- the remainder by P * 256: the low byte, and the remainder of what lies above it
pub mod_bytes : (n P : ℕ) → 0 < P → n % (P * 256) ≡ n % 256 + 256 * (n / 256 % P)
mod_bytes n P some =
    let q = n / 256 / P in
    let r = n / 256 % P in
    let low : r < P = mod-lt (n / 256) some in
    let e : P * 256 * q ≡ P * q * 256 = mul_right_comm P 256 q in
    let f : n ≡ P * 256 * q + (n % 256 + 256 * r) = omega (arith, div-add-mod (n / 256) P) in
    ap (λ (k : ℕ). k % (P * 256)) f ∙ mul-add-mod_self_left (P * 256) q (n % 256 + 256 * r) ∙ mod-eq_of_lt (omega arith)

pub mod_next : (n w : ℕ) → n % 256 ^ suc w ≡ n % 256 + 256 * (n / 256 % 256 ^ w)
mod_next n w = ap (λ (k : ℕ). n % k) (pow-suc 256 w) ∙ mod_bytes n (256 ^ w) (pow_pos w)

pub length_bytes : (w n : ℕ) → length (le_bytes w n) ≡ w
unfolding le_bytes
length_bytes zero n = refl
length_bytes (suc w) n = ap suc (length_bytes w (n / 256))

-- reading behind a front
pub le-behind : (s u : List ℕ) (w i : ℕ) → le_at (s ++ u) (length s + i) w ≡ le_at u i w
unfolding le_at
le-behind s u zero i = refl
le-behind s u (suc w) i =
    let e : length s + i + 1 ≡ length s + (i + 1) = omega arith in
    rw (get_or-append-add s u i 0, e, le-behind s u w (i + 1))

-- what was written reads back as its low bytes
le_front : (w n : ℕ) (u : List ℕ) → le_at (le_bytes w n ++ u) 0 w ≡ n % 256 ^ w
unfolding le_at le_bytes
le_front zero n u = omega arith
le_front (suc w) n u =
    let e : le_at ((n % 256 ∷ []) ++ (le_bytes w (n / 256) ++ u)) (1 + 0) w ≡ le_at (le_bytes w (n / 256) ++ u) 0 w = le-behind (n % 256 ∷ []) (le_bytes w (n / 256) ++ u) w 0 in
    omega (arith, e, le_front w (n / 256) u, mod_next n w)

pub le_of_bytes : (s : List ℕ) (w n : ℕ) (u : List ℕ) → le_at (s ++ (le_bytes w n ++ u)) (length s) w ≡ n % 256 ^ w
le_of_bytes s w n u =
    let e : length s + 0 ≡ length s = omega arith in
    ap (λ (k : ℕ). le_at (s ++ (le_bytes w n ++ u)) k w) (sym e) ∙ le-behind s (le_bytes w n ++ u) w 0 ∙ le_front w n u

-- only the low bytes count
pub bytes_mod : (w m n : ℕ) → m % 256 ^ w ≡ n % 256 ^ w → le_bytes w m ≡ le_bytes w n
unfolding le_bytes
bytes_mod zero m n h = refl
bytes_mod (suc w) m n h =
    let e = mod_next m w in
    let f = mod_next n w in
    let low : m % 256 ≡ n % 256 = omega arith in
    let high : m / 256 % 256 ^ w ≡ n / 256 % 256 ^ w = omega arith in
    let rest = bytes_mod w (m / 256) (n / 256) high in
    cc

-- a number read from bytes is written as them
pub bytes_of-le : (s : List ℕ) → Bytes s → (w i : ℕ) → i + w ≤ length s → le_bytes w (le_at s i w) ≡ take w (drop i s)
unfolding le_bytes le_at
bytes_of-le s bytes zero i h = refl
bytes_of-le s bytes (suc w) i h =
    let b = get_or s i 0 in
    let r = le_at s (i + 1) w in
    let low : (b + 256 * r) % 256 ≡ b = omega (arith, bytes i) in
    let high : (b + 256 * r) / 256 ≡ r = omega (arith, bytes i) in
    let e : suc i ≡ i + 1 = omega arith in
    rw (low, high, bytes_of-le s bytes w (i + 1) (omega arith), drop-cons s i 0 (omega arith), e)

-- as a loop puts them: the next byte, and none at the end
pub next_byte : (m k v : ℕ) → k < m → le_bytes (m - k) v ≡ (v % 256 ∷ []) ++ le_bytes (m - (k + 1)) (v / 256)
unfolding le_bytes
next_byte m k v h = let e : m - k ≡ suc (m - (k + 1)) = omega arith in rw e

pub no_byte : (m k v : ℕ) → m ≤ k → le_bytes (m - k) v ≡ []
unfolding le_bytes
no_byte m k v h = let e : m - k ≡ 0 = omega arith in rw e
