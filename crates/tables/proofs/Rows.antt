-- A name compared word by word with a field, and names in rows. Assumes nothing.
use Rattle.std.proofs.Common.{◌≡◌, ℕ, zero, suc, ◌+◌, ◌-◌, ◌*◌, ◌<◌, ◌≤◌, Bool, true, false, not, ◌&&◌, eqb, List, [], ◌∷◌, ◌++◌, length, get_or, take, drop, sym, refl, ap, ◌∙◌, ⊎_elim, mul-le-mul_right, suc-mul, zero-add, arith, length-append, get_or-drop, get_or-take, eq-eqb, ne_eqb, eqb-true}
use borrow.Author.Tests.{not-false}
use lib.ListN.{get_or-eq_default, get_or-append}
use lib.Seq.{drop-append_seam}
use Rattle.laws.specs.Scan.{first_from}
use Rattle.laws.proofs.Scan.{first_none, first_is, first_along}
use Rattle.laws.proofs.Tests.{and_left, and_right, under?, same?}
use Rattle.words.specs.Le.{le_at}
use Rattle.words.proofs.Le.{Bytes}
use Rattle.tables.specs.Names.{differs, is_named}
use Rattle.tables.specs.mirror.Rows.{filled, rows}

-- ---- bytes that agree are one number, and only those
pub le_at_same : (s t : List ℕ) (a b w : ℕ) → ((k : ℕ) → k < w → get_or s (a + k) 0 ≡ get_or t (b + k) 0) → le_at s a w ≡ le_at t b w
unfolding le_at
le_at_same s t a b zero h = refl
le_at_same s t a b (suc w) h = rw (first, le_at_same s t (a + 1) (b + 1) w rest)
  where
    first : get_or s a 0 ≡ get_or t b 0
    first =
        let x : a + 0 ≡ a = omega arith in
        let y : b + 0 ≡ b = omega arith in
        rw (x, y) at (h 0 (omega arith))

    rest : (k : ℕ) → k < w → get_or s (a + 1 + k) 0 ≡ get_or t (b + 1 + k) 0
    rest k l =
        let x : a + 1 + k ≡ a + suc k = omega arith in
        let y : b + 1 + k ≡ b + suc k = omega arith in
        rw (x, y) (h (suc k) (omega arith))

le_at-only : (s t : List ℕ) → Bytes s → Bytes t → (a b w : ℕ) → le_at s a w ≡ le_at t b w → (k : ℕ) → k < w → get_or s (a + k) 0 ≡ get_or t (b + k) 0
unfolding le_at
le_at-only s t p q a b zero e k l = let z : ⊥ = omega arith in absurd z
le_at-only s t p q a b (suc w) e zero l =
    let x : a + 0 ≡ a = omega arith in
    let y : b + 0 ≡ b = omega arith in
    rw (x, y) (omega (arith, p a, q b))
le_at-only s t p q a b (suc w) e (suc k) l =
    let x : a + suc k ≡ a + 1 + k = omega arith in
    let y : b + suc k ≡ b + 1 + k = omega arith in
    rw (x, y) (le_at-only s t p q (a + 1) (b + 1) w (omega (arith, p a, q b)) k (omega arith))

-- ---- a field holds a name: its bytes are the name's
pub named_byte : (s : List ℕ) (at w : ℕ) (name : List ℕ) → is_named s at w name ≡ true → (i : ℕ) → i < w → get_or s (at + i) 0 ≡ get_or name i 0
unfolding is_named
named_byte s at w name h i l = eqb-true _ _ (not-false _ (first_none (differs s at name) 0 w (eqb-true _ _ h ∙ sym (zero-add w)) i (omega arith) (omega arith)))

-- the bytes below i agree
abbrev pub Agree : List ℕ → List ℕ → ℕ → Type 0
Agree a b i = (k : ℕ) → k < i → get_or a k 0 ≡ get_or b k 0

bytes_named : (a b : List ℕ) (n : ℕ) → Agree a b n → is_named a 0 n b ≡ true
unfolding is_named
bytes_named a b n h = eq-eqb _ _ (first_is (differs a 0 b) 0 n n (omega arith) (omega arith) (λ j low l. rw (zero-add j) (ap not (eq-eqb _ _ (h j l)))) (λ l. absurd (omega arith)))

-- ---- word by word: a word that differs, one that agrees, and the last, which may begin before the end of those that are passed
module _ (a b : List ℕ) where
  pub word_differs : (n i m : ℕ) → i + m ≤ n → (le_at a i m ≡ le_at b i m → ⊥) → false ≡ is_named a 0 n b
  word_differs n i m room x = go (is_named a 0 n b) refl
    where
      go : (t : Bool) → is_named a 0 n b ≡ t → false ≡ t
      go true e = absurd (x (le_at_same a b i i m (λ k l. rw (zero-add (i + k)) at (named_byte a 0 n b e (i + k) (omega arith)))))
      go false e = refl

  module _ (p : Bytes a) (q : Bytes b) where
    agree_more : (i at m : ℕ) → Agree a b i → at ≤ i → le_at a at m ≡ le_at b at m → Agree a b (at + m)
    agree_more i at m h low e k l = ⊎_elim (λ (z : k < i). h k z) (λ (z : i ≤ k). let x : at + (k - at) ≡ k = omega arith in rw x at (le_at-only a b p q at at m e (k - at) (omega arith))) (under? k i)

    pub word_agrees : (i : ℕ) → Agree a b i → le_at a i 8 ≡ le_at b i 8 → Agree a b (i + 8)
    word_agrees i h e = agree_more i i 8 h (omega arith) e

    pub word_last : (n i at m : ℕ) → Agree a b i → at ≤ i → at + m ≡ n → eqb (le_at a at m) (le_at b at m) ≡ is_named a 0 n b
    word_last n i at m h low end = ⊎_elim
        (λ (e : le_at a at m ≡ le_at b at m). eq-eqb _ _ e ∙ sym (bytes_named a b n (rw end at (agree_more i at m h low e))))
        (λ (x : le_at a at m ≡ le_at b at m → ⊥). ne_eqb _ _ x ∙ word_differs n at m (omega arith) x)
        (same? (le_at a at m) (le_at b at m))

-- a name is held where its bytes differ from the field's nowhere else than another's do from another field's
pub named_same : (s t : List ℕ) (at bt w : ℕ) (a b : List ℕ) → ((i : ℕ) → i < w → differs s at a i ≡ differs t bt b i) → is_named s at w a ≡ is_named t bt w b
unfolding is_named
named_same s t at bt w a b same = ap (λ (k : ℕ). eqb k w) first
  where
    first : first_from (differs s at a) 0 w ≡ first_from (differs t bt b) 0 w
    first = rw (zero-add 0, zero-add (first_from (differs t bt b) 0 w)) at (first_along (differs s at a) (differs t bt b) 0 0 w (λ k low high. rw zero-add (same k (omega arith))))

-- a field behind the end is empty
pub named_past : (s : List ℕ) (at w : ℕ) (name : List ℕ) → length s ≤ at → is_named [] 0 w name ≡ is_named s at w name
named_past s at w name h = named_same [] s 0 at w name name (λ i l. let e : length s ≤ at + i = omega arith in rw (get_or-eq_default s 0 e))

-- ---- names in rows
filled-length : (w : ℕ) (name : List ℕ) → length (filled w name) ≡ w
unfolding filled
filled-length zero name = refl
filled-length (suc w) [] = ap suc (filled-length w [])
filled-length (suc w) (b ∷ name) = ap suc (filled-length w name)

filled_byte : (w : ℕ) (name : List ℕ) (i : ℕ) → i < w → get_or (filled w name) i 0 ≡ get_or name i 0
unfolding filled
filled_byte zero name i l = let z : ⊥ = omega arith in absurd z
filled_byte (suc w) [] zero l = refl
filled_byte (suc w) [] (suc i) l = filled_byte w [] i (omega arith)
filled_byte (suc w) (b ∷ name) zero l = refl
filled_byte (suc w) (b ∷ name) (suc i) l = filled_byte w name i (omega arith)

row_byte : (w : ℕ) (names : List (List ℕ)) (k i : ℕ) → k < length names → i < w → get_or (rows w names) (k * w + i) 0 ≡ get_or (get_or names k []) i 0
unfolding rows
row_byte w [] k i h l = let z : ⊥ = omega arith in absurd z
row_byte w (name ∷ names) zero i h l =
    let z : 0 * w + i ≡ i = omega arith in
    rw z (get_or-append (filled w name) (rows w names) 0 i (omega (arith, filled-length w name)) ∙ filled_byte w name i l)
row_byte w (name ∷ names) (suc k) i h l =
    let z : suc k * w + i ≡ length (filled w name) + (k * w + i) = omega (arith, filled-length w name, suc-mul k w) in
    rw z (sym (get_or-drop (length (filled w name)) (filled w name ++ rows w names) (k * w + i) 0)
    ∙ ap (λ (r : List ℕ). get_or r (k * w + i) 0) (drop-append_seam (filled w name) (rows w names)) ∙ row_byte w names k i (omega arith) l)

rows-length : (w : ℕ) (names : List (List ℕ)) → length (rows w names) ≡ length names * w
unfolding rows
rows-length w [] = omega arith
rows-length w (name ∷ names) = omega (arith, length-append (filled w name) (rows w names), filled-length w name, rows-length w names, suc-mul (length names) w)

-- row k lies within the rows
pub row_room : (w : ℕ) (names : List (List ℕ)) (t : List ℕ) (k : ℕ) → t ≡ rows w names → k < length names → k * w + w ≤ length t
row_room w names t k e h = rw (e, rows-length w names) (omega (arith, mul-le-mul_right w h, suc-mul k w))

-- row k of the names is held where name k is
pub row_named : (s : List ℕ) (at w : ℕ) (names : List (List ℕ)) (t : List ℕ) (k : ℕ) → t ≡ rows w names → k < length names
    → is_named s at w (take (k * w + w - k * w) (drop (k * w) t)) ≡ is_named s at w (get_or names k [])
row_named s at w names t k e h = let n : k * w + w - k * w ≡ w = omega arith in rw (n, e) (named_same s s at at w (take w (drop (k * w) (rows w names))) (get_or names k []) same)
  where
    byte : (i : ℕ) → i < w → get_or (take w (drop (k * w) (rows w names))) i 0 ≡ get_or (get_or names k []) i 0
    byte i l = get_or-take w (drop (k * w) (rows w names)) i 0 l ∙ get_or-drop (k * w) (rows w names) i 0 ∙ row_byte w names k i h l

    same : (i : ℕ) → i < w → differs s at (take w (drop (k * w) (rows w names))) i ≡ differs s at (get_or names k []) i
    same i l = ap (λ (b : ℕ). not (eqb (get_or s (at + i) 0) b)) (byte i l)

-- ---- a constant's bytes, tested one by one
unfoldable pub same_as : List ℕ → List ℕ → Bool
same_as [] [] = true
same_as [] (y ∷ b) = false
same_as (x ∷ a) [] = false
same_as (x ∷ a) (y ∷ b) = eqb x y && same_as a b

pub same_is : (a b : List ℕ) → same_as a b ≡ true → a ≡ b
unfolding same_as
same_is [] [] h = refl
same_is [] (y ∷ b) h = let z : false ≡ true = h in cc
same_is (x ∷ a) [] h = let z : false ≡ true = h in cc
same_is (x ∷ a) (y ∷ b) h = rw (eqb-true x y (and_left (eqb x y) (same_as a b) h), same_is a b (and_right (eqb x y) (same_as a b) h))
