-- A text of which a part is put and the rest is to come: what a loop that writes piece after piece keeps. Assumes nothing.
use Prim.Native.Nat.{ℕ, ◌+◌, ◌≤◌, ◌^◌}
use mathlib.Core.Path.{◌≡◌, refl, sym, ap, ◌∙◌}
use mathlib.Core.List.{List, [], ◌++◌, append_assoc, append-nil}
use lib.ListN.{length}
use Rattle.text.specs.Put.{Put, place}
use Rattle.text.proofs.Put.{then, kept}

-- of the text t from place p of the buffer o on, all but rest is put
pub record PutUpTo (o : List ℕ) (p : ℕ) (t rest o' : List ℕ) (r : ℕ) : Type 0 where
  pub done : List ℕ
  pub put : Put o p done o' r
  pub whole : t ≡ done ++ rest

pub up_to_none : (o : List ℕ) (p : ℕ) (t : List ℕ) {r : ℕ} → r ≡ place (p + 0) → PutUpTo o p t t o r
up_to_none o p t e = record { done = []; put = record { text = refl; end = e }; whole = refl }

-- the piece u of the rest is put
pub up_to_more : {o o₁ o₂ t rest : List ℕ} {p r₁ r₂ : ℕ} (u rest' : List ℕ) → length o ≤ 2 ^ 63 → rest ≡ u ++ rest' → PutUpTo o p t rest o₁ r₁ → Put o₁ r₁ u o₂ r₂ → PutUpTo o p t rest' o₂ r₂
up_to_more u rest' h e a b = record {
  done = a.done ++ u;
  put = then h a.put b;
  whole = a.whole ∙ ap (λ (l : List ℕ). a.done ++ l) e ∙ sym (append_assoc a.done u rest');
}

pub up_to_all : {o o' t rest : List ℕ} {p r : ℕ} → rest ≡ [] → PutUpTo o p t rest o' r → Put o p t o' r
up_to_all e a = rw (a.whole, e, append-nil) a.put

pub up_to_kept : {o o' t rest : List ℕ} {p r : ℕ} → PutUpTo o p t rest o' r → length o' ≡ length o
up_to_kept a = kept a.put
