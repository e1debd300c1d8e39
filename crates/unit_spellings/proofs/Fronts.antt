-- Runs at the front of a text: where a run ends, and what stands before and behind it.
use Rattle.std.proofs.Common.{◌≡◌, ◌⊎◌, inl, inr, ℕ, Bool, true, false, if◌then◌else◌, List, [], ◌∷◌, ◌++◌, length, take, drop, Option, Some, None, refl, sym, ap, ◌∙◌, arith, one-add, take_at, drop_at, take-append-drop}
use Rattle.std.specs.List.{list_all, prefix_len}
use Rattle.std.proofs.lemmas.Bool.{and_parts, and_from}
use Rattle.xr_times.specs.Units.{◌>>=◌}

-- ---- answers that may be none

-- a value that came by another one
pub bound : {A B C : Type 0} (o : Option A) (f : A → Option B) (b : B) → (o >>= f) ≡ Some b → ((a : A) → o ≡ Some a → f a ≡ Some b → C) → C
bound (Some a) f b e k = k a refl e
bound None f b e k = absurd cc

-- a value where a test holds, and one where it fails
pub if_some : {A : Type 0} (t : Bool) (x y : A) → (if t then Some x else None) ≡ Some y → (t ≡ true) × (x ≡ y)
if_some true x y e = (refl, cc)
if_some false x y e = absurd cc

pub unless_some : {A : Type 0} (t : Bool) (x y : A) → (if t then None else Some x) ≡ Some y → (t ≡ false) × (x ≡ y)
unless_some true x y e = absurd cc
unless_some false x y e = (refl, cc)

pub then_some : {A : Type 0} (t : Bool) (o : Option A) (y : A) → (if t then o else None) ≡ Some y → (t ≡ true) × (o ≡ Some y)
then_some true o y e = (refl, e)
then_some false o y e = absurd cc

pub either_some : {A : Type 0} (t : Bool) (o p : Option A) (y : A) → (if t then o else p) ≡ Some y → ((t ≡ true) × (o ≡ Some y)) ⊎ ((t ≡ false) × (p ≡ Some y))
either_some true o p y e = inl (refl, e)
either_some false o p y e = inr (refl, e)

pub some_is : {A : Type 0} (x y : A) → Some x ≡ Some y → x ≡ y
some_is x y e = cc

-- ---- what stands behind a front, spelled on
pub joined : (f : List ℕ) {t r s : List ℕ} → t ≡ f ++ r → r ≡ s → t ≡ f ++ s
joined f e h = e ∙ ap (λ (x : List ℕ). f ++ x) h

-- ---- runs

-- no run of the test goes on into the text
abbrev pub Stops : (ℕ → Bool) → List ℕ → Type 0
Stops p [] = Unit {0}
Stops p (x ∷ xs) = p x ≡ false

pub run_ends : (p : ℕ → Bool) (a r : List ℕ) → list_all p a ≡ true → Stops p r → prefix_len p (a ++ r) ≡ length a
run_ends p [] [] h s = refl
run_ends p [] (x ∷ xs) h s = rw s refl
run_ends p (x ∷ a) r h s =
    let g = and_parts (p x) (list_all p a) h in
    let more : prefix_len p (a ++ r) ≡ length a = run_ends p a r g.1 s in
    rw (g.0, more) (omega arith)

pub run_taken : (p : ℕ → Bool) (a r : List ℕ) → list_all p a ≡ true → Stops p r → take (prefix_len p (a ++ r)) (a ++ r) ≡ a
run_taken p a r h s = take_at a r _ (sym (run_ends p a r h s))

pub run_dropped : (p : ℕ → Bool) (a r : List ℕ) → list_all p a ≡ true → Stops p r → drop (prefix_len p (a ++ r)) (a ++ r) ≡ r
run_dropped p a r h s = drop_at a r _ (sym (run_ends p a r h s))

-- what a run takes passes its test
passes_more : (p : ℕ → Bool) (x : ℕ) (t : List ℕ) (b : Bool) → p x ≡ b → list_all p (take (prefix_len p t) t) ≡ true → list_all p (take (prefix_len p (x ∷ t)) (x ∷ t)) ≡ true
passes_more p x t true e h = rw (e, one-add) (and_from (p x) (list_all p (take (prefix_len p t) t)) e h)
passes_more p x t false e h = rw e refl

pub run_passes : (p : ℕ → Bool) (t : List ℕ) → list_all p (take (prefix_len p t) t) ≡ true
run_passes p [] = refl
run_passes p (x ∷ t) = passes_more p x t (p x) refl (run_passes p t)

pub in_two : (p : ℕ → Bool) (t : List ℕ) → t ≡ take (prefix_len p t) t ++ drop (prefix_len p t) t
in_two p t = sym (take-append-drop (prefix_len p t) t)
