-- Lists of labels, compared by their numbers.
use Rattle.std.proofs.Common.{◌≡◌, ◌≢◌, ◌<◌, ℕ, ℤ, pos, zero, suc, Bool, true, false, ◌&&◌, List, [], ◌∷◌, length, map, get_or, refl, sym, ap, ◌∙◌, arith, rules}
use Rattle.std.specs.Prelude.{◌==◌}
use Rattle.std.specs.Ordering.{int_eq}
use Rattle.std.proofs.lemmas.Bool.Decides.{nat_tests}
use Rattle.std.specs.Cmp.{signed_Decides, unsigned_Decides}
use Rattle.std.specs.Cmp.Lexicographic.{pointwise}
use Rattle.xr_types.specs.declared.axis.Label.{Label}
use Rattle.xr_types.specs.declared.axis.Label.TheVariants.{Int, Time, Text}
use Rattle.xr_arrays.specs.Labels.{same}
use Rattle.xr_defs.specs.Building.{same_labels}

module _ {X : Type 0} (f : X → Label) (eq : X → X → Bool) (agrees : (x y : X) → same (f x) (f y) ≡ eq x y) where
  pub same_by : (a b : List X) → same_labels (map f a) (map f b) ≡ pointwise eq a b
  same_by [] [] = refl
  same_by [] (y ∷ b) = refl
  same_by (x ∷ a) [] = refl
  same_by (x ∷ a) (y ∷ b) = (λ i. agrees x y i && same_by a b i)

pub int_same : (x y : ℤ) → same (Int x) (Int y) ≡ int_eq x y
int_same x y = search rules

pub ints_same : (a b : List ℤ) → same_labels (map Int a) (map Int b) ≡ pointwise int_eq a b
ints_same = same_by Int int_eq int_same

pub times_same : (a b : List ℤ) → same_labels (map Time a) (map Time b) ≡ pointwise int_eq a b
times_same = same_by Time int_eq int_same

both : (a b : Bool) → (a ≡ true → b ≡ true) → (b ≡ true → a ≡ true) → a ≡ b
both true true p q = refl
both true false p q = sym (p refl)
both false true p q = q refl
both false false p q = refl

natural_eq : (x y : ℕ) → int_eq (pos x) (pos y) ≡ (x == y)
natural_eq x y =
    both (int_eq (pos x) (pos y)) (x == y)
    (λ h. let e : pos x ≡ pos y = (signed_Decides (pos x) (pos y)).0 h in let f : x ≡ y = cc in (unsigned_Decides x y).1 f)
    (λ h. (signed_Decides (pos x) (pos y)).1 (ap pos ((unsigned_Decides x y).0 h)))

pub naturals_same : (a b : List ℕ) → same_labels (map Int (map pos a)) (map Int (map pos b)) ≡ pointwise ◌==◌ a b
naturals_same [] [] = refl
naturals_same [] (y ∷ b) = refl
naturals_same (x ∷ a) [] = refl
naturals_same (x ∷ a) (y ∷ b) = (λ i. (int_same (pos x) (pos y) ∙ natural_eq x y) i && naturals_same a b i)

and_right : (b : Bool) → (b && false) ≡ false
and_right true = refl
and_right false = refl

module _ {X : Type 0} (f : X → Label) where
  -- lists with the same labels are the same
  pub each_by : (d : X) (a b : List X) → length a ≡ length b → ((k : ℕ) → k < length a → same (f (get_or a k d)) (f (get_or b k d)) ≡ true) → same_labels (map f a) (map f b) ≡ true
  each_by d [] [] e h = refl
  each_by d [] (y ∷ b) e h = absurd (omega arith)
  each_by d (x ∷ a) [] e h = absurd (omega arith)
  each_by d (x ∷ a) (y ∷ b) e h = (λ i. h 0 (omega arith) i && same_labels (map f a) (map f b)) ∙ each_by d a b (omega arith) (λ k s. h (suc k) (omega arith))

  pub one_by : (d : X) (a b : List X) (k : ℕ) → k < length a → k < length b → same (f (get_or a k d)) (f (get_or b k d)) ≡ false → same_labels (map f a) (map f b) ≡ false
  one_by d [] b k s t h = absurd (omega arith)
  one_by d (x ∷ a) [] k s t h = absurd (omega arith)
  one_by d (x ∷ a) (y ∷ b) zero s t h = (λ i. h i && same_labels (map f a) (map f b))
  one_by d (x ∷ a) (y ∷ b) (suc k) s t h = ap (λ b. same (f x) (f y) && b) (one_by d a b k (omega arith) (omega arith) h) ∙ and_right (same (f x) (f y))

  pub lengths_by : (a b : List X) → length a ≢ length b → same_labels (map f a) (map f b) ≡ false
  lengths_by [] [] other = absurd (other refl)
  lengths_by [] (y ∷ b) other = refl
  lengths_by (x ∷ a) [] other = refl
  lengths_by (x ∷ a) (y ∷ b) other = ap (λ b. same (f x) (f y) && b) (lengths_by a b (λ e. other (ap suc e))) ∙ and_right (same (f x) (f y))

not_zero : (n : ℕ) → (suc n == 0) ≡ false
not_zero n = grind (arith, nat_tests)

-- labels of two kinds are the same where there are none
module _ {X Y : Type 0} (f : X → Label) (g : Y → Label) (never : (x : X) (y : Y) → same (f x) (g y) ≡ false) where
  mixed : (a : List X) (b : List Y) → same_labels (map f a) (map g b) ≡ ((length a == 0) && (length b == 0))
  mixed [] [] = refl
  mixed [] (y ∷ b) = sym (not_zero (length b))
  mixed (x ∷ a) [] = sym (ap (λ t. t && true) (not_zero (length a)))
  mixed (x ∷ a) (y ∷ b) = ap (λ t. t && same_labels (map f a) (map g b)) (never x y) ∙ sym (ap (λ t. t && (length (y ∷ b) == 0)) (not_zero (length a)))

pub int_time : (a b : List ℤ) → same_labels (map Int a) (map Time b) ≡ ((length a == 0) && (length b == 0))
int_time = mixed Int Time (λ x y. refl)

pub int_text : (a : List ℤ) (b : List (List ℕ)) → same_labels (map Int a) (map Text b) ≡ ((length a == 0) && (length b == 0))
int_text = mixed Int Text (λ x y. refl)

pub time_int : (a b : List ℤ) → same_labels (map Time a) (map Int b) ≡ ((length a == 0) && (length b == 0))
time_int = mixed Time Int (λ x y. refl)

pub time_text : (a : List ℤ) (b : List (List ℕ)) → same_labels (map Time a) (map Text b) ≡ ((length a == 0) && (length b == 0))
time_text = mixed Time Text (λ x y. refl)

pub text_int : (a : List (List ℕ)) (b : List ℤ) → same_labels (map Text a) (map Int b) ≡ ((length a == 0) && (length b == 0))
text_int = mixed Text Int (λ x y. refl)

pub text_time : (a : List (List ℕ)) (b : List ℤ) → same_labels (map Text a) (map Time b) ≡ ((length a == 0) && (length b == 0))
text_time = mixed Text Time (λ x y. refl)
