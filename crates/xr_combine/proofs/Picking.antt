-- Items of a list at some positions.
use Rattle.std.proofs.Common.{◌≡◌, ℕ, zero, suc, List, [], ◌∷◌, map, get_or, Some, refl, ap, subst}
use Rattle.std.specs.Prelude.{slice_get}
use Rattle.std.specs.List.{AllByRecursion}

first_of : {X : Type 0} (a b : X) (ys zs : List X) → a ∷ ys ≡ b ∷ zs → a ≡ b
first_of a b ys zs is = cc

rest_of : {X : Type 0} (a b : X) (ys zs : List X) → a ∷ ys ≡ b ∷ zs → ys ≡ zs
rest_of a b ys zs is = cc

module _ {X : Type 0} where
  abbrev pub Picks : List X → List ℕ → List X → Type 0
  Picks xs is ys = map Some ys ≡ map (slice_get xs) is

  module _ {Z : Type 0} (f : X → Z) (d : Z) where
    one_picked : (xs : List X) (i : ℕ) (y : X) → Some y ≡ slice_get xs i → f y ≡ get_or (map f xs) i d
    one_picked [] i y is = absurd cc
    one_picked (x ∷ xs) zero y is = let same : y ≡ x = cc in ap f same
    one_picked (x ∷ xs) (suc i) y is = one_picked xs i y is

    pub those_picked : (xs : List X) (is : List ℕ) (ys : List X) → Picks xs is ys → map f ys ≡ map (λ i. get_or (map f xs) i d) is
    those_picked xs [] [] picks = refl
    those_picked xs [] (y ∷ ys) picks = absurd cc
    those_picked xs (i ∷ is) [] picks = absurd cc
    those_picked xs (i ∷ is) (y ∷ ys) picks =
        let head : Some y ≡ slice_get xs i = first_of (Some y) (slice_get xs i) (map Some ys) (map (slice_get xs) is) picks in
        let tail : Picks xs is ys = rest_of (Some y) (slice_get xs i) (map Some ys) (map (slice_get xs) is) picks in
        λ j. one_picked xs i y head j ∷ those_picked xs is ys tail j

  module _ (P : X → Type 0) where
    one_holds : (xs : List X) (i : ℕ) (y : X) → Some y ≡ slice_get xs i → AllByRecursion P xs → P y
    one_holds [] i y is all = absurd cc
    one_holds (x ∷ xs) zero y is all = let same : x ≡ y = cc in subst P same all.0
    one_holds (x ∷ xs) (suc i) y is all = one_holds xs i y is all.1

    pub picked_hold : (xs : List X) (is : List ℕ) (ys : List X) → Picks xs is ys → AllByRecursion P xs → AllByRecursion P ys
    picked_hold xs [] [] picks all = tt
    picked_hold xs [] (y ∷ ys) picks all = absurd cc
    picked_hold xs (i ∷ is) [] picks all = absurd cc
    picked_hold xs (i ∷ is) (y ∷ ys) picks all =
        let head : Some y ≡ slice_get xs i = first_of (Some y) (slice_get xs i) (map Some ys) (map (slice_get xs) is) picks in
        let tail : Picks xs is ys = rest_of (Some y) (slice_get xs i) (map Some ys) (map (slice_get xs) is) picks in
        (one_holds xs i y head all, picked_hold xs is ys tail all)
