-- Numbers and texts of labels.
use Rattle.std.proofs.Common.{◌≡◌, ℕ, ℤ, List, [], ◌∷◌, map, refl, ap}
use Rattle.xr_types.specs.declared.axis.Label.TheVariants.{Int, Time, Text}
use Rattle.xr_operations.specs.Alignment.{number_of, text_of}

pub numbers_again : (xs : List ℤ) → map number_of (map Int xs) ≡ xs
numbers_again [] = refl
numbers_again (x ∷ xs) = ap (λ l. x ∷ l) (numbers_again xs)

pub times_again : (xs : List ℤ) → map number_of (map Time xs) ≡ xs
times_again [] = refl
times_again (x ∷ xs) = ap (λ l. x ∷ l) (times_again xs)

pub texts_again : (xs : List (List ℕ)) → map text_of (map Text xs) ≡ xs
texts_again [] = refl
texts_again (x ∷ xs) = ap (λ l. x ∷ l) (texts_again xs)
