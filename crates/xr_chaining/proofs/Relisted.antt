-- The numbers and the texts of labels.
use Rattle.std.proofs.Common.{◌≡◌, ◌∙◌, ℕ, ℤ, List, [], ◌∷◌, ◌++◌, map, refl, ap}
use Rattle.std.proofs.lemmas.List.{map-append}
use Rattle.xr_types.specs.declared.axis.Label.{Label}
use Rattle.xr_types.specs.declared.axis.Label.TheVariants.{Int, Time, Text}
use Rattle.xr_types.specs.declared.axis.Labels.{Labels}
use Rattle.xr_arrays.specs.Labels.{labels_of}
use Rattle.xr_operations.specs.Alignment.{number_of, text_of}
use Rattle.xr_combination.specs.Pieces.{all_labels}

pub numbers_again : (xs : List ℤ) → map number_of (map Int xs) ≡ xs
numbers_again [] = refl
numbers_again (x ∷ xs) = ap (λ l. x ∷ l) (numbers_again xs)

pub times_again : (xs : List ℤ) → map number_of (map Time xs) ≡ xs
times_again [] = refl
times_again (x ∷ xs) = ap (λ l. x ∷ l) (times_again xs)

pub texts_again : (xs : List (List ℕ)) → map text_of (map Text xs) ≡ xs
texts_again [] = refl
texts_again (x ∷ xs) = ap (λ l. x ∷ l) (texts_again xs)

pub numbers_more : (l : Labels) (ls : List Labels) → map number_of (all_labels (l ∷ ls)) ≡ map number_of (labels_of l.list) ++ map number_of (all_labels ls)
numbers_more l ls = map-append number_of (labels_of l.list) (all_labels ls)

pub texts_more : (l : Labels) (ls : List Labels) → map text_of (all_labels (l ∷ ls)) ≡ map text_of (labels_of l.list) ++ map text_of (all_labels ls)
texts_more l ls = map-append text_of (labels_of l.list) (all_labels ls)
