-- The cells that argmin and argmax choose: the first ones that hold the least and the greatest number.
use Rattle.std.proofs.Common.{◌≡◌, ℕ, ℤ, pos, List, find, Option, Some, None, option_map, option_and_then, ap, refl, sym, ◌∙◌}
use Rattle.xr_types.specs.declared.operation.FoldKind.TheVariants.{ArgMin, ArgMax}
use Rattle.xr_arrays.specs.Folds.{numbers, least, greatest, first_place}
use Rattle.xr_arrays.proofs.Folds.{HasNumber, holds, find_holds, least_found, greatest_found}
use Rattle.fold_kernel.specs.declared.found.Found.{Found}
use Rattle.fold_kernel.specs.Partials.{found, found_with, IsChosen}

position_found : (o : Option (ℕ × ℤ)) → option_map (λ c. pos c.position) (option_map found o) ≡ option_map (λ c. pos c.0) o
position_found None = refl
position_found (Some c) = refl

position_with : (cs : List (ℕ × ℤ)) (o : Option ℤ) → option_map (λ c. pos c.position) (option_and_then (λ x. found_with x cs) o) ≡ option_and_then (first_place cs) o
position_with cs None = refl
position_with cs (Some x) = position_found (find (holds x) cs)

number_with : (cs : List (ℕ × ℤ)) (x : ℤ) → HasNumber cs x → option_map (λ c. c.number) (found_with x cs) ≡ Some x
unfolding HasNumber
number_with cs x (c, e) = rw e (ap Some (find_holds cs x c e))

least_with : (cs : List (ℕ × ℤ)) (o : Option ℤ) → o ≡ least (numbers cs) → option_map (λ c. c.number) (option_and_then (λ x. found_with x cs) o) ≡ o
least_with cs None e = refl
least_with cs (Some x) e = number_with cs x (least_found cs x (sym e))

greatest_with : (cs : List (ℕ × ℤ)) (o : Option ℤ) → o ≡ greatest (numbers cs) → option_map (λ c. c.number) (option_and_then (λ x. found_with x cs) o) ≡ o
greatest_with cs None e = refl
greatest_with cs (Some x) e = number_with cs x (greatest_found cs x (sym e))

pub argmin_chosen : (cs : List (ℕ × ℤ)) (o : Option ℤ) (f : Option Found) → o ≡ least (numbers cs) → f ≡ option_and_then (λ x. found_with x cs) o → IsChosen ArgMin f cs
argmin_chosen cs o f e h = (
  ap (option_map (λ c. pos c.position)) h ∙ position_with cs o ∙ ap (option_and_then (first_place cs)) e,
  ap (option_map (λ c. c.number)) h ∙ least_with cs o e ∙ e,
)

pub argmax_chosen : (cs : List (ℕ × ℤ)) (o : Option ℤ) (f : Option Found) → o ≡ greatest (numbers cs) → f ≡ option_and_then (λ x. found_with x cs) o → IsChosen ArgMax f cs
argmax_chosen cs o f e h = (
  ap (option_map (λ c. pos c.position)) h ∙ position_with cs o ∙ ap (option_and_then (first_place cs)) e,
  ap (option_map (λ c. c.number)) h ∙ greatest_with cs o e ∙ e,
)
