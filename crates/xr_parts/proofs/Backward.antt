-- The numbers of the axes from the last to the first.
use Rattle.xr_parts.proofs.Common.{All-cons, All-nil, All-weaker, Axis, IsArrangement, List, [], and_from, ap, append_assoc, arith, backwards, drop, drop_more, false, is_once, length, length-drop, list_any, ne_eqb, no_axis, not, not_from_false, refl, subst, suc, sym, ℕ, ◌++◌, ◌+◌, ◌-◌, ◌<◌, ◌==◌, ◌∙◌, ◌∷◌, ◌≡◌}
use Rattle.std.proofs.lemmas.List.Folds.{list_any_none}

-- ---- one more number

opened : (axes : List Axis) (at : ℕ) → at < length axes → backwards (drop at axes) ≡ (length axes - 1 - at) ∷ backwards (drop (at + 1) axes)
opened axes at lt =
    let left : length (drop (at + 1) axes) ≡ length axes - 1 - at = length-drop (at + 1) axes ∙ omega arith in
    ap backwards (drop_more axes at no_axis lt) ∙ ap (λ n. n ∷ backwards (drop (at + 1) axes)) left

pub back_on : (axes : List Axis) (order new : List ℕ) (at : ℕ) → at < length axes → new ≡ order ++ (length axes - 1 - at) ∷ [] → order ++ backwards (drop at axes) ≡ backwards axes → new ++ backwards (drop (at + 1) axes) ≡ backwards axes
back_on axes order new at lt pushed so_far =
    let rest = backwards (drop (at + 1) axes) in
    ap (λ ns. ns ++ rest) pushed ∙ append_assoc order ((length axes - 1 - at) ∷ []) rest ∙ ap (λ ns. order ++ ns) (sym (opened axes at lt)) ∙ so_far

-- ---- each number once

back_fits_own : (axes : List Axis) → IsArrangement (length axes) (backwards axes)
back_fits_own [] = record { long = refl; once = refl; below = All-nil (λ k. k < 0) }
back_fits_own (x ∷ xs) =
    let rest = back_fits_own xs in
    let absent = list_any_none (λ j. j == length xs) (backwards xs) (All-weaker (λ k. k < length xs) (λ k. (k == length xs) ≡ false) (λ k lt. ne_eqb k (length xs) (λ e. omega arith)) (backwards xs) rest.below) in
    record {
      long = ap suc rest.long;
      once = and_from (not (list_any (λ j. j == length xs) (backwards xs))) (is_once (backwards xs)) (not_from_false (list_any (λ j. j == length xs) (backwards xs)) absent) rest.once;
      below = All-cons (λ k. k < suc (length xs)) (length xs) (backwards xs) (omega arith) (All-weaker (λ k. k < length xs) (λ k. k < suc (length xs)) (λ k lt. omega arith) (backwards xs) rest.below);
    }

pub back_fits : (axes : List Axis) (order : List ℕ) → order ≡ backwards axes → IsArrangement (length axes) order
back_fits axes order is = subst (IsArrangement (length axes)) (sym is) (back_fits_own axes)
