-- The least and the greatest cell of a run, gathered from two parts of it.
use Rattle.std.proofs.Common.{◌≡◌, ◌++◌, ℕ, ℤ, List, [], ◌∷◌, take, drop, Option, Some, None, arith, ap, refl, sym, ◌∙◌}
use Rattle.std.specs.Int.{int_min, int_max}
use Rattle.std.proofs.lemmas.Int.{ints, clamps}
use Rattle.std.proofs.lemmas.List.{take-append-drop}
use Rattle.xr_arrays.specs.Folds.{present, numbers, of_both, least, greatest}
use Rattle.fold_kernel.specs.declared.gather.Least.{Least}
use Rattle.fold_kernel.specs.declared.gather.Greatest.{Greatest}
use Rattle.fold_kernel.specs.Rows.{placed, gathered, filled, first_shown}
use Rattle.fold_kernel.proofs.Runs.{least_cell, least_from, least_filled, greatest_cell, greatest_from, greatest_filled}

gathered-append : {A T : Type 0} (f : A → T → A) (a : A) (xs ys : List (Option T)) → gathered f a (xs ++ ys) ≡ gathered f (gathered f a xs) ys
gathered-append f a [] ys = refl
gathered-append f a (None ∷ xs) ys = gathered-append f a xs ys
gathered-append f a (Some x ∷ xs) ys = gathered-append f (f a x) xs ys

least_twice : (s : ℤ) (p q : Option ℤ) → of_both int_min (of_both int_min (Some s) p) (of_both int_min (Some s) q) ≡ of_both int_min (of_both int_min (Some s) p) q
least_twice s None None = ap Some (omega (arith, ints, clamps))
least_twice s None (Some y) = ap Some (omega (arith, ints, clamps))
least_twice s (Some x) None = ap Some (omega (arith, ints, clamps))
least_twice s (Some x) (Some y) = ap Some (omega (arith, ints, clamps))

least_split : {T : Type 0} (number : T → ℤ) (s : Least T) (xs ys : List (Option T)) → Some (int_min (number (gathered (least_cell number) s xs).0) (number (gathered (least_cell number) s ys).0)) ≡ Some (number (gathered (least_cell number) s (xs ++ ys)).0)
least_split number s xs ys =
    let p = least (numbers (present (placed number 0 xs))) in
    let q = least (numbers (present (placed number 0 ys))) in
    let first = least_from number 0 s xs in
    let second = least_from number 0 s ys in
    let both = least_from number 0 (gathered (least_cell number) s xs) ys in
    (λ i. of_both int_min (first i) (second i)) ∙ least_twice (number s.0) p q ∙ ap (λ v. of_both int_min v q) (sym first) ∙ sym both ∙ ap (λ g. Some (number g.0)) (sym (gathered-append (least_cell number) s xs ys))

-- the least cell of a run, by the least ones of its front and of the rest
pub least_halves : {T : Type 0} (number : T → ℤ) (first n : ℕ) (a : T) (items : List (Option T)) → Some a ≡ first_shown items
    → Some (int_min (number (gathered (least_cell number) (record { 0 = a }) (take n (filled a items))).0) (number (gathered (least_cell number) (record { 0 = a }) (drop n (filled a items))).0)) ≡ least (numbers (present (placed number first items)))
least_halves number first n a items e =
    least_split number (record { 0 = a }) (take n (filled a items)) (drop n (filled a items))
    ∙ ap (λ cells. Some (number (gathered (least_cell number) (record { 0 = a }) cells).0)) (take-append-drop n (filled a items))
    ∙ least_filled number first a items e

greatest_twice : (s : ℤ) (p q : Option ℤ) → of_both int_max (of_both int_max (Some s) p) (of_both int_max (Some s) q) ≡ of_both int_max (of_both int_max (Some s) p) q
greatest_twice s None None = ap Some (omega (arith, ints, clamps))
greatest_twice s None (Some y) = ap Some (omega (arith, ints, clamps))
greatest_twice s (Some x) None = ap Some (omega (arith, ints, clamps))
greatest_twice s (Some x) (Some y) = ap Some (omega (arith, ints, clamps))

greatest_split : {T : Type 0} (number : T → ℤ) (s : Greatest T) (xs ys : List (Option T)) → Some (int_max (number (gathered (greatest_cell number) s xs).0) (number (gathered (greatest_cell number) s ys).0)) ≡ Some (number (gathered (greatest_cell number) s (xs ++ ys)).0)
greatest_split number s xs ys =
    let p = greatest (numbers (present (placed number 0 xs))) in
    let q = greatest (numbers (present (placed number 0 ys))) in
    let first = greatest_from number 0 s xs in
    let second = greatest_from number 0 s ys in
    let both = greatest_from number 0 (gathered (greatest_cell number) s xs) ys in
    (λ i. of_both int_max (first i) (second i)) ∙ greatest_twice (number s.0) p q ∙ ap (λ v. of_both int_max v q) (sym first) ∙ sym both ∙ ap (λ g. Some (number g.0)) (sym (gathered-append (greatest_cell number) s xs ys))

-- the greatest cell of a run, by the greatest ones of its front and of the rest
pub greatest_halves : {T : Type 0} (number : T → ℤ) (first n : ℕ) (a : T) (items : List (Option T)) → Some a ≡ first_shown items
    → Some (int_max (number (gathered (greatest_cell number) (record { 0 = a }) (take n (filled a items))).0) (number (gathered (greatest_cell number) (record { 0 = a }) (drop n (filled a items))).0)) ≡ greatest (numbers (present (placed number first items)))
greatest_halves number first n a items e =
    greatest_split number (record { 0 = a }) (take n (filled a items)) (drop n (filled a items))
    ∙ ap (λ cells. Some (number (gathered (greatest_cell number) (record { 0 = a }) cells).0)) (take-append-drop n (filled a items))
    ∙ greatest_filled number first a items e
