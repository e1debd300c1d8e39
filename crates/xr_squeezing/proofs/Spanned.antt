-- Dimensions of one position add nothing to the span of axes.
use Rattle.xr_squeezing.proofs.Common.{AllByRecursion, AreAlone, Axis, Bool, List, [], among, ap, are_distinct, arith, axes_left, axis_names, bytes_eq, cond, false, front_among, greatest, greatest_both, greatest_some, inl, inr, list_any-append, map-append, max, not, or_cases, own_axes, refl, span, span_up, subst, sym, true, ℕ, ◌++◌, ◌∙◌, ◌∷◌, ◌≡◌, ◌≤◌}
use Rattle.xr_squeezing.proofs.Leaving.{ones}

module _ (gone : List (List ℕ)) where
  greatest_alone : (axes : List Axis) (n : List ℕ) → AllByRecursion (λ (x : Axis). among gone x.name ≡ true → x.size ≡ 1) axes → greatest axes n ≤ greatest (axes_left gone axes) n
  greatest_alone [] n all = omega arith
  greatest_alone (x ∷ xs) n all = by (among gone x.name) (bytes_eq n x.name) refl all.0 (greatest_alone xs n all.1)
    where
      by : (b s : Bool) → bytes_eq n x.name ≡ s → (b ≡ true → x.size ≡ 1) → greatest xs n ≤ greatest (axes_left gone xs) n
          → cond s (max x.size (greatest xs n)) (greatest xs n) ≤ greatest (cond (not b) (x ∷ axes_left gone xs) (axes_left gone xs)) n
      by true true e one rest = let is = one refl in let some = greatest_some xs n in omega (arith, is, some, rest)
      by true false e one rest = rest
      by false true e one rest = subst (λ t. max x.size (greatest xs n) ≤ cond t (max x.size (greatest (axes_left gone xs) n)) (greatest (axes_left gone xs) n)) (sym e) (omega (arith, rest))
      by false false e one rest = subst (λ t. greatest xs n ≤ cond t (max x.size (greatest (axes_left gone xs) n)) (greatest (axes_left gone xs) n)) (sym e) rest

pub span_alone : (own axes : List Axis) (gone : List (List ℕ)) → axis_names axes ≡ axis_names own → are_distinct (axis_names axes) ≡ true → AreAlone axes gone → span (own ++ axes) ≤ span (own ++ axes_left gone axes)
span_alone own axes gone same distinct alone =
    span_up (own ++ axes) (own ++ axes_left gone axes)
    (λ n has.
    let both = ap (λ ns. among ns n) (sym (map-append (λ (x : Axis). x.name) own axes)) ∙ has in
    let twice = ap (λ ns. among (axis_names own ++ ns) n) (sym same) ∙ both in
    front_among own (axes_left gone axes) n (elim (or_cases (among (axis_names own) n) (among (axis_names own) n) (sym (list_any-append (bytes_eq n) (axis_names own) (axis_names own)) ∙ twice)) [ inl e ↦ e | inr e ↦ e ]))
    (λ n. omega (arith, greatest_both own axes n, greatest_both own (axes_left gone axes) n, greatest_alone gone axes n (ones gone axes alone axes (own_axes axes distinct))))
