-- Axes that come to joined ones.
use Rattle.xr_aligning.proofs.Common.{Arrives, Axis, Bool, Fit, IsBelow, List, None, Reaches, Some, [], among, ap, axis_called, axis_names, called_name, comes_stay, cond, each_position, false, fit_of, fit_to, is_none, joined_in, length, list_any, map, range_with_len, refl, sources, stays, stays_each, subst, sym, true, unless_stays, ℕ, ◌∙◌, ◌∷◌, ◌≡◌}
use Rattle.std.specs.List.{All}

pub joined_name : (joined : List Axis) (x : Axis) → (joined_in joined x).name ≡ x.name
joined_name joined x = by (among (axis_names joined) x.name) refl
  where
    by : (b : Bool) → among (axis_names joined) x.name ≡ b → (cond b (axis_called joined x.name) x).name ≡ x.name
    by true e = called_name joined x.name e
    by false e = refl

none_missing : (ns : List ℕ) → list_any is_none (map Some ns) ≡ false
none_missing [] = refl
none_missing (n ∷ ns) = none_missing ns

pub each_there : (n : ℕ) → list_any is_none (each_position n) ≡ false
each_there n = none_missing (range_with_len 0 n)

-- one axis
module _ (joined : List Axis) (x n : Axis) (is : n ≡ joined_in joined x) where
  arrives : Reaches x n → Arrives joined x
  arrives r = subst (Reaches x) is r

  named : n.name ≡ x.name
  named = ap (λ (z : Axis). z.name) is ∙ joined_name joined x

  fit_is : fit_to x n ≡ fit_of joined x
  fit_is = ap (fit_to x) is

  module _ (b : Bool) (stay : b ≡ stays x.labels n.labels) where
    pub reaches_staying : b ≡ true → x.size ≡ n.size → Arrives joined x
    reaches_staying e same =
        let comes = comes_stay x n named (sym stay ∙ e) same in
        arrives (record { name = named; long = comes.long; below = comes.below; kept = comes.kept })

    pub fit_staying : b ≡ true → (f : Fit) → f ≡ record { name = x.name; own = x.size; size = n.size; from = None; hole = false } → f ≡ fit_of joined x
    fit_staying e f made =
        let stay_is : stays x.labels n.labels ≡ true = sym stay ∙ e in
        let whole : list_any is_none (sources x n) ≡ false = ap (list_any is_none) (stays_each x n stay_is) ∙ each_there n.size in
        made ∙ sym (λ i. record { name = x.name; own = x.size; size = n.size; from = unless_stays (stay_is i) (sources x n); hole = whole i }) ∙ fit_is

    pub reaches_taking : b ≡ false → length (sources x n) ≡ n.size → All (IsBelow x.size) (sources x n) → Arrives joined x
    reaches_taking e long below = arrives (record { name = named; long = long; below = below; kept = λ stay_is. absurd (never stay_is) })
      where
        never : stays x.labels n.labels ≡ true → ⊥
        never stay_is = let both : false ≡ true = sym e ∙ stay ∙ stay_is in cc

    pub fit_taking : b ≡ false → (f : Fit) → f ≡ record { name = x.name; own = x.size; size = n.size; from = Some (sources x n); hole = list_any is_none (sources x n) } → f ≡ fit_of joined x
    fit_taking e f made =
        let other : stays x.labels n.labels ≡ false = sym stay ∙ e in
        made ∙ sym (λ i. record { name = x.name; own = x.size; size = n.size; from = unless_stays (other i) (sources x n); hole = list_any is_none (sources x n) }) ∙ fit_is
