-- The joined axis of a name, one axis after the other.
use Rattle.std.proofs.Common.{◌≡◌, ◌≤◌, ◌-◌, Bool, true, false, ◌||◌, cond, List, [], ◌∷◌, length, take, drop, get_or, sym, ap, ◌∙◌, arith}
use Rattle.std.proofs.lemmas.List.{take_all}
use Rattle.std.specs.Str.{bytes_eq}
use Rattle.xr_types.specs.Names.{among, axis_names}
use Rattle.xr_types.specs.declared.axis.Axis.{Axis}
use Rattle.xr_defs.specs.Selecting.{axis_called}
use Rattle.xr_operations.specs.Alignment.{joined_in}
use Rattle.xr_values.proofs.Named.{bytes_eq_swap}
use Rattle.xr_parts.proofs.Axes.{called_cons}

in_cons : (y : Axis) (ys : List Axis) (x : Axis) → joined_in (y ∷ ys) x ≡ cond (bytes_eq y.name x.name) y (joined_in ys x)
in_cons y ys x = ap (λ z. cond (bytes_eq x.name y.name || among (axis_names ys) x.name) z x) (called_cons y ys x.name) ∙ by (bytes_eq y.name x.name) (bytes_eq_swap x.name y.name)
  where
    by : (b : Bool) → bytes_eq x.name y.name ≡ b → cond (bytes_eq x.name y.name || among (axis_names ys) x.name) (cond b y (axis_called ys x.name)) x ≡ cond b y (joined_in ys x)
    by true e = ap (λ c. cond (c || among (axis_names ys) x.name) y x) e
    by false e = ap (λ c. cond (c || among (axis_names ys) x.name) (axis_called ys x.name) x) e

pub in_here : (y : Axis) (ys : List Axis) (x : Axis) → bytes_eq y.name x.name ≡ true → joined_in (y ∷ ys) x ≡ y
in_here y ys x e = in_cons y ys x ∙ ap (λ b. cond b y (joined_in ys x)) e

pub in_rest : (y : Axis) (ys : List Axis) (x : Axis) → bytes_eq y.name x.name ≡ false → joined_in (y ∷ ys) x ≡ joined_in ys x
in_rest y ys x e = in_cons y ys x ∙ ap (λ b. cond b y (joined_in ys x)) e

rest_is : (y : Axis) (ys : List Axis) → take (length (y ∷ ys) - 1) (drop 1 (y ∷ ys)) ≡ ys
rest_is y ys = let n : length (y ∷ ys) - 1 ≡ length ys = omega arith in ap (λ k. take k (drop 1 (y ∷ ys))) n ∙ take_all (length ys) ys (omega arith)

pub in_next : (joined : List Axis) (x own r : Axis) → 1 ≤ length joined → x ≡ get_or joined 0 x → bytes_eq x.name own.name ≡ false → r ≡ joined_in (take (length joined - 1) (drop 1 joined)) own → r ≡ joined_in joined own
in_next [] x own r some is other found = absurd (omega arith)
in_next (y ∷ ys) x own r some is other found =
    found ∙ ap (λ zs. joined_in zs own) (rest_is y ys) ∙ sym (in_rest y ys own (ap (λ (z : Axis). bytes_eq z.name own.name) (sym is) ∙ other))
