-- An axis that is one of these.
use Rattle.std.proofs.Common.{◌≡◌, ◌∙◌, ◌||◌, true, false, List, ◌∷◌, ap}
use Rattle.std.specs.Str.{bytes_eq}
use Rattle.xr_types.specs.Names.{among, axis_names}
use Rattle.xr_types.specs.declared.axis.Axis.{Axis}
use Rattle.xr_values.proofs.Named.{bytes_eq_swap}
use Rattle.xr_parts.specs.Frames.{IsThere}
use Rattle.xr_parts.proofs.Axes.{called_here, called_on}

pub there_here : (x y : Axis) (xs : List Axis) → bytes_eq y.name x.name ≡ true → y ≡ x → IsThere (y ∷ xs) x
there_here x y xs e same = (ap (λ b. b || among (axis_names xs) x.name) (bytes_eq_swap x.name y.name ∙ e), called_here y xs x.name e ∙ same)

pub there_behind : (x y : Axis) (xs : List Axis) → bytes_eq y.name x.name ≡ false → IsThere xs x → IsThere (y ∷ xs) x
there_behind x y xs e there = (ap (λ b. b || among (axis_names xs) x.name) (bytes_eq_swap x.name y.name ∙ e) ∙ there.0, called_on y xs x.name e ∙ there.1)
