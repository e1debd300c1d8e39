-- The axis of a name.
use Rattle.std.proofs.Common.{◌≡◌, ◌+◌, ℕ, suc, Bool, true, false, cond, List, [], ◌∷◌, get_or, Option, Some, None, option_map, Result, Ok, Err, refl, sym, ap, ◌∙◌, arith}
use Rattle.std.specs.Str.{bytes_eq}
use Rattle.xr_types.specs.declared.axis.Axis.{Axis}
use Rattle.xr_types.specs.declared.fault.Fault.{Fault}
use Rattle.xr_types.specs.declared.fault.Fault.TheVariants.{NoDimension}
use Rattle.xr_defs.specs.Values.{axis_position, no_axis}
use Rattle.xr_groups.specs.Groupings.{axis_found}
use Rattle.xr_grouping.specs.Found.{found_axis}

abbrev pub told : List ℕ → Option Axis → Result Axis Fault
told d None = Err (NoDimension d)
told d (Some x) = Ok x

abbrev at_place : List Axis → Option ℕ → Option Axis
at_place axes None = None
at_place axes (Some k) = Some (get_or axes k no_axis)

place_is : (d : List ℕ) (axes : List Axis) → at_place axes (axis_position d axes) ≡ found_axis d axes
place_is d [] = refl
place_is d (x ∷ xs) = by (bytes_eq x.name d) (axis_position d xs) (place_is d xs)
  where
    by : (b : Bool) (k : Option ℕ) → at_place xs k ≡ found_axis d xs → at_place (x ∷ xs) (cond b (Some 0) (option_map (λ n. n + 1) k)) ≡ cond b (Some x) (found_axis d xs)
    by true k e = refl
    by false None e = e
    by false (Some k) e = let next : k + 1 ≡ suc k = omega arith in ap (λ n. Some (get_or (x ∷ xs) n no_axis)) next ∙ e

from_place : (d : List ℕ) (axes : List Axis) (k : Option ℕ) → told d (at_place axes k) ≡ elim k [ None ↦ Err (NoDimension d) | Some k ↦ Ok (get_or axes k no_axis) ]
from_place d axes None = refl
from_place d axes (Some k) = refl

pub axis_is : (d : List ℕ) (axes : List Axis) (o : Option Axis) → o ≡ found_axis d axes → axis_found d axes ≡ told d o
unfolding axis_found
axis_is d axes o e = sym (ap (told d) e ∙ ap (told d) (sym (place_is d axes)) ∙ from_place d axes (axis_position d axes))
