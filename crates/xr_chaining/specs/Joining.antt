-- Axes of a name, and the label that a first cell is.
use Rattle.std.specs.Prelude.{◌==◌, ℕ, ℤ, Bool, true, not, List, [], ◌∷◌, map, get_or, Option, Some, None, if◌then◌else◌}
use Rattle.xr_types.specs.declared.axis.Axis.{Axis}
use Rattle.xr_types.specs.declared.axis.LabelList.{LabelList}
use Rattle.xr_types.specs.declared.axis.LabelList.TheVariants.{Numbers}
use Rattle.xr_types.specs.declared.kind.DType.{DType}
use Rattle.xr_defs.specs.Building.{is_integer_kind}
use Rattle.xr_defs.specs.Selecting.{axis_called}
use Rattle.xr_defs.specs.Values.{Dataset}

abbrev pub axes_along : List ℕ → List Dataset → List Axis
axes_along dim ss = map (λ (s : Dataset). axis_called s.axes dim) ss

-- the first byte hides its cell, or there is none
abbrev pub hides : List ℕ → Bool
hides [] = true
hides (b ∷ bs) = not (b == 0)

-- the label that the first of these cells is
unfoldable pub first_label : DType → List (Option ℤ) → Option LabelList
first_label t cells = elim (get_or cells 0 None) [ None ↦ None | Some n ↦ if is_integer_kind t then Some (Numbers t (n ∷ [])) else None ]
