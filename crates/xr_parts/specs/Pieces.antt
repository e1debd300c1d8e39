-- A variable or a coordinate of a name, as an array.
use Rattle.std.specs.Prelude.{if◌then◌else◌, ◌∷◌, ◌≡◌}
use Rattle.xr_parts.specs.Common.{Attr, Axis, CallFault, Cells, Coord, DType, DataArray, Dataset, Declined, Err, Fault, IsCoordinate, List, NoMemory, NoVariable, None, NotLoaded, Ok, Refused, Result, Some, Variable, [], among, axes_called, axis_names, coord_as_array, coordinate_of, coords_over, false, length, map, ℕ, ℤ, ⊤}
use Rattle.xr_defs.specs.Values as of

-- a coordinate over these axes that is the array which is meant
abbrev pub AnswersCoord : List Axis → List Coord → Result Coord CallFault → Result of.DataArray Fault → Type 0
AnswersCoord axes coords (Ok c) means = (means ≡ coord_as_array coords c) × IsCoordinate axes c
AnswersCoord axes coords (Err (Refused f)) means = means ≡ Err f
AnswersCoord axes coords (Err (Declined n)) means = ⊥
AnswersCoord axes coords (Err NoMemory) means = ⊤

-- a data variable over its node
abbrev pub array_over : Dataset → Variable → DataArray
array_over s v =
    let axes = axes_called s.axes v.dims in
    record { name = Some v.name; axes = axes; kind = v.kind; masked = v.masked; attrs = v.attrs; coords = coords_over (axis_names axes) s.coords; node = v.node }

-- the labels of an axis as a coordinate
abbrev pub label_coord : Axis → List Attr → DType → List ℤ → Coord
label_coord x attrs kind ns = record { name = x.name; axes = x ∷ []; attrs = attrs; content = Cells (record { kind = kind; shape = length ns ∷ []; cells = map Some ns }) false }

-- what isn't a data variable; what isn't loaded has a fault of its own
abbrev pub other_part : List Axis → List Coord → List (List ℕ) → List ℕ → Result of.DataArray Fault
other_part axes coords skipped name = elim (coordinate_of axes coords name) [ None ↦ Err (if among skipped name then NotLoaded name else NoVariable name) | Some r ↦ r ]
