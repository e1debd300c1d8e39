-- What labels, axes and arrays have to be for their places.
use Rattle.std.specs.Prelude.{◌≡◌, ◌==◌, ℕ, Bool, true, false, not, List, length, Option, Some, None, Result, Ok, if◌then◌else◌}
use Rattle.xr_types.specs.declared.axis.Axis.{Axis}
use Rattle.xr_types.specs.declared.axis.Labels.{Labels}
use Rattle.xr_types.specs.declared.axis.LabelList.TheVariants.{Numbers}
use Rattle.xr_types.specs.declared.fault.Fault.{Fault}
use Rattle.xr_types.specs.declared.fault.Fault.TheVariants.{SizeConflict, DuplicateName, NoDimension, NotAligned}
use Rattle.xr_types.specs.declared.fault.CallFault.{CallFault}
use Rattle.xr_types.specs.declared.fault.CallFault.TheVariants.{Declined}
use Rattle.xr_types.specs.Names.{among}
use Rattle.xr_types.specs.Results.{◌>>=◌, unless, all_of}
use Rattle.xr_arrays.specs.declared.node.Node.{Node}
use Rattle.xr_defs.specs.declared.value.Content.TheVariants as contents
use Rattle.xr_defs.specs.Meanings.{Values}
use Rattle.xr_defs.specs.Selecting.{axis_called}
use Rattle.xr_defs.specs.Values.{DataArray, array_of, no_axis, present}
use Rattle.xr_defs.specs.Building.{Frame, as_labels, check_axis, equal_labels, frame_labelled, is_dimension, label_total, with_coord}
use Rattle.xr_values.specs.declared.data_array.DataArray.{DataArray as Held}
use Rattle.xr_values.specs.Stands.{array_in}
use Rattle.xr_building.specs.Entries.{refused}
use Rattle.xr_building.specs.Puts.{over_called}

-- an axis of this name is there
abbrev pub is_there : List Axis → Axis → Result (Unit {0}) Fault
is_there axes x = unless (is_dimension axes x.name) (NoDimension x.name)

abbrev pub listed_labels : Values → Result (Unit {0}) Fault
listed_labels vs = as_labels vs >>= λ l. Ok tt

-- ---- an axis that stands for another

abbrev pub axis_or_none : Option Axis → Axis
axis_or_none None = no_axis
axis_or_none (Some x) = x

abbrev pub are_aligned : Option Labels → Option Labels → Bool
are_aligned None own = true
are_aligned (Some l) None = false
are_aligned (Some l) (Some m) = equal_labels l.list m.list

-- one of this size with these labels
abbrev pub checked_axis : Axis → ℕ → Option Labels → Result (Unit {0}) Fault
checked_axis given size own = unless (given.size == size) SizeConflict >>= λ u. unless (are_aligned given.labels own) NotAligned

-- ---- arrays

-- as labels of its dimension, or as a coordinate
abbrev pub array_checks : Frame → List ℕ → DataArray → Result (Unit {0}) Fault
array_checks f name a =
    if is_dimension f.axes name then unless (label_total (Numbers a.kind (present a.cells)) == (axis_called f.axes name).size) SizeConflict else all_of (check_axis f.axes) a.axes

abbrev pub array_put : Frame → List ℕ → DataArray → Frame
array_put f name a =
    if is_dimension f.axes name then frame_labelled f name (record { list = Numbers a.kind (present a.cells); attrs = a.attrs })
    else record f { coords = with_coord f.coords (over_called f.axes (record { name = name; axes = a.axes; attrs = a.attrs; content = contents.Cells (array_of a) a.masked })) }

-- and the name is no data variable's
abbrev pub is_free : List (List ℕ) → List ℕ → Result (Unit {0}) Fault → Result (Unit {0}) Fault
is_free variables name checks = checks >>= λ u. unless (not (among variables name)) DuplicateName

-- an array is checked, and then its node is computed, unless it is declined
abbrev pub array_told : (ℕ → Bool) → List Node → List (List ℕ) → Frame → List ℕ → Held → Result Frame CallFault
array_told declines nodes variables f name a =
    refused (is_free variables name (array_checks f name (array_in nodes a))) >>= λ u. unless (not (declines a.node)) (Declined a.node) >>= λ w. Ok (array_put f name (array_in nodes a))

-- labels aren't masked, and lie along one dimension
abbrev pub IsAlone : Held → Type 0
IsAlone a = (a.masked ≡ false) × (length a.axes ≡ 1)
