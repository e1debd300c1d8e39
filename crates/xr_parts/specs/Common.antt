-- Names that the contracts and several of the definitions use.
pub use Rattle.plan_core.specs.Plans.{Grows}
pub use Rattle.std.specs.List.{AllByRecursion, list_any, position}
pub use Rattle.std.specs.Prelude.{All, Bool, Err, IfOk, IfSome, List, MatchOption, None, Ok, OnOk, Option, Result, Some, [], codes, false, filter, find, get_or, if◌then◌else◌, is_some, length, map, nat_le, not, option_copied, true, ℕ, ℤ, ⊤, ◌&&◌, ◌++◌, ◌+◌, ◌<◌, ◌==◌, ◌||◌, ◌∷◌, ◌≡◌}
pub use Rattle.std.specs.Str.{bytes_eq}
pub use Rattle.xr_arrays.specs.Added.{AddsAtMost}
pub use Rattle.xr_arrays.specs.Arrays.{InKind, kind_of, wide}
pub use Rattle.xr_arrays.specs.declared.node.Node.{Node}
pub use Rattle.xr_defs.specs.Building.{is_integer_kind}
pub use Rattle.xr_defs.specs.Encoding.{all_among, coords_over, holds, value_bytes}
pub use Rattle.xr_defs.specs.Limits.{most_variables}
pub use Rattle.xr_defs.specs.Meanings.{Given}
pub use Rattle.xr_defs.specs.Parts.{axes_called, coord_as_array, coordinate_of, coords_left, has_coordinate, in_order, is_once, names_given, unlabelled}
pub use Rattle.xr_defs.specs.Room.{AddsForAny, of_array, of_set, room}
pub use Rattle.xr_defs.specs.Selecting.{axis_called}
pub use Rattle.xr_defs.specs.Values.{axis_position, no_axis}
pub use Rattle.xr_defs.specs.WellFormed.{AreAttributes, AreDimensions, IsAttribute, IsCoordinate, IsDimension, IsIndex}
pub use Rattle.xr_defs.specs.declared.value.Content.TheVariants.{Cells}
pub use Rattle.xr_defs.specs.declared.value.Coord.{Coord}
pub use Rattle.xr_files.specs.Classic.{is_name}
pub use Rattle.xr_types.specs.Kinds.{InRange}
pub use Rattle.xr_types.specs.Names.{among, are_distinct, axis_names}
pub use Rattle.xr_types.specs.Results.{Answers, all_of, unless, ◌>>=◌}
pub use Rattle.xr_types.specs.declared.attr.Attr.{Attr}
pub use Rattle.xr_types.specs.declared.attr.NcType.TheVariants.{Int}
pub use Rattle.xr_types.specs.declared.axis.Axis.{Axis}
pub use Rattle.xr_types.specs.declared.fault.CallFault.{CallFault}
pub use Rattle.xr_types.specs.declared.fault.CallFault.TheVariants.{Declined, NoMemory, Refused}
pub use Rattle.xr_types.specs.declared.fault.Fault.{Fault}
pub use Rattle.xr_types.specs.declared.fault.Fault.TheVariants.{DoesNotFit, NoVariable, NotLoaded}
pub use Rattle.xr_types.specs.declared.kind.DType.{DType}
pub use Rattle.xr_values.specs.Answers.{AnswersArray, AnswersSet}
pub use Rattle.xr_values.specs.Meaning.{given, meaning, with_key}
pub use Rattle.xr_values.specs.Stands.{IsArrayIn, IsDatasetIn, array_in, dataset_in}
pub use Rattle.xr_values.specs.Variables.{names_of, with_variables}
pub use Rattle.xr_values.specs.declared.data_array.DataArray.{DataArray}
pub use Rattle.xr_values.specs.declared.dataset.Dataset.{Dataset}
pub use Rattle.xr_values.specs.declared.variable.Variable.{Variable}
