-- Names that several of the statements use.
pub use Rattle.align_join.specs.Joined.{HasFew, stays}
pub use Rattle.plan_core.specs.Plans.{Grows}
pub use Rattle.std.specs.List.{AllByRecursion, list_all, list_any}
pub use Rattle.std.specs.Str.{bytes_eq}
pub use Rattle.xr_arrays.specs.Arrays.{Array, IsCell}
pub use Rattle.xr_arrays.specs.Nodes.{IsBelow, value}
pub use Rattle.xr_arrays.specs.declared.node.Node.{Node}
pub use Rattle.xr_changing.specs.Steps.{TakesFit}
pub use Rattle.xr_defs.specs.Limits.{most_cells, most_variables}
pub use Rattle.xr_defs.specs.Meanings.{Value}
pub use Rattle.xr_defs.specs.Parts.{axes_called}
pub use Rattle.xr_defs.specs.Selecting.{are_within, axis_called, is_within}
pub use Rattle.xr_defs.specs.WellFormed.{IsCoordinate, IsIndex, IsVariable}
pub use Rattle.xr_defs.specs.declared.value.Content.{Content}
pub use Rattle.xr_defs.specs.declared.value.Coord.{Coord}
pub use Rattle.xr_files.specs.Classic.{is_name}
pub use Rattle.xr_formulas.specs.Chains.{IsValueOf, steps_value}
pub use Rattle.xr_formulas.specs.declared.chain.Step.{Step}
pub use Rattle.xr_formulas.specs.declared.chain.Step.TheVariants.{Take}
pub use Rattle.xr_joining.specs.Fitted.{is_below}
pub use Rattle.xr_operations.specs.Alignment.{aligned, fitted, fitted_coord, joined_in, masked_with, sources}
pub use Rattle.xr_operations.specs.CellMethods.{check_fits, literal_for}
pub use Rattle.xr_parts.specs.Frames.{IsFrame, IsThere}
pub use Rattle.xr_reducing.specs.Reduced.{is_busy}
pub use Rattle.xr_relations.specs.Aligning.{check_content, check_coords, check_fill_for, check_hole, check_names, check_variables, fitted_set, fitted_variable, has_coord, has_index, is_reserved, with_labels, without_variable}
pub use Rattle.xr_types.specs.Names.{among, are_distinct, axis_names, shape_over}
pub use Rattle.xr_types.specs.Points.{size}
pub use Rattle.xr_types.specs.Results.{Answers, all_of, unless}
pub use Rattle.xr_types.specs.declared.axis.Axis.{Axis}
pub use Rattle.xr_types.specs.declared.fault.CallFault.{CallFault}
pub use Rattle.xr_types.specs.declared.fault.Fault.{Fault}
pub use Rattle.xr_types.specs.declared.fault.Fault.TheVariants.{TooLarge}
pub use Rattle.xr_types.specs.declared.kind.DType.{DType}
pub use Rattle.xr_values.specs.Answers.{AnswersSet, Fails}
pub use Rattle.xr_values.specs.Meaning.{AreArgsIn, IsValueIn, given, meaning, with_key}
pub use Rattle.xr_values.specs.Stands.{IsArrayIn, IsDatasetIn, IsNodeOf, array_in, dataset_in, variable_in}
pub use Rattle.xr_values.specs.Variables.{with_variable, with_variables}
pub use Rattle.xr_values.specs.declared.data_array.DataArray.{DataArray}
pub use Rattle.xr_values.specs.declared.dataset.Dataset.{Dataset}
pub use Rattle.xr_values.specs.declared.variable.Variable.{Variable}
