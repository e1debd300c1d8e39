-- Names that several of the proofs use.
pub use Rattle.plan_core.proofs.Added.{adds_up}
pub use Rattle.std.proofs.Common.{All, Bool, List, None, Ok, Option, Some, [], ap, append_assoc, arith, cond, false, get_or, inl, inr, is_some, length, length-append, lit<, map, pos, refl, rules, set, subst, suc, sym, take, true, zero, ℕ, ℤ, ◌&&◌, ◌*◌, ◌++◌, ◌+◌, ◌<◌, ◌||◌, ◌∙◌, ◌∷◌, ◌≡◌, ◌≤◌}
pub use Rattle.std.proofs.lemmas.Bool.{and_parts, cases_Bool, leb-true, or_parts, or_right}
pub use Rattle.std.proofs.lemmas.List.Elements.{All-map, recursion_from_All}
pub use Rattle.std.proofs.lemmas.List.Folds.{list_all-map}
pub use Rattle.std.proofs.lemmas.List.{length-map, length-set}
pub use Rattle.std.proofs.lemmas.Nat.{mul-le}
pub use Rattle.std.proofs.lemmas.Simd.{map-map}
pub use Rattle.std.specs.List.{AllByRecursion, list_all, list_any}
pub use Rattle.std.specs.Prelude.{MatchOption, is_none, nat_le, option_map, ⊤}
pub use Rattle.std.specs.Str.{bytes_eq}
pub use Rattle.xr_arrays.specs.Added.{AddsAtMost}
pub use Rattle.xr_arrays.specs.Arrays.{Array, IsCell}
pub use Rattle.xr_arrays.specs.Nodes.{IsBelow, along, from_source, taken_from, value}
pub use Rattle.xr_arrays.specs.declared.node.Node.{Node}
pub use Rattle.xr_changing.specs.Changed.{IsChanged, IsSetChanged}
pub use Rattle.xr_changing.specs.Steps.{AreIndexed, ContentFits, CoordFits, IsRenewed, TakesFit, VarFits, are_named_within, are_vars_within, sizes_named, step_by, steps_along, steps_from, var_made}
pub use Rattle.xr_defs.proofs.Spans.{front_among, greatest_both, size_up, span_above}
pub use Rattle.xr_defs.specs.Limits.{most_cells, most_dimensions, most_variables}
pub use Rattle.xr_defs.specs.Parts.{axes_called}
pub use Rattle.xr_defs.specs.Room.{greatest, span}
pub use Rattle.xr_defs.specs.Selecting.{are_few, are_within, axis_called, is_within, variable_array}
unfoldable pub use Rattle.xr_defs.specs.Selecting.{check_array, check_set}
pub use Rattle.xr_defs.specs.Values.{chosen, chosen_list, label_count}
pub use Rattle.xr_defs.specs.WellFormed.{AreCells, AreLabels, IsContent, IsCoordinate, IsDataArray, IsDataset, IsDimension, IsVariable, labelled, names_of, variable_names}
pub use Rattle.xr_defs.specs.declared.value.Coord.{Coord}
pub use Rattle.xr_formulas.specs.Chains.{ChainFits, IsValueOf, StepsFit, chain_cells, chain_value, steps_cells, steps_value}
pub use Rattle.xr_formulas.specs.declared.chain.Step.{Step}
pub use Rattle.xr_operations.specs.Alignment.{number_of, relisted, text_of}
pub use Rattle.xr_operations.specs.Changing.{cells_along, cells_by, change_called, changed_array, changed_axis, changed_cells, changed_content, changed_coord, changed_set, changed_variable, fill_along, has_hole, is_open, masked_along, new_axis, new_list, shown}
pub use Rattle.xr_operations.specs.declared.change.Change.{Change}
pub use Rattle.xr_parts.proofs.Axes.{called_here, called_name, called_on, names_there, own_axes, sizes_again, the_axes}
pub use Rattle.xr_parts.proofs.Words.{AreAmong as AreThere, any_mapped, each_map, each_weaker}
pub use Rattle.xr_reducing.proofs.OneVariable.{called_below, named_in}
pub use Rattle.xr_reducing.proofs.Reduced.{passed}
pub use Rattle.xr_times.specs.Times.{IsTime}
pub use Rattle.xr_types.specs.Kinds.{InRange}
pub use Rattle.xr_types.specs.Names.{among, are_distinct, axis_names, shape_over}
pub use Rattle.xr_types.specs.Points.{IsPoint, place, size}
pub use Rattle.xr_types.specs.declared.axis.Axis.{Axis}
pub use Rattle.xr_types.specs.declared.axis.Label.{Label}
pub use Rattle.xr_types.specs.declared.axis.Labels.{Labels}
pub use Rattle.xr_types.specs.declared.fault.Fault.TheVariants.{TooLarge}
pub use Rattle.xr_types.specs.declared.kind.DType.TheVariants.{Int64}
pub use Rattle.xr_types.specs.declared.kind.DType.{DType}
pub use Rattle.xr_values.proofs.Named.{bytes_eq_swap}
pub use Rattle.xr_values.specs.Stands.{IsArrayIn, IsDatasetIn, IsNodeOf, array_in, dataset_in, variable_in}
pub use Rattle.xr_values.specs.declared.dataset.Dataset.{Dataset}
pub use Rattle.xr_values.specs.declared.variable.Variable.{Variable}
