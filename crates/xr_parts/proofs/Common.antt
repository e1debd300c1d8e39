-- Names that several of the proofs use.
pub use Rattle.std.proofs.Common.{All, Bool, Bor, Err, List, None, Ok, Option, Result, Some, [], add-one, ap, append_assoc, arith, cond, drop, false, filter, find, get_or, inl, inr, is_some, length, length-drop, map, not, pos, refl, rules, set, subst, suc, sym, take, true, zero, ℕ, ℤ, ◌&&◌, ◌*◌, ◌++◌, ◌+◌, ◌-◌, ◌/◌, ◌<◌, ◌==◌, ◌^◌, ◌||◌, ◌∙◌, ◌∷◌, ◌≡◌, ◌≢◌, ◌≤◌, ◌⊎◌}
pub use Rattle.std.proofs.lemmas.Bool.{and_from, and_parts, cases_Bool, cond-false, cond-true, eq-eqb, le-leb, leb-true, ne_eqb, not-true, not_from_false, or_left, or_parts, or_right}
pub use Rattle.std.proofs.lemmas.List.{drop_more, length-map}
pub use Rattle.std.proofs.lemmas.List.Elements.{All-cons, All-filter, All-head, All-map, All-nil, All-tail, All-weaker, filter_agree, recursion_from_All}
pub use Rattle.std.specs.List.{list_all}
pub use Rattle.std.specs.Prelude.{option_map}
pub use Rattle.std.specs.Str.{IsUtf8, is_utf8}
pub use Rattle.xr_arguments.proofs.Variants.{is_absent, is_number}
pub use Rattle.xr_arrays.specs.Arrays.{Array, IsCell, at}
pub use Rattle.xr_arrays.specs.Nodes.{IsNode, IsOrder, Pushes, moved, reordered, value, values}
unfoldable pub use Rattle.xr_arrays.specs.Nodes.{node_value}
pub use Rattle.xr_arrays.specs.declared.node.Node.TheVariants.{Reorder, Source}
pub use Rattle.xr_defs.specs.Decoding.{is_kept}
pub use Rattle.xr_defs.specs.Limits.{most_cells, most_dimensions}
pub use Rattle.xr_defs.specs.Parts.{as_texts, as_variable, backwards, check_attr, content_as_array, dimensions_at, has_name, is_labelled_as, left_of_set, not_there, own_name, set_of_array, variable_as_array, with_attr, without_idle}
unfoldable pub use Rattle.xr_defs.specs.Parts.{as_set, attr_given, dropped_of_array, dropped_of_set, each_attr, name_given, picked_of_set, set_name}
pub use Rattle.xr_defs.specs.Selecting.{are_few, is_within, variable_array}
unfoldable pub use Rattle.xr_defs.specs.Selecting.{check_set}
pub use Rattle.xr_defs.specs.Values.{array_of, label_count}
pub use Rattle.xr_defs.specs.WellFormed.{AreCells, AreLabels, IsContent, IsDataArray, IsDataset, IsVariable, labelled, names_of, variable_names}
pub use Rattle.xr_files.specs.Classic.{attr_names}
pub use Rattle.xr_parts.specs.Common.{AllByRecursion, Answers, AreAttributes, AreDimensions, Axis, Coord, DType, DataArray, Dataset, DoesNotFit, Fault, Given, IsArrayIn, IsAttribute, IsCoordinate, IsDatasetIn, IsDimension, IsIndex, NoVariable, Node, Variable, all_among, all_of, among, are_distinct, array_in, axes_called, axis_called, axis_names, axis_position, bytes_eq, codes, coord_as_array, coordinate_of, coords_left, coords_over, dataset_in, given, has_coordinate, holds, if◌then◌else◌, in_order, is_name, is_once, list_any, meaning, most_variables, names_given, nat_le, no_axis, unlabelled, value_bytes, with_key, with_variables, ◌>>=◌}
pub use Rattle.xr_parts.specs.Frames.{IsFrame, IsThere}
pub use Rattle.xr_parts.specs.Kept.{array_without, check_names, has_variable, set_without, vars_left}
unfoldable pub use Rattle.xr_parts.specs.Kept.{is_held, names_checked}
pub use Rattle.xr_parts.specs.Orders.{IsArrangement, IsMovedTo, behind}
pub use Rattle.xr_parts.specs.Single.{is_bare, set_of, variable_of}
pub use Rattle.xr_types.specs.Names.{shape_over}
pub use Rattle.xr_types.specs.Points.{IsPoint, place, size}
unfoldable pub use Rattle.xr_types.specs.Results.{unless}
pub use Rattle.xr_types.specs.declared.axis.Labels.{Labels}
pub use Rattle.xr_types.specs.declared.fault.Fault.TheVariants.{DuplicateName, TooLarge}
pub use Rattle.xr_types.specs.declared.text.TextBytes.{TextBytes}
pub use Rattle.xr_values.proofs.Grown.{array_value, node_valued, pushed_array, pushed_cells}
pub use Rattle.xr_values.proofs.Named.{bytes_eq_swap, put_behind}
pub use Rattle.xr_values.specs.Stands.{IsNodeOf, shape_named, variable_in, with_cells}
pub use Rattle.xr_values.specs.declared.value.Value.{Value}
