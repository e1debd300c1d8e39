-- Names that several of the proofs use.
pub use Rattle.std.proofs.Common.{All, Bool, Bor, List, MatchOption, None, Option, Some, String, [], add-one, ap, arith, cond, drop, false, filter, find, get_or, length, length-append, map, not, refl, set, subst, suc, sym, take, true, ℕ, ℤ, ◌&&◌, ◌*◌, ◌++◌, ◌+◌, ◌<◌, ◌||◌, ◌↔◌, ◌∙◌, ◌∷◌, ◌≡◌, ◌≤◌}
pub use Rattle.std.proofs.lemmas.Bool.{and_from, and_parts, and_right, cond-false, cond_both, eq-eqb, ne_eqb, not-true, not_from_false, or_from, or_left, or_parts}
pub use Rattle.std.proofs.lemmas.Bool.Decides.{Decides-int_eq, nat_tests, same_from_decides}
pub use Rattle.std.proofs.lemmas.List.{append-nil, append_assoc, drop-drop, drop_more, get_or_default, length-map, map-append, map-id, take-append-drop, take_all, take_more}
pub use Rattle.std.proofs.lemmas.List.Elements.{All-cons, All-head, All-nil, All-tail, All-weaker, filter-append, filter_passes, recursion_from_All}
pub use Rattle.std.proofs.lemmas.List.Folds.{flat_map-map, list_all-map, list_any-append}
pub use Rattle.std.proofs.lemmas.Simd.{map-map}
pub use Rattle.std.proofs.lemmas.Slice.Eq.{bytes_eq-Decides}
pub use Rattle.std.specs.Cmp.Lexicographic.{pointwise}
pub use Rattle.std.specs.List.{AllByRecursion, list_all, position, position_or_len, sum_by}
pub use Rattle.std.specs.Prelude.{flat_map, if◌then◌else◌, nat_eq, nat_lt, option_map, string_bytes, zip, ⊤}
pub use Rattle.std.specs.Str.{bytes_eq}
pub use Rattle.plan_core.specs.Plans.{Grows}
pub use Rattle.xr_arrays.specs.Arrays.{Array, cell, hidden}
pub use Rattle.xr_arrays.specs.Nodes.{Pushes, node_value, value, values}
pub use Rattle.xr_arrays.specs.declared.node.Node.{Node}
pub use Rattle.xr_defs.specs.Carrying.{attrs_among, carried, coord_rule, first_attrs, joined_attrs, joined_coord, name_among, named_as, same_attr, same_cell, same_name, stands}
unfoldable pub use Rattle.xr_defs.specs.Carrying.{coords_among, first_called, first_named, has_place, is_agreed, is_shared, same_content, same_coord, shared_attrs}
pub use Rattle.xr_defs.specs.Values.{array_of, names_fill, without_fills}
pub use Rattle.xr_defs.specs.WellFormed.{AreAttributes, AreDimensions, IsAttribute, IsCoordinate, IsDataArray, IsDataset, names_of}
pub use Rattle.xr_defs.specs.declared.carrying.Carry.{Carry}
pub use Rattle.xr_defs.specs.declared.value.Coord.{Coord}
pub use Rattle.xr_files.specs.Classic.{is_name, number_of}
pub use Rattle.xr_types.specs.Names.{among, are_distinct, axis_names, shape_over}
pub use Rattle.xr_types.specs.declared.attr.Attr.{Attr}
pub use Rattle.xr_types.specs.declared.axis.Axis.{Axis}
pub use Rattle.xr_values.specs.Carrying.{kept_here, shared_here, the_attrs, the_coords, the_names}
pub use Rattle.xr_values.specs.Stands.{IsArrayIn, IsDatasetIn, IsNodeOf, array_in, dataset_in, shape_named, variable_in, with_cells}
pub use Rattle.xr_values.specs.Trees.{Tree, Trees, keyed_tree, tree, tree_layer, tree_step, trees}
pub use Rattle.xr_values.specs.Variables.{AreNamed, Entry, IsNamed, in_order, with_variable, with_variables}
pub use Rattle.xr_values.specs.declared.data_array.DataArray.{DataArray}
pub use Rattle.xr_values.specs.declared.value.Value.{Value}
pub use Rattle.xr_values.specs.declared.value.Value.TheViews.{out-Value}
pub use Rattle.xr_values.specs.declared.variable.Variable.{Variable}
