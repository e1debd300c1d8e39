-- Names that several of the proofs use.
pub use Rattle.std.proofs.Common.{append-nil, max}
pub use Rattle.std.proofs.lemmas.Bool.{false_from_ne_true, or_cases}
pub use Rattle.std.proofs.lemmas.List.{map-append, map-id}
pub use Rattle.std.proofs.lemmas.List.Elements.{All-append, All-from_recursion}
pub use Rattle.std.proofs.lemmas.List.Folds.{Any-from_list_any, list_any-append}
pub use Rattle.std.proofs.lemmas.List.Sums.{AllPass-from_list_all}
pub use Rattle.std.proofs.lemmas.Map.Views.{any-filter_same}
pub use Rattle.std.specs.List.{count_by, sum_by}
pub use Rattle.xr_arrays.specs.Nodes.{picked_from, with_axis}
pub use Rattle.xr_changing.proofs.Common.{AddsAtMost, Dataset, IsBelow, IsValueOf, MatchOption, Step, StepsFit, TakesFit, adds_up, any_mapped, called_name, each_map, each_weaker, front_among, greatest, greatest_both, length-append, lit<, map-map, mul-le, span, steps_cells, steps_value, take, ⊤}
pub use Rattle.xr_defs.proofs.Spans.{greatest_some}
pub use Rattle.xr_defs.specs.Selecting.{label_content, label_coord}
pub use Rattle.xr_defs.specs.declared.value.Content.{Content}
pub use Rattle.xr_formulas.proofs.Common.{ChainFits, IsArrayOf, chain_cells, chain_value, most_node_cells, points_above, span_up, tab, tab-length, tab_read, true≢false, without}
pub use Rattle.xr_formulas.specs.declared.chain.Chain.{Chain}
pub use Rattle.xr_operations.specs.Indexing.{labels_left, squeezed_array, squeezed_content, squeezed_coord, squeezed_coords, squeezed_set, squeezed_variable}
pub use Rattle.xr_operations.specs.Reductions.{axes_left, names_left, size_called}
pub use Rattle.xr_parts.proofs.Axes.{called_holds, own_axes}
pub use Rattle.xr_parts.proofs.Common.{if◌then◌else◌, All-cons, All-nil, AllByRecursion, AreCells, AreLabels, Array, Axis, Bool, Coord, DType, DataArray, IsArrayIn, IsCell, IsContent, IsCoordinate, IsDataArray, IsDataset, IsDatasetIn, IsDimension, IsFrame, IsIndex, IsNodeOf, IsThere, IsVariable, Labels, List, Node, None, Option, Some, Variable, among, ap, append_assoc, are_distinct, are_few, arith, array_in, at, axis_called, axis_names, bytes_eq, cond, dataset_in, false, filter, get_or, inl, inr, is_kept, is_some, label_count, labelled, leb-true, length, length-map, list_any, map, most_variables, names_of, nat_le, not, not-true, pos, recursion_from_All, refl, shape_over, size, subst, suc, sym, true, value, variable_in, variable_names, zero, ℕ, ℤ, [], ◌*◌, ◌++◌, ◌+◌, ◌<◌, ◌||◌, ◌∙◌, ◌∷◌, ◌≡◌, ◌≤◌}
pub use Rattle.xr_parts.proofs.Idle.{has_axis, has_dim, kept_called, labelled_left, own_names}
pub use Rattle.xr_parts.proofs.Words.{AreAbsent, AreAmong, AreSome, absent_among, absent_both, absent_parts, all_hold, anything, both_hold, distinct_left, each_left, join, same_text, some_both, some_left, some_same, split}
pub use Rattle.xr_reducing.proofs.Placing.{fits_within}
pub use Rattle.xr_reducing.proofs.Staying.{called_left, distinct_names, fewer, named_left, over_left, sizes_left}
pub use Rattle.xr_reducing.specs.Sets.{IsFitWithin, IsSetMade, IsSetOf, IsVarFit, set_made_in, var_made_in, vars_cells}
pub use Rattle.xr_reducing.specs.declared.realized.SetMade.{SetMade}
pub use Rattle.xr_reducing.specs.declared.realized.VarMade.{VarMade}
pub use Rattle.xr_squeezing.specs.Alone.{AreAlone, IsAlone}
pub use Rattle.xr_squeezing.specs.Made.{HasFirst, Leaves, has_labels, steps_without, var_made}
