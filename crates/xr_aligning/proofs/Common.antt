-- Names that several of the proofs use.
pub use Rattle.align_join.proofs.Told.{fails, stays_each}
pub use Rattle.plan_core.proofs.Plans.{grown-length, grown_value, grows_by_none, grows_on}
pub use Rattle.plan_core.proofs.Tabs.{tab-length, tab_same}
pub use Rattle.std.proofs.Common.{All, Bool, Bor, Err, List, None, Ok, Option, Result, Some, [], ap, append_assoc, arith, cond, drop, false, filter, fold, get_or, is_some, length, length-append, lit<, map, not, option_map, refl, rules, set, subst, suc, sym, take, true, zero, ℕ, ℤ, ◌&&◌, ◌++◌, ◌+◌, ◌-◌, ◌<◌, ◌==◌, ◌||◌, ◌∙◌, ◌∷◌, ◌≡◌, ◌≤◌}
pub use Rattle.std.proofs.Math.Seq.{get_or-append_seam, set-append_seam}
pub use Rattle.std.proofs.lemmas.Bool.{and_parts, ne_eqb, not-true, or_left, or_parts, or_right}
pub use Rattle.std.proofs.lemmas.Bool.Decides.{nat_tests}
pub use Rattle.std.proofs.lemmas.List.{append-nil, at_drop_all, length-map, length-set, map-append, set-get_or, take_all, take_more}
pub use Rattle.std.proofs.lemmas.List.Elements.{All-append, All-cons, All-filter, All-from_recursion, All-head, All-nil, All-tail, filter_agree, recursion_from_All}
pub use Rattle.std.proofs.lemmas.Result.{err_from_is_err_and}
pub use Rattle.std.specs.BTreeSet.{insert_key}
pub use Rattle.std.specs.List.{range_with_len}
pub use Rattle.std.specs.Ordering.{match_ordering}
pub use Rattle.std.specs.Prelude.{IfOk, IfSome, OnOk, codes, is_none, nat_le, ⊤}
pub use Rattle.std.specs.declared.cmp.Ordering.{Ordering}
pub use Rattle.std.specs.declared.cmp.Ordering.TheVariants.{Equal, Greater, Less}
pub use Rattle.xr_aligning.specs.Aligned.{AnswersValues, ArePlaced, are_options}
unfoldable pub use Rattle.xr_aligning.specs.Aligned.{is_option}
pub use Rattle.xr_aligning.specs.Assigned.{IsApart, IsPlaced, Stays, coords_with, is_free, is_fresh, is_taken, joined_with, others, relabelled, rest_axes, set_with, variable_of}
pub use Rattle.xr_aligning.specs.Coming.{Comes, IsChangeOf, IsLabelledIn, IsReady, KeepsIn, TakesLabels, check_fill_by, check_fill_where, come, fitted_by, labelled_in, own_axes, stands_for}
pub use Rattle.xr_aligning.specs.Common.{AllByRecursion, Answers, AnswersSet, Array, Axis, CallFault, Content, Coord, DType, DataArray, Dataset, Fails, Fault, Grows, HasFew, IsArrayIn, IsBelow, IsCell, IsCoordinate, IsDatasetIn, IsFrame, IsIndex, IsNodeOf, IsThere, IsValueIn, IsValueOf, IsVariable, Node, Step, TakesFit, TooLarge, Value, Variable, all_of, among, are_distinct, are_within, array_in, axes_called, axis_called, axis_names, bytes_eq, check_coords, check_variables, dataset_in, fitted_coord, fitted_variable, has_coord, has_index, is_busy, is_name, is_reserved, is_within, joined_in, list_all, list_any, masked_with, meaning, most_cells, most_variables, shape_over, size, sources, stays, steps_value, value, variable_in, with_key, with_labels, with_variable, with_variables, without_variable}
unfoldable pub use Rattle.xr_aligning.specs.Coming.{check_coord_by, check_var_by}
pub use Rattle.xr_aligning.specs.Fits.{Arrive, Arrives, Reaches, TakesFill, any_hole, cells_after, content_after, fill_in, fit_called, fit_of, fit_to, own_sizes, sizes, step_by, steps_from, unless_stays}
pub use Rattle.xr_aligning.specs.Fitted.{AreFitted, IsArrayAfter, IsChange, IsContentAfter, IsFitted}
pub use Rattle.xr_aligning.specs.Joined.{AreLoose, IsLoose}
pub use Rattle.xr_aligning.specs.Limits.{are_variables_within, is_set_within, sizes_called}
pub use Rattle.xr_aligning.specs.Sets.{ArePut, AreVarsAfter, CanPut, IsSetAfter, IsVarAfter, IsVarHere, KeepsLabels, are_vars_within, sizes_after}
pub use Rattle.xr_aligning.specs.declared.coming.Coming.{Coming}
pub use Rattle.xr_aligning.specs.declared.fits.Change.{Change}
pub use Rattle.xr_aligning.specs.declared.fits.Fit.{Fit}
pub use Rattle.xr_aligning.specs.declared.labelled.Labelled.{Labelled}
pub use Rattle.xr_arrays.specs.Arrays.{at, made}
pub use Rattle.xr_arrays.specs.Labels.{labels_of, order, repeats}
pub use Rattle.xr_arrays.specs.Nodes.{along, from_source, taken_from}
pub use Rattle.xr_defs.specs.Building.{given_value, is_integer_kind, is_keyword_of, keyword, option, same_labels}
unfoldable pub use Rattle.xr_defs.specs.Building.{bound}
pub use Rattle.xr_defs.specs.Decoding.{is_kept}
pub use Rattle.xr_defs.specs.Meanings.{Given}
pub use Rattle.xr_defs.specs.Parts.{without_idle}
pub use Rattle.xr_defs.specs.Selecting.{are_few, variable_array}
unfoldable pub use Rattle.xr_defs.specs.Selecting.{check_set}
pub use Rattle.xr_defs.specs.Values.{array_of}
pub use Rattle.xr_defs.specs.WellFormed.{AreAttributes, AreCells, AreLabels, IsContent, IsDataArray, IsDataset, IsDimension, labelled, names_of, variable_names}
pub use Rattle.xr_formulas.specs.Chains.{StepsFit}
pub use Rattle.xr_joining.proofs.Cells.{both_points, cell_in, cell_seen, cells_made, made_at, made_by, point_length}
pub use Rattle.xr_joining.proofs.JoinedAxes.{among_both, of_called, of_holds, once_among, once_distinct}
pub use Rattle.xr_joining.proofs.MeetLaws.{bind_ok, comes_stay, counted, each_at, each_long, inner, unless_ok}
pub use Rattle.xr_joining.proofs.NamedAxes.{in_next}
pub use Rattle.xr_joining.proofs.Promoted.{in_promoted}
pub use Rattle.xr_joining.proofs.Takes.{next_axis, source_inside}
pub use Rattle.xr_joining.specs.Fitted.{AreBelow}
pub use Rattle.xr_operations.specs.Alignment.{all_names, all_of_lists, all_sources, are_kin, ascending, axes_named, axis_of, cell_or, each_position, fitted_cells, fitted_content, has_all, has_hole, has_size, holds_label, indexes, is_empty, is_exact, joined_by, last_of, listed, names_once, number_kind, number_of, outer_of, relisted, source_point}
unfoldable pub use Rattle.xr_operations.specs.Alignment.{aligned, common_kind, fitted, join, joined_each, joined_index, joined_labels, joined_or_own, labelled_axis}
pub use Rattle.xr_parts.proofs.Axes.{called_cons, called_holds, called_name, names_there, sizes_again, the_axes}
pub use Rattle.xr_parts.proofs.Idle.{idle_coords, idle_formed, idle_vars, nodes_left, vars_have}
pub use Rattle.xr_parts.proofs.Naming.{named_text}
pub use Rattle.xr_parts.proofs.Words.{AreAbsent, absent_left, distinct_left, distinct_parts, each_left, each_map, each_named_left, each_weaker, itself, same_text, split}
pub use Rattle.xr_relations.specs.Aligning.{all_coords, axes_of, check_labelled, fill_cell, fill_given, fitted_value, has_labels, how_given, meets_variable, put_variable}
unfoldable pub use Rattle.xr_relations.specs.Aligning.{align_called, aligned_by, check_fill, check_hole, check_names, check_size, fitted_set, variable_assigned}
pub use Rattle.xr_times.specs.Times.{IsTime, same_calendar}
pub use Rattle.xr_types.specs.Kinds.{InRange, promoted}
pub use Rattle.xr_types.specs.Points.{IsPoint}
pub use Rattle.xr_types.specs.Results.{◌>>=◌}
unfoldable pub use Rattle.xr_types.specs.Results.{unless}
pub use Rattle.xr_types.specs.declared.attr.Attr.{Attr}
pub use Rattle.xr_types.specs.declared.axis.Calendar.{Calendar}
pub use Rattle.xr_types.specs.declared.axis.Label.{Label}
pub use Rattle.xr_types.specs.declared.axis.Label.TheVariants.{Int, Text, Time}
pub use Rattle.xr_types.specs.declared.axis.LabelList.{LabelList}
pub use Rattle.xr_types.specs.declared.axis.LabelList.TheVariants.{Numbers, Texts, Times}
pub use Rattle.xr_types.specs.declared.axis.Labels.{Labels}
pub use Rattle.xr_types.specs.declared.fault.CallFault.TheVariants.{Declined, NoMemory, Refused}
pub use Rattle.xr_types.specs.declared.fault.Fault.TheVariants.{BadArgument, DuplicateName, LabelKind, NotAligned, NotUnique, SizeConflict, WouldPromote}
pub use Rattle.xr_types.specs.declared.kind.DType.TheVariants.{Int16, Int32, Int64, Int8, UInt16, UInt32, UInt64, UInt8}
pub use Rattle.xr_types.specs.declared.operation.How.{How}
pub use Rattle.xr_values.proofs.Grown.{array_kept, dataset_kept, stays_array, stays_dataset}
pub use Rattle.xr_values.proofs.Meaning.{meaning_kept, stays_value}
pub use Rattle.xr_values.proofs.Named.{bytes_eq_swap, put_behind, stay_distinct}
pub use Rattle.xr_values.proofs.Places.{from_place}
unfoldable pub use Rattle.xr_values.specs.Meaning.{given}
