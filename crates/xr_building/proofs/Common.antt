-- Names and small facts that several of the proofs use.
pub use Rattle.std.proofs.Common.{All, Bool, Bor, Err, List, None, Ok, Option, Result, Some, [], ap, append_assoc, arith, cond, drop, false, filter, get_or, length, length-append, map, not, option_map, pos, refl, rules, set, subst, suc, sym, take, true, zero, ℕ, ℤ, ◌&&◌, ◌*◌, ◌++◌, ◌+◌, ◌-◌, ◌<◌, ◌==◌, ◌||◌, ◌∙◌, ◌∷◌, ◌≡◌, ◌≤ℤ◌, ◌≤◌}
pub use Rattle.std.proofs.Math.Bool.{and-true, and_assoc, or-false, or_assoc, or_comm}
pub use Rattle.std.proofs.lemmas.Bool.Decides.{nat_tests}
pub use Rattle.std.proofs.lemmas.Bool.{and_parts, cond_both, le-leb, leb-true, not-true, or_parts}
pub use Rattle.std.proofs.lemmas.Int.{ints}
pub use Rattle.std.proofs.lemmas.List.Elements.{All-cons, All-get_or, All-head, All-nil, All-tail, All-weaker}
pub use Rattle.std.proofs.lemmas.List.Folds.{list_all-append, list_all-map, list_any-append}
pub use Rattle.std.proofs.lemmas.List.Sums.{AllPass-from_list_all}
pub use Rattle.std.proofs.lemmas.List.{append-nil, drop_all, length-map, map-append, map-id, nil_from_length, take_all}
pub use Rattle.std.proofs.lemmas.Result.{err_from_is_err_and}
pub use Rattle.std.proofs.lemmas.Simd.{map-map}
pub use Rattle.std.specs.Prelude.{IfOk, MatchOption, Vec, codes, find, if◌then◌else◌, int_le, is_some, nat_le, ⊤}
pub use Rattle.std.specs.declared.alloc.Global.{Global}
pub use Rattle.xr_arguments.proofs.Variants.{is_array, is_list, is_table}
pub use Rattle.xr_arrays.specs.Arrays.{InKind, IsCell, cell, hidden, kind_of, wide, Array as CellArray}
pub use Rattle.xr_arrays.specs.Labels.{same, labels_of as label_numbers}
unfoldable pub use Rattle.xr_arrays.specs.Nodes.{node_value}
pub use Rattle.xr_building.specs.Entries.{Follows, FollowsArray, FollowsSet, IsPlain, node_of, refused}
unfoldable pub use Rattle.xr_building.specs.Entries.{array_assigned, computed, entries_in, entry_in, frame_in, set_assigned}
pub use Rattle.xr_building.specs.Frames.{Apart, IsFrame, IsOpenAxis, Stays}
pub use Rattle.xr_building.specs.Gathered.{mask_byte, number_or_zero, or_absent, with_elements, with_number}
pub use Rattle.xr_building.specs.Placing.{IsAlone, are_aligned, array_checks, array_put, array_told, axis_or_none, checked_axis, is_free, is_there}
pub use Rattle.xr_building.specs.Puts.{after, check_put, fits_whole, frame_of, labels_at, labels_fit, labels_of, labels_or, last_labels, over, over_called, put_fits, put_on, texts_put}
unfoldable pub use Rattle.xr_building.specs.Puts.{coord_place}
pub use Rattle.xr_building.specs.Written.{IsFilled, IsOpen, coords_held, entries_held, entries_of, framed, keyword_held, limited, table_entries, with_written}
unfoldable pub use Rattle.xr_building.specs.Written.{array_written, check_fit, header_of, plain_given, plain_over}
pub use Rattle.xr_building.specs.declared.elements.Elements.{Elements}
pub use Rattle.xr_building.specs.declared.puts.Put.{Put}
pub use Rattle.xr_defs.specs.Building.{Frame, argument, bare_axes, check_elements, coord_relabelled, dims_given, element_cell, elements_of, equal_labels, first_item, fits_kind, frame_labelled, frame_of_array, given_value, is_along, is_dimension, is_integer_kind, is_missing, is_named_entry, is_nested, is_number, is_regular, is_text, is_truth_cell, is_whole_cell, item_count, items, keyword, kind_for, kind_given, label_total, labels_given, name_given, nested_shape, numbers_in, option, parameters, plain_array, relabelled, required, suits, variable_names, with_coord, with_frame, all_values as each_value, entries_in as entries_listed}
unfoldable pub use Rattle.xr_defs.specs.Building.{check_elements, dims_given, array_built, as_labels, assigned_to_array, assigned_to_set, bound, check_axis, check_coordinate, check_entry, check_labels, check_numbers, check_place, check_table_entry, coordinate_given, coords_assigned, data_array, elements, entries_assigned, entries_given, with_coordinate, with_entries, with_entry, with_labels}
pub use Rattle.xr_defs.specs.Meanings.{Absent, Array, Entries, Entry, NoEntry, NoValue, Number, Sequence, Table, Text, Value, Values, With, Truth, Times as MeantTimes}
unfoldable pub use Rattle.xr_defs.specs.Parts.{texts_in}
pub use Rattle.xr_defs.specs.Selecting.{are_within, axis_called, check_set, is_within}
unfoldable pub use Rattle.xr_defs.specs.Selecting.{check_array}
pub use Rattle.xr_defs.specs.Values.{array_of, axis_position, label_count, no_axis, present, DataArray as MeantArray, Dataset as MeantSet, Variable as MeantVariable}
pub use Rattle.xr_defs.specs.WellFormed.{AreAttributes, AreDimensions, AreCells, AreLabels, AreSeen, IsCoordinate, IsDataArray, IsDimension, IsIndex, IsVariable, labelled, names_of as coord_names}
pub use Rattle.xr_parts.proofs.Alike.{called_kept, coord_kept, names_kept, nodes_alike, size_alike, sizes_kept, var_alike}
pub use Rattle.xr_parts.proofs.Axes.{called_cons, called_holds, called_name as name_called, own_axes}
pub use Rattle.xr_parts.proofs.Common.{AllByRecursion, Answers, Axis, Coord, DType, DataArray, Dataset, Fault, IsArrayIn, IsDatasetIn, IsNode, IsNodeOf, IsThere, IsUtf8, Labels, Node, Pushes, Source, TextBytes, Variable, all_of, among, are_distinct, array_in, axis_names, bytes_eq, bytes_eq_swap, dataset_in, is_name, list_all, list_any, most_cells, most_dimensions, most_variables, shape_over, size, values, variable_in, with_cells, without_idle, ◌>>=◌}
pub use Rattle.xr_parts.proofs.Idle.{busy_in, busy_is, busy_set, idle_axes, idle_coords, idle_vars, kept_absent}
pub use Rattle.xr_parts.proofs.Words.{AreAbsent, absent_both, absent_left, absent_parts, both_hold, distinct_cons, distinct_parts, each_map, each_weaker, neither, other_name, same_text, split}
pub use Rattle.xr_types.specs.Kinds.{InRange, high, in_range, low, wrap_to}
unfoldable pub use Rattle.xr_types.specs.Results.{unless}
pub use Rattle.xr_types.specs.declared.axis.Label.TheVariants.{Int}
pub use Rattle.xr_types.specs.declared.axis.LabelList.TheVariants.{Numbers, Texts, Times}
pub use Rattle.xr_types.specs.declared.axis.LabelList.{LabelList}
pub use Rattle.xr_types.specs.declared.fault.CallFault.TheVariants.{Declined, NoMemory, Refused}
pub use Rattle.xr_types.specs.declared.fault.CallFault.{CallFault}
pub use Rattle.xr_types.specs.declared.fault.Fault.TheVariants.{BadArgument, DoesNotFit, DuplicateName, NoDimension, NotAligned, SizeConflict, TooLarge, WrongKind}
pub use Rattle.xr_values.proofs.Meaning.{all_more, meaning_out, no_values, value_out}
pub use Rattle.xr_values.proofs.Places.{from_place, put_over, put_there as placed_there, put_behind as placed_behind}
pub use Rattle.xr_values.specs.Answers.{AnswersArray, AnswersSet}
pub use Rattle.xr_values.specs.Meaning.{AreArgsIn, IsEntryIn, IsLayerIn, IsValueIn, entries, layer, meaning, with_key, values as values_behind}
unfoldable pub use Rattle.xr_values.specs.Meaning.{all_entries, all_values, given}
pub use Rattle.xr_values.specs.Variables.{names_of}
pub use Rattle.xr_values.specs.declared.args.Args.{Args}
pub use Rattle.xr_values.specs.declared.value.Value.TheOpen.{Value-F, Array as LayerArray, Absent as LayerAbsent, Table as LayerTable, Times as LayerTimes}
pub use Rattle.xr_values.specs.declared.value.Value.TheViews.{out-Value, out-roll-Value, roll-out-Value}
unfoldable pub use Rattle.xr_values.specs.declared.value.Value.TheViews.{roll-Value}
pub use Rattle.xr_values.specs.declared.value.Value.{Value as Held}
pub use Rattle.xr_types.specs.declared.kind.DType.TheVariants.{Int64, Bool as TruthKind, Char as CharKind}
pub use Rattle.xr_defs.specs.declared.value.Content.TheVariants.{Cells as ContentCells}
pub use Rattle.xr_values.specs.declared.value.Value.TheVariants.{Array as HeldArray, Table as HeldTable}
pub use Rattle.xr_building.specs.declared.header.Header.{Header}

-- ---- what is told of steps that pass

pub unless_holds : (b : Bool) (f : Fault) → unless b f ≡ Ok (tt {0}) → b ≡ true
unfolding unless
unless_holds true f is = refl
unless_holds false f is = absurd cc

pub passes : {A B E : Type 0} (r : Result A E) (next : A → Result B E) (b : B) → (r >>= next) ≡ Ok b → (a : A) × (r ≡ Ok a) × (next a ≡ Ok b)
passes (Ok a) next b is = (a, refl, is)
passes (Err e) next b is = absurd cc

pub first_passes : {A : Type 0} (r : Result (Unit {0}) Fault) (s : Result A Fault) (a : A) → (r >>= λ u. s) ≡ Ok a → (r ≡ Ok tt) × (s ≡ Ok a)
first_passes r s a is = let p = passes r (λ u. s) a is in (p.1, p.2)

pub same_value : {A : Type 0} (r : Result A Fault) (a b : A) → r ≡ Ok a → r ≡ Ok b → a ≡ b
same_value r a b one other = cc

pub not_refused : {A : Type 0} (r : Result A Fault) (a : A) → refused r ≡ Ok a → r ≡ Ok a
not_refused (Ok b) a is = cc
not_refused (Err e) a is = absurd cc

pub equal : (m n : ℕ) → (m == n) ≡ true → m ≡ n
equal m n is = grind (arith, nat_tests)
