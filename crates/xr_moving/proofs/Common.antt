-- Names that several of the proofs use.
pub use Rattle.plan_core.specs.Plans.{Grows}
pub use Rattle.std.proofs.Common.{All, Bool, Err, None, Ok, Option, Result, Some, [], ap, arith, cond, false, get_or, is_some, length, lit<, map, refl, set, subst, suc, sym, true, zero, ℕ, ℤ, ◌&&◌, ◌*◌, ◌++◌, ◌+◌, ◌-◌, ◌<◌, ◌||◌, ◌∙◌, ◌∷◌, ◌≡◌, ◌≤◌}
pub use Rattle.std.proofs.Math.ListN.{get_or-map}
pub use Rattle.std.proofs.lemmas.Bool.{or_parts}
pub use Rattle.std.proofs.lemmas.List.{length-map}
pub use Rattle.std.proofs.lemmas.List.Elements.{All-map}
pub use Rattle.std.proofs.lemmas.List.Folds.{list_all-map}
pub use Rattle.std.proofs.lemmas.List.FromFn.{get_or-range_with_len, length-range_with_len}
pub use Rattle.std.proofs.lemmas.Nat.{mul-le}
pub use Rattle.std.specs.List.{AllByRecursion, list_all, list_any, range_with_len}
pub use Rattle.std.specs.Prelude.{is_none, option_map}
pub use Rattle.std.specs.Str.{bytes_eq}
pub use Rattle.xr_arrays.specs.Added.{AddsAtMost}
pub use Rattle.xr_arrays.specs.Arrays.{Array, IsCell}
pub use Rattle.xr_arrays.specs.Nodes.{IsBelow, taken_from, value}
pub use Rattle.xr_arrays.specs.declared.node.Node.{Node}
pub use Rattle.xr_changing.proofs.Formed.{coord_names}
pub use Rattle.xr_changing.proofs.NewAxes.{names_kept}
pub use Rattle.xr_changing.proofs.Stepping.{AreAll, taken_all}
pub use Rattle.xr_defs.specs.Arguments.{check_dimension}
pub use Rattle.xr_defs.specs.Decoding.{is_kept}
pub use Rattle.xr_defs.specs.Meanings.{Given, Value}
pub use Rattle.xr_defs.specs.Selecting.{axis_called, place_of, variable_array}
pub use Rattle.xr_defs.specs.Values.{array_of, axis_position, no_axis, without_fills}
pub use Rattle.xr_defs.specs.WellFormed.{AreCells, IsDataset, IsVariable, labelled, names_of, variable_names}
pub use Rattle.xr_defs.specs.declared.value.Coord.{Coord}
pub use Rattle.xr_formulas.specs.Chains.{StepFits, chain_value}
pub use Rattle.xr_formulas.specs.Mades.{FormulaFits, Makes, Match, formula_cells, formula_value, paired}
pub use Rattle.xr_formulas.specs.declared.made.Formula.{Formula}
pub use Rattle.xr_formulas.specs.declared.made.Made.{Made}
pub use Rattle.xr_moving.specs.Diffs.{IsFramed, axes_left, coords_left, neighbours}
pub use Rattle.xr_moving.specs.Sets.{AreVarsOf, Fit, IsSetMade, IsVarFit, IsVarOf, MakesSet, set_made_in, set_moved_by, sizes, var_made_in, vars_cells}
pub use Rattle.xr_moving.specs.Steps.{hides, moved_by, moved_cells, named, positions_by}
pub use Rattle.xr_moving.specs.declared.moves.Move.TheVariants.{Roll, Shift}
pub use Rattle.xr_moving.specs.declared.moves.Moves.{Moves}
pub use Rattle.xr_moving.specs.declared.sets.SetMade.{SetMade}
pub use Rattle.xr_moving.specs.declared.sets.VarMade.{VarMade}
pub use Rattle.xr_operations.specs.Arithmetic.{is_truths}
pub use Rattle.xr_operations.specs.Changing.{changed_coord, new_axis}
pub use Rattle.xr_operations.specs.Moves.{differences, distance, is_moved, keeping, labels_kept, moved_along, moved_at, rolled, set_moved, shifted, var_moved}
pub use Rattle.xr_operations.specs.declared.change.Change.{Change}
pub use Rattle.xr_parts.proofs.Axes.{own_axes, sizes_again}
pub use Rattle.xr_parts.proofs.Words.{any_mapped, same_text}
pub use Rattle.xr_types.specs.Kinds.{InRange, in_range}
pub use Rattle.xr_types.specs.Names.{among, are_distinct, axis_names, shape_over}
pub use Rattle.xr_types.specs.Points.{size}
pub use Rattle.xr_types.specs.Results.{all_of, ◌>>=◌}
pub use Rattle.xr_types.specs.declared.axis.Axis.{Axis}
pub use Rattle.xr_types.specs.declared.fault.Fault.{Fault}
pub use Rattle.xr_types.specs.declared.fault.Fault.TheVariants.{WrongKind}
pub use Rattle.xr_types.specs.declared.kind.DType.{DType}
pub use Rattle.xr_values.specs.Stands.{IsArrayIn, IsDatasetIn, IsNodeOf, array_in, dataset_in, variable_in}
pub use Rattle.xr_values.specs.declared.dataset.Dataset.{Dataset}
pub use Rattle.xr_values.specs.declared.variable.Variable.{Variable}
