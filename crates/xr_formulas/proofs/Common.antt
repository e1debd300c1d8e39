-- Names that several of the proofs use.
pub use Rattle.std.proofs.Common.{Bool, Err, FitsSigned, List, None, Ok, Option, Result, Some, [], ap, arith, cond, drop, false, get_or, inl, inr, int_le, int_lt, is_some, length, lit<, negsuc, not, pos, refl, rules, subst, suc, sym, true, zero, ℕ, ℤ, ◌&&◌, ◌*◌, ◌++◌, ◌+◌, ◌<ℤ◌, ◌<◌, ◌==◌, ◌||◌, ◌∙◌, ◌∷◌, ◌≡◌, ◌≢◌, ◌≤ℤ◌, ◌≤◌}
pub use Rattle.std.proofs.lemmas.Bool.{and_cases, and_parts, cond_both, or_cases, or_parts, or_right, true≢false}
pub use Rattle.std.proofs.lemmas.Int.{ints, to_z-of_z}
pub use Rattle.std.proofs.lemmas.List.{drop_all, get_or-drop, get_or-take, length-map, nil_from_length}
pub use Rattle.std.proofs.lemmas.Nat.{mul-le}
pub use Rattle.std.specs.Int.{w128}
pub use Rattle.plan_core.proofs.Added.{adds_both, adds_one, adds_up}
pub use Rattle.plan_core.proofs.Fitting.{source_fits}
pub use Rattle.plan_core.proofs.Plans.{grown-length, grown_value, grows_on, pushes_grow, values-length}
pub use Rattle.plan_core.proofs.Tabs.{All-tab, place_below, suc_times, tab-length, tab_read, tab_row, tab_same, zero_times}
pub use Rattle.plan_core.specs.Plans.{Grows}
pub use Rattle.xr_arrays.proofs.ElementRanges.{elem_of_one, elem_of_two}
pub use Rattle.xr_arrays.specs.Added.{AddsAtMost}
unfoldable pub use Rattle.xr_arrays.specs.Added.{cells_of}
pub use Rattle.xr_arrays.specs.Arrays.{Array, IsCell, at, made}
pub use Rattle.xr_arrays.specs.Elements.{Gives, Suits, cast_to, choose_of, elem, flag, is_comparison, result_kind, takes_one, takes_two, unary_kind, unary_of}
pub use Rattle.xr_arrays.specs.Nodes.{Fits, FitsBy, IsNode, Pushes, most_axes, most_node_cells, value, values, widened, without}
unfoldable pub use Rattle.xr_arrays.specs.Nodes.{node_value}
pub use Rattle.xr_arrays.specs.declared.node.Node.{Node}
pub use Rattle.xr_arrays.specs.declared.node.Node.TheVariants.{Binary, Choose, Source}
pub use Rattle.xr_defs.proofs.Spans.{back_among, greatest_both, points_above, span_above, span_up}
pub use Rattle.xr_defs.specs.Building.{is_chars, is_integer_kind, truth_number}
pub use Rattle.xr_defs.specs.Limits.{most_cells, most_dimensions}
pub use Rattle.xr_defs.specs.Room.{AddsForAny, Portion, count, of_array, portions}
unfoldable pub use Rattle.xr_defs.specs.Room.{room, span}
pub use Rattle.xr_defs.specs.Values.{array_of, without_fills}
pub use Rattle.xr_defs.specs.WellFormed.{AreAttributes, AreCells, IsDataArray}
pub use Rattle.xr_formulas.specs.Beside.{Fills, IsOver, IsPlaced, always, ascending, formula_beside, holds, operand, placed_cell, placed_on, within_kind}
pub use Rattle.xr_formulas.specs.Called.{AddsBeside, StandsFor}
pub use Rattle.xr_formulas.specs.Cellwise.{Changes, changed, masked_after}
pub use Rattle.xr_formulas.specs.Chains.{ChainFits, IsValueOf, StartFits, StepFits, StepsFit, chain_cells, chain_value, one_cell, start_cells, start_value, step_node, step_value, steps_cells, steps_value}
pub use Rattle.xr_formulas.specs.Mades.{Choices, FormulaFits, IsArrayOf, IsMade, Makes, Match, formula_cells, formula_value, like, made_in, made_with, paired}
pub use Rattle.xr_formulas.specs.Spread.{has_none, literal, widens}
pub use Rattle.xr_formulas.specs.declared.chain.Chain.{Chain}
pub use Rattle.xr_formulas.specs.declared.chain.Step.{Step}
pub use Rattle.xr_formulas.specs.declared.chain.Step.TheVariants.{Unary, Widen}
pub use Rattle.xr_formulas.specs.declared.made.Made.{Made}
pub use Rattle.xr_formulas.specs.declared.numbers.Placed.{Placed}
pub use Rattle.xr_operations.specs.Arithmetic.{beside, check_truths, is_truths, number_kind, sort_of, takes_truths}
unfoldable pub use Rattle.xr_operations.specs.Arithmetic.{check_kinds, common_kind, with_literal}
pub use Rattle.xr_operations.specs.declared.side.Side.{Side}
pub use Rattle.xr_operations.specs.declared.side.Side.TheVariants.{Left, Right}
pub use Rattle.xr_types.specs.Kinds.{InRange, high, in_range, low, promoted}
pub use Rattle.xr_types.specs.Names.{shape_over}
pub use Rattle.xr_types.specs.Points.{IsPoint, place, size, tab}
pub use Rattle.xr_types.specs.Results.{◌>>=◌}
unfoldable pub use Rattle.xr_types.specs.Results.{unless}
pub use Rattle.xr_types.specs.declared.attr.Attr.{Attr}
pub use Rattle.xr_types.specs.declared.axis.Axis.{Axis}
pub use Rattle.xr_types.specs.declared.fault.Fault.{Fault}
pub use Rattle.xr_types.specs.declared.kind.DType.{DType}
pub use Rattle.xr_types.specs.declared.operation.OpKind.{OpKind}
pub use Rattle.xr_values.proofs.Grown.{array_value}
pub use Rattle.xr_values.specs.Meaning.{meaning}
pub use Rattle.xr_values.specs.Stands.{IsArrayIn, array_in}
pub use Rattle.xr_values.specs.declared.data_array.DataArray.{DataArray}
pub use Rattle.xr_values.specs.declared.value.Value.{Value}
