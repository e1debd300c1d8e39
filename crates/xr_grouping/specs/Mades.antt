-- What methods of grouped values make, before a plan.
use Rattle.std.specs.Prelude.{◌==◌, ℕ, ℤ, Bool, false, length, List, [], ◌∷◌, Option, None, Some, is_some, Result, Ok, if◌then◌else◌}
use Rattle.xr_types.specs.Names.{axis_names, shape_over}
use Rattle.xr_types.specs.Results.{◌>>=◌, unless}
use Rattle.xr_types.specs.declared.fault.Fault.{Fault}
use Rattle.xr_types.specs.declared.fault.Fault.TheVariants.{BadArgument}
use Rattle.xr_types.specs.declared.kind.DType.{DType}
use Rattle.xr_types.specs.declared.operation.FoldKind.{FoldKind}
use Rattle.xr_arrays.specs.Folds.{folded_kind}
use Rattle.xr_defs.specs.Arguments.{nothing_given}
use Rattle.xr_defs.specs.Meanings.{Given}
use Rattle.xr_defs.specs.Values as of
use Rattle.xr_defs.specs.Values.{without_fills}
use Rattle.xr_defs.specs.declared.grouping.Grouping.{Grouping}
use Rattle.xr_defs.specs.declared.grouping.Grouping.TheVariants.{Bins}
use Rattle.xr_formulas.specs.declared.chain.Start.TheVariants as starts
use Rattle.xr_formulas.specs.declared.chain.Step.TheVariants as step
use Rattle.xr_formulas.specs.declared.made.Formula.TheVariants.{One}
use Rattle.xr_formulas.specs.declared.made.Made.{Made}
use Rattle.xr_formulas.specs.Mades.{like}
use Rattle.xr_groups.specs.declared.change.Change.{Change}
use Rattle.xr_operations.specs.Reductions.{check_size, masked_after}
use Rattle.xr_groups.specs.declared.change.Least.TheVariants.{Never, Empty}
use Rattle.xr_groups.specs.Groupings.{grouped_changes}
use Rattle.xr_groups.specs.Methods.{array_by, check_filled, check_given, fill_option, has_method, of_groups}
use Rattle.xr_operations.specs.Moves.{fill_called}
use Rattle.xr_formulas.specs.declared.chain.Chain.{Chain}
use Rattle.xr_grouping.specs.Fills.{filling}
use Rattle.xr_times.specs.declared.time.Freq.{Freq}
use Rattle.xr_groups.specs.Listed.{axes_by, coords_by, feeds_by, is_grouped}
use Rattle.xr_values.specs.declared.data_array.DataArray.{DataArray}

-- folds with these cells
abbrev pub made_by : FoldKind → Bool → List Change → Chain → DataArray → Made
made_by k masked cs chain a =
    record {
      name = a.name;
      axes = axes_by cs a.axes;
      kind = folded_kind k a.kind;
      masked = masked;
      attrs = without_fills a.attrs;
      coords = coords_by false cs a.coords;
      cells = One chain;
    }

-- each list is folded, and has a fill where it is empty and one is given
abbrev pub lists_chain : FoldKind → List Change → Option (Option ℤ) → DataArray → Chain
lists_chain k cs None a = record { start = starts.Node a.node; steps = step.Fold k (feeds_by cs (axis_names a.axes)) ∷ [] }
lists_chain k cs (Some fill) a = record { start = starts.Node a.node; steps = step.Fold k (feeds_by cs (axis_names a.axes)) ∷ filling cs (axis_names a.axes) fill }

abbrev pub folded_made : FoldKind → Bool → List Change → DataArray → Made
folded_made k masked cs a = made_by k masked cs (lists_chain k cs None a) a

-- ---- groups and blocks: no list is too few, and no argument is taken

-- the array as it is
abbrev pub kept_made : DataArray → Made
kept_made a = like a a.kind a.masked a.attrs (One (record { start = starts.Node a.node; steps = [] }))

-- an array without the dimensions stays as it is
abbrev pub plain_made : FoldKind → List Change → DataArray → Made
plain_made k cs a = if is_grouped cs (axis_names a.axes) then folded_made k (masked_after k a.masked) cs a else kept_made a

unfoldable pub plain_of : FoldKind → Grouping → of.DataArray → Given → Result of.DataArray Fault
plain_of k grouping a g =
    unless (has_method grouping k) BadArgument >>= λ u. nothing_given g >>= λ v. grouped_changes grouping a.axes a.coords [] >>= λ cs. check_size (shape_over (axes_by cs a.axes)) >>= λ y.
    Ok (array_by k Never false cs None a)

-- ---- bins

abbrev pub is_empty : List ℕ → Bool
is_empty ps = length ps == 0

-- the fill that is given
unfoldable pub fill_asked : DType → Given → Result (Option (Option ℤ)) Fault
fill_asked t g = fill_option g >>= λ v. fill_called t v

unfoldable pub binned_of : FoldKind → List ℕ → Freq → of.DataArray → Given → Result of.DataArray Fault
binned_of k d freq a g =
    unless (of_groups k) BadArgument >>= λ u. fill_asked (folded_kind k a.kind) g >>= λ fill. grouped_changes (Bins d freq) a.axes a.coords [] >>= λ cs.
    check_filled Empty cs (is_some fill) >>= λ w. check_given (folded_kind k a.kind) fill >>= λ x. check_size (shape_over (axes_by cs a.axes)) >>= λ y. Ok (array_by k Empty false cs fill a)
