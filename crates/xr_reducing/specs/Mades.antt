-- What reductions make, before a plan.
use Rattle.std.specs.Prelude.{ℕ, List, [], ◌∷◌}
use Rattle.xr_types.specs.declared.axis.Axis.{Axis}
use Rattle.xr_types.specs.declared.operation.FoldKind.{FoldKind}
use Rattle.xr_arrays.specs.declared.node.Feed.{Feed}
use Rattle.xr_arrays.specs.Folds.{folded_kind}
use Rattle.xr_defs.specs.Values.{without_fills}
use Rattle.xr_formulas.specs.declared.chain.Start.TheVariants as starts
use Rattle.xr_formulas.specs.declared.chain.Step.TheVariants as step
use Rattle.xr_formulas.specs.declared.made.Formula.{Formula}
use Rattle.xr_formulas.specs.declared.made.Formula.TheVariants.{One}
use Rattle.xr_formulas.specs.declared.made.Made.{Made}
use Rattle.xr_operations.specs.Reductions.{coords_left, masked_after}
use Rattle.xr_values.specs.declared.data_array.DataArray.{DataArray}

abbrev pub fold_formula : FoldKind → List Feed → ℕ → Formula
fold_formula k feeds n = One (record { start = starts.Node n; steps = step.Fold k feeds ∷ [] })

abbrev pub reduced_made : FoldKind → List (List ℕ) → DataArray → List Axis → List Feed → Made
reduced_made k names a axes feeds =
    record {
      name = a.name;
      axes = axes;
      kind = folded_kind k a.kind;
      masked = masked_after k a.masked;
      attrs = without_fills a.attrs;
      coords = coords_left names a.coords;
      cells = fold_formula k feeds a.node;
    }
