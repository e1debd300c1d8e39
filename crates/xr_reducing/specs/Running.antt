-- What running sums make of arrays and datasets, before a plan.
use Rattle.std.specs.Prelude.{ℕ, false, List, [], ◌∷◌, map, if◌then◌else◌}
use Rattle.xr_types.specs.Names.{among}
use Rattle.xr_types.specs.declared.operation.FoldKind.TheVariants.{Sum}
use Rattle.xr_arrays.specs.Folds.{total_kind}
use Rattle.xr_defs.specs.Values.{without_fills}
use Rattle.xr_formulas.specs.declared.chain.Chain.{Chain}
use Rattle.xr_formulas.specs.declared.chain.Start.TheVariants as starts
use Rattle.xr_formulas.specs.declared.chain.Step.TheVariants as step
use Rattle.xr_formulas.specs.declared.made.Formula.TheVariants.{One}
use Rattle.xr_formulas.specs.declared.made.Made.{Made}
use Rattle.xr_formulas.specs.Mades.{like}
use Rattle.xr_operations.specs.Reductions.{place_in}
use Rattle.xr_values.specs.declared.data_array.DataArray.{DataArray}
use Rattle.xr_values.specs.declared.dataset.Dataset.{Dataset}
use Rattle.xr_values.specs.declared.variable.Variable.{Variable}
use Rattle.xr_reducing.specs.declared.chars.Frame.{Frame}
use Rattle.xr_reducing.specs.declared.realized.SetMade.{SetMade}
use Rattle.xr_reducing.specs.declared.realized.VarMade.{VarMade}
use Rattle.xr_reducing.specs.Reduced.{same_made}

abbrev pub scan_chain : ℕ → ℕ → Chain
scan_chain n place = record { start = starts.Node n; steps = step.Scan Sum place ∷ [] }

abbrev pub summed_made : DataArray → ℕ → Made
summed_made a place = like a (total_kind a.kind) false (without_fills a.attrs) (One (scan_chain a.node place))

abbrev pub var_summed : Variable → ℕ → VarMade
var_summed v place = record { name = v.name; dims = v.dims; kind = total_kind v.kind; masked = false; attrs = without_fills v.attrs; cells = scan_chain v.node place }

abbrev pub var_along : List ℕ → Variable → VarMade
var_along d v = if among v.dims d then var_summed v (place_in v.dims d) else same_made v

abbrev pub set_along : List ℕ → Dataset → Frame → SetMade
set_along d s f = record { axes = f.axes; coords = s.coords; vars = map (var_along d) f.vars; attrs = without_fills s.attrs; skipped = s.skipped }
