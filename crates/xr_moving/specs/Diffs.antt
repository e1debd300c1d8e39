-- Differences of neighbours, before their cells stand in a plan.
use Rattle.std.specs.Prelude.{◌≡◌, ◌++◌, ℕ, Bool, true, false, List, [], ◌∷◌, map, get_or, Some, None, Result, Ok, Err}
use Rattle.std.specs.List.{AllByRecursion}
use Rattle.xr_types.specs.Names.{are_distinct, axis_names}
use Rattle.xr_types.specs.Results.{◌>>=◌, all_of}
use Rattle.xr_types.specs.declared.axis.Axis.{Axis}
use Rattle.xr_types.specs.declared.fault.Fault.{Fault}
use Rattle.xr_types.specs.declared.fault.Fault.TheVariants.{NoDimension}
use Rattle.xr_types.specs.declared.operation.OpKind.TheVariants.{Subtract}
use Rattle.xr_defs.specs.Selecting.{place_of}
use Rattle.xr_defs.specs.Values as of
use Rattle.xr_defs.specs.Values.{axis_position, no_axis, without_fills}
use Rattle.xr_defs.specs.WellFormed.{names_of, AreDimensions, IsCoordinate}
use Rattle.xr_defs.specs.declared.value.Coord.{Coord}
use Rattle.xr_operations.specs.Changing.{changed_coord, new_axis}
use Rattle.xr_operations.specs.Moves.{check_numbers, keeping, labels_kept, set_differences}
use Rattle.xr_formulas.specs.declared.chain.Chain.{Chain}
use Rattle.xr_formulas.specs.declared.chain.Start.TheVariants as starts
use Rattle.xr_formulas.specs.declared.chain.Step.{Step}
use Rattle.xr_formulas.specs.declared.chain.Step.TheVariants.{Take}
use Rattle.xr_formulas.specs.declared.made.Formula.{Formula}
use Rattle.xr_formulas.specs.declared.made.Formula.TheVariants.{One, Two}
use Rattle.xr_values.specs.declared.dataset.Dataset.{Dataset}
use Rattle.xr_values.specs.declared.variable.Variable.{Variable}
use Rattle.xr_reducing.specs.declared.chars.Frame.{Frame}
use Rattle.xr_moving.specs.declared.diffs.Asked.{Asked}
use Rattle.xr_moving.specs.declared.sets.SetMade.{SetMade}
use Rattle.xr_moving.specs.declared.sets.VarMade.{VarMade}

abbrev pub asked : Asked → List ℕ × Bool
asked a = (a.dim.now, a.upper)

abbrev pub step_to : ℕ → Bool → ℕ → Step
step_to k upper n = Take k (map Some (labels_kept upper n)) None false

abbrev pub chain_to : ℕ → ℕ → Bool → ℕ → Chain
chain_to node k upper n = record { start = starts.Node node; steps = step_to k upper n ∷ [] }

abbrev pub neighbours : ℕ → ℕ → ℕ → Formula
neighbours node k n = Two Subtract (chain_to node k true n) (chain_to node k false n)

-- axes and coordinates over them, as they have to be
pub record IsFramed (xs : List Axis) (cs : List Coord) : Type 0 where
  pub axes : AreDimensions xs
  pub coords : AllByRecursion (IsCoordinate xs) cs
  pub distinct : are_distinct (axis_names xs ++ names_of cs) ≡ true

-- axes and coordinates where labels of axis number k are kept
abbrev pub axes_left : Bool → List Axis → ℕ → List Axis
axes_left upper xs k = map (new_axis (keeping upper (get_or xs k no_axis))) xs

abbrev pub coords_left : Bool → List Axis → ℕ → List Coord → List Coord
coords_left upper xs k cs = map (changed_coord (keeping upper (get_or xs k no_axis)) None) cs

-- ---- a dataset

abbrev pub same_made : Variable → VarMade
same_made v = record { name = v.name; dims = v.dims; kind = v.kind; masked = v.masked; attrs = v.attrs; cells = One (record { start = starts.Node v.node; steps = [] }) }

-- along dimension number k, which has n positions
abbrev pub differed_made : Variable → ℕ → ℕ → VarMade
differed_made v k n = record { name = v.name; dims = v.dims; kind = v.kind; masked = v.masked; attrs = without_fills v.attrs; cells = neighbours v.node k n }

abbrev pub var_differed : List ℕ → ℕ → Variable → VarMade
var_differed dim n v = elim (place_of dim v.dims) [ None ↦ same_made v | Some k ↦ differed_made v k n ]

abbrev pub set_made : Bool → ℕ → Dataset → Frame → SetMade
set_made upper k s f =
    let x = get_or f.axes k no_axis in
    record {
      axes = axes_left upper f.axes k;
      coords = coords_left upper f.axes k s.coords;
      vars = map (var_differed x.name x.size) f.vars;
      attrs = without_fills s.attrs;
      skipped = s.skipped;
    }

-- where no variable is of chars
unfoldable pub differed_of : List ℕ → Bool → of.Dataset → Result of.Dataset Fault
differed_of dim upper s = elim (axis_position dim s.axes) [ None ↦ Err (NoDimension dim) | Some k ↦ all_of (check_numbers dim) s.vars >>= λ u. Ok (set_differences upper k s) ]
