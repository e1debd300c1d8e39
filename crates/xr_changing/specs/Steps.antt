-- The steps from old cells to those at new labels, and what a plan takes of them.
use Rattle.std.specs.Prelude.{◌≡◌, ◌<◌, ◌≤◌, ◌++◌, ℕ, ℤ, suc, Bool, true, false, List, [], ◌∷◌, length, map, Option, Some, None, get_or, All, MatchOption, ⊤}
use Rattle.std.specs.List.{AllByRecursion, list_all}
use Rattle.xr_types.specs.Names.{axis_names}
use Rattle.xr_types.specs.Points.{size}
use Rattle.xr_types.specs.declared.axis.Axis.{Axis}
use Rattle.xr_types.specs.declared.kind.DType.{DType}
use Rattle.xr_arrays.specs.Arrays.{IsCell}
use Rattle.xr_arrays.specs.Nodes.{most_node_cells, IsBelow}
use Rattle.xr_defs.specs.Selecting.{axis_called, is_within, variable_array}
use Rattle.xr_defs.specs.Values.{Variable}
use Rattle.xr_defs.specs.WellFormed.{IsIndex}
use Rattle.xr_defs.specs.declared.value.Content.{Content}
use Rattle.xr_defs.specs.declared.value.Content.TheVariants as contents
use Rattle.xr_defs.specs.declared.value.Coord.{Coord}
use Rattle.xr_formulas.specs.declared.chain.Start.TheVariants as starts
use Rattle.xr_formulas.specs.declared.chain.Step.{Step}
use Rattle.xr_formulas.specs.declared.chain.Step.TheVariants.{Take}
use Rattle.plan_core.specs.Takes.{taking_sizes}
use Rattle.xr_operations.specs.declared.change.Change.{Change}
use Rattle.xr_operations.specs.Changing.{change_called, fill_along, masked_along, new_axis}
use Rattle.xr_reducing.specs.declared.realized.VarMade.{VarMade}
use Rattle.xr_values.specs.declared.variable.Variable as program

-- ---- axes

abbrev pub HasIndex : Axis → Type 0
HasIndex x = MatchOption x.labels ⊤ (IsIndex x.size)

-- an axis with an index has one after the changes
abbrev pub AreIndexed : List Change → List Axis → Type 0
AreIndexed cs xs = AllByRecursion (λ (x : Axis). HasIndex x → HasIndex (new_axis cs x)) xs

-- ---- sizes of variables

abbrev pub sizes_named : List Axis → List (List ℕ) → List ℕ
sizes_named axes dims = map (λ d. (axis_called axes d).size) dims

abbrev pub are_vars_within : List Axis → List Variable → Bool
are_vars_within axes vs = list_all (λ v. is_within (variable_array axes v).shape) vs

-- of variables of a plan
abbrev pub are_named_within : List Axis → List program.Variable → Bool
are_named_within axes vs = list_all (λ (v : program.Variable). is_within (sizes_named axes v.dims)) vs

-- ---- steps

abbrev pub step_by : Option ℤ → ℕ → Option Change → List Step
step_by fill k None = []
step_by fill k (Some c) = Take k c.from fill false ∷ []

-- along the axes of these names, which stand from number k on
abbrev pub steps_from : List Change → Option ℤ → ℕ → List (List ℕ) → List Step
steps_from cs fill k [] = []
steps_from cs fill k (d ∷ dims) = step_by fill k (change_called cs d) ++ steps_from cs fill (suc k) dims

abbrev pub steps_along : List Change → Option ℤ → List (List ℕ) → List Step
steps_along cs fill dims = steps_from cs (fill_along cs dims fill) 0 dims

-- a plan takes positions of an axis of these sizes
pub record TakeFits (k : ℕ) (from : List (Option ℕ)) (fill : Option ℤ) (drops : Bool) (s : List ℕ) (t : DType) : Type 0 where
  pub axis : k < length s
  pub below : All (IsBelow (get_or s k 0)) from
  pub cell : IsCell t fill
  pub one : drops ≡ true → length from ≡ 1
  pub small : size (taking_sizes drops s k from) ≤ most_node_cells

abbrev pub TakesFit : List Step → List ℕ → DType → Type 0
TakesFit [] s t = ⊤
TakesFit (Take k from fill drops ∷ steps) s t = TakeFits k from fill drops s t × TakesFit steps (taking_sizes drops s k from) t
TakesFit (step ∷ steps) s t = ⊥

-- ---- coordinates

abbrev pub ContentFits : List Change → Option ℤ → List (List ℕ) → Content → Type 0
ContentFits cs fill dims (contents.Cells a masked) = TakesFit (steps_along cs fill dims) a.shape a.kind
ContentFits cs fill dims content = ⊤

abbrev pub CoordFits : List Change → Option ℤ → Coord → Type 0
CoordFits cs fill c = ContentFits cs fill (axis_names c.axes) c.content

-- its new axes are among these, by their names
abbrev pub IsRenewed : List Change → List Axis → Coord → Type 0
IsRenewed cs news c = AllByRecursion (λ (x : Axis). axis_called news x.name ≡ new_axis cs x) c.axes

-- ---- variables

-- before a plan
abbrev pub var_made : List Change → Option ℤ → program.Variable → VarMade
var_made cs fill v =
    record {
      name = v.name;
      dims = v.dims;
      kind = v.kind;
      masked = masked_along cs v.dims fill v.masked;
      attrs = v.attrs;
      cells = record { start = starts.Node v.node; steps = steps_along cs fill v.dims };
    }

abbrev pub VarFits : List Change → Option ℤ → List Axis → program.Variable → Type 0
VarFits cs fill axes v = TakesFit (steps_along cs fill v.dims) (sizes_named axes v.dims) v.kind
