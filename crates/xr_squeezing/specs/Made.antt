-- What is made without dimensions of one position, before a plan, and what labels and coordinates have there.
use Rattle.std.specs.Prelude.{◌≡◌, ℕ, suc, Bool, true, List, [], ◌∷◌, Some, None, if◌then◌else◌, is_some, ⊤}
use Rattle.xr_types.specs.Names.{among, axis_names, shape_over}
use Rattle.xr_types.specs.declared.axis.Axis.{Axis}
use Rattle.xr_defs.specs.declared.value.Content.{Content}
use Rattle.xr_defs.specs.declared.value.Content.TheVariants as contents
use Rattle.xr_defs.specs.Selecting.{axis_called}
use Rattle.xr_defs.specs.WellFormed.{IsDimension}
use Rattle.xr_formulas.specs.Chains.{steps_value}
use Rattle.xr_formulas.specs.declared.chain.Start.TheVariants as starts
use Rattle.xr_formulas.specs.declared.chain.Step.{Step}
use Rattle.xr_formulas.specs.declared.chain.Step.TheVariants.{Take}
use Rattle.xr_operations.specs.Reductions.{axes_left, names_left}
use Rattle.xr_values.specs.declared.variable.Variable.{Variable}
use Rattle.xr_reducing.specs.declared.realized.VarMade.{VarMade}
use Rattle.xr_changing.specs.Steps.{TakesFit}

-- of axes of these names, which stand from number k on
abbrev pub steps_without : List (List ℕ) → ℕ → List (List ℕ) → List Step
steps_without gone k [] = []
steps_without gone k (d ∷ dims) = if among gone d then Take k (Some 0 ∷ []) None true ∷ steps_without gone k dims else steps_without gone (suc k) dims

abbrev pub var_made : List (List ℕ) → Variable → VarMade
var_made gone v =
    record { name = v.name; dims = names_left gone v.dims; kind = v.kind; masked = v.masked; attrs = v.attrs; cells = record { start = starts.Node v.node; steps = steps_without gone 0 v.dims } }

-- ---- labels and coordinates

abbrev pub has_labels : List Axis → List ℕ → Bool
has_labels axes n = is_some (axis_called axes n).labels

-- an axis of one position
abbrev pub HasFirst : Axis → Type 0
HasFirst x = IsDimension x × (x.size ≡ 1)

-- the dimensions of one position that go can be taken away from cells, which stay as they are
abbrev pub Leaves : List (List ℕ) → List Axis → Content → Type 0
Leaves gone axes (contents.Cells a masked) =
    TakesFit (steps_without gone 0 (axis_names axes)) a.shape a.kind × (steps_value (steps_without gone 0 (axis_names axes)) a ≡ record a { shape = shape_over (axes_left gone axes) })
Leaves gone axes content = ⊤
