-- A number at all points of some axes.
use Rattle.std.specs.Prelude.{◌==◌, ℤ, Bool, List, [], ◌∷◌, ◌++◌, if◌then◌else◌}
use Rattle.std.specs.List.{list_any}
use Rattle.xr_types.specs.Names.{shape_over}
use Rattle.xr_types.specs.declared.axis.Axis.{Axis}
use Rattle.xr_types.specs.declared.kind.DType.{DType}
use Rattle.xr_formulas.specs.declared.chain.Chain.{Chain}
use Rattle.xr_formulas.specs.declared.chain.Start.TheVariants as starts
use Rattle.xr_formulas.specs.declared.chain.Step.{Step}
use Rattle.xr_formulas.specs.declared.chain.Step.TheVariants.{Widen}

-- one axis in front after the other, the last one first
abbrev pub widens : List Axis → List Step
widens [] = []
widens (x ∷ xs) = widens xs ++ Widen 0 x.size ∷ []

-- whether there is no point
abbrev pub has_none : List Axis → Bool
has_none axes = list_any (λ (x : Axis). x.size == 0) axes

abbrev pub literal : List Axis → DType → ℤ → Chain
literal axes kind n = if has_none axes then record { start = starts.Empty kind (shape_over axes); steps = [] } else record { start = starts.Cell kind n; steps = widens axes }
