-- The steps from an operand to the result's axes and kind.
use Rattle.std.specs.Prelude.{ℕ, List, [], ◌∷◌, ◌++◌}
use Rattle.xr_types.specs.declared.axis.Axis.{Axis}
use Rattle.xr_types.specs.declared.kind.DType.{DType}
use Rattle.xr_types.specs.declared.operation.OpKind.TheVariants as ops
use Rattle.xr_arrays.specs.Arrays.{Array}
use Rattle.xr_arrays.specs.Elements.{unary_of}
use Rattle.xr_defs.specs.Values.{DataArray, array_of}
use Rattle.xr_values.specs.declared.data_array.DataArray as program
use Rattle.xr_formulas.specs.declared.chain.Chain.{Chain}
use Rattle.xr_formulas.specs.declared.chain.Start.TheVariants.{Empty, Node}
use Rattle.xr_formulas.specs.declared.chain.Step.{Step}
use Rattle.xr_formulas.specs.declared.chain.Step.TheVariants.{Unary}
use Rattle.xr_joining.specs.Fitted.{takes}
use Rattle.xr_joining.specs.Spreads.{spreading}

-- its positions along the joined axes, then the kind, then the other axes
abbrev pub over_steps : DType → List Axis → List Axis → List Step
over_steps t axes own = (takes axes 0 own ++ Unary ops.Cast t ∷ []) ++ spreading axes own

abbrev pub over : DType → List Axis → program.DataArray → Chain
over t axes a = record { start = Node a.node; steps = over_steps t axes a.axes }

abbrev pub cast : DType → DataArray → Array
cast t a = unary_of ops.Cast t (array_of a)

-- a shape of which one size is 0
abbrev pub nothing : DType → List ℕ → Chain
nothing kind shape = record { start = Empty kind shape; steps = [] }
