-- What an operator makes of two arrays.
use Rattle.std.specs.Prelude.{◌≡◌, ◌≤◌, ◌||◌, ◌++◌, Bool, true, false, List, [], ◌∷◌, None, Result, Ok, Err}
use Rattle.std.specs.List.{AllByRecursion}
use Rattle.xr_types.specs.Names.{shape_over}
use Rattle.xr_types.specs.Points.{size}
use Rattle.xr_types.specs.declared.axis.Axis.{Axis}
use Rattle.xr_types.specs.declared.fault.CallFault.{CallFault}
use Rattle.xr_types.specs.declared.fault.Fault.{Fault}
use Rattle.xr_types.specs.declared.kind.DType.{DType}
use Rattle.xr_types.specs.declared.operation.OpKind.{OpKind}
use Rattle.xr_arrays.specs.declared.node.Node.{Node}
use Rattle.xr_arrays.specs.Added.{AddsAtMost}
use Rattle.xr_arrays.specs.Elements.{result_kind}
use Rattle.xr_defs.specs.Carrying.{attr_rule, coord_rule, name_rule}
use Rattle.xr_defs.specs.Room.{of_array, room, Portion}
use Rattle.xr_defs.specs.Values as of
use Rattle.xr_defs.specs.WellFormed.{IsDataArray}
use Rattle.xr_defs.specs.declared.carrying.Carry.TheVariants.{Binary}
use Rattle.xr_operations.specs.Alignment.{fitted}
use Rattle.xr_values.specs.Answers.{Fails}
use Rattle.xr_values.specs.declared.data_array.DataArray.{DataArray}
use Rattle.xr_values.specs.Stands.{array_in, IsArrayIn}
use Rattle.xr_formulas.specs.declared.made.Formula.{Formula}
use Rattle.xr_formulas.specs.declared.made.Formula.TheVariants.{One, Two}
use Rattle.xr_formulas.specs.declared.made.Made.{Made}
use Rattle.xr_formulas.specs.Mades.{formula_cells, formula_value, made_in, FormulaFits}
use Rattle.xr_joining.specs.Operands.{nothing, over}

-- ---- calls over arrays that may be larger than their result

-- a plan takes it, with what these operands and the result leave room for, and it is an array as it has to be
pub record IsMadeOf (operands : List Portion) (nodes : List Node) (m : Made) : Type 0 where
  pub fits : FormulaFits nodes m.cells
  pub shape : (formula_value nodes m.cells).shape ≡ shape_over m.axes
  pub kind : (formula_value nodes m.cells).kind ≡ m.kind
  pub formed : IsDataArray (made_in nodes m)
  pub space : formula_cells nodes m.cells ≤ room (operands ++ of_array (made_in nodes m) ∷ [])

-- a call that makes an array of any plan, or has the first fault
abbrev pub AnswersMadeOf : List Portion → List Node → Result Made CallFault → Result of.DataArray Fault → Type 0
AnswersMadeOf operands nodes (Ok m) means = (means ≡ Ok (made_in nodes m)) × IsMadeOf operands nodes m
AnswersMadeOf operands nodes (Err e) means = Fails e means

-- ---- an operator

-- the chains of both, where there are cells
abbrev pub pair_formula : Bool → OpKind → DType → List Axis → DataArray → DataArray → Formula
pair_formula true op t axes a b = One (nothing (result_kind op t) (shape_over axes))
pair_formula false op t axes a b = Two op (over t axes a) (over t axes b)

abbrev pub pair_made : List Node → Bool → OpKind → DType → List Axis → DataArray → DataArray → Made
pair_made nodes none op t axes a b =
    let both = fitted axes None (array_in nodes a) ∷ fitted axes None (array_in nodes b) ∷ [] in
    record {
      name = name_rule Binary both;
      axes = axes;
      kind = result_kind op t;
      masked = a.masked || b.masked;
      attrs = attr_rule Binary both;
      coords = coord_rule both axes;
      cells = pair_formula none op t axes a b;
    }

-- made of both, with no chain of theirs where there are no cells
pub record IsPair (nodes : List Node) (op : OpKind) (t : DType) (axes : List Axis) (a b : DataArray) (m : Made) : Type 0 where
  pub none : Bool
  pub is : m ≡ pair_made nodes none op t axes a b
  pub empty : none ≡ true → size (shape_over axes) ≡ 0
  pub full : none ≡ false → AllByRecursion (λ (x : Axis). 1 ≤ x.size) axes

-- ---- in a plan

-- this array of the plan, with no more cells added than its operands and it leave room for
pub record IsPlaced (operands : List Portion) (old new : List Node) (m : Made) (c : DataArray) : Type 0 where
  pub is : array_in new c ≡ made_in old m
  pub inside : IsArrayIn new c
  pub space : AddsAtMost old new (room (operands ++ of_array (array_in new c) ∷ []))
