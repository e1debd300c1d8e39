-- What a choice makes of its operands.
use Rattle.std.specs.Prelude.{◌≡◌, ◌≤◌, ◌||◌, ℕ, pos, Bool, true, false, List, [], ◌∷◌, map, Option, None}
use Rattle.std.specs.List.{AllByRecursion}
use Rattle.xr_types.specs.Names.{shape_over}
use Rattle.xr_types.specs.Points.{size}
use Rattle.xr_types.specs.declared.axis.Axis.{Axis}
use Rattle.xr_types.specs.declared.kind.DType.{DType}
use Rattle.xr_types.specs.declared.kind.DType.TheVariants as kinds
use Rattle.xr_arrays.specs.declared.node.Node.{Node}
use Rattle.xr_defs.specs.Building.{truth_number}
use Rattle.xr_defs.specs.Carrying.{attr_rule, coord_rule, name_rule}
use Rattle.xr_defs.specs.Values as of
use Rattle.xr_defs.specs.WellFormed.{AreDimensions}
use Rattle.xr_operations.specs.Alignment.{fitted}
use Rattle.xr_operations.specs.CellMethods.{may_miss}
use Rattle.xr_values.specs.declared.data_array.DataArray.{DataArray}
use Rattle.xr_values.specs.Stands.{array_in, IsArrayIn}
use Rattle.xr_formulas.specs.declared.chain.Chain.{Chain}
use Rattle.xr_formulas.specs.declared.chain.Start.TheVariants.{Cell}
use Rattle.xr_formulas.specs.declared.chain.Step.TheVariants.{Take, Widen}
use Rattle.xr_formulas.specs.declared.made.Formula.{Formula}
use Rattle.xr_formulas.specs.declared.made.Formula.TheVariants.{One, Three}
use Rattle.xr_formulas.specs.declared.made.Made.{Made}
use Rattle.xr_formulas.specs.Spread.{literal, widens}
use Rattle.xr_joining.specs.Fitted.{Arrives}
use Rattle.xr_joining.specs.Operands.{nothing, over}
use Rattle.xr_choosing.specs.declared.branches.Branch.{Branch}
use Rattle.xr_choosing.specs.declared.branches.Branch.TheVariants as branches
use Rattle.xr_choosing.specs.Branches.{branch_in, carry_of, operands_of}

-- ---- cells

-- one position that isn't there
abbrev pub nowhere : List (Option ℕ)
nowhere = None ∷ []

-- a missing cell, at all points of some axes
abbrev pub missing : DType → List Axis → Chain
missing t axes = record { start = Cell t (pos 0); steps = Widen 0 1 ∷ Take 0 nowhere None true ∷ widens axes }

abbrev pub branch_chain : DType → List Axis → Branch → Chain
branch_chain t axes (branches.Array a) = over t axes a.now
branch_chain t axes (branches.Number n) = literal axes t n
branch_chain t axes (branches.Truth b) = literal axes t (truth_number b)
branch_chain t axes branches.Missing = missing t axes

-- the chains of all three, where there are cells
abbrev pub choice_formula : Bool → DType → List Axis → DataArray → Branch → Branch → Formula
choice_formula true t axes c x y = One (nothing t (shape_over axes))
choice_formula false t axes c x y = Three (over kinds.Bool axes c) (branch_chain t axes x) (branch_chain t axes y)

-- ---- the array

abbrev pub fitted_all : List Node → Bool → List Axis → DataArray → Branch → Branch → List of.DataArray
fitted_all nodes method axes c x y = map (fitted axes None) (map (array_in nodes) (operands_of method c x y))

abbrev pub choice_made : List Node → Bool → Bool → DType → List Axis → DataArray → Branch → Branch → Made
choice_made nodes none method t axes c x y =
    let operands = fitted_all nodes method axes c x y in
    record {
      name = name_rule (carry_of method) operands;
      axes = axes;
      kind = t;
      masked = c.masked || (may_miss (branch_in nodes x) || may_miss (branch_in nodes y));
      attrs = attr_rule (carry_of method) operands;
      coords = coord_rule operands axes;
      cells = choice_formula none t axes c x y;
    }

-- arrays of the plan whose axes come to the joined ones
abbrev pub AreFitted : List Node → List Axis → List DataArray → Type 0
AreFitted nodes axes arrays = AreDimensions axes × AllByRecursion (λ (a : DataArray). IsArrayIn nodes a × AllByRecursion (Arrives axes) a.axes) arrays

-- made of all three, with no chain of theirs where there are no cells
pub record IsChoice (nodes : List Node) (method : Bool) (t : DType) (axes : List Axis) (c : DataArray) (x y : Branch) (m : Made) : Type 0 where
  pub none : Bool
  pub is : m ≡ choice_made nodes none method t axes c x y
  pub empty : none ≡ true → size (shape_over axes) ≡ 0
  pub full : none ≡ false → AllByRecursion (λ (x : Axis). 1 ≤ x.size) axes
