-- An operation of the cells of an array and a number.
use Rattle.std.specs.Prelude.{◌≡◌, ◌&&◌, ◌||◌, ◌≤◌, ℤ, Bool, true, false, not, List, [], ◌∷◌, Option, is_some, if◌then◌else◌, int_lt}
use Rattle.xr_types.specs.Kinds.{in_range, low}
use Rattle.xr_types.specs.Names.{shape_over}
use Rattle.xr_types.specs.Points.{size, tab}
use Rattle.xr_types.specs.declared.attr.Attr.{Attr}
use Rattle.xr_types.specs.declared.kind.DType.{DType}
use Rattle.xr_types.specs.declared.operation.OpKind.{OpKind}
use Rattle.xr_types.specs.declared.operation.OpKind.TheVariants as ops
use Rattle.xr_arrays.specs.declared.node.Node.{Node}
use Rattle.xr_arrays.specs.Arrays.{at}
use Rattle.xr_arrays.specs.Elements.{is_comparison, result_kind, takes_two, Suits}
use Rattle.xr_defs.specs.Values.{DataArray}
use Rattle.xr_defs.specs.WellFormed.{AreCells}
use Rattle.xr_operations.specs.declared.side.Side.{Side}
use Rattle.xr_operations.specs.declared.side.Side.TheVariants.{Left, Right}
use Rattle.xr_operations.specs.Arithmetic.{beside, is_truths}
use Rattle.xr_values.specs.declared.data_array.DataArray.{DataArray as Held}
use Rattle.xr_formulas.specs.declared.numbers.Placed.{Placed}
use Rattle.xr_formulas.specs.declared.chain.Chain.{Chain}
use Rattle.xr_formulas.specs.declared.chain.Start.TheVariants.{Node as TheNode}
use Rattle.xr_formulas.specs.declared.chain.Step.TheVariants.{Unary}
use Rattle.xr_formulas.specs.declared.made.Formula.{Formula}
use Rattle.xr_formulas.specs.declared.made.Formula.TheVariants.{Two}
use Rattle.xr_formulas.specs.Chains.{chain_cells, chain_value, ChainFits}

-- ---- the operation on each cell

abbrev pub placed_cell : DType → Placed → Option ℤ → Option ℤ
placed_cell t p x = beside p.side p.op t x p.number

-- an array with it on these cells of a kind
abbrev pub placed_on : DType → Placed → Bool → List Attr → List (Option ℤ) → DataArray → DataArray
placed_on t p masked attrs cells a =
    record a {
      kind = result_kind p.op t;
      masked = masked;
      attrs = attrs;
      cells = tab (shape_over a.axes) (λ q. placed_cell t p (at (record { kind = t; shape = shape_over a.axes; cells = cells }) q));
    }

abbrev pub formula_beside : Side → OpKind → Chain → Chain → Formula
formula_beside Left op c l = Two op l c
formula_beside Right op c l = Two op c l

-- an array's cells as they are, or as numbers where they are truth values
abbrev pub operand : Held → DType → Chain
operand a kind = if is_truths a.kind && not (is_truths kind) then record { start = TheNode a.node; steps = Unary ops.Cast kind ∷ [] } else record { start = TheNode a.node; steps = [] }

-- ---- comparisons with numbers that a kind doesn't have

-- whether it holds of a number and one above it, or of a number and one below it
abbrev pub holds : OpKind → Bool → Bool
holds ops.Less up = up
holds ops.LessEqual up = up
holds ops.Greater up = not up
holds ops.GreaterEqual up = not up
holds ops.NotEqual up = true
holds op up = false

-- whether a number of a kind and one below or above the kind ascend, with that on its side
abbrev pub ascending : Side → Bool → Bool
ascending Left below = below
ascending Right below = not below

-- a comparison with the kind's least number that holds of each number of the kind, or of none
abbrev pub always : DType → Bool → Placed
always t b = record { side = Right; op = if b then ops.GreaterEqual else ops.Less; number = low t }

abbrev pub within_kind : DType → Placed → Placed
within_kind t p = if in_range t p.number then p else always t (holds p.op (ascending p.side (int_lt p.number (low t))))

-- ---- what it takes

-- an operation of two operands of a kind, and a number of the kind, or one to compare with
pub record IsPlaced (t : DType) (p : Placed) : Type 0 where
  pub two : takes_two p.op ≡ true
  pub suits : Suits p.op t
  pub fits : (is_comparison p.op || in_range t p.number) ≡ true

-- a chain with these cells of a kind over the axes of an array
pub record IsOver (nodes : List Node) (a : DataArray) (kind : DType) (cells : List (Option ℤ)) (c : Chain) : Type 0 where
  pub fits : ChainFits nodes c
  pub is : chain_value nodes c ≡ record { kind = kind; shape = shape_over a.axes; cells = cells }
  pub whole : AreCells (shape_over a.axes) kind a.masked cells
  pub few : chain_cells nodes c ≤ size (shape_over a.axes)

-- no cell is missing after it, where none is to be
abbrev pub Fills : DType → Placed → Bool → Bool → Type 0
Fills t p masked own = masked ≡ false → (x : Option ℤ) → (own ≡ false → is_some x ≡ true) → is_some (placed_cell t p x) ≡ true
