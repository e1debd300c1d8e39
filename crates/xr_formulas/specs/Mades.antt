-- What a call makes, before its cells stand in a plan.
use Rattle.std.specs.Prelude.{◌≡◌, ◌≤◌, ◌+◌, ◌*◌, ℕ, ℤ, Bool, true, List, length, Option, Result, Ok, Err}
use Rattle.xr_types.specs.Names.{shape_over}
use Rattle.xr_types.specs.Points.{size}
use Rattle.xr_types.specs.declared.attr.Attr.{Attr}
use Rattle.xr_types.specs.declared.fault.CallFault.{CallFault}
use Rattle.xr_types.specs.declared.fault.Fault.{Fault}
use Rattle.xr_types.specs.declared.kind.DType.{DType}
use Rattle.xr_types.specs.declared.kind.DType.TheVariants.{Bool as truths}
use Rattle.xr_types.specs.declared.operation.OpKind.{OpKind}
use Rattle.xr_arrays.specs.declared.node.Node.{Node}
use Rattle.xr_arrays.specs.Arrays.{Array}
use Rattle.xr_arrays.specs.Elements.{binary_of, choose_of, result_kind, takes_two, Suits}
use Rattle.xr_arrays.specs.Nodes.{most_axes, most_node_cells}
use Rattle.xr_defs.specs.Room.{span}
use Rattle.xr_defs.specs.Values as of
use Rattle.xr_defs.specs.WellFormed.{IsDataArray}
use Rattle.xr_values.specs.declared.data_array.DataArray.{DataArray}
use Rattle.xr_values.specs.Answers.{Fails}
use Rattle.xr_values.specs.Stands.{array_in, IsArrayIn}
use Rattle.xr_formulas.specs.declared.made.Formula.{Formula}
use Rattle.xr_formulas.specs.declared.made.Formula.TheVariants.{One, Two, Three}
use Rattle.xr_formulas.specs.declared.made.Made.{Made}
use Rattle.xr_formulas.specs.Chains.{chain_cells, chain_value, ChainFits}

-- ---- formulas

-- an operation on two arrays of one kind
abbrev pub paired : OpKind → Array → Array → Array
paired op a b = binary_of op (result_kind op a.kind) a b

-- two arrays of one shape and kind, and an operation of two operands of that kind
pub record Match (op : OpKind) (a b : Array) : Type 0 where
  pub op_of : takes_two op ≡ true
  pub shape : b.shape ≡ a.shape
  pub kind : b.kind ≡ a.kind
  pub suits : Suits op a.kind
  pub small : size a.shape ≤ most_node_cells
  pub low_rank : length a.shape ≤ most_axes

-- truth values that choose between two arrays of one kind, all of one shape
pub record Choices (c a b : Array) : Type 0 where
  pub truth : c.kind ≡ truths
  pub tests : c.shape ≡ a.shape
  pub shape : b.shape ≡ a.shape
  pub kind : b.kind ≡ a.kind
  pub small : size a.shape ≤ most_node_cells
  pub low_rank : length a.shape ≤ most_axes

abbrev pub formula_value : List Node → Formula → Array
formula_value nodes (One a) = chain_value nodes a
formula_value nodes (Two op a b) = paired op (chain_value nodes a) (chain_value nodes b)
formula_value nodes (Three c a b) = choose_of (chain_value nodes c) (chain_value nodes a) (chain_value nodes b)

-- the cells of all nodes that it adds
abbrev pub formula_cells : List Node → Formula → ℕ
formula_cells nodes (One a) = chain_cells nodes a
formula_cells nodes (Two op a b) = chain_cells nodes a + chain_cells nodes b + size (chain_value nodes a).shape
formula_cells nodes (Three c a b) = chain_cells nodes c + chain_cells nodes a + chain_cells nodes b + size (chain_value nodes a).shape

abbrev pub FormulaFits : List Node → Formula → Type 0
FormulaFits nodes (One a) = ChainFits nodes a
FormulaFits nodes (Two op a b) = ChainFits nodes a × ChainFits nodes b × Match op (chain_value nodes a) (chain_value nodes b)
FormulaFits nodes (Three c a b) = ChainFits nodes c × ChainFits nodes a × ChainFits nodes b × Choices (chain_value nodes c) (chain_value nodes a) (chain_value nodes b)

-- ---- arrays

-- what is made, with these cells
abbrev pub made_with : Made → List (Option ℤ) → of.DataArray
made_with m cells = record { name = m.name; axes = m.axes; kind = m.kind; masked = m.masked; attrs = m.attrs; coords = m.coords; cells = cells }

-- what is made of nodes of a plan
abbrev pub made_in : List Node → Made → of.DataArray
made_in nodes m = made_with m (formula_value nodes m.cells).cells

-- with the name, axes and coordinates of an array
abbrev pub like : DataArray → DType → Bool → List Attr → Formula → Made
like a kind masked attrs cells = record { name = a.name; axes = a.axes; kind = kind; masked = masked; attrs = attrs; coords = a.coords; cells = cells }

-- a plan takes it, and it is an array as it has to be
pub record IsMade (nodes : List Node) (m : Made) : Type 0 where
  pub fits : FormulaFits nodes m.cells
  pub shape : (formula_value nodes m.cells).shape ≡ shape_over m.axes
  pub kind : (formula_value nodes m.cells).kind ≡ m.kind
  pub formed : IsDataArray (made_in nodes m)
  pub room : formula_cells nodes m.cells ≤ 256 * span m.axes

-- this is made
pub record Makes (nodes : List Node) (means : of.DataArray) (m : Made) : Type 0 where
  pub is : made_in nodes m ≡ means
  pub made : IsMade nodes m

-- a call that makes an array of any plan, or has the first fault
abbrev pub AnswersMade : List Node → Result Made CallFault → Result of.DataArray Fault → Type 0
AnswersMade nodes (Ok m) means = (means ≡ Ok (made_in nodes m)) × IsMade nodes m
AnswersMade nodes (Err e) means = Fails e means

-- an array of the plan that is this one
pub record IsArrayOf (nodes : List Node) (means : of.DataArray) (a : DataArray) : Type 0 where
  pub is : array_in nodes a ≡ means
  pub inside : IsArrayIn nodes a
