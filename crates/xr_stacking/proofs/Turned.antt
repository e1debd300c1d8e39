-- Parts that are brought into an order and a kind.
use Rattle.std.proofs.Common.{◌≡◌, ◌∙◌, ◌≤◌, ℕ, Bool, true, false, List, length, refl, sym, ap, subst, arith}
use Rattle.xr_types.specs.Points.{size}
use Rattle.xr_types.specs.declared.kind.DType.{DType}
use Rattle.xr_types.specs.declared.operation.OpKind.TheVariants as ops
use Rattle.xr_arrays.specs.Arrays.{Array}
use Rattle.xr_arrays.specs.Nodes.{most_axes, most_node_cells, reordered, value, IsOrder}
use Rattle.xr_arrays.specs.declared.node.Node.{Node}
use Rattle.xr_combination.specs.Pieces.{as_kind}
use Rattle.xr_combining.specs.Placing.{wide, IsNodeFor}
use Rattle.xr_formulas.specs.Chains.{chain_value, steps_value, ChainFits, IsValueOf, StepFits, StepsFit}
use Rattle.xr_formulas.specs.declared.chain.Chain.{Chain}
use Rattle.xr_formulas.specs.declared.chain.Start.TheVariants as starts
use Rattle.xr_formulas.specs.declared.chain.Step.TheVariants as step
use Rattle.xr_stacking.specs.Parts.{brought, brought_shape, order_of, sizes_in, steps_to, wide_shape, CanTurn, IsPart}
use Rattle.xr_stacking.specs.declared.parts.Part.{Part}

-- ---- the shape

wide_is : (front : Bool) (a : Array) → (wide front a).shape ≡ wide_shape front a.shape
wide_is true a = refl
wide_is false a = refl

pub brought_is : (nodes : List Node) (kind : DType) (dims : List (List ℕ)) (front : Bool) (p : Part) → IsPart nodes p → (brought nodes kind dims front p).shape ≡ brought_shape front dims p
brought_is nodes kind dims front p is =
    wide_is front (as_kind kind (reordered (value nodes p.node) (order_of dims p))) ∙ ap (λ (s : List ℕ). wide_shape front (sizes_in s (order_of dims p))) is.shape

pub kind_is : (nodes : List Node) (kind : DType) (dims : List (List ℕ)) (front : Bool) (p : Part) → (brought nodes kind dims front p).kind ≡ kind
kind_is nodes kind dims true p = refl
kind_is nodes kind dims false p = refl

-- ---- the steps

pub steps_are : (kind : DType) (front : Bool) (order : List ℕ) (a : Array) → steps_value (steps_to kind front order) a ≡ wide front (as_kind kind (reordered a order))
steps_are kind true order a = refl
steps_are kind false order a = refl

narrow_small : (front : Bool) (s : List ℕ) → size (wide_shape front s) ≤ most_node_cells → size s ≤ most_node_cells
narrow_small true s small = omega arith
narrow_small false s small = small

narrow_low : (front : Bool) (s : List ℕ) → length (wide_shape front s) ≤ most_axes → length s ≤ most_axes
narrow_low true s low = omega arith
narrow_low false s low = low

module _ (kind : DType) (order : List ℕ) (a : Array) (each : IsOrder (length a.shape) order) where
  turned_fits : size (sizes_in a.shape order) ≤ most_node_cells → length (sizes_in a.shape order) ≤ most_axes → StepFits (step.Reorder order) a
  turned_fits small low = record { fits = (omega arith, each); small = small; low_rank = low }

  cast_fits : size (sizes_in a.shape order) ≤ most_node_cells → length (sizes_in a.shape order) ≤ most_axes → StepFits (step.Unary ops.Cast kind) (reordered a order)
  cast_fits small low = record { fits = (omega arith, refl, tt, λ e. absurd cc); small = small; low_rank = low }

  pub steps_fit : (front : Bool) → size (wide_shape front (sizes_in a.shape order)) ≤ most_node_cells → length (wide_shape front (sizes_in a.shape order)) ≤ most_axes → StepsFit (steps_to kind front order) a
  steps_fit true small low =
      let s = sizes_in a.shape order in
      let few = narrow_small true s small in
      let less = narrow_low true s low in
      (turned_fits few less, (cast_fits few less, (record { fits = (omega arith, omega arith); small = small; low_rank = low }, tt)))
  steps_fit false small low = (turned_fits small low, (cast_fits small low, tt))

-- ---- a part

module _ (nodes : List Node) (kind : DType) (dims : List (List ℕ)) (front : Bool) (p : Part) (is : IsPart nodes p) (c : Chain) (start : c.start ≡ starts.Node p.node) (steps : c.steps ≡ steps_to kind front (order_of dims p)) where
  abbrev own : Chain
  own = record { start = starts.Node p.node; steps = steps_to kind front (order_of dims p) }

  own_is : own ≡ c
  own_is = (λ i. record { start = sym start i; steps = sym steps i })

  pub chain_fits : CanTurn front dims p → ChainFits nodes c
  chain_fits can =
      subst (ChainFits nodes) own_is
      (record {
        start = is.inside;
        steps = steps_fit kind (order_of dims p) (value nodes p.node) (subst (λ (s : List ℕ). IsOrder (length s) (order_of dims p)) (sym is.shape) can.each) front
            (subst (λ (s : List ℕ). size (wide_shape front (sizes_in s (order_of dims p))) ≤ most_node_cells) (sym is.shape) can.small)
            (subst (λ (s : List ℕ). length (wide_shape front (sizes_in s (order_of dims p))) ≤ most_axes) (sym is.shape) can.low_rank);
      })

  pub chain_brought : (new : List Node) (n : ℕ) → IsValueOf new (chain_value nodes c) n → IsNodeFor new (brought nodes kind dims front p) n
  chain_brought new n made = record { inside = made.inside; is = made.is ∙ ap (chain_value nodes) (sym own_is) ∙ steps_are kind front (order_of dims p) (value nodes p.node) }
