-- The chains of a choice have the cells of their branches at all points of the joined axes.
use Rattle.std.proofs.Common.{◌≡◌, ◌<◌, ◌≤◌, ◌+◌, ◌*◌, ℕ, ℤ, pos, suc, Bool, true, false, List, [], ◌∷◌, length, Option, Some, None, is_some, refl, sym, ap, subst, ◌∙◌, arith, lit<}
use Rattle.std.specs.Prelude.{⊤}
use Rattle.std.specs.List.{AllByRecursion}
use Rattle.std.proofs.lemmas.List.{length-map}
use Rattle.std.proofs.lemmas.List.Elements.{All-cons, All-nil}
use Rattle.std.proofs.lemmas.Nat.{mul-le}
use Rattle.xr_types.specs.Kinds.{in_range}
use Rattle.xr_types.specs.Names.{shape_over}
use Rattle.xr_types.specs.Points.{size, IsPoint}
use Rattle.xr_types.specs.declared.axis.Axis.{Axis}
use Rattle.xr_types.specs.declared.kind.DType.{DType}
use Rattle.xr_types.specs.declared.kind.DType.TheVariants as kinds
use Rattle.xr_types.specs.declared.kind.DType.TheVariants.{Char, Int8, Int16, Int32, Int64, UInt8, UInt16, UInt32, UInt64}
use Rattle.xr_arrays.specs.declared.node.Node.{Node}
use Rattle.xr_arrays.specs.Arrays.{Array, at, made, IsCell}
use Rattle.xr_arrays.specs.Nodes.{widened, without, IsBelow}
use Rattle.plan_core.proofs.Tabs.{tab_same}
use Rattle.xr_defs.specs.Building.{truth_number}
use Rattle.xr_defs.specs.WellFormed.{AreDimensions}
use Rattle.xr_operations.specs.Alignment.{fitted}
use Rattle.xr_operations.specs.Arithmetic.{cell_along}
use Rattle.xr_operations.specs.CellMethods.{branch_cell, may_miss}
use Rattle.xr_values.specs.declared.data_array.DataArray.{DataArray}
use Rattle.xr_values.specs.Stands.{array_in, IsArrayIn}
use Rattle.xr_formulas.specs.declared.chain.Chain.{Chain}
use Rattle.xr_formulas.specs.declared.chain.Step.TheVariants.{Take, Widen}
use Rattle.xr_formulas.specs.Chains.{chain_cells, chain_value, start_value, step_value, steps_cells, steps_value, ChainFits, StepFits, StepsFit}
use Rattle.xr_formulas.specs.Spread.{widens}
use Rattle.xr_formulas.proofs.Compared.{range_is}
use Rattle.xr_formulas.proofs.Points.{made_at}
use Rattle.xr_formulas.proofs.Spread.{cells_both, fit_both, literal_cells, literal_fits, literal_is, steps_both}
use Rattle.xr_joining.specs.Fitted.{Arrives}
use Rattle.xr_joining.specs.Operands.{over}
use Rattle.xr_joining.specs.Spreads.{AreSizedIn}
use Rattle.xr_joining.proofs.OperandChains.{along_in, along_seen, over_cells, over_fits, over_value}
use Rattle.xr_joining.proofs.Within.{within}
use Rattle.xr_choosing.specs.declared.branches.Branch.{Branch}
use Rattle.xr_choosing.specs.declared.branches.Branch.TheVariants as branches
use Rattle.xr_choosing.specs.Branches.{branch_in, IsBranchIn}
use Rattle.xr_choosing.specs.Choices.{branch_chain, missing, nowhere}
use Rattle.xr_choosing.proofs.Aligned.{Arrived}

-- ---- sides of a choice

-- cells of a kind, missing only where they may be
pub record AreSideCells (t : DType) (s : List ℕ) (miss : Bool) (cell : List ℕ → Option ℤ) : Type 0 where
  pub range : (p : List ℕ) → IsPoint s p → IsCell t (cell p)
  pub seen : miss ≡ false → (p : List ℕ) → IsPoint s p → is_some (cell p) ≡ true

-- a chain with these cells
pub record IsSide (nodes : List Node) (t : DType) (s : List ℕ) (cell : List ℕ → Option ℤ) (c : Chain) : Type 0 where
  pub is : chain_value nodes c ≡ made t s cell
  pub fits : ChainFits nodes c
  pub few : chain_cells nodes c ≤ 3 + 34 * size s

-- ---- an array

arrives : (axes xs : List Axis) → AllByRecursion (Arrived axes) xs → AllByRecursion (Arrives axes) xs
arrives axes [] all = tt
arrives axes (x ∷ xs) all = (all.0.0, arrives axes xs all.1)

sized : (axes xs : List Axis) → AllByRecursion (Arrived axes) xs → AreSizedIn axes xs
sized axes [] all = tt
sized axes (x ∷ xs) all = ((all.0.0.0, sym all.0.1), sized axes xs all.1)

pub all_arrive : (axes xs : List Axis) → AllByRecursion (Arrived axes) xs → AllByRecursion (Arrives axes) xs
all_arrive axes xs all = arrives axes xs all

module _ (nodes : List Node) (t : DType) (axes : List Axis) (dims : AreDimensions axes) (a : DataArray) (is : IsArrayIn nodes a) (all : AllByRecursion (Arrived axes) a.axes) where
  pub array_cells : AreSideCells t (shape_over axes) a.masked (cell_along t axes (fitted axes None (array_in nodes a)))
  array_cells = record {
    range = along_in nodes t axes dims a is (arrives axes a.axes all);
    seen = along_seen nodes t axes dims a is (arrives axes a.axes all);
  }

  pub array_side : AllByRecursion (λ (x : Axis). 1 ≤ x.size) axes → size (shape_over axes) ≤ 33554432 → length axes ≤ 16 → IsSide nodes t (shape_over axes) (cell_along t axes (fitted axes None (array_in nodes a))) (over t axes a)
  array_side some few low =
      let added = over_cells nodes t axes dims a is (arrives axes a.axes all) some few low in
      let less = within axes dims.distinct some a.axes (sized axes a.axes all) is.formed.axes.distinct in
      record {
        is = over_value nodes t axes dims a is (arrives axes a.axes all);
        fits = over_fits nodes t axes dims a is (arrives axes a.axes all) some few low;
        few = omega (arith, added, less);
      }

-- ---- a missing cell at all points

module _ (t : DType) where
  abbrev spread : List ℕ → Array
  spread s = made t s (λ p. None)

  one_more : (m : ℕ) (s : List ℕ) → widened (spread s) 0 m ≡ spread (m ∷ s)
  one_more m s = ap (λ cells. record { kind = t; shape = m ∷ s; cells = cells }) (tab_same (m ∷ s) (λ p. at (spread s) (without 0 p)) (λ p. None) each)
    where
      each : (p : List ℕ) → IsPoint (m ∷ s) p → at (spread s) (without 0 p) ≡ None
      each [] here = absurd here
      each (i ∷ p) here = made_at t s (λ q. None) p here.1

  spread_is : (axes : List Axis) → steps_value (widens axes) (spread []) ≡ spread (shape_over axes)
  spread_is [] = refl
  spread_is (x ∷ xs) = steps_both (widens xs) (Widen 0 x.size ∷ []) (spread []) ∙ ap (λ a. widened a 0 x.size) (spread_is xs) ∙ one_more x.size (shape_over xs)

  rest_below : (x : Axis) (xs : List Axis) → 1 ≤ x.size → size (shape_over xs) ≤ size (shape_over (x ∷ xs))
  rest_below x xs some = let up = mul-le 1 (size (shape_over xs)) x.size (size (shape_over xs)) some (omega arith) in omega arith

  widen_fits : (m : ℕ) (s : List ℕ) → m * size s ≤ 33554432 → length s < 16 → StepFits (Widen 0 m) (spread s)
  widen_fits m s few low = record { fits = (lit< tt, omega arith); small = omega arith; low_rank = omega arith }

  spread_fits : (axes : List Axis) → AllByRecursion (λ (x : Axis). 1 ≤ x.size) axes → size (shape_over axes) ≤ 33554432 → length axes ≤ 16 → StepsFit (widens axes) (spread [])
  spread_fits [] some few low = tt
  spread_fits (x ∷ xs) some few low =
      let up = rest_below x xs some.0 in
      let long = length-map xs (λ (y : Axis). y.size) in
      fit_both (widens xs) (Widen 0 x.size ∷ []) (spread []) (spread_fits xs some.1 (omega arith) (omega arith))
      (subst (StepFits (Widen 0 x.size)) (sym (spread_is xs)) (widen_fits x.size (shape_over xs) few (omega arith)), tt)

  spread_cells : (axes : List Axis) → AllByRecursion (λ (x : Axis). 1 ≤ x.size) axes → steps_cells (widens axes) (spread []) ≤ length axes * size (shape_over axes)
  spread_cells [] some = omega arith
  spread_cells (x ∷ xs) some =
      let up = rest_below x xs some.0 in
      let rest = spread_cells xs some.1 in
      let both = cells_both (widens xs) (Widen 0 x.size ∷ []) (spread []) in
      let last : size (widened (steps_value (widens xs) (spread [])) 0 x.size).shape ≡ size (shape_over (x ∷ xs)) = ap (λ a. size (widened a 0 x.size).shape) (spread_is xs) in
      let most = mul-le (length xs) (size (shape_over xs)) (length xs) (size (shape_over (x ∷ xs))) (omega arith) up in
      let all : suc (length xs) * size (shape_over (x ∷ xs)) ≡ length xs * size (shape_over (x ∷ xs)) + size (shape_over (x ∷ xs)) = more (length xs) (size (shape_over (x ∷ xs))) in
      omega arith
    where
      more : (a b : ℕ) → suc a * b ≡ a * b + b
      more a b = grind arith

  zero_in : in_range t (pos 0) ≡ true
  zero_in = by t
    where
      by : (t : DType) → in_range t (pos 0) ≡ true
      by kinds.Bool = refl
      by Char = refl
      by Int8 = refl
      by Int16 = refl
      by Int32 = refl
      by Int64 = refl
      by UInt8 = refl
      by UInt16 = refl
      by UInt32 = refl
      by UInt64 = refl

  pub missing_side : (nodes : List Node) (axes : List Axis) → AllByRecursion (λ (x : Axis). 1 ≤ x.size) axes → size (shape_over axes) ≤ 33554432 → length axes ≤ 16 → IsSide nodes t (shape_over axes) (λ p. None) (missing t axes)
  missing_side nodes axes some few low =
      let added : steps_cells (widens axes) (step_value (Take 0 nowhere None true) (step_value (Widen 0 1) (start_value nodes (missing t axes).start))) ≤ length axes * size (shape_over axes) = spread_cells axes some in
      let most = mul-le (length axes) (size (shape_over axes)) 16 (size (shape_over axes)) low (omega arith) in
      record {
        is = spread_is axes;
        fits = record {
          start = range_is t (pos 0) zero_in;
          steps = (
            record { fits = (lit< tt, omega arith); small = omega arith; low_rank = omega arith },
            (
              record { fits = (lit< tt, lit< tt, All-cons (IsBelow 1) None [] tt (All-nil (IsBelow 1)), tt, λ e. refl); small = omega arith; low_rank = omega arith },
              spread_fits axes some few low,
            ),
          );
        };
        few = omega (arith, added, most);
      }

truth_in : (t : DType) (b : Bool) → in_range t (truth_number b) ≡ true
truth_in kinds.Bool true = refl
truth_in kinds.Bool false = refl
truth_in Char true = refl
truth_in Char false = refl
truth_in Int8 true = refl
truth_in Int8 false = refl
truth_in Int16 true = refl
truth_in Int16 false = refl
truth_in Int32 true = refl
truth_in Int32 false = refl
truth_in Int64 true = refl
truth_in Int64 false = refl
truth_in UInt8 true = refl
truth_in UInt8 false = refl
truth_in UInt16 true = refl
truth_in UInt16 false = refl
truth_in UInt32 true = refl
truth_in UInt32 false = refl
truth_in UInt64 true = refl
truth_in UInt64 false = refl

-- ---- a branch

abbrev pub BranchArrives : List Axis → Branch → Type 0
BranchArrives axes (branches.Array a) = AllByRecursion (Arrived axes) a.now.axes
BranchArrives axes (branches.Number n) = ⊤
BranchArrives axes (branches.Truth b) = ⊤
BranchArrives axes branches.Missing = ⊤

-- a number is one of the kind
abbrev pub BranchFits : DType → Branch → Type 0
BranchFits t (branches.Array a) = ⊤
BranchFits t (branches.Number n) = in_range t n ≡ true
BranchFits t (branches.Truth b) = ⊤
BranchFits t branches.Missing = ⊤

module _ (nodes : List Node) (t : DType) (axes : List Axis) (dims : AreDimensions axes) where
  pub branch_cells : (x : Branch) → IsBranchIn nodes x → BranchArrives axes x → BranchFits t x → AreSideCells t (shape_over axes) (may_miss (branch_in nodes x)) (branch_cell t axes (branch_in nodes x))
  branch_cells (branches.Array a) is all fits = array_cells nodes t axes dims a.now is all
  branch_cells (branches.Number n) is all fits = record { range = λ p here. range_is t n fits; seen = λ plain p here. refl }
  branch_cells (branches.Truth b) is all fits = record { range = λ p here. range_is t (truth_number b) (truth_in t b); seen = λ plain p here. refl }
  branch_cells branches.Missing is all fits = record { range = λ p here. tt; seen = λ plain p here. absurd cc }

  module _ (some : AllByRecursion (λ (x : Axis). 1 ≤ x.size) axes) (few : size (shape_over axes) ≤ 33554432) (low : length axes ≤ 16) where
    number_side : (n : ℤ) → in_range t n ≡ true → IsSide nodes t (shape_over axes) (λ p. Some n) (branch_chain t axes (branches.Number n))
    number_side n fits =
        let added = literal_cells t n nodes axes low in
        record { is = literal_is t n nodes axes; fits = literal_fits t n nodes axes (range_is t n fits) few low; few = omega (arith, added) }

    pub branch_side : (x : Branch) → IsBranchIn nodes x → BranchArrives axes x → BranchFits t x → IsSide nodes t (shape_over axes) (branch_cell t axes (branch_in nodes x)) (branch_chain t axes x)
    branch_side (branches.Array a) is all fits = array_side nodes t axes dims a.now is all some few low
    branch_side (branches.Number n) is all fits = number_side n fits
    branch_side (branches.Truth b) is all fits = number_side (truth_number b) (truth_in t b)
    branch_side branches.Missing is all fits = missing_side t nodes axes some few low
