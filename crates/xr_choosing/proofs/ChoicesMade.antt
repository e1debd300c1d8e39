-- What a choice makes over joined axes.
use Rattle.std.proofs.Common.{◌≡◌, ◌≤◌, ◌||◌, ◌&&◌, ℕ, ℤ, pos, negsuc, zero, suc, Bool, true, false, List, [], ◌∷◌, ◌++◌, length, map, Option, Some, None, is_some, refl, sym, ap, subst, ◌∙◌, arith}
use Rattle.std.specs.List.{AllByRecursion}
use Rattle.std.proofs.lemmas.Bool.{or_parts}
use Rattle.std.proofs.lemmas.List.{length-map, nil_from_length}
use Rattle.xr_types.specs.Names.{shape_over}
use Rattle.xr_types.specs.Points.{size, tab}
use Rattle.xr_types.specs.Results.{unless}
use Rattle.xr_types.specs.declared.axis.Axis.{Axis}
use Rattle.xr_types.specs.declared.fault.Fault.TheVariants.{TooLarge}
use Rattle.xr_types.specs.declared.kind.DType.{DType}
use Rattle.xr_types.specs.declared.kind.DType.TheVariants as kinds
use Rattle.xr_arrays.specs.declared.node.Node.{Node}
use Rattle.xr_arrays.specs.Arrays.{Array, at, made, IsCell}
use Rattle.xr_arrays.specs.Elements.{choose, choose_of}
use Rattle.xr_defs.specs.Carries.{AreParts, IsOperand}
use Rattle.xr_defs.specs.Carrying.{carried, coord_rule}
use Rattle.xr_defs.specs.Selecting.{check_array, is_within}
use Rattle.xr_defs.specs.Values as of
use Rattle.xr_defs.specs.WellFormed.{AreDimensions, IsDataArray}
use Rattle.xr_defs.proofs.Spans.{points_above}
use Rattle.plan_core.proofs.Tabs.{tab-length, tab_same}
use Rattle.xr_operations.specs.Alignment.{fitted}
use Rattle.xr_operations.specs.Arithmetic.{cell_along}
use Rattle.xr_operations.specs.CellMethods.{branch_cell, chosen, may_miss}
use Rattle.xr_values.specs.declared.data_array.DataArray.{DataArray}
use Rattle.xr_values.specs.Stands.{array_in, IsArrayIn}
use Rattle.xr_values.proofs.Carries.{carried_formed}
use Rattle.xr_formulas.specs.Mades.{formula_value, made_in, made_with, IsMade}
use Rattle.xr_formulas.proofs.Cells.{cells_made}
use Rattle.xr_formulas.proofs.Pairs.{some_span}
use Rattle.xr_formulas.proofs.Points.{made_at}
use Rattle.xr_joining.specs.Operands.{over}
use Rattle.xr_joining.proofs.Arriving.{is_operand}
use Rattle.xr_joining.proofs.PairsMade.{coords_within}
use Rattle.xr_choosing.specs.declared.branches.Branch.{Branch}
use Rattle.xr_choosing.specs.declared.branches.Branch.TheVariants as branches
use Rattle.xr_choosing.specs.Branches.{arrays_of, branch_in, carry_of, operands_of, IsBranchIn}
use Rattle.xr_choosing.specs.Choices.{branch_chain, choice_made, fitted_all}
use Rattle.xr_choosing.proofs.Aligned.{Arrived}
use Rattle.xr_choosing.proofs.Sides.{all_arrive, array_cells, array_side, branch_cells, branch_side, BranchArrives, BranchFits, IsSide}

-- ---- what holds of all operands

pub all_both : (P : DataArray → Type 0) (xs ys : List DataArray) → AllByRecursion P xs → AllByRecursion P ys → AllByRecursion P (xs ++ ys)
all_both P [] ys first second = second
all_both P (x ∷ xs) ys first second = (first.0, all_both P xs ys first.1 second)

pub each_operand : (P : DataArray → Type 0) (method : Bool) (c : DataArray) (x y : Branch) → P c → AllByRecursion P (arrays_of x) → AllByRecursion P (arrays_of y) → AllByRecursion P (operands_of method c x y)
each_operand P true c x y test one other = all_both P (arrays_of x) (c ∷ arrays_of y) one (test, other)
each_operand P false c x y test one other = (test, all_both P (arrays_of x) (arrays_of y) one other)

-- ---- cells

chosen_in : (t : DType) (c x y : Option ℤ) → IsCell t x → IsCell t y → IsCell t (choose c x y)
chosen_in t None x y one other = tt
chosen_in t (Some (pos zero)) x y one other = other
chosen_in t (Some (pos (suc n))) x y one other = one
chosen_in t (Some (negsuc n)) x y one other = one

chosen_seen : (c x y : Option ℤ) → is_some c ≡ true → is_some x ≡ true → is_some y ≡ true → is_some (choose c x y) ≡ true
chosen_seen None x y test one other = test
chosen_seen (Some (pos zero)) x y test one other = other
chosen_seen (Some (pos (suc n))) x y test one other = one
chosen_seen (Some (negsuc n)) x y test one other = one

module _ (nodes : List Node) (method : Bool) (t : DType) (axes : List Axis) (c : DataArray) (x y : Branch) (is : IsArrayIn nodes c) (first : IsBranchIn nodes x) (second : IsBranchIn nodes y)
    (dims : AreDimensions axes) (tests : AllByRecursion (Arrived axes) c.axes) (one : BranchArrives axes x) (other : BranchArrives axes y) (fits : BranchFits t x) (suits : BranchFits t y) where
  abbrev operands : List of.DataArray
  operands = fitted_all nodes method axes c x y

  abbrev means : of.DataArray
  means = chosen (carry_of method) operands t axes (array_in nodes c) (branch_in nodes x) (branch_in nodes y)

  -- ---- what it carries

  abbrev Comes : DataArray → Type 0
  Comes a = IsArrayIn nodes a × AllByRecursion (Arrived axes) a.axes

  branch_comes : (b : Branch) → IsBranchIn nodes b → BranchArrives axes b → AllByRecursion Comes (arrays_of b)
  branch_comes (branches.Array a) is all = ((is, all), tt)
  branch_comes (branches.Number n) is all = tt
  branch_comes (branches.Truth b) is all = tt
  branch_comes branches.Missing is all = tt

  are_operands : (arrays : List DataArray) → AllByRecursion Comes arrays → AllByRecursion (IsOperand axes) (map (fitted axes None) (map (array_in nodes) arrays))
  are_operands [] all = tt
  are_operands (a ∷ arrays) all = (is_operand axes dims (array_in nodes a) (all_arrive axes a.axes all.0.1) all.0.0.formed, are_operands arrays all.1)

  parts : AreParts axes (carried (carry_of method) operands axes)
  parts = carried_formed (carry_of method) operands axes dims (are_operands (operands_of method c x y) (each_operand Comes method c x y (is, tests) (branch_comes x first one) (branch_comes y second other)))

  -- the limits are those of the axes
  pub limits : (b : Bool) → is_within (shape_over axes) ≡ b → check_array means ≡ unless b TooLarge
  unfolding check_array chosen
  limits b e = (λ i. unless (e i && coords_within axes (coord_rule operands axes) dims.each parts.coords i) TooLarge) ∙ ap (λ b. unless b TooLarge) (and_true b)
    where
      and_true : (b : Bool) → (b && true) ≡ b
      and_true true = refl
      and_true false = refl

  -- ---- its cells

  abbrev test_cell : List ℕ → Option ℤ
  test_cell = cell_along kinds.Bool axes (fitted axes None (array_in nodes c))

  abbrev one_cell : List ℕ → Option ℤ
  one_cell = branch_cell t axes (branch_in nodes x)

  abbrev other_cell : List ℕ → Option ℤ
  other_cell = branch_cell t axes (branch_in nodes y)

  abbrev cell : List ℕ → Option ℤ
  cell p = choose (test_cell p) (one_cell p) (other_cell p)

  module _ (low : length axes ≤ 16) (few : size (shape_over axes) ≤ 33554432) where
    pub choice_formed : IsDataArray means
    unfolding chosen
    choice_formed =
        let test = array_cells nodes kinds.Bool axes dims c is tests in
        let left = branch_cells nodes t axes dims x first one fits in
        let right = branch_cells nodes t axes dims y second other suits in
        let long = length-map axes (λ (x : Axis). x.size) in
        record {
          name = parts.name;
          axes = dims;
          coords = parts.coords;
          distinct = parts.distinct;
          attrs = parts.attrs;
          cells = cells_made (shape_over axes) t (c.masked || (may_miss (branch_in nodes x) || may_miss (branch_in nodes y))) cell (omega arith) few
              (λ p here. chosen_in t (test_cell p) (one_cell p) (other_cell p) (left.range p here) (right.range p here))
              (λ plain p here.
              let all = or_parts c.masked (may_miss (branch_in nodes x) || may_miss (branch_in nodes y)) plain in
              let both = or_parts (may_miss (branch_in nodes x)) (may_miss (branch_in nodes y)) all.1 in
              chosen_seen (test_cell p) (one_cell p) (other_cell p) (test.seen all.0 p here) (left.seen both.0 p here) (right.seen both.1 p here));
        }

    -- ---- without cells

    module _ (none : size (shape_over axes) ≡ 0) where
      no_cells : [] ≡ tab (shape_over axes) cell
      no_cells = sym (nil_from_length (tab (shape_over axes) cell) (tab-length (shape_over axes) cell ∙ none))

      pub empty_is : made_in nodes (choice_made nodes true method t axes c x y) ≡ means
      unfolding chosen
      empty_is = (λ i. record means { cells = no_cells i })

      pub empty_made : IsMade nodes (choice_made nodes true method t axes c x y)
      empty_made = record {
        fits = record { start = (none, let long = length-map axes (λ (x : Axis). x.size) in omega arith); steps = tt };
        shape = refl;
        kind = refl;
        formed = subst IsDataArray (sym empty_is) choice_formed;
        room = omega arith;
      }

    -- ---- with cells

    module _ (some : AllByRecursion (λ (x : Axis). 1 ≤ x.size) axes) where
      test_side : IsSide nodes kinds.Bool (shape_over axes) test_cell (over kinds.Bool axes c)
      test_side = array_side nodes kinds.Bool axes dims c is tests some few low

      one_side : IsSide nodes t (shape_over axes) one_cell (branch_chain t axes x)
      one_side = branch_side nodes t axes dims some few low x first one fits

      other_side : IsSide nodes t (shape_over axes) other_cell (branch_chain t axes y)
      other_side = branch_side nodes t axes dims some few low y second other suits

      abbrev formula : Array
      formula = choose_of (made kinds.Bool (shape_over axes) test_cell) (made t (shape_over axes) one_cell) (made t (shape_over axes) other_cell)

      value_is : formula_value nodes (choice_made nodes false method t axes c x y).cells ≡ formula
      value_is = (λ i. choose_of (test_side.is i) (one_side.is i) (other_side.is i))

      cells_are : formula.cells ≡ tab (shape_over axes) cell
      cells_are = tab_same (shape_over axes) (λ p. choose (at (made kinds.Bool (shape_over axes) test_cell) p) (at (made t (shape_over axes) one_cell) p) (at (made t (shape_over axes) other_cell) p)) cell (λ p here.
          (λ i. choose (made_at kinds.Bool (shape_over axes) test_cell p here i) (made_at t (shape_over axes) one_cell p here i) (made_at t (shape_over axes) other_cell p here i)))

      pub choice_is : made_in nodes (choice_made nodes false method t axes c x y) ≡ means
      unfolding chosen
      choice_is =
          ap (λ (v : Array). made_with (choice_made nodes false method t axes c x y) v.cells) value_is
          ∙ ap (made_with (choice_made nodes false method t axes c x y)) cells_are

      pub choice_is_made : IsMade nodes (choice_made nodes false method t axes c x y)
      choice_is_made =
          let long = length-map axes (λ (x : Axis). x.size) in
          let within = points_above axes axes dims.distinct (λ n e. e) (λ n. omega arith) in
          let least = some_span axes in
          let a = test_side.few in
          let b = one_side.few in
          let d = other_side.few in
          let points = ap (λ (v : Array). size v.shape) one_side.is in
          record {
            fits = (
              test_side.fits,
              one_side.fits,
              other_side.fits,
              record {
                truth = ap (λ (v : Array). v.kind) test_side.is;
                tests = ap (λ (v : Array). v.shape) test_side.is ∙ sym (ap (λ (v : Array). v.shape) one_side.is);
                shape = ap (λ (v : Array). v.shape) other_side.is ∙ sym (ap (λ (v : Array). v.shape) one_side.is);
                kind = ap (λ (v : Array). v.kind) other_side.is ∙ sym (ap (λ (v : Array). v.kind) one_side.is);
                small = omega (arith, points, few);
                low_rank = subst (λ (v : Array). length v.shape ≤ 16) (sym one_side.is) (omega arith);
              },
            );
            shape = ap (λ (v : Array). v.shape) value_is;
            kind = ap (λ (v : Array). v.kind) value_is;
            formed = subst IsDataArray (sym choice_is) choice_formed;
            room = omega (arith, within, least, a, b, d, points);
          }
