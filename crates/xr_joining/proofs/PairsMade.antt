-- What an operator makes of two arrays whose axes are joined.
use Rattle.std.proofs.Common.{◌≡◌, ◌≤◌, ◌*◌, ◌||◌, ◌&&◌, ℕ, Bool, true, false, List, [], ◌∷◌, ◌++◌, length, None, refl, sym, ap, subst, ◌∙◌, arith}
use Rattle.std.specs.Prelude.{nat_le}
use Rattle.std.specs.List.{list_all, sum_by, AllByRecursion}
use Rattle.std.proofs.lemmas.Bool.{and_from, and_parts, le-leb, leb-true, or_parts}
use Rattle.std.proofs.lemmas.List.{length-map, nil_from_length}
use Rattle.std.proofs.lemmas.Nat.{mul-le}
use Rattle.xr_types.specs.Names.{shape_over}
use Rattle.xr_types.specs.Points.{size}
use Rattle.xr_types.specs.Results.{unless}
use Rattle.xr_types.specs.declared.axis.Axis.{Axis}
use Rattle.xr_types.specs.declared.fault.Fault.TheVariants.{TooLarge}
use Rattle.xr_types.specs.declared.kind.DType.{DType}
use Rattle.xr_types.specs.declared.operation.OpKind.{OpKind}
use Rattle.xr_arrays.specs.declared.node.Node.{Node}
use Rattle.xr_arrays.specs.Arrays.{Array, at}
use Rattle.xr_arrays.specs.Elements.{elem, result_kind, takes_two, Suits}
use Rattle.xr_arrays.proofs.ElementRanges.{elem_of_two}
use Rattle.xr_defs.specs.Carries.{AreParts}
use Rattle.xr_defs.specs.Carrying.{carried, coord_rule}
use Rattle.xr_defs.specs.Limits.{most_cells, most_dimensions}
use Rattle.xr_defs.specs.Room.{count, of_array, room, span, Portion}
use Rattle.xr_defs.specs.Selecting.{are_within, check_array, is_within}
use Rattle.xr_defs.specs.Values as of
use Rattle.xr_defs.specs.WellFormed.{IsContent, IsCoordinate, IsDataArray, IsDimension}
use Rattle.xr_defs.specs.declared.carrying.Carry.TheVariants.{Binary}
use Rattle.xr_defs.specs.declared.value.Content.{Content}
use Rattle.xr_defs.specs.declared.value.Content.TheVariants as contents
use Rattle.xr_defs.specs.declared.value.Coord.{Coord}
use Rattle.xr_defs.proofs.Spans.{back_among, front_among, greatest_both, points_above}
use Rattle.plan_core.proofs.Tabs.{tab-length, tab_same}
use Rattle.xr_operations.specs.Alignment.{fitted}
use Rattle.xr_operations.specs.Arithmetic.{cell_along, paired, paired_cells, point_along}
use Rattle.xr_values.specs.declared.data_array.DataArray.{DataArray}
use Rattle.xr_values.specs.Stands.{array_in, IsArrayIn}
use Rattle.xr_values.proofs.Carries.{carried_formed}
use Rattle.xr_parts.specs.Frames.{IsThere}
use Rattle.xr_parts.proofs.Axes.{called_holds}
use Rattle.xr_formulas.specs.Chains.{chain_value}
use Rattle.xr_formulas.specs.Mades as made
use Rattle.xr_formulas.specs.Mades.{formula_cells, formula_value, made_in, made_with, FormulaFits}
use Rattle.xr_joining.specs.Fitted.{AreJoined}
use Rattle.xr_joining.specs.Operands.{cast, over}
use Rattle.xr_joining.specs.Spreads.{spread}
use Rattle.xr_joining.specs.TwoArrays.{pair_made, IsMadeOf}
use Rattle.xr_joining.proofs.Arriving.{is_operand, same_masked}
use Rattle.xr_joining.proofs.Cells.{cells_made, made_at}
use Rattle.xr_joining.proofs.CommonKinds.{elem_seen}
use Rattle.xr_joining.proofs.OperandChains.{along_in, along_seen, over_cells, over_fits, over_value}

-- ---- coordinates are within the limits

short : (axes xs : List Axis) → AllByRecursion IsDimension axes → AllByRecursion (IsThere axes) xs → list_all (λ n. nat_le n most_cells) (shape_over xs) ≡ true
short axes [] dims over = refl
short axes (x ∷ xs) dims over =
    let found = (called_holds IsDimension x.name axes dims over.0.0).0 in
    let few = (subst IsDimension over.0.1 found).few in
    and_from (nat_le x.size most_cells) (list_all (λ n. nat_le n most_cells) (shape_over xs)) (le-leb x.size most_cells few) (short axes xs dims over.1)

coord_within : (axes : List Axis) (c : Coord) → AllByRecursion IsDimension axes → IsCoordinate axes c → is_within (shape_over c.axes) ≡ true
coord_within axes c dims is = by c.content is.content
  where
    by : (v : Content) → IsContent (shape_over c.axes) v → is_within (shape_over c.axes) ≡ true
    by (contents.Cells a masked) cells =
        and_from (nat_le (length (shape_over c.axes)) most_dimensions) (list_all (λ n. nat_le n most_cells) (shape_over c.axes) && nat_le (size (shape_over c.axes)) most_cells)
        (le-leb (length (shape_over c.axes)) most_dimensions cells.1.low_rank)
        (and_from (list_all (λ n. nat_le n most_cells) (shape_over c.axes)) (nat_le (size (shape_over c.axes)) most_cells) (short axes c.axes dims is.over) (le-leb (size (shape_over c.axes)) most_cells cells.1.few))
    by (contents.Text text) none = ap is_within none
    by (contents.Time coding t) none = ap is_within none.0

pub coords_within : (axes : List Axis) (cs : List Coord) → AllByRecursion IsDimension axes → AllByRecursion (IsCoordinate axes) cs → are_within cs ≡ true
coords_within axes [] dims all = refl
coords_within axes (c ∷ cs) dims all = and_from (is_within (shape_over c.axes)) (are_within cs) (coord_within axes c dims all.0) (coords_within axes cs dims all.1)

pub within_parts : (axes : List Axis) → is_within (shape_over axes) ≡ true → (length axes ≤ 16) × (size (shape_over axes) ≤ 33554432)
within_parts axes e =
    let parts = and_parts (nat_le (length (shape_over axes)) most_dimensions) (list_all (λ n. nat_le n most_cells) (shape_over axes) && nat_le (size (shape_over axes)) most_cells) e in
    let more = and_parts (list_all (λ n. nat_le n most_cells) (shape_over axes)) (nat_le (size (shape_over axes)) most_cells) parts.1 in
    let rank = leb-true (length (shape_over axes)) most_dimensions parts.0 in
    let long = length-map axes (λ (x : Axis). x.size) in
    (omega arith, leb-true (size (shape_over axes)) most_cells more.1)

-- ---- both

module _ (nodes : List Node) (op : OpKind) (t : DType) (axes : List Axis) (a b : DataArray) (is : IsArrayIn nodes a) (js : IsArrayIn nodes b) (joined : AreJoined a.axes b.axes axes) (two : takes_two op ≡ true) (suits : Suits op t) where
  abbrev first : of.DataArray
  first = fitted axes None (array_in nodes a)

  abbrev second : of.DataArray
  second = fitted axes None (array_in nodes b)

  abbrev means : of.DataArray
  means = paired op t axes first second

  parts : AreParts axes (carried Binary (first ∷ second ∷ []) axes)
  parts = carried_formed Binary (first ∷ second ∷ []) axes joined.dims (is_operand axes joined.dims (array_in nodes a) joined.first is.formed, (is_operand axes joined.dims (array_in nodes b) joined.second js.formed, tt))

  masks : (first.masked || second.masked) ≡ (a.masked || b.masked)
  masks = (λ i. same_masked axes joined.dims (array_in nodes a) joined.first is.formed i || same_masked axes joined.dims (array_in nodes b) joined.second js.formed i)

  -- the limits are those of the axes
  pub limits : (b : Bool) → is_within (shape_over axes) ≡ b → check_array means ≡ unless b TooLarge
  unfolding check_array paired
  limits b e = (λ i. unless (e i && coords_within axes (coord_rule (first ∷ second ∷ []) axes) joined.dims.each parts.coords i) TooLarge) ∙ ap (λ b. unless b TooLarge) (and_true b)
    where
      and_true : (b : Bool) → (b && true) ≡ b
      and_true true = refl
      and_true false = refl

  module _ (low : length axes ≤ 16) (few : size (shape_over axes) ≤ 33554432) where
    pub pair_formed : IsDataArray means
    unfolding paired
    pair_formed = record {
      name = parts.name;
      axes = joined.dims;
      coords = parts.coords;
      distinct = parts.distinct;
      attrs = parts.attrs;
      cells = cells_made (shape_over axes) (result_kind op t) (first.masked || second.masked) (λ p. elem op t (cell_along t axes first p) (cell_along t axes second p)) (let long = length-map axes (λ (x : Axis). x.size) in omega arith) few
          (λ p here. elem_of_two op t _ _ two (along_in nodes t axes joined.dims a is joined.first p here) (along_in nodes t axes joined.dims b js joined.second p here))
          (λ plain p here.
          let seen = or_parts a.masked b.masked (sym masks ∙ plain) in
          elem_seen op t _ _ two (along_seen nodes t axes joined.dims a is joined.first seen.0 p here) (along_seen nodes t axes joined.dims b js joined.second seen.1 p here));
    }

    -- ---- room

    abbrev all_axes : List Axis
    all_axes = a.axes ++ (b.axes ++ (axes ++ []))

    first_space : size (shape_over a.axes) ≤ span all_axes
    first_space = points_above a.axes all_axes is.formed.axes.distinct (front_among a.axes (b.axes ++ (axes ++ []))) (λ n. let both = greatest_both a.axes (b.axes ++ (axes ++ [])) n in omega arith)

    second_space : size (shape_over b.axes) ≤ span all_axes
    second_space =
        points_above b.axes all_axes js.formed.axes.distinct (λ n e. back_among a.axes (b.axes ++ (axes ++ [])) n (front_among b.axes (axes ++ []) n e))
        (λ n. let both = greatest_both a.axes (b.axes ++ (axes ++ [])) n in let more = greatest_both b.axes (axes ++ []) n in omega arith)

    own_space : size (shape_over axes) ≤ span all_axes
    own_space =
        points_above axes all_axes joined.dims.distinct (λ n e. back_among a.axes (b.axes ++ (axes ++ [])) n (back_among b.axes (axes ++ []) n (front_among axes [] n e)))
        (λ n. let both = greatest_both a.axes (b.axes ++ (axes ++ [])) n in let more = greatest_both b.axes (axes ++ []) n in let last = greatest_both axes [] n in omega arith)

    abbrev operands : List Portion
    operands = of_array (array_in nodes a) ∷ of_array (array_in nodes b) ∷ []

    in_space : (c : of.DataArray) (cells : ℕ) → c.axes ≡ axes → cells ≤ 69 * span all_axes → cells ≤ room (operands ++ of_array c ∷ [])
    unfolding room
    in_space c cells same le = subst (λ xs. cells ≤ 256 * sum_by count (operands ++ of_array c ∷ []) * span (a.axes ++ (b.axes ++ (xs ++ [])))) (sym same) (
        let k = sum_by count (operands ++ of_array c ∷ []) in
        let some : 1 ≤ k = omega arith in
        let up = mul-le 69 (span all_axes) (256 * k) (span all_axes) (omega arith) (omega arith) in
        omega arith)

    -- ---- without cells

    module _ (none : size (shape_over axes) ≡ 0) where
      no_cells : [] ≡ paired_cells op t axes first second
      no_cells = sym (nil_from_length (paired_cells op t axes first second) (tab-length (shape_over axes) (λ p. elem op t (cell_along t axes first p) (cell_along t axes second p)) ∙ none))

      pub empty_is : made_in nodes (pair_made nodes true op t axes a b) ≡ means
      unfolding paired
      empty_is = (λ i. record means { masked = sym masks i; cells = no_cells i })

      pub empty_made : IsMadeOf operands nodes (pair_made nodes true op t axes a b)
      empty_made = record {
        fits = record { start = (none, let long = length-map axes (λ (x : Axis). x.size) in omega arith); steps = tt };
        shape = refl;
        kind = refl;
        formed = subst IsDataArray (sym empty_is) pair_formed;
        space = in_space (made_in nodes (pair_made nodes true op t axes a b)) 0 refl (omega arith);
      }

    -- ---- with cells

    module _ (some : AllByRecursion (λ (x : Axis). 1 ≤ x.size) axes) where
      abbrev one : Array
      one = spread axes first.axes (cast t first)

      abbrev other : Array
      other = spread axes second.axes (cast t second)

      own_value : chain_value nodes (over t axes a) ≡ one
      own_value = over_value nodes t axes joined.dims a is joined.first

      their_value : chain_value nodes (over t axes b) ≡ other
      their_value = over_value nodes t axes joined.dims b js joined.second

      both_value : made.paired op (chain_value nodes (over t axes a)) (chain_value nodes (over t axes b)) ≡ made.paired op one other
      both_value = (λ i. made.paired op (own_value i) (their_value i))

      cells_are : (made.paired op one other).cells ≡ paired_cells op t axes first second
      cells_are = tab_same (shape_over axes) (λ p. elem op t (at one p) (at other p)) (λ p. elem op t (cell_along t axes first p) (cell_along t axes second p)) (λ p here.
          ap (λ x. elem op t x (at other p)) (made_at t (shape_over axes) (λ p. at (cast t first) (point_along axes first.axes p)) p here)
          ∙ ap (elem op t (cell_along t axes first p)) (made_at t (shape_over axes) (λ p. at (cast t second) (point_along axes second.axes p)) p here))

      pub pair_is : made_in nodes (pair_made nodes false op t axes a b) ≡ means
      unfolding paired
      pair_is =
          ap (λ (v : Array). made_with (pair_made nodes false op t axes a b) v.cells) both_value
          ∙ ap (made_with (pair_made nodes false op t axes a b)) cells_are
          ∙ (λ i. record means { masked = sym masks i })

      pub pair_is_made : IsMadeOf operands nodes (pair_made nodes false op t axes a b)
      pair_is_made =
          let added = over_cells nodes t axes joined.dims a is joined.first some few low in
          let more = over_cells nodes t axes joined.dims b js joined.second some few low in
          let last = ap (λ (v : Array). size v.shape) own_value in
          let s = first_space in
          let r = second_space in
          let q = own_space in
          let long = length-map axes (λ (x : Axis). x.size) in
          record {
            fits = (
              over_fits nodes t axes joined.dims a is joined.first some few low,
              over_fits nodes t axes joined.dims b js joined.second some few low,
              record {
                op_of = two;
                shape = ap (λ (v : Array). v.shape) their_value ∙ sym (ap (λ (v : Array). v.shape) own_value);
                kind = ap (λ (v : Array). v.kind) their_value ∙ sym (ap (λ (v : Array). v.kind) own_value);
                suits = subst (Suits op) (sym (ap (λ (v : Array). v.kind) own_value)) suits;
                small = omega arith;
                low_rank = subst (λ (v : Array). length v.shape ≤ 16) (sym own_value) (omega arith);
              },
            );
            shape = ap (λ (v : Array). v.shape) both_value;
            kind = ap (λ (v : Array). v.kind) both_value;
            formed = subst IsDataArray (sym pair_is) pair_formed;
            space = in_space (made_in nodes (pair_made nodes false op t axes a b)) (formula_cells nodes (pair_made nodes false op t axes a b).cells) refl (omega arith);
          }
