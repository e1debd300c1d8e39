-- Differences of neighbours.
use Rattle.xr_moving.proofs.Common.{All, All-map, AreAll, AreCells, Array, Axis, Bool, DType, IsArrayIn, IsBelow, IsFramed, IsNodeOf, Made, Makes, Match, Node, None, Option, Some, StepFits, [], ap, arith, array_in, array_of, axes_left, chain_value, coords_left, differences, false, get_or, get_or-map, is_some, is_truths, labels_kept, length, length-map, lit<, map, mul-le, neighbours, no_axis, paired, refl, set, shape_over, size, subst, suc, sym, taken_all, taken_from, true, value, without_fills, zero, ℕ, ℤ, ◌-◌, ◌<◌, ◌||◌, ◌∙◌, ◌∷◌, ◌≡◌, ◌≤◌}
use Rattle.std.proofs.Common.{List}
use Rattle.std.proofs.lemmas.List.{length-set}
use Rattle.std.proofs.lemmas.List as lists
use Rattle.xr_types.specs.Points.{IsPoint}
use Rattle.xr_types.specs.declared.operation.OpKind.TheVariants.{Subtract}
use Rattle.xr_arrays.specs.Arrays.{at}
use Rattle.xr_arrays.specs.Elements.{elem}
use Rattle.xr_arrays.proofs.ElementRanges.{elem_of_two}
use Rattle.xr_values.specs.declared.data_array.DataArray.{DataArray}
use Rattle.xr_operations.specs.Moves.{array_differences}
use Rattle.xr_formulas.specs.Chains.{ChainFits}
use Rattle.xr_formulas.proofs.Answered.{attributes_left}
use Rattle.xr_formulas.proofs.Cells.{cell_in, cell_seen, cells_made}
use Rattle.xr_moving.specs.Diffs.{chain_to, step_to}
use Rattle.xr_moving.proofs.Kept.{kept_below, kept_long, shape_left}
use Rattle.xr_moving.proofs.Made.{array_made, cells_in, node_value, AreMade}

-- ---- cells

size_less : (s : List ℕ) (k m : ℕ) → m ≤ get_or s k 0 → size (set s k m) ≤ size s
size_less [] k m le = omega arith
size_less (n ∷ ns) zero m le = mul-le m (size ns) n (size ns) le (omega arith)
size_less (n ∷ ns) (suc k) m le = mul-le n (size (set ns k m)) n (size ns) (omega arith) (size_less ns k m le)

both_seen : (t : DType) (x y : Option ℤ) → is_some x ≡ true → is_some y ≡ true → is_some (elem Subtract t x y) ≡ true
both_seen t (Some x) (Some y) a b = refl
both_seen t None y a b = absurd cc
both_seen t (Some x) None a b = absurd cc

-- of a node over axes of these sizes
module _ (nodes : List Node) (n : ℕ) (s : List ℕ) (kind : DType) (masked : Bool) (node : IsNodeOf nodes n s kind) (is : AreCells s kind masked (value nodes n).cells) (k : ℕ) (lt : k < length s) (numbers : is_truths kind ≡ false) where
  abbrev own : Array
  own = cells_in nodes n s kind

  abbrev half : Bool → Array
  half upper = taken_from own k (map Some (labels_kept upper (get_or s k 0))) None

  abbrev to : List ℕ
  to = set s k (get_or s k 0 - 1)

  half_shape : (upper : Bool) → (half upper).shape ≡ to
  half_shape upper = ap (set s k) (length-map (labels_kept upper (get_or s k 0)) Some ∙ kept_long upper (get_or s k 0))

  to_few : size to ≤ size s
  to_few = size_less s k (get_or s k 0 - 1) (omega arith)

  below : (upper : Bool) → All (IsBelow (get_or s k 0)) (map Some (labels_kept upper (get_or s k 0)))
  below upper = All-map (IsBelow (get_or s k 0)) Some (labels_kept upper (get_or s k 0)) (kept_below upper (get_or s k 0))

  half_all : (upper : Bool) → AreAll masked (half upper)
  half_all upper =
      let ps = labels_kept upper (get_or s k 0) in
      let long = length-map ps Some in
      taken_all own masked (record { whole = is.whole; range = is.range; seen = is.seen }) k (map Some ps) None lt (below upper) tt (λ plain i here. ap (λ (o : Option ℕ). is_some o || false) (lists.get_or-map Some ps i 0 None (omega arith)))

  half_cells : (upper : Bool) → AreCells (half upper).shape kind masked (half upper).cells
  half_cells upper =
      let all = half_all upper in
      let rank = length-set s k (length (map Some (labels_kept upper (get_or s k 0)))) in
      let low = is.low_rank in
      let points = ap size (half_shape upper) in
      let less = to_few in
      let most = is.few in
      record { whole = all.whole; range = all.range; seen = all.seen; low_rank = omega (arith, rank, low); few = omega (arith, points, less, most) }

  differences_cells : AreCells to kind masked (differences own k).cells
  differences_cells =
      let u = half_cells true in
      let l = half_cells false in
      let same : (half true).shape ≡ (half false).shape = half_shape true ∙ sym (half_shape false) in
      subst (λ t. AreCells t kind masked (differences own k).cells) (half_shape true) (
      cells_made (half true).shape kind masked (λ p. elem Subtract kind (at (half true) p) (at (half false) p)) u.low_rank u.few
      (λ p here. elem_of_two Subtract kind (at (half true) p) (at (half false) p) refl (cell_in (half true).shape kind masked (half true).cells u p here) (cell_in (half false).shape kind masked (half false).cells l p (subst (λ t. IsPoint t p) same here)))
      (λ plain p here. both_seen kind (at (half true) p) (at (half false) p) (cell_seen (half true).shape kind masked (half true).cells u plain p here) (cell_seen (half false).shape kind masked (half false).cells l plain p (subst (λ t. IsPoint t p) same here)))
      )

  held : value nodes n ≡ own
  held = node_value nodes n s kind node

  half_is : (upper : Bool) → chain_value nodes (chain_to n k upper (get_or s k 0)) ≡ half upper
  half_is upper = ap (λ v. taken_from v k (map Some (labels_kept upper (get_or s k 0))) None) held

  chain_fits : (upper : Bool) → ChainFits nodes (chain_to n k upper (get_or s k 0))
  chain_fits upper = record { start = node.placed; steps = (subst (StepFits (step_to k upper (get_or s k 0))) (sym held) step, tt) }
    where
      step : StepFits (step_to k upper (get_or s k 0)) own
      step = record { fits = (lit< tt, lt, below upper, tt, λ e. absurd cc); small = let few = (half_cells upper).few in omega (arith, few); low_rank = (half_cells upper).low_rank }

  matches : Match Subtract (half true) (half false)
  matches = record {
    op_of = refl;
    shape = half_shape false ∙ sym (half_shape true);
    kind = refl;
    suits = λ e same. absurd cc;
    small = let few = (half_cells true).few in omega (arith, few);
    low_rank = (half_cells true).low_rank;
  }

  pub differences_made : AreMade nodes (neighbours n k (get_or s k 0)) (set s k (get_or s k 0 - 1)) kind masked (differences (cells_in nodes n s kind) k)
  differences_made = record {
    value = ap (λ v. paired Subtract v (chain_value nodes (chain_to n k false (get_or s k 0)))) (half_is true) ∙ ap (paired Subtract (half true)) (half_is false);
    shape = half_shape true;
    kind_is = refl;
    fits = (
      chain_fits true,
      chain_fits false,
      subst (λ v. Match Subtract v (chain_value nodes (chain_to n k false (get_or s k 0)))) (sym (half_is true)) (subst (Match Subtract (half true)) (sym (half_is false)) matches),
    );
    are = differences_cells;
    room =
        let one = ap (λ (v : Array). size v.shape) (half_is true) in
        let other = ap (λ (v : Array). size v.shape) (half_is false) in
        let first = ap size (half_shape true) in
        let second = ap size (half_shape false) in
        omega (arith, one, other, first, second);
  }

-- ---- the array

module _ (nodes : List Node) (a : DataArray) (k : ℕ) (upper : Bool) (is : IsArrayIn nodes a) (left : IsFramed (axes_left upper a.axes k) (coords_left upper a.axes k a.coords)) (inside : k < length a.axes) (numbers : is_truths a.kind ≡ false) where
  abbrev x : Axis
  x = get_or a.axes k no_axis

  abbrev s : List ℕ
  s = shape_over a.axes

  abbrev n : ℕ
  n = get_or (shape_over a.axes) k 0

  abbrev made_by : ℕ → Made
  made_by m = record { name = a.name; axes = axes_left upper a.axes k; kind = a.kind; masked = a.masked; attrs = without_fills a.attrs; coords = coords_left upper a.axes k a.coords; cells = neighbours a.node k m }

  in_shape : k < length (shape_over a.axes)
  in_shape = let rank = length-map a.axes (λ (x : Axis). x.size) in omega arith

  sized : get_or (shape_over a.axes) k 0 ≡ (get_or a.axes k no_axis).size
  sized = get_or-map (λ (x : Axis). x.size) a.axes k no_axis

  final_shape : set s k (get_or s k 0 - 1) ≡ shape_over (axes_left upper a.axes k)
  final_shape = ap (λ m. set s k (m - 1)) sized ∙ sym (shape_left upper x a.axes k inside is.formed.axes.distinct refl)

  all_made : AreMade nodes (neighbours a.node k n) (shape_over (axes_left upper a.axes k)) a.kind a.masked (differences (array_of (array_in nodes a)) k)
  all_made = subst (λ t. AreMade nodes (neighbours a.node k n) t a.kind a.masked (differences (array_of (array_in nodes a)) k)) final_shape (differences_made nodes a.node s a.kind a.masked is.node is.formed.cells k in_shape numbers)

  pub differ : Makes nodes (array_differences upper k (array_in nodes a)) (made_by (get_or a.axes k no_axis).size)
  differ =
      subst (λ m. Makes nodes (array_differences upper k (array_in nodes a)) (made_by m)) sized
      (array_made nodes (made_by n) (differences (array_of (array_in nodes a)) k) all_made
      (record { name = is.formed.name; axes = left.axes; coords = left.coords; distinct = left.distinct; attrs = attributes_left (array_in nodes a) is.formed; cells = all_made.are }))
