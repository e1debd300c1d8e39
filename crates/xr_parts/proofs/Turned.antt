-- The node that reorders the axes has the array with its dimensions in that order.
use Rattle.xr_parts.proofs.Common.{AllByRecursion, AreCells, Array, Axis, Bool, Coord, DType, DataArray, IsArrangement, IsArrayIn, IsCell, IsCoordinate, IsDataArray, IsFrame, IsMovedTo, IsNode, IsOrder, IsPoint, IsThere, List, Node, None, Option, Pushes, Reorder, [], all_among, among, and_from, ap, are_distinct, arith, array_in, array_of, array_value, at, axes_called, axis_names, cond-true, coords_over, get_or, in_order, is_some, length, length-map, map, moved, no_axis, node_value, node_valued, place, pushed_array, pushed_cells, refl, reordered, shape_over, size, subst, suc, sym, true, values, zero, ℕ, ℤ, ◌<◌, ◌^◌, ◌∙◌, ◌∷◌, ◌≡◌, ◌≤◌}
use Rattle.xr_defs.specs.Values as of
use Rattle.plan_core.specs.Strides.{moved_sizes}
use Rattle.plan_core.proofs.Moves.{moving_inside}
use Rattle.plan_core.proofs.Tabs.{All-tab, place_below, tab-length}
use Rattle.xr_parts.proofs.Words.{AreAmong}
use Rattle.xr_parts.proofs.Axes.{frame_over, sizes_again}
use Rattle.xr_parts.proofs.Permuted.{all_named, called_names, names_among, names_differ, named_at, order_from}

size_at : (axes : List Axis) (k : ℕ) → get_or (shape_over axes) k 0 ≡ (get_or axes k no_axis).size
size_at [] k = refl
size_at (x ∷ xs) zero = refl
size_at (x ∷ xs) (suc k) = size_at xs k

moved_shape : (axes : List Axis) (order : List ℕ) → moved_sizes order (shape_over axes) ≡ shape_over (map (λ k. get_or axes k no_axis) order)
moved_shape axes [] = refl
moved_shape axes (k ∷ ks) = ap (λ n. n ∷ moved_sizes ks (shape_over axes)) (size_at axes k) ∙ ap (λ t. (get_or axes k no_axis).size ∷ t) (moved_shape axes ks)

-- ---- cells at other points

cells_moved : (kind : DType) (masked : Bool) (shape : List ℕ) (cells : List (Option ℤ)) (order : List ℕ) → IsOrder (length shape) order → size (moved_sizes order shape) ≡ size shape → AreCells shape kind masked cells
    → AreCells (moved_sizes order shape) kind masked (reordered (record { kind = kind; shape = shape; cells = cells }) order).cells
cells_moved kind masked shape cells order is same are =
    record {
      whole = tab-length (moved_sizes order shape) shown;
      range = All-tab (IsCell kind) (moved_sizes order shape) shown (λ p here. are.range (place shape (moved order p)) None (inside p here));
      seen = λ plain. All-tab (λ c. is_some c ≡ true) (moved_sizes order shape) shown (λ p here. are.seen plain (place shape (moved order p)) None (inside p here));
      low_rank = let long = length-map order (λ k. get_or shape k 0) in let rank = is.0 in let low = are.low_rank in omega arith;
      few = let few = are.few in omega (arith, same, few);
    }
  where
    shown : List ℕ → Option ℤ
    shown p = at (record { kind = kind; shape = shape; cells = cells }) (moved order p)

    inside : (p : List ℕ) → IsPoint (moved_sizes order shape) p → place shape (moved order p) < length cells
    inside p here = let below = place_below shape (moved order p) (moving_inside shape order is p here) in let whole = are.whole in omega (arith, below, whole)

-- ---- coordinates stay

all_over : (axes : List Axis) (dims : List (List ℕ)) (xs : List Axis) → ((name : List ℕ) → among (axis_names axes) name ≡ true → among dims name ≡ true) → AllByRecursion (IsThere axes) xs → all_among dims (axis_names xs) ≡ true
all_over axes dims [] all there = refl
all_over axes dims (x ∷ xs) all there = and_from (among dims x.name) (all_among dims (axis_names xs)) (all x.name there.0.0) (all_over axes dims xs all there.1)

coords_stay : (axes : List Axis) (dims : List (List ℕ)) (coords : List Coord) → ((name : List ℕ) → among (axis_names axes) name ≡ true → among dims name ≡ true) → AllByRecursion (IsCoordinate axes) coords → coords_over dims coords ≡ coords
coords_stay axes dims [] all each = refl
coords_stay axes dims (c ∷ cs) all each =
    cond-true (all_among dims (axis_names c.axes)) (c ∷ coords_over dims cs) (coords_over dims cs) (all_over axes dims c.axes all each.0.over) ∙ ap (λ ds. c ∷ ds) (coords_stay axes dims cs all each.1)

-- ---- the array

module _ (a : of.DataArray) (order : List ℕ) (is : IsDataArray a) (fits : IsArrangement (length a.axes) order) where
  long : length (map (named_at a.axes) order) ≡ length a.axes
  long = length-map order (named_at a.axes) ∙ fits.long

  chosen : map (λ k. get_or a.axes k no_axis) order ≡ axes_called a.axes (map (named_at a.axes) order)
  chosen = called_names a.axes is.axes.distinct order fits.below

  inside : AreAmong (axis_names a.axes) (map (named_at a.axes) order)
  inside = names_among a.axes is.axes.distinct order fits.below

  differ : are_distinct (map (named_at a.axes) order) ≡ true
  differ = names_differ a.axes is.axes.distinct order fits.below fits.once

  pub ordered : IsOrder (length (shape_over a.axes)) order
  ordered = subst (λ n. IsOrder n order) (sym (length-map a.axes (λ (x : Axis). x.size))) (order_from a.axes is.axes.distinct order fits)

  pub moved_size : size (moved_sizes order (shape_over a.axes)) ≡ size (shape_over a.axes)
  moved_size = ap size (moved_shape a.axes order) ∙ ap (λ xs. size (shape_over xs)) chosen ∙ ap size (sizes_again a.axes (map (named_at a.axes) order)) ∙ (all_named (map (named_at a.axes) order) a.axes inside differ long).0

  frame : IsFrame (map (λ k. get_or a.axes k no_axis) order) a.coords
  frame =
      let whole = frame_over a.axes a.coords (map (named_at a.axes) order) (record { dims = is.axes; over = is.coords; distinct = is.distinct }) inside differ in
      let stay = coords_stay a.axes (map (named_at a.axes) order) a.coords (all_named (map (named_at a.axes) order) a.axes inside differ long).1 is.coords in
      subst (λ xs. IsFrame xs a.coords) (sym chosen) (subst (IsFrame (axes_called a.axes (map (named_at a.axes) order))) stay whole)

  pub turned : IsDataArray (in_order a order)
  turned = record {
    name = is.name;
    axes = frame.dims;
    coords = frame.over;
    distinct = frame.distinct;
    attrs = is.attrs;
    cells = subst (λ s. AreCells s a.kind a.masked (reordered (array_of a) order).cells) (moved_shape a.axes order) (cells_moved a.kind a.masked (shape_over a.axes) a.cells order ordered moved_size is.cells);
  }

-- ---- the node

module _ (old : List Node) (a : DataArray) (order : List ℕ) (is : IsArrayIn old a) (fits : IsArrangement (length a.axes) order) where
  turned_value : node_value (values old) (Reorder a.node order) ≡ reordered (array_of (array_in old a)) order
  unfolding node_value
  turned_value = ap (λ v. reordered v order) (array_value old a is)

  -- the plan takes it
  pub turned_fits : IsNode (values old) (Reorder a.node order)
  turned_fits = record {
    fits = (node_valued old a.node (shape_over a.axes) a.kind is.node, subst (λ s. IsOrder (length s) order) (sym is.node.has_shape) (ordered (array_in old a) order is.formed fits));
    small = subst (λ (v : Array). size v.shape ≤ 2 ^ 50) (sym turned_value) (let few = is.formed.cells.few in let same = moved_size (array_in old a) order is.formed fits in omega (arith, few, same));
    low_rank = subst (λ (v : Array). length v.shape ≤ 16) (sym turned_value)
        (let long = length-map order (λ k. get_or (shape_over a.axes) k 0) in let each = (ordered (array_in old a) order is.formed fits).0 in let low = is.formed.cells.low_rank in omega (arith, long, each, low));
  }

  -- and an array over it is the one in that order
  pub turned_array : (new : List Node) (place : ℕ) (own : DataArray) (axes whole : List Axis) (sorted : List ℕ) → own ≡ a → whole ≡ a.axes → axes ≡ map (λ k. get_or whole k no_axis) order → sorted ≡ order
      → Pushes old new (Reorder a.node sorted) place → IsMovedTo new order (array_in old a) (record own { axes = axes; node = place })
  turned_array new place own axes whole sorted same is_whole is_axes is_sorted pushes =
      let v = reordered (array_of (array_in old a)) order in
      let made : DataArray = record a { axes = map (λ k. get_or a.axes k no_axis) order; node = place } in
      let at : axes ≡ map (λ k. get_or a.axes k no_axis) order = is_axes ∙ ap (λ xs. map (λ k. get_or xs k no_axis) order) is_whole in
      let built : made ≡ record own { axes = axes; node = place } = ap (λ xs. record a { axes = xs; node = place }) (sym at) ∙ ap (λ (b : DataArray). record b { axes = axes; node = place }) (sym same) in
      let there : Pushes old new (Reorder a.node order) place = subst (λ o. Pushes old new (Reorder a.node o) place) is_sorted pushes in
      subst (IsMovedTo new order (array_in old a)) built (
        pushed_cells old new (Reorder a.node order) place v turned_value there made refl,
        pushed_array old new (Reorder a.node order) place v turned_value there made refl (moved_shape a.axes order) refl (turned (array_in old a) order is.formed fits),
      )
