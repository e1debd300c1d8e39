-- Arrays whose cells are written out stand in the plan.
use Rattle.xr_building.proofs.Common.{All, AllByRecursion, Axis, DataArray, Frame, IsArrayIn, IsCell, IsDataArray, IsDimension, IsFilled, IsNode, IsOpenAxis, List, Node, Ok, Option, Pushes, Source, [], and_parts, are_within, arith, array_in, check_array, is_within, leb-true, length, limited, list_all, most_cells, most_dimensions, nat_le, node_value, refl, shape_over, size, true, unless, values, with_cells, with_written, ℕ, ℤ, ◌&&◌, ◌∷◌, ◌≡◌, ◌≤◌, CellArray as Array, Header}
use Rattle.xr_defs.specs.Room.{AddsForAny}
use Rattle.xr_values.proofs.Grown.{pushed_cells, pushed_array}
use Rattle.xr_values.proofs.Rooms.{array_added}

within_parts : (shape : List ℕ) → is_within shape ≡ true → (length shape ≤ most_dimensions) × (list_all (λ n. nat_le n most_cells) shape ≡ true) × (size shape ≤ most_cells)
within_parts shape within =
    let p = and_parts (nat_le (length shape) most_dimensions) (list_all (λ n. nat_le n most_cells) shape && nat_le (size shape) most_cells) within in
    let q = and_parts (list_all (λ n. nat_le n most_cells) shape) (nat_le (size shape) most_cells) p.1 in
    (leb-true (length shape) most_dimensions p.0, q.0, leb-true (size shape) most_cells q.1)

short_axes : (axes : List Axis) → list_all (λ n. nat_le n most_cells) (shape_over axes) ≡ true → AllByRecursion IsOpenAxis axes → AllByRecursion IsDimension axes
short_axes [] short all = all
short_axes (x ∷ axes) short all =
    let p = and_parts (nat_le x.size most_cells) (list_all (λ n. nat_le n most_cells) (shape_over axes)) short in
    (record { name = all.0.name; few = leb-true x.size most_cells p.0; index = all.0.index }, short_axes axes p.1 all.1)

abbrev pub written : Header → Frame → ℕ → DataArray
written h f n = record { name = h.name; axes = f.axes; kind = h.kind; masked = h.masked; attrs = []; coords = f.coords; node = n }

module _ (h : Header) (f : Frame) (cells : List (Option ℤ)) (is : IsFilled (with_written h f cells)) (range : All (IsCell h.kind) cells) (within : (is_within (shape_over f.axes) && are_within f.coords) ≡ true) where
  inside : (length (shape_over f.axes) ≤ most_dimensions) × (list_all (λ n. nat_le n most_cells) (shape_over f.axes) ≡ true) × (size (shape_over f.axes) ≤ most_cells)
  inside = within_parts (shape_over f.axes) (and_parts (is_within (shape_over f.axes)) (are_within f.coords) within).0

  abbrev value : Array
  value = record { kind = h.kind; shape = shape_over f.axes; cells = cells }

  pub fits : (old : List Node) → IsNode (values old) (Source value)
  unfolding node_value
  fits old = record { fits = record { whole = is.whole; range = range }; small = (let few = inside.2 in omega arith); low_rank = inside.0 }

  formed : (n : ℕ) → IsDataArray (with_cells (written h f n) cells)
  formed n = record {
    name = is.name;
    axes = record { each = short_axes f.axes inside.1 is.frame.each; distinct = is.frame.axes_distinct };
    coords = is.frame.over;
    distinct = is.frame.distinct;
    attrs = record { each = tt; distinct = refl };
    cells = record { whole = is.whole; range = range; seen = is.seen; low_rank = inside.0; few = inside.2 };
  }

  pub stands : (old new : List Node) (n : ℕ) → Pushes old new (Source value) n → (limited (with_written h f cells) ≡ Ok (array_in new (written h f n))) × IsArrayIn new (written h f n)
  unfolding node_value check_array unless
  stands old new n pushes =
      let same = pushed_cells old new (Source value) n value refl pushes (written h f n) refl in
      (rw (same, within) refl, pushed_array old new (Source value) n value refl pushes (written h f n) refl refl refl (formed n))

-- one node more
pub node_added : (old new : List Node) (node : Node) (b : DataArray) → Pushes old new node b.node → IsArrayIn new b → AddsForAny old new (array_in new b)
node_added old new node b pushes is = array_added old new node b.node (array_in new b) pushes is.node.has_shape is.formed.axes.distinct
