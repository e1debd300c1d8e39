-- Axes, and coordinates over them, with fewer positions of one axis, are as they have to be.
use Rattle.xr_moving.proofs.Common.{AllByRecursion, Axis, Bool, Change, Coord, IsFramed, None, [], ap, are_distinct, arith, axes_left, axis_called, axis_names, bytes_eq, changed_coord, coord_names, coords_left, false, get_or, keeping, length, length-map, list_all, list_all-map, map, mul-le, names_kept, names_of, new_axis, no_axis, own_axes, refl, same_text, shape_over, size, subst, suc, sym, true, zero, ℕ, ◌&&◌, ◌++◌, ◌-◌, ◌<◌, ◌∙◌, ◌∷◌, ◌≡◌, ◌≤◌}
use Rattle.std.proofs.Common.{List}
use Rattle.std.specs.Prelude.{nat_le}
use Rattle.std.proofs.lemmas.Bool.{and_from, le-leb}
use Rattle.std.proofs.lemmas.List.{get_or_default}
use Rattle.xr_defs.specs.Limits.{most_cells}
use Rattle.xr_defs.specs.Selecting.{are_within, is_within}
use Rattle.xr_defs.specs.WellFormed.{IsContent, IsCoordinate, IsDimension}
use Rattle.xr_defs.specs.declared.value.Content.{Content}
use Rattle.xr_defs.specs.declared.value.Content.TheVariants as contents
use Rattle.xr_parts.specs.Frames.{IsThere}
use Rattle.xr_parts.proofs.Axes.{called_holds}
use Rattle.xr_parts.proofs.Words.{all_hold, each_weaker}
use Rattle.xr_changing.specs.Steps.{AreIndexed, CoordFits}
use Rattle.xr_changing.proofs.Formed.{coords_formed, new_dims}
use Rattle.xr_moving.proofs.Kept.{changed_if, changed_size}

called_at : (axes xs : List Axis) (k : ℕ) → AllByRecursion (IsThere axes) xs → k < length xs → axis_called axes (get_or xs k no_axis).name ≡ get_or xs k no_axis
called_at axes [] k all lt = absurd (omega arith)
called_at axes (x ∷ xs) zero all lt = all.0.1
called_at axes (x ∷ xs) (suc k) all lt = called_at axes xs k all.1 (omega arith)

pub its_name : (axes : List Axis) (k : ℕ) → k < length axes → are_distinct (axis_names axes) ≡ true → axis_called axes (get_or axes k no_axis).name ≡ get_or axes k no_axis
its_name axes k lt d = called_at axes axes k (own_axes axes d) lt

-- the axis of an index
pub axis_here : (axes held : List Axis) (x : Axis) (k : ℕ) → k < length axes → held ≡ axes → x ≡ get_or held k x → x ≡ get_or axes k no_axis
axis_here axes held x k lt same at = at ∙ ap (λ xs. get_or xs k x) same ∙ get_or_default axes k x no_axis lt

content_small : (shape : List ℕ) (content : Content) → IsContent shape content → (length shape ≤ 16) × (size shape ≤ 33554432)
content_small shape (contents.Cells a masked) is = (is.1.low_rank, is.1.few)
content_small shape (contents.Text text) is = subst (λ s. (length s ≤ 16) × (size s ≤ 33554432)) (sym is) (omega arith, omega arith)
content_small shape (contents.Time coding t) is = subst (λ s. (length s ≤ 16) × (size s ≤ 33554432)) (sym is.0) (omega arith, omega arith)

module _ (axes : List Axis) (coords : List Coord) (k : ℕ) (upper : Bool) (is : IsFramed axes coords) (lt : k < length axes) where
  abbrev x : Axis
  x = get_or axes k no_axis

  abbrev changes : List Change
  changes = keeping upper (get_or axes k no_axis)

  abbrev new : Axis → Axis
  new = new_axis (keeping upper (get_or axes k no_axis))

  smaller : (y : Axis) → IsThere axes y → (new y).size ≤ y.size
  smaller y there = by (bytes_eq x.name y.name) refl
    where
      by : (b : Bool) → bytes_eq x.name y.name ≡ b → (changed_if upper x y b).size ≤ y.size
      by true e =
          let same : x ≡ y = sym (its_name axes k lt is.axes.distinct) ∙ ap (axis_called axes) (same_text x.name y.name e) ∙ there.1 in
          let less : x.size - 1 ≤ x.size = omega arith in
          let long = changed_size upper x y in
          let size = ap (λ (z : Axis). z.size) same in
          omega arith
      by false e = omega arith

  abbrev IsLess : Axis → Type 0
  IsLess y = ((new y).size ≤ y.size) × (y.size ≤ 33554432)

  less : (ys : List Axis) → AllByRecursion (IsThere axes) ys → AllByRecursion IsLess ys
  less ys = each_weaker (IsThere axes) IsLess ys (λ y there. (smaller y there, subst (λ (z : Axis). z.size ≤ 33554432) there.1 (called_holds IsDimension y.name axes is.axes.each there.0).0.few))

  short : (ys : List Axis) → AllByRecursion IsLess ys → list_all (λ n. nat_le n most_cells) (shape_over (map new ys)) ≡ true
  short [] all = refl
  short (y ∷ ys) all = let one = all.0 in and_from (nat_le (new y).size most_cells) (list_all (λ n. nat_le n most_cells) (shape_over (map new ys))) (le-leb (new y).size most_cells (omega arith)) (short ys all.1)

  fewer : (ys : List Axis) → AllByRecursion IsLess ys → size (shape_over (map new ys)) ≤ size (shape_over ys)
  fewer [] all = omega arith
  fewer (y ∷ ys) all = mul-le (new y).size (size (shape_over (map new ys))) y.size (size (shape_over ys)) all.0.0 (fewer ys all.1)

  coord_within : (c : Coord) → IsCoordinate axes c → is_within (shape_over (map new c.axes)) ≡ true
  coord_within c one =
      let all = less c.axes one.over in
      let small = content_small (shape_over c.axes) c.content one.content in
      let points = fewer c.axes all in
      let rank = length-map c.axes (λ (x : Axis). x.size) in
      let again = length-map c.axes new in
      let long = length-map (map new c.axes) (λ (x : Axis). x.size) in
      let s : List ℕ = shape_over (map new c.axes) in
      and_from (nat_le (length s) 16) (list_all (λ n. nat_le n most_cells) s && nat_le (size s) most_cells) (le-leb (length s) 16 (omega arith))
      (and_from (list_all (λ n. nat_le n most_cells) s) (nat_le (size s) most_cells) (short c.axes all) (le-leb (size s) most_cells (omega arith)))

  coords_within : are_within (map (changed_coord changes None) coords) ≡ true
  coords_within = list_all-map (λ (c : Coord). is_within (shape_over c.axes)) (changed_coord changes None) coords ∙ all_hold (IsCoordinate axes) (λ (c : Coord). is_within (shape_over (map new c.axes))) coord_within coords is.coords

  pub frame_left : AreIndexed (keeping upper (get_or axes k no_axis)) axes → AllByRecursion (CoordFits (keeping upper (get_or axes k no_axis)) None) coords → IsFramed (axes_left upper axes k) (coords_left upper axes k coords)
  frame_left indexed fits = record {
    axes = record { each = new_dims changes axes is.axes.each indexed (short axes (less axes (own_axes axes is.axes.distinct))); distinct = ap are_distinct (names_kept changes axes) ∙ is.axes.distinct };
    coords = coords_formed changes None axes coords is.coords fits coords_within;
    distinct = ap (λ ns. are_distinct (ns ++ names_of (map (changed_coord changes None) coords))) (names_kept changes axes) ∙ ap (λ ns. are_distinct (axis_names axes ++ ns)) (coord_names changes None coords) ∙ is.distinct;
  }
