-- An array with the axes and the coordinates that a call leaves stands in the plan.
use Rattle.xr_building.proofs.Common.{AllByRecursion, AreCells, AreDimensions, Args, Axis, Bool, Coord, DataArray, Frame, IsArrayIn, IsCoordinate, IsDimension, IsFrame, IsNodeOf, IsOpenAxis, List, Node, Ok, Stays, [], ap, are_distinct, array_assigned, array_in, axis_names, each_weaker, frame_in, over, shape_over, subst, sym, true, ℕ, ◌++◌, ◌>>=◌, ◌∷◌, ◌≡◌, ◌≤◌, coord_names as names_of}

-- however long the axes may be
pub opened : (axes : List Axis) (coords : List Coord) → AreDimensions axes → AllByRecursion (IsCoordinate axes) coords → are_distinct (axis_names axes ++ names_of coords) ≡ true → IsFrame axes coords
opened axes coords dims over distinct =
    record { each = each_weaker IsDimension IsOpenAxis axes (λ x is. record { name = is.name; index = is.index }) dims.each; axes_distinct = dims.distinct; over = over; distinct = distinct }

pub dimensions : (xs ys : List Axis) → shape_over xs ≡ shape_over ys → AllByRecursion IsDimension ys → AllByRecursion IsOpenAxis xs → AllByRecursion IsDimension xs
dimensions [] ys same few each = tt
dimensions (x ∷ xs) [] same few each = absurd cc
dimensions (x ∷ xs) (y ∷ ys) same few each =
    let here : y.size ≡ x.size = cc in
    let rest : shape_over xs ≡ shape_over ys = cc in
    (record { name = each.0.name; few = subst (λ n. n ≤ 33554432) here few.0.few; index = each.0.index }, dimensions xs ys rest few.1 each.1)

module _ (declines : ℕ → Bool) (nodes : List Node) (a : DataArray) (args : Args) where
  abbrev start : Frame
  start = over a.axes a.coords

  abbrev reframed : Frame → DataArray
  reframed f = record a { axes = f.axes; coords = f.coords }

  pub array_told : (f : Frame) → frame_in declines nodes [] start args ≡ Ok f → (IsFrame a.axes a.coords → Stays [] start f) → IsArrayIn nodes a → (array_assigned declines nodes a args ≡ Ok (array_in nodes (reframed f))) × IsArrayIn nodes (reframed f)
  unfolding array_assigned
  array_told f told stays is =
      let left = stays (opened a.axes a.coords is.formed.axes is.formed.coords is.formed.distinct) in (
        ap (λ r. r >>= λ f. Ok (record (array_in nodes a) { axes = f.axes; coords = f.coords })) told,
        record {
          node = subst (λ s. IsNodeOf nodes a.node s a.kind) (sym left.sizes) is.node;
          formed = record {
            name = is.formed.name;
            axes = record { each = dimensions f.axes a.axes left.sizes is.formed.axes.each left.frame.each; distinct = left.frame.axes_distinct };
            coords = left.frame.over;
            distinct = left.frame.distinct;
            attrs = is.formed.attrs;
            cells = subst (λ s. AreCells s a.kind a.masked (array_in nodes a).cells) (sym left.sizes) is.formed.cells;
          };
        },
      )
