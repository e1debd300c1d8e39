-- A variable, a coordinate or an index of a name is well formed as an array.
use Rattle.xr_parts.proofs.Common.{All-map, AllByRecursion, AreCells, AreLabels, Array, Axis, Bool, Coord, DType, DataArray, Dataset, Fault, IsArrayIn, IsCell, IsContent, IsCoordinate, IsDataArray, IsDatasetIn, IsDimension, IsFrame, IsIndex, IsNode, IsNodeOf, IsThere, IsVariable, Labels, List, Node, None, Ok, Pushes, Result, Some, Source, Variable, [], among, ap, are_distinct, arith, array_in, axes_called, axis_names, bytes_eq, cond, content_as_array, coord_as_array, coordinate_of, coords_over, dataset_in, false, find, is_labelled_as, is_some, label_count, length, length-map, map, names_of, node_value, not_there, option_map, picked_of_set, pushed_array, pushed_cells, recursion_from_All, refl, shape_named, shape_over, subst, sym, true, value, values, variable_as_array, variable_in, with_cells, ℕ, ℤ, ◌++◌, ◌∙◌, ◌∷◌, ◌≡◌}
use Rattle.xr_types.specs.declared.axis.LabelList.TheVariants.{Numbers}
use Rattle.xr_defs.specs.declared.value.Content.TheVariants.{Cells}
use Rattle.xr_defs.specs.Values as of
use Rattle.xr_parts.specs.Pieces as spec
use Rattle.std.specs.Prelude.{Err, Option, if◌then◌else◌}
use Rattle.xr_defs.specs.Parts.{index_as_array, list_as_array}
use Rattle.xr_types.specs.declared.fault.Fault.TheVariants.{NotLoaded, NoVariable}
use Rattle.xr_parts.specs.Pieces.{array_over}
use Rattle.xr_parts.proofs.Words.{each_mapped, found_one}
use Rattle.xr_parts.proofs.Axes.{frame_over, named_again, names_there, own_axes, sizes_again, the_axes}

-- ---- a data variable

abbrev is_called : List ℕ → Variable → Bool
is_called name v = bytes_eq v.name name

abbrev of_called : List ℕ → of.Variable → Bool
of_called name v = bytes_eq v.name name

find_in : (nodes : List Node) (name : List ℕ) (vs : List Variable) → find (of_called name) (map (variable_in nodes) vs) ≡ option_map (variable_in nodes) (find (is_called name) vs)
find_in nodes name [] = refl
find_in nodes name (v ∷ vs) = by (bytes_eq v.name name) (find_in nodes name vs)
  where
    by : (b : Bool) → find (of_called name) (map (variable_in nodes) vs) ≡ option_map (variable_in nodes) (find (is_called name) vs)
        → cond b (Some (variable_in nodes v)) (find (of_called name) (map (variable_in nodes) vs)) ≡ option_map (variable_in nodes) (cond b (Some v) (find (is_called name) vs))
    by true e = refl
    by false e = e

module _ (nodes : List Node) (s : Dataset) (name : List ℕ) (v : Variable) (is : IsDatasetIn nodes s) (found : Some v ≡ find (λ (w : Variable). bytes_eq w.name name) s.vars) where
  var_formed : IsVariable s.axes (variable_in nodes v)
  var_formed = (found_one (λ v. IsVariable s.axes (variable_in nodes v)) (is_called name) v s.vars (each_mapped (IsVariable s.axes) (variable_in nodes) s.vars is.formed.vars) (sym found)).holds

  pub var_among : AllByRecursion (λ d. among (axis_names s.axes) d ≡ true) v.dims
  var_among = var_formed.over

  -- it stands over its node
  pub var_picked : (a : DataArray) → a ≡ array_over s v → (picked_of_set (dataset_in nodes s) name ≡ Ok (array_in nodes a)) × IsArrayIn nodes a
  unfolding picked_of_set
  var_picked a e =
      let f = is.formed in
      let frame = frame_over s.axes s.coords v.dims (record { dims = f.axes; over = f.coords; distinct = f.coords_distinct }) var_among var_formed.distinct in
      let named = named_again s.axes v.dims var_among in
      let sizes = sizes_again s.axes v.dims in
      let node = (found_one (λ (w : Variable). IsNodeOf nodes w.node (shape_named s w) w.kind) (is_called name) v s.vars (recursion_from_All (λ (w : Variable). IsNodeOf nodes w.node (shape_named s w) w.kind) s.vars is.nodes_of) (sym found)).holds in
      let here : find (of_called name) (map (variable_in nodes) s.vars) ≡ Some (variable_in nodes v) = find_in nodes name s.vars ∙ ap (option_map (variable_in nodes)) (sym found) in (
        ap (λ o. elim o as (λ o. Result of.DataArray Fault) [ Some w ↦ Ok (variable_as_array (dataset_in nodes s) w) | None ↦ elim (coordinate_of s.axes s.coords name) [ None ↦ not_there (dataset_in nodes s) name | Some r ↦ r ] ]) here
            ∙ ap (λ ns. Ok (over ns)) (sym named) ∙ ap (λ b. Ok (array_in nodes b)) (sym e),
        subst (IsArrayIn nodes) (sym e)
            (record {
              node = subst (λ t. IsNodeOf nodes v.node t v.kind) (sym sizes) node;
              formed = record {
                name = var_formed.name;
                axes = frame.dims;
                coords = subst (λ ns. AllByRecursion (IsCoordinate (axes_called s.axes v.dims)) (coords_over ns s.coords)) (sym named) frame.over;
                distinct = subst (λ ns. are_distinct (axis_names (axes_called s.axes v.dims) ++ names_of (coords_over ns s.coords)) ≡ true) (sym named) frame.distinct;
                attrs = var_formed.attrs;
                cells = subst (λ t. AreCells t v.kind v.masked (value nodes v.node).cells) (sym sizes) var_formed.cells;
              };
            }),
      )
    where
      over : List (List ℕ) → of.DataArray
      over ns = record { name = Some v.name; axes = axes_called s.axes v.dims; kind = v.kind; masked = v.masked; attrs = v.attrs; coords = coords_over ns s.coords; cells = (value nodes v.node).cells }

-- where no variable has the name, the rest tells
pub not_called : (nodes : List Node) (s : Dataset) (name : List ℕ) → None ≡ find (λ (w : Variable). bytes_eq w.name name) s.vars → picked_of_set (dataset_in nodes s) name ≡ spec.other_part s.axes s.coords s.skipped name
unfolding picked_of_set
not_called nodes s name none =
    ap (λ o. elim o as (λ o. Result of.DataArray Fault) [ Some w ↦ Ok (variable_as_array (dataset_in nodes s) w) | None ↦ elim (coordinate_of s.axes s.coords name) [ None ↦ not_there (dataset_in nodes s) name | Some r ↦ r ] ])
    (find_in nodes name s.vars ∙ ap (option_map (variable_in nodes)) (sym none))

-- ---- cells at hand

module _ (old new : List Node) (v : Array) (place : ℕ) (pushes : Pushes old new (Source v) place) where
  source_value : node_value (values old) (Source v) ≡ v
  unfolding node_value
  source_value = refl

  pub sourced : (a : DataArray) → a.node ≡ place → v.shape ≡ shape_over a.axes → v.kind ≡ a.kind → IsDataArray (with_cells a v.cells) → (array_in new a ≡ with_cells a v.cells) × IsArrayIn new a
  sourced a at shape kind formed = (pushed_cells old new (Source v) place v source_value pushes a at, pushed_array old new (Source v) place v source_value pushes a at shape kind formed)

-- ---- a coordinate

module _ (axes : List Axis) (coords : List Coord) (frame : IsFrame axes coords) where
  pub frame_there : (xs : List Axis) → AllByRecursion (IsThere axes) xs → are_distinct (axis_names xs) ≡ true → IsFrame xs (coords_over (axis_names xs) coords)
  frame_there xs there distinct = subst (λ ys. IsFrame ys (coords_over (axis_names xs) coords)) (the_axes axes xs there) (frame_over axes coords (axis_names xs) frame (names_there axes xs there) distinct)

  coord_found : (name : List ℕ) (c : Coord) → Some c ≡ find (λ (d : Coord). bytes_eq d.name name) coords → IsCoordinate axes c
  coord_found name c found = (found_one (IsCoordinate axes) (λ (d : Coord). bytes_eq d.name name) c coords frame.over (sym found)).holds

  -- it is what the name means
  pub coord_means : (skipped : List (List ℕ)) (name : List ℕ) (c d : Coord) → Some c ≡ find (λ (d : Coord). bytes_eq d.name name) coords → d ≡ c → (spec.other_part axes coords skipped name ≡ coord_as_array coords d) × IsCoordinate axes d
  coord_means skipped name c d found same =
      subst (λ d. (spec.other_part axes coords skipped name ≡ coord_as_array coords d) × IsCoordinate axes d) (sym same) (ap means (sym found), coord_found name c found)
    where
      means : Option Coord → Result of.DataArray Fault
      means o =
          elim (elim o as (λ o. Option (Result of.DataArray Fault)) [ Some c ↦ Some (coord_as_array coords c) | None ↦ elim (find (is_labelled_as name) axes) [ None ↦ None | Some x ↦ Some (index_as_array coords x) ] ]) [
            | None ↦ Err (if among skipped name then NotLoaded name else NoVariable name)
            | Some r ↦ r
          ]

  pub index_there : (name : List ℕ) (x : Axis) → Some x ≡ find (is_labelled_as name) axes → IsThere axes x
  index_there name x found = (found_one (IsThere axes) (is_labelled_as name) x axes (own_axes axes frame.dims.distinct) (sym found)).holds

  pub index_formed : (name : List ℕ) (x : Axis) → Some x ≡ find (is_labelled_as name) axes → IsDimension x
  index_formed name x found = (found_one IsDimension (is_labelled_as name) x axes frame.dims.each (sym found)).holds

  pub cells_made : (old new : List Node) (c : Coord) (a : Array) (masked : Bool) (place : ℕ) (own : List Axis) (kind : DType) (cs : List Coord)
      → IsCoordinate axes c → c.content ≡ Cells a masked → Pushes old new (Source a) place → kind ≡ a.kind → own ≡ c.axes → cs ≡ coords_over (axis_names own) coords
      → (coord_as_array coords c ≡ Ok (array_in new (record { name = Some c.name; axes = c.axes; kind = kind; masked = masked; attrs = c.attrs; coords = cs; node = place }))) × IsArrayIn new (record { name = Some c.name; axes = c.axes; kind = kind; masked = masked; attrs = c.attrs; coords = cs; node = place })
  cells_made old new c a masked place own kind cs is e pushes ek eo ec =
      let over = frame_there c.axes is.over is.distinct in
      let content : IsContent (shape_over c.axes) (Cells a masked) = subst (IsContent (shape_over c.axes)) e is.content in
      let b : DataArray = record { name = Some c.name; axes = c.axes; kind = a.kind; masked = masked; attrs = c.attrs; coords = coords_over (axis_names c.axes) coords; node = place } in
      let same : coords_over (axis_names c.axes) coords ≡ cs = sym (ec ∙ ap (λ ys. coords_over (axis_names ys) coords) eo) in
      let built : b ≡ record { name = Some c.name; axes = c.axes; kind = kind; masked = masked; attrs = c.attrs; coords = cs; node = place } = cc in
      let both = sourced old new a place pushes b refl content.0 refl (record { name = is.name; axes = over.dims; coords = over.over; distinct = over.distinct; attrs = is.attrs; cells = content.1 }) in
      subst (λ d. (coord_as_array coords c ≡ Ok (array_in new d)) × IsArrayIn new d) built (ap (content_as_array coords c) e ∙ ap Ok (sym both.0), both.1)

-- the plan takes its cells
pub cells_fit : (done : List Array) (axes : List Axis) (c : Coord) (a : Array) (masked : Bool) → IsCoordinate axes c → c.content ≡ Cells a masked → IsNode done (Source a)
unfolding node_value
cells_fit done axes c a masked is e =
    let content : IsContent (shape_over c.axes) (Cells a masked) = subst (IsContent (shape_over c.axes)) e is.content in
    let are : AreCells a.shape a.kind masked a.cells = subst (λ s. AreCells s a.kind masked a.cells) (sym content.0) content.1 in
    let few = are.few in
    record { fits = record { whole = are.whole; range = are.range }; small = omega arith; low_rank = are.low_rank }

-- ---- the labels of an axis

label_coordinate : (axes : List Axis) (x : Axis) (l : Labels) (kind : DType) (ns : List ℤ) (c : Coord) → IsThere axes x → IsDimension x → IsIndex x.size l → l.list ≡ Numbers kind ns → c ≡ spec.label_coord x l.attrs kind ns → IsCoordinate axes c
label_coordinate axes x l kind ns c there is index numbers e =
    let few = is.few in
    let same : length (map Some ns) ≡ length ns = length-map ns Some in
    let range : AreLabels (Numbers kind ns) = subst AreLabels numbers index.range in
    let long : length ns ≡ x.size = sym (ap label_count numbers) ∙ index.whole in
    subst (IsCoordinate axes) (sym e)
    (record {
      name = is.name;
      over = (there, tt);
      distinct = refl;
      attrs = index.attrs;
      content = (
        ap (λ n. n ∷ []) long,
        record { whole = omega (arith, long, same); range = All-map (IsCell kind) Some ns range.1; seen = λ plain. All-map (λ c. is_some c ≡ true) Some ns (λ i d lt. refl); low_rank = omega arith; few = omega (arith, few) },
      );
    })

pub labels_answer : (axes : List Axis) (coords : List Coord) (x : Axis) (l : Labels) (kind : DType) (ns : List ℤ) (c : Coord) → IsThere axes x → IsDimension x → IsIndex x.size l → l.list ≡ Numbers kind ns → c ≡ spec.label_coord x l.attrs kind ns
    → (list_as_array coords x l l.list ≡ coord_as_array coords c) × IsCoordinate axes c
labels_answer axes coords x l kind ns c there is index numbers e = (ap (list_as_array coords x l) numbers ∙ ap (coord_as_array coords) (sym e), label_coordinate axes x l kind ns c there is index numbers e)
