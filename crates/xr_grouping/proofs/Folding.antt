-- What is made of an array of which one dimension is grouped is its reduction by lists.
use Rattle.std.proofs.Common.{◌≡◌, ◌<◌, ◌≤◌, ℕ, ℤ, Bool, true, false, List, [], ◌∷◌, length, get_or, Option, None, is_some, All, sym, ap, subst, ◌∙◌, arith}
use Rattle.std.specs.Prelude.{slice_set}
use Rattle.std.proofs.lemmas.List.{length-map}
use Rattle.xr_types.specs.Names.{are_distinct, axis_names, shape_over}
use Rattle.xr_types.specs.Points.{size, IsPoint}
use Rattle.xr_types.specs.declared.axis.Axis.{Axis}
use Rattle.xr_types.specs.declared.operation.FoldKind.{FoldKind}
use Rattle.xr_arrays.specs.declared.node.Feed.{Feed}
use Rattle.xr_arrays.specs.declared.node.Node.{Node}
use Rattle.xr_arrays.specs.Arrays.{Array}
use Rattle.xr_arrays.specs.Folds.{fold_of, folded_kind}
use Rattle.xr_arrays.specs.Nodes.{folded, kept, most_axes, most_node_cells, value, AreFed}
use Rattle.xr_defs.specs.Values as of
use Rattle.xr_defs.specs.Values.{array_of, without_fills}
use Rattle.xr_defs.specs.WellFormed.{AreCells, IsDataArray}
use Rattle.xr_defs.proofs.Spans.{points_above}
use Rattle.xr_values.specs.declared.data_array.DataArray.{DataArray}
use Rattle.xr_values.specs.Stands.{array_in, IsArrayIn}
use Rattle.xr_values.proofs.Grown.{array_value}
use Rattle.xr_formulas.specs.declared.chain.Step.TheVariants as step
use Rattle.xr_formulas.specs.declared.made.Made.{Made}
use Rattle.xr_formulas.specs.Chains.{StepFits}
use Rattle.xr_formulas.specs.Mades.{made_in, IsMade}
use Rattle.xr_operations.specs.Reductions.{masked_after}
use Rattle.xr_groups.specs.declared.change.Change.{Change}
use Rattle.xr_groups.specs.declared.change.Least.TheVariants.{Never}
use Rattle.xr_groups.specs.Listed.{axes_by, axis_by, coords_by, feeds_by}
use Rattle.xr_groups.specs.Methods.{array_listed, of_groups}
use Rattle.xr_parts.specs.Frames.{IsFrame}
use Rattle.xr_reducing.proofs.Reduced.{attrs_left}
use Rattle.xr_grouping.specs.Mades.{folded_made}
use Rattle.xr_grouping.proofs.Framed.{frame_by, shape_by}
use Rattle.xr_grouping.proofs.Listing.{cells_listed, found, given_there, listed_place}
use Rattle.xr_grouping.proofs.Named.{IsOne}
use Rattle.xr_grouping.proofs.OneList.{fed_one, feeds_length, folded_one, kept_one, place, place_inside}

module _ (nodes : List Node) (k : FoldKind) (c : Change) (a : DataArray) (is : IsArrayIn nodes a) (method : of_groups k ≡ true) (change : IsOne a.axes a.coords c)
    (few : size (shape_over (axes_by (c ∷ []) a.axes)) ≤ 33554432) where
  abbrev dims : List (List ℕ)
  dims = axis_names a.axes

  abbrev before : List ℕ
  before = shape_over a.axes

  abbrev after : List Axis
  after = axes_by (c ∷ []) a.axes

  abbrev feeds : List Feed
  feeds = feeds_by (c ∷ []) dims

  abbrev own : Array
  own = array_of (array_in nodes a)

  abbrev masked : Bool
  masked = masked_after k a.masked

  pub distinct : are_distinct dims ≡ true
  distinct = is.formed.axes.distinct

  names_long : length dims ≡ length a.axes
  names_long = length-map a.axes (λ (x : Axis). x.name)

  sizes_long : length before ≡ length a.axes
  sizes_long = length-map a.axes (λ (x : Axis). x.size)

  pub long : length dims ≡ length before
  long = names_long ∙ sym sizes_long

  pub inside : place c dims < length before
  inside = let here = place_inside c dims change.has in omega (arith, here, long)

  pub shaped : kept feeds before ≡ slice_set before (place c dims) (length c.lists)
  shaped = kept_one c dims before long change.has distinct

  pub to : kept feeds before ≡ shape_over after
  to = shaped ∙ ap (slice_set before (place c dims)) (sym change.sized) ∙ sym (shape_by c a.axes change.has distinct)

  pub small : size (kept feeds before) ≤ 33554432
  small = subst (λ s. size s ≤ 33554432) (sym to) few

  pub low : length (kept feeds before) ≤ 16
  low =
      let rank = is.formed.cells.low_rank in
      let there = length-map after (λ (x : Axis). x.size) in
      let same = length-map a.axes (axis_by (c ∷ [])) in
      let here = sizes_long in
      subst (λ s. length s ≤ 16) (sym to) (omega (arith, rank, there, same, here))

  seen : All (λ ps. 0 < length ps) c.lists → masked ≡ false → (p : List ℕ) → IsPoint (kept feeds before) p → is_some (fold_of k a.kind (found k Never None c dims before a.kind a.masked own.cells is.formed.cells long change.has distinct inside change.fed shaped p)) ≡ true
  seen full plain p here =
      given_there k Never None c dims before a.kind a.masked own.cells is.formed.cells long change.has distinct inside change.fed shaped method plain p here
      (full (get_or p (place c dims) 0) [] (listed_place k Never None c dims before a.kind a.masked own.cells is.formed.cells long change.has distinct inside change.fed shaped p here))

  cells : All (λ ps. 0 < length ps) c.lists → AreCells (shape_over after) (folded_kind k a.kind) masked (folded k feeds own).cells
  cells full =
      subst (λ s. AreCells s (folded_kind k a.kind) masked (folded k feeds own).cells) to
      (cells_listed k Never None c dims before a.kind a.masked own.cells is.formed.cells long change.has distinct inside change.fed shaped masked tt small low (seen full))

  pub frame : IsFrame after (coords_by false (c ∷ []) a.coords)
  frame = frame_by c a.axes a.coords (record { dims = is.formed.axes; over = is.formed.coords; distinct = is.formed.distinct }) change.has change.axis change.fresh change.free

  abbrev means : of.DataArray
  means = array_listed k Never false (c ∷ []) None (array_in nodes a)

  formed : All (λ ps. 0 < length ps) c.lists → IsDataArray means
  formed full = record { name = is.formed.name; axes = frame.dims; coords = frame.over; distinct = frame.distinct; attrs = attrs_left a.attrs is.formed.attrs; cells = cells full }

  abbrev made : Made
  made = folded_made k masked (c ∷ []) a

  pub same : folded k feeds (value nodes a.node) ≡ folded k feeds own
  same = ap (folded k feeds) (array_value nodes a is)

  pub is_listed : made_in nodes made ≡ means
  is_listed = ap (λ (v : Array). of_cells v.cells) same
    where
      of_cells : List (Option ℤ) → of.DataArray
      of_cells cells = record { name = a.name; axes = after; kind = folded_kind k a.kind; masked = masked; attrs = without_fills a.attrs; coords = coords_by false (c ∷ []) a.coords; cells = cells }

  pub fits : StepFits (step.Fold k feeds) (value nodes a.node)
  fits =
      let here = is.node.has_shape in
      record {
        fits = (omega arith, subst (λ (s : List ℕ). length feeds ≡ length s) (sym here) (feeds_length c dims ∙ long), subst (AreFed feeds) (sym here) (fed_one c dims before long change.has distinct change.fed), λ e. folded_one c dims change.has distinct);
        small = subst (λ (s : List ℕ). size (kept feeds s) ≤ most_node_cells) (sym here) (omega (arith, small));
        low_rank = subst (λ (s : List ℕ). length (kept feeds s) ≤ most_axes) (sym here) low;
      }

  pub is_made : All (λ ps. 0 < length ps) c.lists → IsMade nodes made
  is_made full =
      let shape : kept feeds (value nodes a.node).shape ≡ shape_over after = ap (kept feeds) is.node.has_shape ∙ to in
      let points = ap size shape in
      let most = points_above after after frame.dims.distinct (λ n e. e) (λ n. omega arith) in
      record {
        fits = record { start = is.node.placed; steps = (fits, tt) };
        shape = shape;
        kind = ap (folded_kind k) is.node.has_kind;
        formed = subst IsDataArray (sym is_listed) (formed full);
        room = omega (arith, points, most);
      }
