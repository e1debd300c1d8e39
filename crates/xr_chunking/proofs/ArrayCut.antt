-- An array whose node follows another.
use Rattle.std.proofs.Common.{◌≡◌, ◌≤◌, ◌<◌, ◌+◌, ◌*◌, ◌++◌, ℕ, ℤ, true, List, [], ◌∷◌, length, map, Option, Result, Ok, refl, sym, ap, subst, ◌∙◌, arith}
use Rattle.std.proofs.lemmas.List.{length-map}
use Rattle.xr_types.specs.Points.{size}
use Rattle.xr_types.specs.Names.{shape_over}
use Rattle.xr_types.specs.Results.{◌>>=◌}
use Rattle.xr_types.specs.declared.axis.Axis.{Axis}
use Rattle.xr_types.specs.declared.fault.Fault.{Fault}
use Rattle.xr_arrays.specs.declared.node.Node.{Node}
use Rattle.xr_arrays.specs.Added.{AddsAtMost}
use Rattle.xr_arrays.specs.Arrays.{Array}
use Rattle.xr_arrays.specs.Nodes.{value}
use Rattle.xr_defs.specs.Meanings.{Given}
use Rattle.xr_defs.specs.Room.{of_array, room, span, Portion}
use Rattle.xr_defs.specs.Values as of
use Rattle.xr_defs.specs.WellFormed.{IsDataArray}
use Rattle.xr_defs.proofs.Spans.{back_among, greatest_both, points_above}
use Rattle.xr_chunks.specs.Chunks.{array_pieces, chunk_array, grid_given, piece_along}
use Rattle.plan_core.proofs.Added.{adds_up}
use Rattle.xr_values.proofs.Rooms.{in_room}
use Rattle.xr_values.specs.declared.data_array.DataArray.{DataArray}
use Rattle.xr_values.specs.Stands.{array_in, IsArrayIn}
use Rattle.xr_chunking.specs.Grids.{CanCut, Follows, HasGrid, IsCut}
use Rattle.xr_chunking.proofs.Cutting.{sizes_are}

pub array_can_cut : (nodes : List Node) (a : DataArray) (sizes : List (List ℕ × ℕ)) (pieces : List (Option ℕ)) → IsArrayIn nodes a → pieces ≡ array_pieces sizes a.axes → CanCut nodes a.node pieces
array_can_cut nodes a sizes pieces is is_pieces = subst (CanCut nodes a.node) (sym is_pieces) (record {
  inside = is.node.placed;
  whole = length-map a.axes (λ (x : Axis). piece_along sizes x.name x.size) ∙ sym (length-map a.axes (λ (x : Axis). x.size)) ∙ sym (ap length is.node.has_shape);
  sizes = sizes_are sizes (λ (x : Axis). x.name) (λ (x : Axis). x.size) a.axes;
  small = let few : size (shape_over a.axes) ≤ 33554432 = is.formed.cells.few in let same : size (value nodes a.node).shape ≡ size (shape_over a.axes) = ap size is.node.has_shape in omega arith;
  low_rank = let low : length (shape_over a.axes) ≤ 16 = is.formed.cells.low_rank in let same : length (value nodes a.node).shape ≡ length (shape_over a.axes) = ap length is.node.has_shape in omega arith;
})

abbrev pub with_node : DataArray → ℕ → DataArray
with_node a n = record a { node = n }

module _ (old new : List Node) (a b : DataArray) (pieces : List (Option ℕ)) (n : ℕ) (is : IsArrayIn old a) (follows : Follows old new a.node pieces n) (b_is : b ≡ with_node a n) where
  means_same : array_in new b ≡ array_in old a
  means_same = ap (array_in new) b_is ∙ ap (λ (v : Array). of_cells v.cells) follows.same
    where
      of_cells : List (Option ℤ) → of.DataArray
      of_cells cells = record { name = a.name; axes = a.axes; kind = a.kind; masked = a.masked; attrs = a.attrs; coords = a.coords; cells = cells }

  inside : IsArrayIn new b
  inside = subst (IsArrayIn new) (sym b_is) (record {
    node = record {
      placed = follows.inside;
      has_shape = ap (λ (v : Array). v.shape) follows.same ∙ is.node.has_shape;
      has_kind = ap (λ (v : Array). v.kind) follows.same ∙ is.node.has_kind;
    };
    formed = subst IsDataArray (sym (ap (array_in new) (sym b_is) ∙ means_same)) is.formed;
  })

  pub array_answers : (g : Given) (sizes : List (List ℕ × ℕ)) → grid_given a.axes g ≡ Ok sizes → (chunk_array (array_in old a) g ≡ Ok (array_in new b)) × IsArrayIn new b
  unfolding chunk_array
  array_answers g sizes read = (ap (λ r. r >>= λ ss. Ok (array_in old a)) read ∙ ap Ok (sym means_same), inside)

  pub array_grid : (r : Result (List (List ℕ × ℕ)) Fault) (sizes : List (List ℕ × ℕ)) → r ≡ Ok sizes → pieces ≡ array_pieces sizes a.axes → HasGrid new r a b
  array_grid r sizes read is_pieces =
      subst (λ q. HasGrid new q a b) (sym read)
      (subst (IsCut new a.node (array_pieces sizes a.axes)) (sym (ap (λ (c : DataArray). c.node) b_is)) (subst (λ ps. IsCut new a.node ps n) is_pieces follows.cut))

  pub array_room : AddsAtMost old new (size (value old a.node).shape) → AddsAtMost old new (room (of_array (array_in old a) ∷ of_array (array_in new b) ∷ []))
  array_room adds =
      let p : Portion = of_array (array_in old a) in
      let le = points_above a.axes (a.axes ++ a.axes) is.formed.axes.distinct (back_among a.axes a.axes) (λ k. let both = greatest_both a.axes a.axes k in omega arith) in
      let same : size (value old a.node).shape ≡ size (shape_over a.axes) = ap size is.node.has_shape in
      subst (λ t. AddsAtMost old new (room (p ∷ of_array t ∷ []))) (sym means_same)
      (in_room old new p p 1 (omega arith) (adds_up old new (size (value old a.node).shape) (1 * span (a.axes ++ a.axes)) (omega arith) adds))
