-- Data variables whose nodes follow others, one after the other.
use Rattle.std.proofs.Common.{◌≡◌, ◌≤◌, ◌<◌, ◌+◌, ◌++◌, ℕ, List, [], ◌∷◌, length, map, Option, refl, sym, ap, subst, ◌∙◌, arith}
use Rattle.std.specs.List.{AllByRecursion}
use Rattle.std.proofs.lemmas.List.{length-map}
use Rattle.xr_types.specs.Points.{size}
use Rattle.xr_types.specs.declared.axis.Axis.{Axis}
use Rattle.xr_arrays.specs.declared.node.Node.{Node}
use Rattle.xr_arrays.specs.Added.{AddsAtMost}
use Rattle.xr_arrays.specs.Arrays.{Array}
use Rattle.xr_arrays.specs.Nodes.{value}
use Rattle.xr_defs.specs.Selecting.{axis_called}
use Rattle.xr_chunks.specs.Chunks.{piece_along, variable_pieces}
use Rattle.plan_core.specs.Plans.{Grows}
use Rattle.plan_core.proofs.Added.{adds_both, adds_none, adds_up}
use Rattle.plan_core.proofs.Plans.{grown-length, grown_value, grows_by_none, grows_on}
use Rattle.xr_values.specs.declared.variable.Variable.{Variable}
use Rattle.xr_values.specs.Stands.{IsNodeOf}
use Rattle.xr_chunking.specs.Grids.{cells_over, shape_named, AreCutOf, CanCut, Follows, IsCutOf, IsOver}
use Rattle.xr_chunking.proofs.Cutting.{from_before, sizes_are, still_follows}

-- ---- one

pub variable_can_cut : (nodes : List Node) (axes : List Axis) (v : Variable) (sizes : List (List ℕ × ℕ)) (pieces : List (Option ℕ)) → IsOver nodes axes v → pieces ≡ variable_pieces sizes axes v.dims → CanCut nodes v.node pieces
variable_can_cut nodes axes v sizes pieces is is_pieces = subst (CanCut nodes v.node) (sym is_pieces) (record {
  inside = is.node.placed;
  whole = length-map v.dims (λ d. piece_along sizes d (axis_called axes d).size) ∙ sym (length-map v.dims (λ d. (axis_called axes d).size)) ∙ sym (ap length is.node.has_shape);
  sizes = sizes_are sizes (λ d. d) (λ d. (axis_called axes d).size) v.dims;
  small = let few : size (shape_named axes v.dims) ≤ 33554432 = is.few in let same : size (value nodes v.node).shape ≡ size (shape_named axes v.dims) = ap size is.node.has_shape in omega arith;
  low_rank = let low : length (shape_named axes v.dims) ≤ 16 = is.low_rank in let same : length (value nodes v.node).shape ≡ length (shape_named axes v.dims) = ap length is.node.has_shape in omega arith;
})

pub variable_cut : (old new : List Node) (axes : List Axis) (v w : Variable) (sizes : List (List ℕ × ℕ)) (pieces : List (Option ℕ)) (n : ℕ) → pieces ≡ variable_pieces sizes axes v.dims → Follows old new v.node pieces n → w ≡ record v { node = n } → IsCutOf old new sizes axes v w
variable_cut old new axes v w sizes pieces n is_pieces follows w_is =
    subst (IsCutOf old new sizes axes v) (sym w_is) (record { is = refl; follows = subst (λ ps. Follows old new v.node ps n) is_pieces follows })

pub variable_adds : (old new : List Node) (axes : List Axis) (v : Variable) → IsOver old axes v → AddsAtMost old new (size (value old v.node).shape) → AddsAtMost old new (size (shape_named axes v.dims))
variable_adds old new axes v is adds = let same : size (value old v.node).shape ≡ size (shape_named axes v.dims) = ap size is.node.has_shape in adds_up old new (size (value old v.node).shape) (size (shape_named axes v.dims)) (omega arith) adds

-- it is of a plan that has grown
pub still_over : (old new : List Node) (axes : List Axis) (v : Variable) → Grows old new → IsOver old axes v → IsOver new axes v
still_over old new axes v g is =
    let same : value new v.node ≡ value old v.node = grown_value old new v.node g is.node.placed in
    record {
      node = record {
        placed = let longer = grown-length old new g in let here = is.node.placed in omega arith;
        has_shape = ap (λ (a : Array). a.shape) same ∙ is.node.has_shape;
        has_kind = ap (λ (a : Array). a.kind) same ∙ is.node.has_kind;
      };
      few = is.few;
      low_rank = is.low_rank;
    }

-- ---- so far

module _ (sizes : List (List ℕ × ℕ)) (axes : List Axis) where
  still : (old nodes new : List Node) (vs ws : List Variable) → Grows nodes new → AreCutOf old nodes sizes axes vs ws → AreCutOf old new sizes axes vs ws
  still old nodes new [] [] g are = tt
  still old nodes new [] (w ∷ ws) g are = absurd are
  still old nodes new (v ∷ vs) [] g are = absurd are
  still old nodes new (v ∷ vs) (w ∷ ws) g are =
      (record { is = are.0.is; follows = still_follows old nodes new v.node (variable_pieces sizes axes v.dims) w.node g are.0.follows }, still old nodes new vs ws g are.1)

  one_more : (old new : List Node) (vs ws : List Variable) (v w : Variable) → AreCutOf old new sizes axes vs ws → IsCutOf old new sizes axes v w → AreCutOf old new sizes axes (vs ++ v ∷ []) (ws ++ w ∷ [])
  one_more old new [] [] v w are is = (is, tt)
  one_more old new [] (u ∷ ws) v w are is = absurd are
  one_more old new (u ∷ vs) [] v w are is = absurd are
  one_more old new (u ∷ vs) (t ∷ ws) v w are is = (are.0, one_more old new vs ws v w are.1 is)

  cells_more : (vs : List Variable) (v : Variable) → cells_over axes (vs ++ v ∷ []) ≡ cells_over axes vs + size (shape_named axes v.dims)
  cells_more [] v = omega arith
  cells_more (u ∷ vs) v = let rest = cells_more vs v in omega arith

  -- those before are cut, and those that are still to come can be
  pub record AreOn (old nodes : List Node) (before rest ws : List Variable) : Type 0 where
    pub are : AreCutOf old nodes sizes axes before ws
    pub over : AllByRecursion (IsOver old axes) rest
    pub grows : Grows old nodes
    pub cells : AddsAtMost old nodes (cells_over axes before)

  pub none_yet : (old : List Node) (vs ws : List Variable) → ws ≡ [] → AllByRecursion (IsOver old axes) vs → AreOn old old [] vs ws
  none_yet old vs ws none over = subst (AreOn old old [] vs) (sym none) (record { are = tt; over = over; grows = grows_by_none old; cells = adds_none old 0 })

  module _ (old nodes : List Node) (before rest after ws : List Variable) (v : Variable) (split : rest ≡ v ∷ after) (on : AreOn old nodes before rest ws) where
    here : AllByRecursion (IsOver old axes) (v ∷ after)
    here = subst (AllByRecursion (IsOver old axes)) split on.over

    pub over_now : IsOver nodes axes v
    over_now = still_over old nodes axes v on.grows here.0

    pub next : (new : List Node) (w : Variable) (upto us : List Variable) → upto ≡ before ++ v ∷ [] → us ≡ ws ++ w ∷ [] → Grows nodes new → IsCutOf nodes new sizes axes v w → AddsAtMost nodes new (size (shape_named axes v.dims)) → AreOn old new upto after us
    next new w upto us is_upto is_us g is adds =
        let of_old : IsCutOf old new sizes axes v w = record {
          is = is.is;
          follows = from_before old nodes new v.node (variable_pieces sizes axes v.dims) w.node on.grows here.0.node.placed is.follows;
        } in
        record {
          are = subst (λ xs. AreCutOf old new sizes axes xs us) (sym is_upto) (subst (AreCutOf old new sizes axes (before ++ v ∷ [])) (sym is_us) (one_more old new before ws v w (still old nodes new before ws g on.are) of_old));
          over = here.1;
          grows = grows_on old nodes new on.grows g;
          cells = subst (AddsAtMost old new) (sym (ap (cells_over axes) is_upto ∙ cells_more before v)) (adds_both old nodes new (cells_over axes before) (size (shape_named axes v.dims)) on.cells adds);
        }
