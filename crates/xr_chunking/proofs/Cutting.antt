-- Nodes whose cells are computed in pieces.
use Rattle.std.proofs.Common.{◌≡◌, ◌<◌, ◌≤◌, ◌+◌, ◌++◌, ℕ, Bool, true, false, List, [], ◌∷◌, length, map, max, min, get_or, Option, Some, None, option_map, refl, sym, ap, subst, ◌∙◌, arith, length-append}
use Rattle.std.specs.Prelude.{slice_get}
use Rattle.std.specs.List.{AllByRecursion}
use Rattle.std.proofs.Math.Seq.{get_or-append_seam}
use Rattle.std.proofs.Math.ListN.{get_or-append}
use Rattle.std.proofs.lemmas.List.Elements.{All-from_recursion}
use Rattle.std.proofs.lemmas.Option.{get_or_from_slice_get, slice_get-get_or, slice_get_within}
use Rattle.xr_types.specs.Points.{size}
use Rattle.xr_arrays.specs.declared.node.Node.{Node}
use Rattle.xr_arrays.specs.declared.node.Node.TheVariants.{Chunk}
use Rattle.xr_arrays.specs.Added.{AddsAtMost}
use Rattle.xr_arrays.specs.Arrays.{Array}
use Rattle.xr_arrays.specs.Nodes.{node_value, value, values, IsChunk, IsNode, Pushes}
use Rattle.xr_chunks.specs.Chunks.{piece, piece_along, size_along}
use Rattle.plan_core.specs.Plans.{Grows}
use Rattle.plan_core.proofs.Added.{adds_one}
use Rattle.plan_core.proofs.Fitting.{chunk_fits}
use Rattle.plan_core.proofs.Plans.{grown-length, grown_value, values-length}
use Rattle.xr_chunking.specs.Grids.{has_piece, CanCut, CutWhere, Follows, IsCut}

-- ---- sizes of pieces

some_size : (n : ℕ) (o : Option ℕ) → IsChunk (option_map (piece n) o)
some_size n None = tt
some_size n (Some k) = omega arith

pub sizes_are : {X : Type 0} (sizes : List (List ℕ × ℕ)) (name : X → List ℕ) (n : X → ℕ) (xs : List X) → AllByRecursion IsChunk (map (λ x. piece_along sizes (name x) (n x)) xs)
sizes_are sizes name n [] = tt
sizes_are sizes name n (x ∷ xs) = (some_size (n x) (size_along sizes (name x)), sizes_are sizes name n xs)

-- ---- a node that is added

pub cut_fits : (nodes : List Node) (n : ℕ) (pieces : List (Option ℕ)) → CanCut nodes n pieces → IsNode (values nodes) (Chunk n pieces)
cut_fits nodes n pieces can =
    let long = values-length nodes in
    let here = can.inside in
    chunk_fits (values nodes) n pieces (value nodes n).shape (omega arith) refl can.whole (All-from_recursion IsChunk pieces can.sizes) can.small can.low_rank

pub stays : (nodes : List Node) (n : ℕ) (pieces : List (Option ℕ)) → has_piece pieces ≡ false → n < length nodes → Follows nodes nodes n pieces n
stays nodes n pieces none inside = record { cut = subst (λ b. CutWhere b nodes n pieces n) (sym none) refl; inside = inside; same = refl }

pub pushed : (old new : List Node) (n : ℕ) (pieces : List (Option ℕ)) (m : ℕ) → has_piece pieces ≡ true → Pushes old new (Chunk n pieces) m → Follows old new n pieces m
unfolding node_value
pushed old new n pieces m some pushes =
    let longer : length new ≡ length old + 1 = ap length pushes.added ∙ length-append old (Chunk n pieces ∷ []) in
    let at : m ≡ length old = pushes.placed in
    let there : slice_get new (length old) ≡ Some (Chunk n pieces) =
    slice_get-get_or new (length old) (Chunk n pieces) (omega arith) ∙ ap (λ ns. Some (node_there ns (length old))) pushes.added ∙ ap Some (get_or-append_seam old (Chunk n pieces) [] (Chunk n pieces)) in
    record {
      cut = subst (λ b. CutWhere b new n pieces m) (sym some) (ap (slice_get new) at ∙ there);
      inside = omega arith;
      same = pushes.stands;
    }
  where
    node_there : List Node → ℕ → Node
    node_there ns i = get_or ns i (Chunk n pieces)

pub cut_adds : (old new : List Node) (n : ℕ) (pieces : List (Option ℕ)) (m : ℕ) → Pushes old new (Chunk n pieces) m → AddsAtMost old new (size (value old n).shape)
unfolding node_value
cut_adds old new n pieces m pushes = let same : size (value new m).shape ≡ size (value old n).shape = ap (λ (a : Array). size a.shape) pushes.stands in adds_one old new (Chunk n pieces) m (size (value old n).shape) pushes (omega arith)

-- ---- plans that grow

pub still_there : (old new : List Node) (i : ℕ) (x : Node) → Grows old new → slice_get old i ≡ Some x → slice_get new i ≡ Some x
still_there old new i x g is =
    let inside = slice_get_within old i x is in
    let longer = grown-length old new g in
    slice_get-get_or new i x (omega arith) ∙ ap Some (ap (λ ns. node_there ns i) g.is ∙ get_or-append old g.more x i inside ∙ get_or_from_slice_get old i x x is)
  where
    node_there : List Node → ℕ → Node
    node_there ns k = get_or ns k x

still_cut : (b : Bool) (old new : List Node) (n : ℕ) (pieces : List (Option ℕ)) (m : ℕ) → Grows old new → CutWhere b old n pieces m → CutWhere b new n pieces m
still_cut true old new n pieces m g is = still_there old new m (Chunk n pieces) g is
still_cut false old new n pieces m g is = is

pub still_follows : (old nodes new : List Node) (n : ℕ) (pieces : List (Option ℕ)) (m : ℕ) → Grows nodes new → Follows old nodes n pieces m → Follows old new n pieces m
still_follows old nodes new n pieces m g is = record {
  cut = still_cut (has_piece pieces) nodes new n pieces m g is.cut;
  inside = let longer = grown-length nodes new g in let here = is.inside in omega arith;
  same = grown_value nodes new m g is.inside ∙ is.same;
}

-- of an earlier node, which has the same value in the plan before
pub from_before : (older old new : List Node) (n : ℕ) (pieces : List (Option ℕ)) (m : ℕ) → Grows older old → n < length older → Follows old new n pieces m → Follows older new n pieces m
from_before older old new n pieces m g inside is = record { cut = is.cut; inside = is.inside; same = is.same ∙ grown_value older old n g inside }
