-- What the nodes of a plan stand for, one cell at a time, given what the earlier nodes stand for.
use Rattle.std.specs.Prelude.{◌≡◌, ◌<◌, ◌≤◌, ◌-◌, ◌==◌, ◌^◌, ◌+◌, ℕ, ℤ, zero, suc, Bool, true, false, List, [], ◌∷◌, ◌++◌, length, map, take, drop, flat_map, insert, Option, Some, None, get_or, slice_set, nat_lt, All, IfSome, if◌then◌else◌, ⊤, sum}
use Rattle.std.specs.List.{range_with_len, position_or_len, list_any}
use Rattle.xr_types.specs.declared.kind.DType.TheVariants.{Bool as truths, Int64}
use Rattle.xr_types.specs.declared.operation.FoldKind.{FoldKind}
use Rattle.xr_types.specs.declared.operation.FoldKind.TheVariants as folds
use Rattle.xr_arrays.specs.declared.node.Feed.{Feed}
use Rattle.xr_arrays.specs.declared.node.Feed.TheVariants as feed
use Rattle.xr_arrays.specs.declared.node.Node.{Node}
use Rattle.xr_arrays.specs.declared.node.Node.TheVariants.{Source, Take, Reorder, Widen, Unary, Binary, Choose, Fold, Scan, Concat, Chunk}
use Rattle.xr_types.specs.Points.{size}
use Rattle.xr_arrays.specs.Arrays.{Array, at, made, IsArray, IsCell}
use Rattle.xr_arrays.specs.Elements.{unary_of, binary_of, choose_of, result_kind, takes_one, takes_two, Gives, Suits}
use Rattle.xr_arrays.specs.Folds.{folded_kind, fold_of}

-- ---- points of the input

-- the point with another position in an axis
abbrev pub along : ℕ → ℕ → List ℕ → List ℕ
along axis i p = slice_set p axis i

-- the point with a position put in before an axis
abbrev pub with_axis : ℕ → ℕ → List ℕ → List ℕ
with_axis axis i p = insert p axis i

-- the point, the shape, or the axes, without one
abbrev pub without : {X : Type 0} → ℕ → List X → List X
without axis xs = take axis xs ++ drop (suc axis) xs

-- ---- positions of one axis

-- the cell of the input at a source position, or the fill where there is none
abbrev pub from_source : Array → Option ℤ → (ℕ → List ℕ) → Option ℕ → Option ℤ
from_source a fill point None = fill
from_source a fill point (Some i) = at a (point i)

abbrev pub taken_from : Array → ℕ → List (Option ℕ) → Option ℤ → Array
taken_from a axis from fill = made a.kind (slice_set a.shape axis (length from)) (λ p. from_source a fill (λ i. along axis i p) (get_or from (get_or p axis 0) None))

abbrev pub picked_from : Array → ℕ → Option ℕ → Option ℤ → Array
picked_from a axis source fill = made a.kind (without axis a.shape) (λ p. from_source a fill (λ i. with_axis axis i p) source)

-- ---- axes moved and added

-- axis number k of the input stands in the result where `order` has k
abbrev pub moved : List ℕ → List ℕ → List ℕ
moved order p = map (λ k. get_or p (position_or_len (λ o. o == k) order) 0) (range_with_len 0 (length order))

abbrev pub reordered : Array → List ℕ → Array
reordered a order = made a.kind (map (λ k. get_or a.shape k 0) order) (λ p. at a (moved order p))

abbrev pub widened : Array → ℕ → ℕ → Array
widened a axis n = made a.kind (insert a.shape axis n) (λ p. at a (without axis p))

-- ---- folds

-- the cells of the input that a point of the result folds, in row order, each with its position along the last axis that is folded
abbrev pub gathered : ℕ → List Feed → List ℕ → List ℕ → (List ℕ → Option ℤ) → List (ℕ × Option ℤ)
gathered j [] ns p f = (j, f []) ∷ []
gathered j (feed.Keep ∷ fs) (n ∷ ns) (i ∷ p) f = gathered j fs ns p (λ q. f (i ∷ q))
gathered j (feed.All ∷ fs) (n ∷ ns) p f = flat_map (λ i. gathered i fs ns p (λ q. f (i ∷ q))) (range_with_len 0 n)
gathered j (feed.By lists ∷ fs) (n ∷ ns) (i ∷ p) f = flat_map (λ k. gathered k fs ns p (λ q. f (k ∷ q))) (get_or lists i [])
gathered j fs ns p f = []

abbrev pub kept : List Feed → List ℕ → List ℕ
kept (feed.Keep ∷ fs) (n ∷ ns) = n ∷ kept fs ns
kept (feed.All ∷ fs) (n ∷ ns) = kept fs ns
kept (feed.By lists ∷ fs) (n ∷ ns) = length lists ∷ kept fs ns
kept fs ns = []

abbrev pub folded : FoldKind → List Feed → Array → Array
folded k feeds a = made (folded_kind k a.kind) (kept feeds a.shape) (λ p. fold_of k a.kind (gathered 0 feeds a.shape p (at a)))

-- the cells up to a position of an axis
abbrev pub up_to : Array → ℕ → List ℕ → List (ℕ × Option ℤ)
up_to a axis p = map (λ i. (i, at a (along axis i p))) (range_with_len 0 (get_or p axis 0 + 1))

abbrev pub scanned : FoldKind → Array → ℕ → Array
scanned k a axis = made (folded_kind k a.kind) a.shape (λ p. fold_of k a.kind (up_to a axis p))

-- ---- one after the other

-- the cell at position i of an axis, counted over all inputs
abbrev pub end_to_end : List Array → ℕ → List ℕ → ℕ → Option ℤ
end_to_end [] axis p i = None
end_to_end (a ∷ rest) axis p i = let n = get_or a.shape axis 0 in if nat_lt i n then at a (along axis i p) else end_to_end rest axis p (i - n)

abbrev pub nothing : Array
nothing = record { kind = Int64; shape = []; cells = None ∷ [] }

abbrev pub first_array : List Array → Array
first_array [] = nothing
first_array (a ∷ rest) = a

abbrev pub concatenated : List Array → ℕ → Array
concatenated inputs axis =
    let a = first_array inputs in
    made a.kind (slice_set a.shape axis (sum (map (λ (b : Array). get_or b.shape axis 0) inputs))) (λ p. end_to_end inputs axis p (get_or p axis 0))

-- ---- nodes

abbrev pub input_of : List Array → ℕ → Array
input_of done n = get_or done n nothing

abbrev pub taken_or_picked : Bool → Array → ℕ → List (Option ℕ) → Option ℤ → Array
taken_or_picked true a axis from fill = picked_from a axis (get_or from 0 None) fill
taken_or_picked false a axis from fill = taken_from a axis from fill

-- the value of a node, given those of the nodes that it names
abbrev pub node_of : (ℕ → Array) → Node → Array
node_of f (Source a) = a
node_of f (Take n axis from fill drops) = taken_or_picked drops (f n) axis from fill
node_of f (Reorder n order) = reordered (f n) order
node_of f (Widen n axis count) = widened (f n) axis count
node_of f (Unary op kind n) = unary_of op kind (f n)
node_of f (Binary op m n) = binary_of op (result_kind op (f m).kind) (f m) (f n)
node_of f (Choose c m n) = choose_of (f c) (f m) (f n)
node_of f (Fold k n feeds) = folded k feeds (f n)
node_of f (Scan k n axis) = scanned k (f n) axis
node_of f (Concat ns axis) = concatenated (map f ns) axis
node_of f (Chunk n sizes) = f n

-- the value of a node, given those of the earlier ones
unfoldable pub node_value : List Array → Node → Array
node_value done node = node_of (input_of done) node

-- the values of the nodes, in their order
abbrev pub values_from : List Array → List Node → List Array
values_from done [] = done
values_from done (node ∷ nodes) = values_from (done ++ node_value done node ∷ []) nodes

abbrev pub values : List Node → List Array
values nodes = values_from [] nodes

abbrev pub value : List Node → ℕ → Array
value nodes n = input_of (values nodes) n

-- ---- which nodes a plan takes

abbrev pub most_node_cells : ℕ
most_node_cells = 2 ^ 50

abbrev pub IsBelow : ℕ → Option ℕ → Type 0
IsBelow n source = IfSome source (λ i. i < n)

-- each axis of a rank once
abbrev pub IsOrder : ℕ → List ℕ → Type 0
IsOrder rank order = (length order ≡ rank) × ((k : ℕ) → k < rank → list_any (λ o. o == k) order ≡ true)

-- an input that can stand after another along an axis: it has its kind, and its shape but for the axis
abbrev pub Continues : ℕ → Array → Array → Type 0
Continues axis a b = (b.kind ≡ a.kind) × (slice_set b.shape axis 0 ≡ slice_set a.shape axis 0)

-- ascending positions from one on, of an axis of this size
abbrev pub ArePositions : ℕ → ℕ → List ℕ → Type 0
ArePositions n from [] = ⊤
ArePositions n from (i ∷ ps) = (from ≤ i) × (i < n) × ArePositions n (suc i) ps

abbrev pub IsFed : ℕ → Feed → Type 0
IsFed n feed.Keep = ⊤
IsFed n feed.All = ⊤
IsFed n (feed.By lists) = All (ArePositions n 0) lists

-- each axis of a shape is fed
abbrev pub AreFed : List Feed → List ℕ → Type 0
AreFed (x ∷ fs) (n ∷ ns) = IsFed n x × AreFed fs ns
AreFed fs ns = ⊤

-- how many axes are folded
abbrev pub folded_axes : List Feed → ℕ
folded_axes [] = zero
folded_axes (feed.Keep ∷ fs) = folded_axes fs
folded_axes (feed.All ∷ fs) = suc (folded_axes fs)
folded_axes (feed.By lists ∷ fs) = suc (folded_axes fs)

-- the folds that look at the positions of their cells
abbrev pub is_positional : FoldKind → Bool
is_positional folds.ArgMin = true
is_positional folds.ArgMax = true
is_positional folds.First = true
is_positional folds.Last = true
is_positional folds.Sum = false
is_positional folds.Prod = false
is_positional folds.Min = false
is_positional folds.Max = false
is_positional folds.Count = false
is_positional folds.Any = false
is_positional folds.All = false

abbrev pub IsChunk : Option ℕ → Type 0
IsChunk size = IfSome size (λ k. 0 < k)

-- the inputs are among so many earlier nodes, and their values fit
abbrev pub FitsBy : ℕ → (ℕ → Array) → Node → Type 0
FitsBy count f (Source a) = IsArray a
FitsBy count f (Take n axis from fill drops) =
    (n < count) × (axis < length (f n).shape) × All (IsBelow (get_or (f n).shape axis 0)) from × IsCell (f n).kind fill × (drops ≡ true → length from ≡ 1)
FitsBy count f (Reorder n order) = (n < count) × IsOrder (length (f n).shape) order
FitsBy count f (Widen n axis size) = (n < count) × (axis ≤ length (f n).shape)
FitsBy count f (Unary op kind n) = (n < count) × (takes_one op ≡ true) × Gives op kind (f n).kind × Suits op (f n).kind
FitsBy count f (Binary op m n) =
    (m < count) × (n < count) × (takes_two op ≡ true) × ((f n).shape ≡ (f m).shape) × ((f n).kind ≡ (f m).kind) × Suits op (f m).kind
FitsBy count f (Choose c m n) =
    (c < count) × (m < count) × (n < count) × ((f c).kind ≡ truths) × ((f c).shape ≡ (f m).shape) × ((f n).shape ≡ (f m).shape) × ((f n).kind ≡ (f m).kind)
FitsBy count f (Fold k n feeds) =
    (n < count) × (length feeds ≡ length (f n).shape) × AreFed feeds (f n).shape × (is_positional k ≡ true → folded_axes feeds ≡ 1)
FitsBy count f (Scan k n axis) = (n < count) × (k ≡ folds.Sum) × (axis < length (f n).shape)
FitsBy count f (Concat ns axis) =
    (0 < length ns) × All (λ n. n < count) ns × (axis < length (first_array (map f ns)).shape) × All (λ n. Continues axis (first_array (map f ns)) (f n)) ns
FitsBy count f (Chunk n sizes) = (n < count) × (length sizes ≡ length (f n).shape) × All IsChunk sizes

-- a node fits those before it
abbrev pub Fits : List Array → Node → Type 0
Fits done node = FitsBy (length done) (input_of done) node

abbrev pub most_axes : ℕ
most_axes = 16

-- a node fits those before it, and its value isn't too large
pub record IsNode (done : List Array) (node : Node) : Type 0 where
  pub fits : Fits done node
  pub small : size (node_value done node).shape ≤ most_node_cells
  pub low_rank : length (node_value done node).shape ≤ most_axes

abbrev pub AllFit : List Array → List Node → Type 0
AllFit done [] = ⊤
AllFit done (node ∷ nodes) = IsNode done node × AllFit (done ++ node_value done node ∷ []) nodes

-- what a plan gains by one more node: it stands at the end, and the values of the earlier ones are kept
pub record Pushes (old new : List Node) (node : Node) (place : ℕ) : Type 0 where
  pub added : new ≡ old ++ node ∷ []
  pub placed : place ≡ length old
  pub stands : value new place ≡ node_value (values old) node
  pub kept_values : (k : ℕ) → k < length old → value new k ≡ value old k
