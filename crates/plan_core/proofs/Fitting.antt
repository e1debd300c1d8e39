-- When a plan takes a node, by the shapes of the arrays that it names.
use Rattle.std.proofs.Common.{◌≡◌, ◌<◌, ◌≤◌, ℕ, ℤ, suc, Bool, true, false, List, [], ◌∷◌, length, map, take, drop, insert, get_or, Option, refl, sym, ap, subst, ◌∙◌, arith, length-append, length-drop, length-take}
use Rattle.std.specs.List.{All, sum}
use Rattle.std.proofs.lemmas.List.{length-map, length-set}
use Rattle.std.proofs.lemmas.List.Edits.{length-insert}
use Rattle.xr_types.specs.declared.kind.DType.{DType}
use Rattle.xr_types.specs.declared.kind.DType.TheVariants.{Bool as truths}
use Rattle.xr_types.specs.declared.operation.OpKind.{OpKind}
use Rattle.xr_types.specs.declared.operation.OpKind.TheVariants as ops
use Rattle.xr_types.specs.declared.operation.FoldKind.{FoldKind}
use Rattle.xr_types.specs.declared.operation.FoldKind.TheVariants as folds
use Rattle.xr_types.specs.Points.{size}
use Rattle.xr_arrays.specs.declared.node.Node.TheVariants.{Source, Take, Reorder, Widen, Unary, Binary, Choose, Fold, Scan, Concat, Chunk}
use Rattle.xr_arrays.specs.declared.node.Feed.{Feed}
use Rattle.xr_arrays.specs.declared.node.Feed.TheVariants as feed
use Rattle.xr_arrays.specs.Arrays.{Array, IsArray, IsCell}
use Rattle.xr_arrays.specs.Elements.{takes_one, takes_two, unary_of, Gives, Suits}
use Rattle.xr_arrays.specs.Nodes.{values, node_value, input_of, IsNode, IsBelow, IsChunk, IsOrder, Continues, AreFed, first_array, folded_axes, is_positional, concatenated, kept, most_axes, most_node_cells}
use Rattle.plan_core.specs.Takes.{taking_sizes}
use Rattle.plan_core.proofs.Needs.{shape_taken}

-- ---- how many axes a node has

pub taking_rank : (drops : Bool) (s : List ℕ) (axis : ℕ) (from : List (Option ℕ)) → length (taking_sizes drops s axis from) ≤ length s
taking_rank true s axis from =
    let front = length-take axis s in
    let behind = length-drop (suc axis) s in
    let both = length-append (take axis s) (drop (suc axis) s) in
    omega arith
taking_rank false s axis from = let e = length-set s axis (length from) in omega arith

pub kept_rank : (fs : List Feed) (s : List ℕ) → length (kept fs s) ≤ length s
kept_rank [] s = omega arith
kept_rank (f ∷ fs) [] = none f
  where
    none : (f : Feed) → length (kept (f ∷ fs) []) ≤ 0
    none feed.Keep = omega arith
    none feed.All = omega arith
    none (feed.By lists) = omega arith
kept_rank (feed.Keep ∷ fs) (n ∷ ns) = let rest = kept_rank fs ns in omega arith
kept_rank (feed.All ∷ fs) (n ∷ ns) = let rest = kept_rank fs ns in omega arith
kept_rank (feed.By lists ∷ fs) (n ∷ ns) = let rest = kept_rank fs ns in omega arith

-- ---- the forms of nodes

pub source_fits : (done : List Array) (a : Array) → IsArray a → size a.shape ≤ most_node_cells → length a.shape ≤ most_axes → IsNode done (Source a)
unfolding node_value
source_fits done a is small rank = record { fits = is; small = small; low_rank = rank }

pub take_fits : (done : List Array) (n axis : ℕ) (s : List ℕ) (from : List (Option ℕ)) (fill : Option ℤ) (drops : Bool) → n < length done → (input_of done n).shape ≡ s → axis < length s → All (IsBelow (get_or s axis 0)) from → IsCell (input_of done n).kind fill → (drops ≡ true → length from ≡ 1)
    → size (taking_sizes drops s axis from) ≤ most_node_cells → length s ≤ most_axes → IsNode done (Take n axis from fill drops)
unfolding node_value
take_fits done n axis s from fill drops lt is axis_is inside cell one small rank =
    let sizes = shape_taken drops (input_of done n) axis from fill ∙ ap (λ (t : List ℕ). taking_sizes drops t axis from) is in
    record {
      fits = (lt, subst (λ (t : List ℕ). axis < length t) (sym is) axis_is, subst (λ (t : List ℕ). All (IsBelow (get_or t axis 0)) from) (sym is) inside, cell, one);
      small = subst (λ (t : List ℕ). size t ≤ most_node_cells) (sym sizes) small;
      low_rank = subst (λ (t : List ℕ). length t ≤ most_axes) (sym sizes) (let low = taking_rank drops s axis from in omega arith);
    }

pub reorder_fits : (done : List Array) (n : ℕ) (s order : List ℕ) → n < length done → (input_of done n).shape ≡ s → IsOrder (length s) order → size (map (λ k. get_or s k 0) order) ≤ most_node_cells → length s ≤ most_axes → IsNode done (Reorder n order)
unfolding node_value
reorder_fits done n s order lt is each small rank =
    record {
      fits = (lt, subst (λ (t : List ℕ). IsOrder (length t) order) (sym is) each);
      small = subst (λ (t : List ℕ). size (map (λ k. get_or t k 0) order) ≤ most_node_cells) (sym is) small;
      low_rank = let long = length-map order (λ k. get_or (input_of done n).shape k 0) in let e = each.0 in omega arith;
    }

pub widen_fits : (done : List Array) (n axis count : ℕ) (s : List ℕ) → n < length done → (input_of done n).shape ≡ s → axis ≤ length s → size (insert s axis count) ≤ most_node_cells → length s < most_axes → IsNode done (Widen n axis count)
unfolding node_value
widen_fits done n axis count s lt is axis_is small rank =
    record {
      fits = (lt, subst (λ (t : List ℕ). axis ≤ length t) (sym is) axis_is);
      small = subst (λ (t : List ℕ). size (insert t axis count) ≤ most_node_cells) (sym is) small;
      low_rank = subst (λ (t : List ℕ). length (insert t axis count) ≤ most_axes) (sym is) (let long = length-insert s axis count axis_is in omega arith);
    }

unary_shape : (op : OpKind) (kind : DType) (a : Array) → (unary_of op kind a).shape ≡ a.shape
unary_shape ops.Add kind a = refl
unary_shape ops.Subtract kind a = refl
unary_shape ops.Multiply kind a = refl
unary_shape ops.FloorDivide kind a = refl
unary_shape ops.Remainder kind a = refl
unary_shape ops.Divide kind a = refl
unary_shape ops.And kind a = refl
unary_shape ops.Or kind a = refl
unary_shape ops.Xor kind a = refl
unary_shape ops.Equal kind a = refl
unary_shape ops.NotEqual kind a = refl
unary_shape ops.Less kind a = refl
unary_shape ops.LessEqual kind a = refl
unary_shape ops.Greater kind a = refl
unary_shape ops.GreaterEqual kind a = refl
unary_shape ops.Negate kind a = refl
unary_shape ops.Invert kind a = refl
unary_shape ops.IsNull kind a = refl
unary_shape ops.NotNull kind a = refl
unary_shape ops.FillNa kind a = refl
unary_shape ops.Cast kind a = refl

pub unary_fits : (done : List Array) (op : OpKind) (kind : DType) (n : ℕ) (s : List ℕ) → n < length done → (input_of done n).shape ≡ s → takes_one op ≡ true → Gives op kind (input_of done n).kind → Suits op (input_of done n).kind → size s ≤ most_node_cells → length s ≤ most_axes
    → IsNode done (Unary op kind n)
unfolding node_value
unary_fits done op kind n s lt is one gives suits small rank =
    let sizes = unary_shape op kind (input_of done n) ∙ is in
    record { fits = (lt, one, gives, suits); small = subst (λ (t : List ℕ). size t ≤ most_node_cells) (sym sizes) small; low_rank = subst (λ (t : List ℕ). length t ≤ most_axes) (sym sizes) rank }

pub binary_fits : (done : List Array) (op : OpKind) (m n : ℕ) (s : List ℕ) → m < length done → n < length done → (input_of done m).shape ≡ s → (input_of done n).shape ≡ s → (input_of done n).kind ≡ (input_of done m).kind → takes_two op ≡ true → Suits op (input_of done m).kind → size s ≤ most_node_cells
    → length s ≤ most_axes → IsNode done (Binary op m n)
unfolding node_value
binary_fits done op m n s lt other is also kinds two suits small rank =
    record { fits = (lt, other, two, also ∙ sym is, kinds, suits); small = subst (λ (t : List ℕ). size t ≤ most_node_cells) (sym is) small; low_rank = subst (λ (t : List ℕ). length t ≤ most_axes) (sym is) rank }

pub choose_fits : (done : List Array) (c m n : ℕ) (s : List ℕ) → c < length done → m < length done → n < length done → (input_of done c).kind ≡ truths → (input_of done c).shape ≡ s → (input_of done m).shape ≡ s → (input_of done n).shape ≡ s → (input_of done n).kind ≡ (input_of done m).kind
    → size s ≤ most_node_cells → length s ≤ most_axes → IsNode done (Choose c m n)
unfolding node_value
choose_fits done c m n s test lt other truth tests is also kinds small rank =
    record { fits = (test, lt, other, truth, tests ∙ sym is, also ∙ sym is, kinds); small = subst (λ (t : List ℕ). size t ≤ most_node_cells) (sym is) small; low_rank = subst (λ (t : List ℕ). length t ≤ most_axes) (sym is) rank }

pub fold_fits : (done : List Array) (k : FoldKind) (n : ℕ) (s : List ℕ) (fs feeds : List Feed) → n < length done → (input_of done n).shape ≡ s → feeds ≡ fs → length fs ≡ length s → AreFed fs s → (is_positional k ≡ true → folded_axes fs ≡ 1) → size (kept fs s) ≤ most_node_cells → length s ≤ most_axes
    → IsNode done (Fold k n feeds)
unfolding node_value
fold_fits done k n s fs feeds lt is are each fed one small rank =
    subst (λ (gs : List Feed). IsNode done (Fold k n gs)) (sym are)
    record {
      fits = (lt, subst (λ (t : List ℕ). length fs ≡ length t) (sym is) each, subst (AreFed fs) (sym is) fed, one);
      small = subst (λ (t : List ℕ). size (kept fs t) ≤ most_node_cells) (sym is) small;
      low_rank = subst (λ (t : List ℕ). length (kept fs t) ≤ most_axes) (sym is) (let low = kept_rank fs s in omega arith);
    }

pub scan_fits : (done : List Array) (n axis : ℕ) (s : List ℕ) → n < length done → (input_of done n).shape ≡ s → axis < length s → size s ≤ most_node_cells → length s ≤ most_axes → IsNode done (Scan folds.Sum n axis)
unfolding node_value
scan_fits done n axis s lt is axis_is small rank =
    record { fits = (lt, refl, subst (λ (t : List ℕ). axis < length t) (sym is) axis_is); small = subst (λ (t : List ℕ). size t ≤ most_node_cells) (sym is) small; low_rank = subst (λ (t : List ℕ). length t ≤ most_axes) (sym is) rank }

pub concat_fits : (done : List Array) (ns : List ℕ) (axis : ℕ) → 0 < length ns → All (λ n. n < length done) ns → axis < length (first_array (map (input_of done) ns)).shape → All (λ n. Continues axis (first_array (map (input_of done) ns)) (input_of done n)) ns
    → size (concatenated (map (input_of done) ns) axis).shape ≤ most_node_cells → length (first_array (map (input_of done) ns)).shape ≤ most_axes → IsNode done (Concat ns axis)
unfolding node_value
concat_fits done ns axis some inside axis_is each small rank =
    let long = length-set (first_array (map (input_of done) ns)).shape axis (sum (map (λ (b : Array). get_or b.shape axis 0) (map (input_of done) ns))) in
    record { fits = (some, inside, axis_is, each); small = small; low_rank = omega arith }

pub chunk_fits : (done : List Array) (n : ℕ) (sizes : List (Option ℕ)) (s : List ℕ) → n < length done → (input_of done n).shape ≡ s → length sizes ≡ length s → All IsChunk sizes → size s ≤ most_node_cells → length s ≤ most_axes → IsNode done (Chunk n sizes)
unfolding node_value
chunk_fits done n sizes s lt is each some small rank =
    record { fits = (lt, subst (λ (t : List ℕ). length sizes ≡ length t) (sym is) each, some); small = subst (λ (t : List ℕ). size t ≤ most_node_cells) (sym is) small; low_rank = subst (λ (t : List ℕ). length t ≤ most_axes) (sym is) rank }

pub source_values : (a b : Array) → values (Source a ∷ Source b ∷ []) ≡ a ∷ b ∷ []
unfolding node_value
source_values a b = refl
