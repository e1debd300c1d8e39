-- What stands at a node, as the code finds it, and nodes that leave the cells of their input as they are.
use Rattle.std.proofs.Common.{◌≡◌, ◌<◌, ◌+◌, ◌∙◌, ℕ, zero, suc, ℤ, pos, negsuc, Bool, true, false, List, [], ◌∷◌, length, map, get_or, eqb, Option, Some, None, option_map, refl, sym, ap, subst, arith}
use Rattle.std.specs.List.{range_with_len, All}
use Rattle.std.specs.Option.{option_or}
use Rattle.std.specs.Prelude.{◌||◌, ◌&&◌, IfSome}
use Rattle.std.proofs.lemmas.Bool.{and_parts, eqb-true}
use Rattle.std.proofs.lemmas.Int.{ints}
use Rattle.std.proofs.lemmas.List.{ext_get_or, get_or_default, get_or-map, length-map}
use Rattle.std.proofs.lemmas.List.Sums.{passes_at_first}
use Rattle.std.proofs.lemmas.List.FromFn.{get_or-map-range_with_len, length-map-range_with_len}
use Rattle.std.proofs.lemmas.List.Elements.{All-head}
use Rattle.xr_types.specs.Kinds.{InRange}
use Rattle.xr_types.specs.Points.{size, place, tab, IsPoint}
use Rattle.xr_types.specs.declared.kind.DType.{DType}
use Rattle.xr_types.specs.declared.kind.DType.TheVariants as kinds
use Rattle.xr_types.specs.declared.operation.OpKind.{OpKind}
use Rattle.xr_types.specs.declared.operation.OpKind.TheVariants as ops
use Rattle.xr_arrays.specs.declared.node.Node.{Node}
use Rattle.xr_arrays.specs.declared.node.Node.TheVariants.{Reorder}
use Rattle.xr_arrays.specs.Arrays.{at, Array, IsArray, IsCell}
use Rattle.xr_arrays.specs.Elements.{cast_to, elem, unary_kind, unary_of}
use Rattle.xr_arrays.specs.Nodes.{moved, reordered, value, IsOrder}
use Rattle.plan_core.specs.Needs.{inputs_at, inputs_of, source_of}
use Rattle.plan_core.proofs.Arrangements.{wrapped_in}
use Rattle.plan_core.proofs.Moves.{at_order, order_below}
use Rattle.plan_core.proofs.Needs.{by_inputs, inputs_at_is, inputs_before, reorder_ready, source_at_is}
use Rattle.plan_core.proofs.Tabs.{tab_read, tab_same}
use Rattle.plan_core.proofs.Valued.{at_in, value_is_array}
use Rattle.plan_needs.specs.Trees.{counts_from, keeps_axes, standing, IsStrand, IsTree}
use Rattle.plan_needs.proofs.Ready.{each_kept, ready_anyway}
use Rattle.plan_whole.specs.Operations.{UnaryTree}

-- ---- what stands there

pub source_stands_there : (nodes : List Node) (done : List (Option Array)) (m : ℕ) (node : Node) (a : Array) → m < length nodes → node ≡ get_or nodes m node → Some a ≡ source_of node → Some a ≡ standing nodes done m
source_stands_there nodes done m node a lt is e = ap (λ s. option_or s (get_or done m None)) (e ∙ ap source_of is ∙ sym (source_at_is nodes m node lt))

pub kept_stands_there : (nodes : List Node) (done : List (Option Array)) (m : ℕ) (node : Node) (o : Option Array) → m < length nodes → m < length done → node ≡ get_or nodes m node → None ≡ source_of node → o ≡ get_or done m o → o ≡ standing nodes done m
kept_stands_there nodes done m node o lt inside is e is_kept = is_kept ∙ get_or_default done m o None inside ∙ ap (λ s. option_or s (get_or done m None)) (e ∙ ap source_of is ∙ sym (source_at_is nodes m node lt))

-- ---- axes that stay in their places

counted : (first : ℕ) (order : List ℕ) (j : ℕ) → counts_from first order ≡ true → j < length order → get_or order j 0 ≡ first + j
counted first [] j e lt = absurd (omega arith)
counted first (n ∷ ns) zero e lt =
    let here : n ≡ first = eqb-true n first (and_parts (eqb n first) (counts_from (first + 1) ns) e).0 in
    omega (arith, here)
counted first (n ∷ ns) (suc j) e lt =
    let rest : get_or ns j 0 ≡ (first + 1) + j = counted (first + 1) ns j (and_parts (eqb n first) (counts_from (first + 1) ns) e).1 (omega arith) in
    omega (arith, rest)

stays : (order : List ℕ) (k : ℕ) → IsOrder (length order) order → keeps_axes order ≡ true → k < length order → at_order order k ≡ k
stays order k is e lt =
    let below : at_order order k < length order = order_below (length order) k order is lt in
    let there = counted 0 order (at_order order k) e below in
    let holds : get_or order (at_order order k) 0 ≡ k = eqb-true (get_or order (at_order order k) 0) k (passes_at_first (λ o. eqb o k) order 0 below) in
    omega (arith, there, holds)

same_sizes : (s order : List ℕ) → length order ≡ length s → keeps_axes order ≡ true → map (λ k. get_or s k 0) order ≡ s
same_sizes s order long e =
    let many = length-map order (λ k. get_or s k 0) in
    ext_get_or 0 (map (λ k. get_or s k 0) order) s (many ∙ long)
    (λ j lt.
    let below : j < length order = omega (arith, lt, many) in
    let there = counted 0 order j e below in
    let here : get_or order j 0 ≡ j = omega (arith, there) in
    get_or-map (λ k. get_or s k 0) order j 0 0 below ∙ ap (λ k. get_or s k 0) here)

same_point : (order p : List ℕ) → IsOrder (length order) order → keeps_axes order ≡ true → length p ≡ length order → moved order p ≡ p
same_point order p is e long =
    let many = length-map-range_with_len (λ k. get_or p (at_order order k) 0) 0 (length order) in
    ext_get_or 0 (moved order p) p (many ∙ sym long)
    (λ j lt. let below : j < length order = omega (arith, lt, many) in get_or-map-range_with_len (λ k. get_or p (at_order order k) 0) 0 (length order) j j 0 below (omega arith) ∙ ap (λ k. get_or p k 0) (stays order j is e below))

point_length : (s p : List ℕ) → IsPoint s p → length p ≡ length s
point_length [] [] h = refl
point_length [] (i ∷ p) h = absurd h
point_length (n ∷ ns) [] h = absurd h
point_length (n ∷ ns) (i ∷ p) h = ap suc (point_length ns p h.1)

-- the axes in their order are the array's
pub reordered_same : (a : Array) (order : List ℕ) → IsArray a → IsOrder (length a.shape) order → keeps_axes order ≡ true → reordered a order ≡ a
reordered_same a order is each e = λ i. record { kind = a.kind; shape = sizes i; cells = cells i }
  where
    own : IsOrder (length order) order
    own = subst (λ n. IsOrder n order) (sym each.0) each

    sizes : map (λ k. get_or a.shape k 0) order ≡ a.shape
    sizes = same_sizes a.shape order each.0 e

    cells : tab (map (λ k. get_or a.shape k 0) order) (λ p. at a (moved order p)) ≡ a.cells
    cells =
        ap (λ s. tab s (λ p. at a (moved order p))) sizes
        ∙ tab_same a.shape (λ p. at a (moved order p)) (at a) (λ p here. ap (at a) (same_point order p own e (point_length a.shape p here ∙ sym each.0)))
        ∙ tab_read a.shape a.cells None is.whole

-- ---- casts to the kind that is there

truth_same : (n : ℤ) → InRange kinds.Bool n → cast_to kinds.Bool n ≡ n
truth_same (pos zero) h = refl
truth_same (pos (suc zero)) h = refl
truth_same (pos (suc (suc n))) h = absurd (omega (arith, ints, h))
truth_same (negsuc n) h = absurd (omega (arith, ints, h))

number_same : (t : DType) (n : ℤ) → InRange t n → cast_to t n ≡ n
number_same kinds.Bool n h = truth_same n h
number_same kinds.Char n h = wrapped_in kinds.Char n h
number_same kinds.Int8 n h = wrapped_in kinds.Int8 n h
number_same kinds.Int16 n h = wrapped_in kinds.Int16 n h
number_same kinds.Int32 n h = wrapped_in kinds.Int32 n h
number_same kinds.Int64 n h = wrapped_in kinds.Int64 n h
number_same kinds.UInt8 n h = wrapped_in kinds.UInt8 n h
number_same kinds.UInt16 n h = wrapped_in kinds.UInt16 n h
number_same kinds.UInt32 n h = wrapped_in kinds.UInt32 n h
number_same kinds.UInt64 n h = wrapped_in kinds.UInt64 n h

cell_same : (t : DType) (c : Option ℤ) → IsCell t c → option_map (cast_to t) c ≡ c
cell_same t None h = refl
cell_same t (Some n) h = ap (λ m. Some m) (number_same t n h)

own_cast : (a : Array) → IsArray a → unary_of ops.Cast a.kind a ≡ a
own_cast a is = λ i. record { kind = a.kind; shape = a.shape; cells = cells i }
  where
    cells : tab a.shape (λ p. option_map (cast_to a.kind) (at a p)) ≡ a.cells
    cells = tab_same a.shape (λ p. option_map (cast_to a.kind) (at a p)) (at a) (λ p here. cell_same a.kind (at a p) (at_in a is p)) ∙ tab_read a.shape a.cells None is.whole

-- a cast to an array's own kind is the array
pub cast_same : (op : OpKind) (kind : DType) (a : Array) → IsArray a → op ≡ ops.Cast → a.kind ≡ kind → unary_of op kind a ≡ a
cast_same op kind a is is_cast same = ap (λ o. unary_of o kind a) is_cast ∙ ap (λ t. unary_of ops.Cast t a) (sym same) ∙ own_cast a is

-- ---- nodes

pub record SameTree (nodes : List Node) (done : List (Option Array)) (at m : ℕ) : Type 0 where
  pub strand : IsStrand nodes done m
  pub below : m < at
  pub is : value nodes at ≡ value nodes m

pub reordered_tree : (nodes : List Node) (done : List (Option Array)) (at : ℕ) (node : Node) (m : ℕ) (order : List ℕ) → IsTree nodes done at → node ≡ get_or nodes at node → node ≡ Reorder m order → keeps_axes order ≡ true → SameTree nodes done at m
reordered_tree nodes done at node m order t is is_reorder stay =
    let r = reorder_ready nodes (each_kept nodes) node m order is_reorder (ready_anyway nodes at node t.fit t.at_there is) in
    let ids : inputs_at nodes at ≡ m ∷ [] = inputs_at_is nodes at node t.at_there ∙ ap inputs_of (sym is ∙ is_reorder) in
    record {
      strand = All-head (IsStrand nodes done) m [] (subst (All (IsStrand nodes done)) ids t.inputs);
      below = All-head (λ k. k < at) m [] (subst (All (λ k. k < at)) ids (inputs_before nodes at node t.fit t.at_there));
      is = by_inputs nodes at node t.fit t.at_there is ∙ sym r.is ∙ reordered_same (value nodes m) order (value_is_array nodes m t.fit r.held.there) r.each stay;
    }

-- what the input of a cast to its own kind is, the node is
pub cast_value : (nodes : List Node) (done : List (Option Array)) (at : ℕ) (op : OpKind) (kind : DType) (m : ℕ) (a : Array) → UnaryTree nodes done at op kind m → op ≡ ops.Cast → a.kind ≡ kind → a ≡ value nodes m → a ≡ value nodes at
cast_value nodes done at op kind m a t is_cast same here = here ∙ sym (t.is ∙ cast_same op kind (value nodes m) t.array is_cast (ap (λ (x : Array). x.kind) (sym here) ∙ same))
