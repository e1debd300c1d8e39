-- Nodes that bring parts into one order and kind.
use Rattle.std.proofs.Common.{◌≡◌, ◌<◌, ◌≤◌, ◌+◌, ℕ, Bool, true, false, List, [], ◌∷◌, ◌++◌, length, map, get_or, take, All, refl, sym, ap, subst, ◌∙◌, arith, length-append}
use Rattle.std.proofs.lemmas.List.{length-map, map-append, take_all, take_more}
use Rattle.std.proofs.lemmas.List.Elements.{All-cons, All-get_or, All-head, All-nil, All-push, All-tail, All-weaker}
use Rattle.xr_types.specs.Points.{size}
use Rattle.xr_types.specs.declared.kind.DType.{DType}
use Rattle.xr_types.specs.declared.operation.OpKind.TheVariants as ops
use Rattle.xr_arrays.specs.Arrays.{Array}
use Rattle.xr_arrays.specs.Nodes.{concatenated, first_array, node_value, reordered, value, values, widened, most_axes, most_node_cells, Continues, IsNode, IsOrder, Pushes}
use Rattle.xr_arrays.specs.declared.node.Node.{Node}
use Rattle.xr_arrays.specs.declared.node.Node.TheVariants.{Concat, Reorder, Unary, Widen}
use Rattle.plan_core.specs.Plans.{Grows}
use Rattle.plan_core.proofs.Plans.{grown_value, grown-length, grows_by_none, grows_on, pushes_grow, values-length}
use Rattle.plan_core.proofs.Fitting.{concat_fits, reorder_fits, unary_fits, widen_fits}
use Rattle.xr_combination.specs.Pieces.{as_kind}
use Rattle.xr_combining.specs.declared.placing.Part.{Part}
use Rattle.xr_combining.specs.Placing.{brought, order_of, wide, AreNodesFor, CanBring, CanJoin, IsNodeFor}

-- ---- a node that is added

there : (nodes : List Node) (n : ℕ) → n < length nodes → n < length (values nodes)
there nodes n lt = let long = values-length nodes in omega arith

inside : (old new : List Node) (node : Node) (n : ℕ) → Pushes old new node n → n < length new
inside old new node n pushes = let long = ap length pushes.added in let more = length-append old (node ∷ []) in let at = pushes.placed in omega arith

pub still_is : (old new : List Node) (v : Array) (n : ℕ) → Grows old new → IsNodeFor old v n → IsNodeFor new v n
still_is old new v n grows is =
    let more = grown-length old new grows in let lt = is.inside in
    record { inside = omega arith; is = grown_value old new n grows lt ∙ is.is }

-- ---- in order

module _ (old : List Node) (dims : List (List ℕ)) (p : Part) (can : CanBring old dims p) (order : List ℕ) (is : order ≡ order_of dims p) where
  pub order_taken : IsNode (values old) (Reorder p.node order)
  order_taken = let low = can.low_rank in subst (λ o. IsNode (values old) (Reorder p.node o)) (sym is) (reorder_fits (values old) p.node (value old p.node).shape (order_of dims p) (there old p.node can.inside) refl can.order_is can.small (omega arith))

  pub order_placed : (new : List Node) (n : ℕ) → Pushes old new (Reorder p.node order) n → IsNodeFor new (reordered (value old p.node) (order_of dims p)) n
  unfolding node_value
  order_placed new n pushes = record { inside = inside old new (Reorder p.node order) n pushes; is = pushes.stands ∙ ap (reordered (value old p.node)) is }

-- ---- in a kind

pub kind_taken : (old : List Node) (kind : DType) (n : ℕ) → n < length old → size (value old n).shape ≤ most_node_cells → length (value old n).shape ≤ most_axes → IsNode (values old) (Unary ops.Cast kind n)
kind_taken old kind n lt small low = unary_fits (values old) ops.Cast kind n (value old n).shape (there old n lt) refl refl tt (λ e. absurd cc) small low

pub kind_placed : (old new : List Node) (kind : DType) (n m : ℕ) → Pushes old new (Unary ops.Cast kind n) m → IsNodeFor new (as_kind kind (value old n)) m
unfolding node_value
kind_placed old new kind n m pushes = record { inside = inside old new (Unary ops.Cast kind n) m pushes; is = pushes.stands }

-- ---- with one more dimension

pub wide_taken : (old : List Node) (n : ℕ) → n < length old → size (value old n).shape ≤ most_node_cells → length (value old n).shape < most_axes → IsNode (values old) (Widen n 0 1)
wide_taken old n lt small low = widen_fits (values old) n 0 1 (value old n).shape (there old n lt) refl (omega arith) (omega arith) low

pub wide_placed : (old new : List Node) (front : Bool) (n m : ℕ) → front ≡ true → Pushes old new (Widen n 0 1) m → IsNodeFor new (wide front (value old n)) m
unfolding node_value
wide_placed old new front n m is_wide pushes = record { inside = inside old new (Widen n 0 1) m pushes; is = pushes.stands ∙ ap (λ b. wide b (value old n)) (sym is_wide) }

pub not_wide : (nodes : List Node) (front : Bool) (n : ℕ) → front ≡ false → n < length nodes → IsNodeFor nodes (wide front (value nodes n)) n
not_wide nodes front n is_not lt = record { inside = lt; is = ap (λ b. wide b (value nodes n)) (sym is_not) }

-- ---- one part

module _ (old new : List Node) (dims : List (List ℕ)) (p : Part) (n : ℕ) (can : CanBring old dims p) (is : IsNodeFor new (reordered (value old p.node) (order_of dims p)) n) where
  pub ordered_small : size (value new n).shape ≤ most_node_cells
  ordered_small = subst (λ (v : Array). size v.shape ≤ most_node_cells) (sym is.is) can.small

  pub ordered_low : length (value new n).shape < most_axes
  ordered_low =
      let low = can.low_rank in let same = can.order_is.0 in let long = length-map (order_of dims p) (λ k. get_or (value old p.node).shape k 0) in
      subst (λ (v : Array). length v.shape < most_axes) (sym is.is) (omega arith)

pub cast_small : (old new : List Node) (kind : DType) (n m : ℕ) → IsNodeFor new (as_kind kind (value old n)) m → size (value old n).shape ≤ most_node_cells → size (value new m).shape ≤ most_node_cells
cast_small old new kind n m is small = subst (λ (v : Array). size v.shape ≤ most_node_cells) (sym is.is) small

pub cast_low : (old new : List Node) (kind : DType) (n m : ℕ) → IsNodeFor new (as_kind kind (value old n)) m → length (value old n).shape < most_axes → length (value new m).shape < most_axes
cast_low old new kind n m is low = subst (λ (v : Array). length v.shape < most_axes) (sym is.is) low

pub part_placed : (a b c d : List Node) (kind : DType) (dims : List (List ℕ)) (front : Bool) (p : Part) (m n o : ℕ) → IsNodeFor b (reordered (value a p.node) (order_of dims p)) m → IsNodeFor c (as_kind kind (value b m)) n → IsNodeFor d (wide front (value c n)) o
    → IsNodeFor d (brought a kind dims front p) o
part_placed a b c d kind dims front p m n o one two three = record { inside = three.inside; is = three.is ∙ ap (wide front) (two.is ∙ ap (as_kind kind) one.is) }

-- ---- all parts

brought_again : (old new : List Node) (kind : DType) (dims : List (List ℕ)) (front : Bool) (p : Part) → Grows old new → p.node < length old → brought new kind dims front p ≡ brought old kind dims front p
brought_again old new kind dims front p grows lt = ap (λ v. wide front (as_kind kind (reordered v (order_of dims p)))) (grown_value old new p.node grows lt)

still_can : (old new : List Node) (dims : List (List ℕ)) (p : Part) → Grows old new → CanBring old dims p → CanBring new dims p
still_can old new dims p grows can =
    let more = grown-length old new grows in let lt = can.inside in let same = sym (grown_value old new p.node grows lt) in
    record {
      inside = omega arith;
      order_is = subst (λ (v : Array). IsOrder (length v.shape) (order_of dims p)) same can.order_is;
      small = subst (λ (v : Array). size (map (λ k. get_or v.shape k 0) (order_of dims p)) ≤ most_node_cells) same can.small;
      low_rank = subst (λ (v : Array). length v.shape < most_axes) same can.low_rank;
    }

still_map : (old new : List Node) (ns : List ℕ) → Grows old new → All (λ n. n < length old) ns → map (value new) ns ≡ map (value old) ns
still_map old new [] grows lt = refl
still_map old new (n ∷ ns) grows lt =
    ap (λ v. v ∷ map (value new) ns) (grown_value old new n grows (All-head (λ n. n < length old) n ns lt)) ∙ ap (λ vs. value old n ∷ vs) (still_map old new ns grows (All-tail (λ n. n < length old) n ns lt))

pub record AreSoFar (old now : List Node) (kind : DType) (dims : List (List ℕ)) (front : Bool) (parts : List Part) (out : List ℕ) : Type 0 where
  pub nodes : AreNodesFor now (map (brought old kind dims front) parts) out
  pub grows : Grows old now

module _ (old : List Node) (kind : DType) (dims : List (List ℕ)) (front : Bool) (parts : List Part) where
  pub first_of : AreSoFar old old kind dims front (take 0 parts) []
  first_of = record { nodes = record { inside = All-nil (λ n. n < length old); are = refl }; grows = grows_by_none old }

  pub can_next : (now : List Node) (i : ℕ) (p : Part) (out : List ℕ) → i < length parts → p ≡ get_or parts i p → All (CanBring old dims) parts → AreSoFar old now kind dims front (take i parts) out → CanBring now dims p
  can_next now i p out lt is can so_far = still_can old now dims p so_far.grows (subst (CanBring old dims) (sym is) (All-get_or (CanBring old dims) parts i p lt can))

  pub next_of : (now new : List Node) (i : ℕ) (p : Part) (out more : List ℕ) (n : ℕ) → i < length parts → p ≡ get_or parts i p → All (CanBring old dims) parts → AreSoFar old now kind dims front (take i parts) out
      → Grows now new → IsNodeFor new (brought now kind dims front p) n → more ≡ out ++ n ∷ [] → AreSoFar old new kind dims front (take (i + 1) parts) more
  next_of now new i p out more n lt is can so_far grows one is_more =
      let longer = grown-length now new grows in
      let here = subst (CanBring old dims) (sym is) (All-get_or (CanBring old dims) parts i p lt can) in
      let f = brought old kind dims front in
      subst (AreSoFar old new kind dims front (take (i + 1) parts)) (sym is_more)
      record {
        nodes = record {
          inside = All-push (λ m. m < length new) out n (All-weaker (λ m. m < length now) (λ m. m < length new) (λ m below. omega arith) out so_far.nodes.inside) one.inside;
          are = map-append (value new) out (n ∷ []) ∙ ap (λ vs. vs ++ value new n ∷ []) (still_map now new out grows so_far.nodes.inside ∙ so_far.nodes.are)
              ∙ ap (λ v. map f (take i parts) ++ v ∷ []) (one.is ∙ brought_again old now kind dims front p so_far.grows here.inside ∙ ap f is)
              ∙ sym (ap (map f) (take_more parts i p lt) ∙ map-append f (take i parts) (get_or parts i p ∷ []));
        };
        grows = grows_on old now new so_far.grows grows;
      }

  pub last_nodes : (now : List Node) (i : ℕ) (out : List ℕ) → length parts ≤ i → AreSoFar old now kind dims front (take i parts) out → AreNodesFor now (map (brought old kind dims front) parts) out
  last_nodes now i out le so_far = subst (λ ps. AreNodesFor now (map (brought old kind dims front) ps) out) (take_all i parts le) so_far.nodes

pub last_grows : (old now : List Node) (kind : DType) (dims : List (List ℕ)) (front : Bool) (parts : List Part) (out : List ℕ) → AreSoFar old now kind dims front parts out → Grows old now
last_grows old now kind dims front parts out so_far = so_far.grows

-- ---- one after the other

unmapped : {A B : Type 0} (P : B → Type 0) (f : A → B) (xs : List A) → All P (map f xs) → All (λ x. P (f x)) xs
unmapped P f [] h = All-nil (λ x. P (f x))
unmapped P f (x ∷ xs) h = All-cons (λ x. P (f x)) x xs (All-head P (f x) (map f xs) h) (unmapped P f xs (All-tail P (f x) (map f xs) h))

module _ (now : List Node) (arrays : List Array) (ns : List ℕ) (axis : ℕ) (are : AreNodesFor now arrays ns) (can : CanJoin axis arrays) where
  can_here : CanJoin axis (map (value now) ns)
  can_here = subst (CanJoin axis) (sym are.are) can

  pub join_taken : IsNode (values now) (Concat ns axis)
  join_taken =
      let some = can_here.some in let long = length-map ns (value now) in let all = values-length now in
      concat_fits (values now) ns axis (omega arith) (All-weaker (λ n. n < length now) (λ n. n < length (values now)) (λ n lt. omega arith) ns are.inside) can_here.there
      (unmapped (Continues axis (first_array (map (value now) ns))) (value now) ns can_here.each) can_here.small can_here.low_rank

  pub join_placed : (new : List Node) (n : ℕ) → Pushes now new (Concat ns axis) n → IsNodeFor new (concatenated arrays axis) n
  unfolding node_value
  join_placed new n pushes = record { inside = inside now new (Concat ns axis) n pushes; is = pushes.stands ∙ ap (λ vs. concatenated vs axis) are.are }

pub join_grows : (old now new : List Node) (ns : List ℕ) (axis n : ℕ) → Grows old now → Pushes now new (Concat ns axis) n → Grows old new
join_grows old now new ns axis n grows pushes = grows_on old now new grows (pushes_grow now new (Concat ns axis) n pushes)
