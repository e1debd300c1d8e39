-- A node that comes strip by strip is the operation on the strips of its inputs.
use Rattle.std.proofs.Common.{◌≡◌, ◌<◌, ◌≤◌, ◌+◌, ℕ, Bool, true, false, List, [], ◌∷◌, length, insert, get_or, Option, Some, None, is_some, refl, sym, ap, subst, ◌∙◌, arith}
use Rattle.std.specs.List.{All}
use Rattle.std.specs.Prelude.{◌||◌}
use Rattle.std.proofs.lemmas.List.Elements.{All-head, All-tail}
use Rattle.std.proofs.Math.Bool.{or-false}
use Rattle.xr_types.specs.Points.{size}
use Rattle.xr_types.specs.declared.kind.DType.{DType}
use Rattle.xr_types.specs.declared.kind.DType.TheVariants.{Bool as truths}
use Rattle.xr_types.specs.declared.operation.OpKind.{OpKind}
use Rattle.xr_types.specs.declared.operation.OpKind.TheVariants.{Cast}
use Rattle.xr_arrays.specs.declared.node.Node.{Node}
use Rattle.xr_arrays.specs.declared.node.Node.TheVariants.{Source, Take, Reorder, Widen, Unary, Binary, Choose, Fold, Scan, Concat, Chunk}
use Rattle.xr_arrays.specs.Arrays.{Array, IsArray}
use Rattle.xr_arrays.specs.Elements.{unary_of, binary_of, choose_of, result_kind, takes_one, takes_two, Gives, Suits}
use Rattle.xr_arrays.specs.Nodes.{value, widened, most_node_cells, AllFit}
use Rattle.plan_core.specs.Needs.{inputs_at, inputs_of, IsReady}
use Rattle.plan_core.proofs.Needs.{binary_ready, by_inputs, choose_ready, inputs_at_is, inputs_before, unary_ready, value_small, widen_ready}
use Rattle.cell_strips.specs.Strips.{strip, spread as many}
use Rattle.cell_strips.proofs.StripLaws.{strip_is, strip_of_choice, strip_of_one, strip_of_two}
use Rattle.plan_needs.specs.Spreads.{found, spread, widens, widens_at}
use Rattle.plan_needs.specs.Trees.{is_each_cell, keeps_axes, node_is, IsStrand, IsTree}
use Rattle.plan_needs.proofs.Marks.{node_is_at}
use Rattle.plan_needs.proofs.Ready.{each_kept, ready_anyway}
use Rattle.plan_needs.proofs.Spreads.{part_found, widens_at_is}
use Rattle.plan_whole.specs.Operations.{alike, BinaryTree, ChooseTree, UnaryTree}
use Rattle.plan_whole.proofs.Unchanged.{cast_same, reordered_tree, SameTree}

-- ---- what a node asks of its inputs, whether they are held or not

tree_ready : (nodes : List Node) (done : List (Option Array)) (at : ℕ) (node : Node) → IsTree nodes done at → node ≡ get_or nodes at node → IsReady nodes (each_kept nodes) node
tree_ready nodes done at node t is = ready_anyway nodes at node t.fit t.at_there is

-- ---- strips of arrays

pub record IsStripOf (v a : Array) (f n : ℕ) : Type 0 where
  pub array : IsArray a
  pub few : size a.shape ≤ most_node_cells

strip_fits : (v a : Array) (f n : ℕ) → IsArray v → size v.shape ≤ most_node_cells → f + n ≤ size v.shape → a ≡ strip f n v → IsStripOf v a f n
strip_fits v a f n is few inside e = record {
  array = subst (λ (x : Array). IsArray x) (sym e) (strip_is f n v is inside);
  few = subst (λ (x : Array). size x.shape ≤ most_node_cells) (sym e) (omega (arith, few, inside));
}

-- ---- one cell

pub record SpreadFound (v a : Array) (f n : ℕ) : Type 0 where
  pub array : IsArray a
  pub flat : a.shape ≡ []
  pub is : many n a ≡ strip f n v

pub spread_found : (nodes : List Node) (m : ℕ) (a : Array) (f n : ℕ) → AllFit [] nodes → m < length nodes → Some a ≡ spread 16 nodes m → f + n ≤ size (value nodes m).shape → SpreadFound (value nodes m) a f n
spread_found nodes m a f n fit lt e inside =
    let p = part_found nodes m a f n fit lt e inside in
    record { array = p.array; flat = p.flat; is = λ i. record { kind = sym p.kind i; shape = n ∷ []; cells = p.is i } }

-- ---- each operation

pub unary_tree : (nodes : List Node) (done : List (Option Array)) (at : ℕ) (node : Node) (op : OpKind) (kind : DType) (m : ℕ) → IsTree nodes done at → node ≡ get_or nodes at node → node ≡ Unary op kind m → UnaryTree nodes done at op kind m
unary_tree nodes done at node op kind m t is is_unary =
    let r = unary_ready nodes (each_kept nodes) node op kind m is_unary (tree_ready nodes done at node t is) in
    let ids : inputs_at nodes at ≡ m ∷ [] = inputs_at_is nodes at node t.at_there ∙ ap inputs_of (sym is ∙ is_unary) in
    let here : value nodes at ≡ unary_of op kind (value nodes m) = by_inputs nodes at node t.fit t.at_there is ∙ sym r.is in
    record {
      strand = All-head (IsStrand nodes done) m [] (subst (All (IsStrand nodes done)) ids t.inputs);
      below = All-head (λ k. k < at) m [] (subst (All (λ k. k < at)) ids (inputs_before nodes at node t.fit t.at_there));
      shape = ap (λ (a : Array). a.shape) here;
      array = r.array;
      few = value_small nodes m node t.fit r.held.there;
      one = r.one;
      gives = r.gives;
      suits = r.suits;
      is = here;
    }

pub record UnaryStrip (nodes : List Node) (at : ℕ) (op : OpKind) (kind : DType) (a : Array) (f n : ℕ) : Type 0 where
  pub array : IsArray a
  pub few : size a.shape ≤ most_node_cells
  pub one : takes_one op ≡ true
  pub gives : Gives op kind a.kind
  pub suits : Suits op a.kind
  pub is : unary_of op kind a ≡ strip f n (value nodes at)

pub unary_strip : (nodes : List Node) (done : List (Option Array)) (at : ℕ) (op : OpKind) (kind : DType) (m : ℕ) (a : Array) (f n : ℕ) → UnaryTree nodes done at op kind m → f + n ≤ size (value nodes at).shape → a ≡ strip f n (value nodes m) → UnaryStrip nodes at op kind a f n
unary_strip nodes done at op kind m a f n t inside e =
    let within : f + n ≤ size (value nodes m).shape = subst (λ s. f + n ≤ size s) t.shape inside in
    let fits = strip_fits (value nodes m) a f n t.array t.few within e in
    record {
      array = fits.array;
      few = fits.few;
      one = t.one;
      gives = subst (λ (x : Array). Gives op kind x.kind) (sym e) t.gives;
      suits = subst (λ (x : Array). Suits op x.kind) (sym e) t.suits;
      is = ap (unary_of op kind) e ∙ strip_of_one op kind f n (value nodes m) t.array within ∙ ap (strip f n) (sym t.is);
    }

-- a strip whose cells stay is that of the node
pub left_strip : (nodes : List Node) (at : ℕ) (op : OpKind) (kind : DType) (a : Array) (f n : ℕ) → UnaryStrip nodes at op kind a f n → op ≡ Cast → a.kind ≡ kind → a ≡ strip f n (value nodes at)
left_strip nodes at op kind a f n s is_cast same = sym (cast_same op kind a s.array is_cast same) ∙ s.is

pub binary_tree : (nodes : List Node) (done : List (Option Array)) (at : ℕ) (node : Node) (op : OpKind) (m k : ℕ) → IsTree nodes done at → node ≡ get_or nodes at node → node ≡ Binary op m k → BinaryTree nodes done at op m k
binary_tree nodes done at node op m k t is is_binary =
    let r = binary_ready nodes (each_kept nodes) node op m k is_binary (tree_ready nodes done at node t is) in
    let ids : inputs_at nodes at ≡ m ∷ k ∷ [] = inputs_at_is nodes at node t.at_there ∙ ap inputs_of (sym is ∙ is_binary) in
    let strands = subst (All (IsStrand nodes done)) ids t.inputs in
    let before = subst (All (λ j. j < at)) ids (inputs_before nodes at node t.fit t.at_there) in
    let here : value nodes at ≡ binary_of op (result_kind op (value nodes m).kind) (value nodes m) (value nodes k) = by_inputs nodes at node t.fit t.at_there is ∙ sym r.is in
    record {
      strand = All-head (IsStrand nodes done) m (k ∷ []) strands;
      other_strand = All-head (IsStrand nodes done) k [] (All-tail (IsStrand nodes done) m (k ∷ []) strands);
      below = All-head (λ j. j < at) m (k ∷ []) before;
      other_below = All-head (λ j. j < at) k [] (All-tail (λ j. j < at) m (k ∷ []) before);
      shape = ap (λ (a : Array). a.shape) here;
      array = r.array;
      other = r.other;
      few = value_small nodes m node t.fit r.held.there;
      two = r.two;
      shapes = r.shape;
      kinds = r.kind;
      suits = r.suits;
      is = here;
    }

pub record BinaryStrip (nodes : List Node) (at : ℕ) (op : OpKind) (a b : Array) (f n : ℕ) : Type 0 where
  pub array : IsArray a
  pub other : IsArray b
  pub few : size a.shape ≤ most_node_cells
  pub two : takes_two op ≡ true
  pub shape : b.shape ≡ a.shape
  pub kind : b.kind ≡ a.kind
  pub suits : Suits op a.kind
  pub is : binary_of op (result_kind op a.kind) a b ≡ strip f n (value nodes at)

pub binary_strip : (nodes : List Node) (done : List (Option Array)) (at : ℕ) (op : OpKind) (m k : ℕ) (a b : Array) (f n : ℕ) → BinaryTree nodes done at op m k → f + n ≤ size (value nodes at).shape → a ≡ strip f n (value nodes m) → b ≡ strip f n (value nodes k) → BinaryStrip nodes at op a b f n
binary_strip nodes done at op m k a b f n t inside e d =
    let within : f + n ≤ size (value nodes m).shape = subst (λ s. f + n ≤ size s) t.shape inside in
    let fits = strip_fits (value nodes m) a f n t.array t.few within e in
    record {
      array = fits.array;
      other = (strip_fits (value nodes k) b f n t.other (subst (λ s. size s ≤ most_node_cells) (sym t.shapes) t.few) (subst (λ s. f + n ≤ size s) (sym t.shapes) within) d).array;
      few = fits.few;
      two = t.two;
      shape = ap (λ (x : Array). x.shape) d ∙ sym (ap (λ (x : Array). x.shape) e);
      kind = ap (λ (x : Array). x.kind) d ∙ t.kinds ∙ sym (ap (λ (x : Array). x.kind) e);
      suits = subst (λ (x : Array). Suits op x.kind) (sym e) t.suits;
      is = (λ i. binary_of op (result_kind op (e i).kind) (e i) (d i)) ∙ strip_of_two op f n (value nodes m) (value nodes k) t.array t.other t.shapes within ∙ ap (strip f n) (sym t.is);
    }

pub choose_tree : (nodes : List Node) (done : List (Option Array)) (at : ℕ) (node : Node) (c m k : ℕ) → IsTree nodes done at → node ≡ get_or nodes at node → node ≡ Choose c m k → ChooseTree nodes done at c m k
choose_tree nodes done at node c m k t is is_choice =
    let r = choose_ready nodes (each_kept nodes) node c m k is_choice (tree_ready nodes done at node t is) in
    let ids : inputs_at nodes at ≡ c ∷ m ∷ k ∷ [] = inputs_at_is nodes at node t.at_there ∙ ap inputs_of (sym is ∙ is_choice) in
    let strands = subst (All (IsStrand nodes done)) ids t.inputs in
    let rest = All-tail (IsStrand nodes done) c (m ∷ k ∷ []) strands in
    let before = subst (All (λ j. j < at)) ids (inputs_before nodes at node t.fit t.at_there) in
    let behind = All-tail (λ j. j < at) c (m ∷ k ∷ []) before in
    let here : value nodes at ≡ choose_of (value nodes c) (value nodes m) (value nodes k) = by_inputs nodes at node t.fit t.at_there is ∙ sym r.is in
    record {
      cond_strand = All-head (IsStrand nodes done) c (m ∷ k ∷ []) strands;
      strand = All-head (IsStrand nodes done) m (k ∷ []) rest;
      other_strand = All-head (IsStrand nodes done) k [] (All-tail (IsStrand nodes done) m (k ∷ []) rest);
      cond_below = All-head (λ j. j < at) c (m ∷ k ∷ []) before;
      below = All-head (λ j. j < at) m (k ∷ []) behind;
      other_below = All-head (λ j. j < at) k [] (All-tail (λ j. j < at) m (k ∷ []) behind);
      shape = ap (λ (a : Array). a.shape) here;
      cond = r.cond;
      array = r.array;
      other = r.other;
      few = value_small nodes m node t.fit r.held.there;
      truth = r.truth;
      cond_shape = r.cond_shape;
      shapes = r.shape;
      kinds = r.kind;
      is = here;
    }

pub record ChooseStrip (nodes : List Node) (at : ℕ) (c a b : Array) (f n : ℕ) : Type 0 where
  pub cond : IsArray c
  pub array : IsArray a
  pub other : IsArray b
  pub few : size a.shape ≤ most_node_cells
  pub cond_kind : c.kind ≡ truths
  pub cond_shape : c.shape ≡ a.shape
  pub shape : b.shape ≡ a.shape
  pub kind : b.kind ≡ a.kind
  pub is : choose_of c a b ≡ strip f n (value nodes at)

pub choose_strip : (nodes : List Node) (done : List (Option Array)) (at i m k : ℕ) (c a b : Array) (f n : ℕ) → ChooseTree nodes done at i m k → f + n ≤ size (value nodes at).shape → c ≡ strip f n (value nodes i) → a ≡ strip f n (value nodes m) → b ≡ strip f n (value nodes k)
    → ChooseStrip nodes at c a b f n
choose_strip nodes done at i m k c a b f n t inside g e d =
    let within : f + n ≤ size (value nodes m).shape = subst (λ s. f + n ≤ size s) t.shape inside in
    let fits = strip_fits (value nodes m) a f n t.array t.few within e in
    record {
      cond = (strip_fits (value nodes i) c f n t.cond (subst (λ s. size s ≤ most_node_cells) (sym t.cond_shape) t.few) (subst (λ s. f + n ≤ size s) (sym t.cond_shape) within) g).array;
      array = fits.array;
      other = (strip_fits (value nodes k) b f n t.other (subst (λ s. size s ≤ most_node_cells) (sym t.shapes) t.few) (subst (λ s. f + n ≤ size s) (sym t.shapes) within) d).array;
      few = fits.few;
      cond_kind = ap (λ (x : Array). x.kind) g ∙ t.truth;
      cond_shape = ap (λ (x : Array). x.shape) g ∙ sym (ap (λ (x : Array). x.shape) e);
      shape = ap (λ (x : Array). x.shape) d ∙ sym (ap (λ (x : Array). x.shape) e);
      kind = ap (λ (x : Array). x.kind) d ∙ t.kinds ∙ sym (ap (λ (x : Array). x.kind) e);
      is = (λ j. choose_of (g j) (e j) (d j)) ∙ strip_of_choice f n (value nodes i) (value nodes m) (value nodes k) t.cond t.array t.other t.cond_shape t.shapes within ∙ ap (strip f n) (sym t.is);
    }

-- ---- axes that are added

pub record WidenTree (nodes : List Node) (done : List (Option Array)) (at m axis count : ℕ) : Type 0 where
  pub strand : IsStrand nodes done m
  pub below : m < at
  pub axis_is : axis ≤ length (value nodes m).shape
  pub shape : insert (value nodes m).shape axis count ≡ (value nodes at).shape

pub widen_tree : (nodes : List Node) (done : List (Option Array)) (at : ℕ) (node : Node) (m axis count : ℕ) → IsTree nodes done at → node ≡ get_or nodes at node → node ≡ Widen m axis count → WidenTree nodes done at m axis count
widen_tree nodes done at node m axis count t is is_widened =
    let r = widen_ready nodes (each_kept nodes) node m axis count is_widened (tree_ready nodes done at node t is) in
    let ids : inputs_at nodes at ≡ m ∷ [] = inputs_at_is nodes at node t.at_there ∙ ap inputs_of (sym is ∙ is_widened) in
    let here : value nodes at ≡ widened (value nodes m) axis count = by_inputs nodes at node t.fit t.at_there is ∙ sym r.is in
    record {
      strand = All-head (IsStrand nodes done) m [] (subst (All (IsStrand nodes done)) ids t.inputs);
      below = All-head (λ k. k < at) m [] (subst (All (λ k. k < at)) ids (inputs_before nodes at node t.fit t.at_there));
      axis_is = r.widening.axis_is;
      shape = ap (λ (a : Array). a.shape) (sym here);
    }

-- ---- the sorts of nodes that come strip by strip

abbrev pub sort_of : Node → Bool
sort_of node = is_each_cell node || is_some (widens node)

none_found : (w : Option ℕ) (f : ℕ → Option Array) → is_some w ≡ false → is_some (found w f) ≡ false
none_found None f e = refl
none_found (Some n) f e = absurd cc

one_sort : (b c w : Bool) → (b || c) ≡ true → (w ≡ false → c ≡ false) → (b || w) ≡ true
one_sort true c w e h = refl
one_sort false c true e h = refl
one_sort false c false e h = let f = h refl in absurd cc

pub tree_sort : (nodes : List Node) (done : List (Option Array)) (at : ℕ) (node : Node) → IsTree nodes done at → node ≡ get_or nodes at node → sort_of node ≡ true
tree_sort nodes done at node t is =
    let each : node_is is_each_cell nodes at ≡ is_each_cell node = node_is_at is_each_cell nodes at node t.at_there is in
    let widened : widens_at nodes at ≡ widens node = widens_at_is nodes at node t.at_there ∙ ap widens (sym is) in
    one_sort (is_each_cell node) (is_some (spread 16 nodes at)) (is_some (widens node)) (ap (λ b. b || is_some (spread 16 nodes at)) (sym each) ∙ t.in_strips)
    (λ none. none_found (widens_at nodes at) _ (ap is_some widened ∙ none))

only_first : (b c : Bool) → (b || c) ≡ true → c ≡ false → b ≡ true
only_first true c e f = refl
only_first false c e f = absurd cc

-- a node whose cells aren't one cell has each from those at its place
pub tree_each_cell : (nodes : List Node) (done : List (Option Array)) (at : ℕ) (node : Node) → IsTree nodes done at → node ≡ get_or nodes at node → None ≡ spread 16 nodes at → is_each_cell node ≡ true
tree_each_cell nodes done at node t is none =
    sym (node_is_at is_each_cell nodes at node t.at_there is) ∙ only_first (node_is is_each_cell nodes at) (is_some (spread 16 nodes at)) t.in_strips (ap is_some (sym none))

-- ---- a node that leaves its axes in their places

pub stays_tree : (nodes : List Node) (done : List (Option Array)) (at : ℕ) (node : Node) (m : ℕ) (order : List ℕ) → IsTree nodes done at → node ≡ get_or nodes at node → node ≡ Reorder m order → SameTree nodes done at m
stays_tree nodes done at node m order t is is_reorder =
    reordered_tree nodes done at node m order t is is_reorder (sym (or-false (keeps_axes order)) ∙ subst (λ (n : Node). sort_of n ≡ true) is_reorder (tree_sort nodes done at node t is))

-- ---- the input whose sizes a node has

pub record AlikeTree (nodes : List Node) (done : List (Option Array)) (at m : ℕ) : Type 0 where
  pub strand : IsStrand nodes done m
  pub below : m < at
  pub shape : (value nodes at).shape ≡ (value nodes m).shape

pub alike_tree : (nodes : List Node) (done : List (Option Array)) (at : ℕ) (node : Node) (m : ℕ) → IsTree nodes done at → node ≡ get_or nodes at node → Some m ≡ alike node → AlikeTree nodes done at m
alike_tree nodes done at (Source a) m t is e = absurd cc
alike_tree nodes done at (Take n axis from fill drops) m t is e = absurd cc
alike_tree nodes done at (Reorder n order) m t is e = let s : n ≡ m = cc in let u = stays_tree nodes done at (Reorder n order) n order t is refl in subst (AlikeTree nodes done at) s (record { strand = u.strand; below = u.below; shape = ap (λ (a : Array). a.shape) u.is })
alike_tree nodes done at (Widen n axis count) m t is e = absurd cc
alike_tree nodes done at (Unary op kind n) m t is e = let s : n ≡ m = cc in let u = unary_tree nodes done at (Unary op kind n) op kind n t is refl in subst (AlikeTree nodes done at) s (record { strand = u.strand; below = u.below; shape = u.shape })
alike_tree nodes done at (Binary op k n) m t is e = let s : k ≡ m = cc in let u = binary_tree nodes done at (Binary op k n) op k n t is refl in subst (AlikeTree nodes done at) s (record { strand = u.strand; below = u.below; shape = u.shape })
alike_tree nodes done at (Choose c k n) m t is e = let s : k ≡ m = cc in let u = choose_tree nodes done at (Choose c k n) c k n t is refl in subst (AlikeTree nodes done at) s (record { strand = u.strand; below = u.below; shape = u.shape })
alike_tree nodes done at (Fold k n feeds) m t is e = absurd cc
alike_tree nodes done at (Scan k n axis) m t is e = absurd cc
alike_tree nodes done at (Concat ns axis) m t is e = absurd cc
alike_tree nodes done at (Chunk n sizes) m t is e = absurd cc

-- where there is none, an axis is added
sort_left : (node : Node) → sort_of node ≡ true → None ≡ alike node → is_some (widens node) ≡ true
sort_left (Source a) s e = absurd cc
sort_left (Take n axis from fill drops) s e = absurd cc
sort_left (Reorder n order) s e = absurd cc
sort_left (Widen n axis count) s e = refl
sort_left (Unary op kind n) s e = absurd cc
sort_left (Binary op m n) s e = absurd cc
sort_left (Choose c m n) s e = absurd cc
sort_left (Fold k n feeds) s e = absurd cc
sort_left (Scan k n axis) s e = absurd cc
sort_left (Concat ns axis) s e = absurd cc
sort_left (Chunk n sizes) s e = absurd cc

pub adds_axis : (nodes : List Node) (done : List (Option Array)) (at : ℕ) (node : Node) → IsTree nodes done at → node ≡ get_or nodes at node → None ≡ alike node → is_some (widens node) ≡ true
adds_axis nodes done at node t is none = sort_left node (tree_sort nodes done at node t is) none
