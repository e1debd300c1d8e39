-- When a plan of the tests takes a node.
use Rattle.std.proofs.Common.{◌≡◌, ◌≤◌, ◌*◌, ◌<◌, ◌^◌, ◌∙◌, ℕ, zero, suc, true, List, [], ◌∷◌, get_or, length, map, refl, sym, ap, subst, arith}
use Rattle.std.specs.Prelude.{◌==◌}
use Rattle.std.specs.List.{list_any}
use Rattle.xr_types.specs.declared.kind.DType.{DType}
use Rattle.xr_types.specs.declared.kind.DType.TheVariants.{Bool as Truths, Int16}
use Rattle.xr_arrays.specs.Arrays.{Array, IsArray}
use Rattle.xr_types.specs.Points.{size}
use Rattle.xr_types.specs.declared.operation.OpKind.TheVariants.{Cast}
use Rattle.xr_arrays.specs.Nodes.{reordered, values, node_value, IsNode, IsOrder, most_axes, most_node_cells}
use Rattle.xr_arrays.specs.declared.node.Node.{Node}
use Rattle.xr_arrays.specs.declared.node.Node.TheVariants.{Reorder, Source, Unary}
use Rattle.plan_core.proofs.Fitting.{reorder_fits, source_fits, source_values, unary_fits}
use Rattle.plan_tests.specs.Sources.{AreSources}

-- a node that fits behind any two arrays of these kinds and shapes
abbrev pub FitsSources : Node → Type 0
FitsSources node = (a b : Array) → a.kind ≡ Int16 → b.kind ≡ a.kind → a.shape ≡ 2 ∷ 3 ∷ [] → b.shape ≡ 2 ∷ 1 ∷ [] → IsNode (a ∷ b ∷ []) node

pub on_sources : (nodes : List Node) (node : Node) → AreSources nodes → FitsSources node → IsNode (values nodes) node
on_sources nodes node two fits =
    subst (λ (ns : List Node). IsNode (values ns) node) (sym two.are) (subst (λ (vs : List Array). IsNode vs node) (sym (source_values two.left two.right)) (fits two.left two.right two.left_kind (two.right_kind ∙ sym two.left_kind) two.left_shape two.right_shape))

pub two_sources : (nodes : List Node) → AreSources nodes → length nodes ≡ 2
two_sources nodes two = ap length two.are

one_value : (a : Array) → values (Source a ∷ []) ≡ a ∷ []
unfolding node_value
one_value a = refl

pub on_source : (nodes : List Node) (a : Array) (node : Node) → nodes ≡ Source a ∷ [] → IsNode (a ∷ []) node → IsNode (values nodes) node
on_source nodes a node is fits = subst (λ (ns : List Node). IsNode (values ns) node) (sym is) (subst (λ (vs : List Array). IsNode vs node) (sym (one_value a)) fits)

pub source_behind : (nodes : List Node) (a : Array) → IsArray a → size a.shape ≤ most_node_cells → length a.shape ≤ most_axes → IsNode (values nodes) (Source a)
source_behind nodes a array few rank = source_fits (values nodes) a array few rank

-- an array of two axes is small enough where the product of its sizes is
pub few : (s : List ℕ) (m n : ℕ) → s ≡ m ∷ n ∷ [] → m * (n * 1) ≤ most_node_cells → size s ≤ most_node_cells
few s m n is small = subst (λ (t : List ℕ). size t ≤ most_node_cells) (sym is) small

pub low : (s : List ℕ) (m n : ℕ) → s ≡ m ∷ n ∷ [] → length s ≤ most_axes
low s m n is = subst (λ (t : List ℕ). length t ≤ most_axes) (sym is) (omega arith)

pub two_axes : 2 ≤ most_axes
two_axes = omega arith

pub no_truths : (t : DType) → t ≡ Int16 → t ≡ Truths → ⊥
no_truths t is e = differ (sym is ∙ e)
  where
    differ : Int16 ≡ Truths → ⊥
    differ e = cc

-- ---- rows whose axes stay, and a cast of them

each_row : (k : ℕ) → k < 2 → list_any (λ o. o == k) (0 ∷ 1 ∷ []) ≡ true
each_row zero lt = refl
each_row (suc zero) lt = refl
each_row (suc (suc k)) lt = absurd (omega arith)

pub rows_reorder : (a : Array) (order : List ℕ) → a.shape ≡ 3 ∷ 2 ∷ [] → order ≡ 0 ∷ 1 ∷ [] → IsNode (a ∷ []) (Reorder 0 order)
rows_reorder a order shape is =
    let there : 0 < 1 = omega arith in
    let small : 6 ≤ 2 ^ 50 = omega arith in
    subst (λ (order : List ℕ). IsNode (a ∷ []) (Reorder 0 order)) (sym is) (reorder_fits (a ∷ []) 0 (3 ∷ 2 ∷ []) (0 ∷ 1 ∷ []) there shape (refl, each_row) small two_axes)

two_values : (a : Array) (order : List ℕ) → values (Source a ∷ Reorder 0 order ∷ []) ≡ a ∷ reordered a order ∷ []
unfolding node_value
two_values a order = refl

pub rows_cast : (nodes : List Node) (a : Array) (order : List ℕ) (kind : DType) → nodes ≡ Source a ∷ Reorder 0 order ∷ [] → a.shape ≡ 3 ∷ 2 ∷ [] → order ≡ 0 ∷ 1 ∷ [] → IsNode (values nodes) (Unary Cast kind 1)
rows_cast nodes a order kind is shape in_order =
    let there : 1 < 2 = omega arith in
    let small : 6 ≤ 2 ^ 50 = omega arith in
    let sizes : map (λ k. get_or a.shape k 0) order ≡ 3 ∷ 2 ∷ [] = ap (map (λ k. get_or a.shape k 0)) in_order ∙ ap (λ (s : List ℕ). get_or s 0 0 ∷ get_or s 1 0 ∷ []) shape in
    subst (λ (ns : List Node). IsNode (values ns) (Unary Cast kind 1)) (sym is)
    (subst (λ (vs : List Array). IsNode vs (Unary Cast kind 1)) (sym (two_values a order)) (unary_fits (a ∷ reordered a order ∷ []) Cast kind 1 (3 ∷ 2 ∷ []) there sizes refl tt (λ e. absurd cc) small two_axes))
