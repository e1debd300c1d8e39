-- What arrays and datasets of a plan stand for is kept while the plan grows, and what stands for a node that was added.
use Rattle.xr_values.proofs.Common.{All, All-head, All-tail, All-weaker, Array, DataArray, Grows, IsArrayIn, IsDataArray, IsDataset, IsDatasetIn, IsNodeOf, List, Node, Pushes, Variable, [], ap, arith, array_in, array_of, dataset_in, length, length-append, map, node_value, refl, shape_named, shape_over, subst, sym, value, values, variable_in, with_cells, ℕ, ◌<◌, ◌∙◌, ◌∷◌, ◌≡◌}
use Rattle.xr_types.specs.declared.kind.DType.{DType}
use Rattle.xr_defs.specs.Values as of
use Rattle.plan_core.proofs.Plans.{grown-length, grown_value, values-length}
use Rattle.xr_values.specs.declared.dataset.Dataset.{Dataset}

-- ---- nodes

pub node_kept : (old new : List Node) (n : ℕ) (shape : List ℕ) (kind : DType) → Grows old new → IsNodeOf old n shape kind → IsNodeOf new n shape kind
node_kept old new n shape kind g is =
    let same = grown_value old new n g is.placed in
    let longer = grown-length old new g in
    record {
      placed = omega (arith, is.placed);
      has_shape = ap (λ (a : Array). a.shape) same ∙ is.has_shape;
      has_kind = ap (λ (a : Array). a.kind) same ∙ is.has_kind;
    }

-- a node of the plan has a value, as what is built on it asks
pub node_valued : (nodes : List Node) (n : ℕ) (shape : List ℕ) (kind : DType) → IsNodeOf nodes n shape kind → n < length (values nodes)
node_valued nodes n shape kind is = let long = values-length nodes in omega (arith, is.placed)

-- ---- arrays

pub array_kept : (old new : List Node) (a : DataArray) → Grows old new → IsArrayIn old a → array_in new a ≡ array_in old a
array_kept old new a g is = ap (λ (v : Array). with_cells a v.cells) (grown_value old new a.node g is.node.placed)

pub stays_array : (old new : List Node) (a : DataArray) → Grows old new → IsArrayIn old a → IsArrayIn new a
stays_array old new a g is =
    record {
      node = node_kept old new a.node (shape_over a.axes) a.kind g is.node;
      formed = subst IsDataArray (sym (array_kept old new a g is)) is.formed;
    }

-- the value of its node is the array
pub array_value : (nodes : List Node) (a : DataArray) → IsArrayIn nodes a → value nodes a.node ≡ array_of (array_in nodes a)
array_value nodes a is = λ i. record { kind = is.node.has_kind i; shape = is.node.has_shape i; cells = (value nodes a.node).cells }

-- ---- datasets

pub map_kept : {X Y : Type 0} (P : X → Type 0) (f g : X → Y) → ((x : X) → P x → f x ≡ g x) → (xs : List X) → All P xs → map f xs ≡ map g xs
map_kept P f g same [] all = refl
map_kept P f g same (x ∷ xs) all = ap (λ y. y ∷ map f xs) (same x (All-head P x xs all)) ∙ ap (λ ys. g x ∷ ys) (map_kept P f g same xs (All-tail P x xs all))

pub dataset_kept : (old new : List Node) (s : Dataset) → Grows old new → IsDatasetIn old s → dataset_in new s ≡ dataset_in old s
dataset_kept old new s g is =
    ap (λ (vs : List of.Variable). record (dataset_in old s) { vars = vs })
    (map_kept (λ (v : Variable). IsNodeOf old v.node (shape_named s v) v.kind) (variable_in new) (variable_in old) (λ v at. ap (λ (x : Array). record (variable_in old v) { cells = x.cells }) (grown_value old new v.node g at.placed)) s.vars is.nodes_of)

pub stays_dataset : (old new : List Node) (s : Dataset) → Grows old new → IsDatasetIn old s → IsDatasetIn new s
stays_dataset old new s g is =
    record {
      nodes_of = All-weaker (λ (v : Variable). IsNodeOf old v.node (shape_named s v) v.kind) (λ (v : Variable). IsNodeOf new v.node (shape_named s v) v.kind)
          (λ v. node_kept old new v.node (shape_named s v) v.kind g) s.vars is.nodes_of;
      formed = subst IsDataset (sym (dataset_kept old new s g is)) is.formed;
    }

-- ---- a node that was added

module _ (old new : List Node) (node : Node) (place : ℕ) (v : Array) (means : node_value (values old) node ≡ v) (pushes : Pushes old new node place) where
  pub pushed_value : value new place ≡ v
  pushed_value = pushes.stands ∙ means

  pub pushed_node : IsNodeOf new place v.shape v.kind
  pushed_node = record {
    placed = let long = ap length pushes.added in let more = length-append old (node ∷ []) in let at = pushes.placed in omega arith;
    has_shape = ap (λ (a : Array). a.shape) pushed_value;
    has_kind = ap (λ (a : Array). a.kind) pushed_value;
  }

  module _ (a : DataArray) (at : a.node ≡ place) where
    -- an array over it has its cells
    pub pushed_cells : array_in new a ≡ with_cells a v.cells
    pushed_cells = ap (λ n. with_cells a (value new n).cells) at ∙ ap (λ (x : Array). with_cells a x.cells) pushed_value

    -- and is one of the plan
    pub pushed_array : v.shape ≡ shape_over a.axes → v.kind ≡ a.kind → IsDataArray (with_cells a v.cells) → IsArrayIn new a
    pushed_array shape kind formed =
        record { node = rw (at, ← shape, ← kind) pushed_node; formed = subst IsDataArray (sym pushed_cells) formed }
