-- The variable and the dataset of `demo` in a plan.
use Rattle.std.proofs.Common.{◌≡◌, ◌≤◌, ◌+◌, ◌*◌, ◌++◌, ℕ, ℤ, suc, false, List, [], ◌∷◌, length, map, Option, Some, refl, sym, ap, subst, ◌∙◌, arith, length-append}
use Rattle.std.specs.List.{range_with_len}
use Rattle.std.proofs.lemmas.List.Elements.{All-cons, All-nil}
use Rattle.xr_types.specs.Points.{size}
use Rattle.xr_types.specs.declared.attr.Attr.{Attr}
use Rattle.xr_types.specs.declared.axis.Axis.{Axis}
use Rattle.xr_types.specs.declared.kind.DType.TheVariants.{Int32}
use Rattle.xr_arrays.specs.declared.node.Node.{Node}
use Rattle.xr_arrays.specs.declared.node.Node.TheVariants.{Source}
use Rattle.xr_arrays.specs.Added.{AddsAtMost}
use Rattle.xr_arrays.specs.Arrays.{Array}
use Rattle.xr_arrays.specs.Nodes.{node_value, value, values, IsNode, Pushes}
use Rattle.xr_defs.specs.declared.value.Coord.{Coord}
use Rattle.xr_defs.specs.Room.{of_set, room, span, Portion}
use Rattle.xr_defs.specs.Selecting.{axis_called}
use Rattle.xr_defs.specs.Values as values_of
use Rattle.xr_defs.specs.WellFormed.{IsDataset}
use Rattle.xr_defs.proofs.Spans.{back_among, greatest_both, points_above}
use Rattle.xr_chunks.specs.Demo as of
use Rattle.xr_chunks.proofs.Formed.{cells_count, cells_in_range, demo_formed}
use Rattle.plan_core.proofs.Added.{adds_one, adds_up}
use Rattle.plan_core.proofs.Fitting.{source_fits}
use Rattle.xr_values.proofs.Rooms.{in_room}
use Rattle.xr_values.specs.declared.dataset.Dataset.{Dataset}
use Rattle.xr_values.specs.declared.variable.Variable.{Variable}
use Rattle.xr_values.specs.Stands.{dataset_in, IsNodeOf}
use Rattle.xr_demo.specs.Made.{shape, IsDemo, IsDemoVariable}

-- ---- the cells

abbrev pub array : ℕ → Array
array n = record { kind = Int32; shape = shape n; cells = of.cells n }

both_maps : (is : List ℕ) → map Some (map of.cell is) ≡ map (λ i. Some (of.cell i)) is
both_maps [] = refl
both_maps (i ∷ is) = ap (λ cs. Some (of.cell i) ∷ cs) (both_maps is)

pub numbers_whole : (n : ℕ) (numbers : List ℤ) (s : List ℕ) → numbers ≡ map of.cell (range_with_len 0 (n * 6)) → s ≡ shape n → length numbers ≡ size s
numbers_whole n numbers s is is_shape =
    ap length is ∙ sym (map_length (map of.cell (range_with_len 0 (n * 6)))) ∙ ap length (both_maps (range_with_len 0 (n * 6))) ∙ cells_count n ∙ ap size (sym is_shape)
  where
    map_length : (xs : List ℤ) → length (map Some xs) ≡ length xs
    map_length [] = refl
    map_length (x ∷ xs) = ap suc (map_length xs)

pub cells_are : (n : ℕ) (numbers : List ℤ) (s : List ℕ) → numbers ≡ map of.cell (range_with_len 0 (n * 6)) → s ≡ shape n → record { kind = Int32; shape = s; cells = map Some numbers } ≡ array n
cells_are n numbers s is is_shape =
    ap (λ ns. of_parts s (map Some ns)) is ∙ ap (of_parts s) (both_maps (range_with_len 0 (n * 6))) ∙ ap (λ t. of_parts t (of.cells n)) is_shape
  where
    of_parts : List ℕ → List (Option ℤ) → Array
    of_parts s cells = record { kind = Int32; shape = s; cells = cells }

-- ---- the variable

pub cells_fit : (nodes : List Node) (n : ℕ) (a : Array) → n ≤ 1000000 → a ≡ array n → IsNode (values nodes) (Source a)
cells_fit nodes n a few is =
    subst (λ b. IsNode (values nodes) (Source b)) (sym is) (source_fits (values nodes) (array n) (record { whole = cells_count n; range = cells_in_range n }) (omega arith) (omega arith))

module _ (old new : List Node) (n place : ℕ) (a : Array) (is : a ≡ array n) (pushes : Pushes old new (Source a) place) where
  stands : value new place ≡ array n
  unfolding node_value
  stands = pushes.stands ∙ is

  pub cells_add : AddsAtMost old new (size (shape n))
  cells_add = let same : size (value new place).shape ≡ size (shape n) = ap (λ (b : Array). size b.shape) stands in adds_one old new (Source a) place (size (shape n)) pushes (omega arith)

  pub variable_placed : (name : List ℕ) (dims : List (List ℕ)) (attrs : List Attr) → name ≡ of.name → dims ≡ of.dims → attrs ≡ []
      → IsDemoVariable new n (record { name = name; dims = dims; kind = Int32; masked = false; attrs = attrs; node = place })
  variable_placed name dims attrs is_name is_dims no_attrs = record {
    is = ap (λ (b : Array). of_parts name dims attrs b.cells) stands ∙ ap (λ x. of_parts x dims attrs (of.cells n)) is_name ∙ ap (λ x. of_parts of.name x attrs (of.cells n)) is_dims ∙ ap (λ x. of_parts of.name of.dims x (of.cells n)) no_attrs;
    node = record {
      placed = let longer : length new ≡ length old + 1 = ap length pushes.added ∙ length-append old (Source a ∷ []) in let at = pushes.placed in omega arith;
      has_shape = ap (λ (b : Array). b.shape) stands;
      has_kind = ap (λ (b : Array). b.kind) stands;
    };
  }
    where
      of_parts : List ℕ → List (List ℕ) → List Attr → List (Option ℤ) → values_of.Variable
      of_parts name dims attrs cells = record { name = name; dims = dims; kind = Int32; masked = false; attrs = attrs; cells = cells }

-- ---- the dataset

module _ (nodes : List Node) (n : ℕ) (v : Variable) (is : IsDemoVariable nodes n v) where
  abbrev demo_over : Dataset
  demo_over = record { axes = of.axes n; coords = []; vars = v ∷ []; attrs = []; skipped = [] }

  over_is : dataset_in nodes demo_over ≡ of.demo_set n
  over_is = ap (λ w. record { axes = of.axes n; coords = []; vars = w ∷ []; attrs = []; skipped = [] }) is.is

  over_node : IsNodeOf nodes v.node (map (λ d. (axis_called (of.axes n) d).size) v.dims) v.kind
  over_node =
      let dims : v.dims ≡ of.dims = ap (λ (w : values_of.Variable). w.dims) is.is in
      let kind : v.kind ≡ Int32 = ap (λ (w : values_of.Variable). w.kind) is.is in
      subst (IsNodeOf nodes v.node (map (λ d. (axis_called (of.axes n) d).size) v.dims)) (sym kind)
      (subst (λ ds. IsNodeOf nodes v.node (map (λ d. (axis_called (of.axes n) d).size) ds) Int32) (sym dims) is.node)

  over_stands : n ≤ 1000000 → IsDemo nodes n demo_over
  over_stands few = record {
    is = over_is;
    inside = record {
      nodes_of = All-cons (λ (w : Variable). IsNodeOf nodes w.node (map (λ d. (axis_called (of.axes n) d).size) w.dims) w.kind) v [] over_node (All-nil (λ (w : Variable). IsNodeOf nodes w.node (map (λ d. (axis_called (of.axes n) d).size) w.dims) w.kind));
      formed = subst IsDataset (sym over_is) (demo_formed n few);
    };
  }

  pub set_placed : (axes : List Axis) (coords : List Coord) (vars : List Variable) (attrs : List Attr) (skipped : List (List ℕ)) → n ≤ 1000000
      → axes ≡ of.axes n → coords ≡ [] → vars ≡ v ∷ [] → attrs ≡ [] → skipped ≡ [] → IsDemo nodes n (record { axes = axes; coords = coords; vars = vars; attrs = attrs; skipped = skipped })
  set_placed axes coords vars attrs skipped few is_axes no_coords is_vars no_attrs no_skipped = subst (IsDemo nodes n) (sym same) (over_stands few)
    where
      of_parts : List Axis → List Coord → List Variable → List Attr → List (List ℕ) → Dataset
      of_parts axes coords vars attrs skipped = record { axes = axes; coords = coords; vars = vars; attrs = attrs; skipped = skipped }

      same : of_parts axes coords vars attrs skipped ≡ demo_over
      same =
          ap (λ x. of_parts x coords vars attrs skipped) is_axes ∙ ap (λ x. of_parts (of.axes n) x vars attrs skipped) no_coords ∙ ap (λ x. of_parts (of.axes n) [] x attrs skipped) is_vars
          ∙ ap (λ x. of_parts (of.axes n) [] (v ∷ []) x skipped) no_attrs ∙ ap (of_parts (of.axes n) [] (v ∷ []) []) no_skipped

-- ---- what it adds

pub set_room : (old new : List Node) (n : ℕ) (s : Dataset) → IsDemo new n s → AddsAtMost old new (size (shape n)) → (p : Portion) → AddsAtMost old new (room (p ∷ of_set (dataset_in new s) ∷ []))
set_room old new n s is adds p =
    let q : Portion = of_set (of.demo_set n) in
    let le = points_above (of.axes n) (p.axes ++ of.axes n) refl (back_among p.axes (of.axes n)) (λ k. let both = greatest_both p.axes (of.axes n) k in omega arith) in
    subst (λ t. AddsAtMost old new (room (p ∷ of_set t ∷ []))) (sym is.is)
    (in_room old new p q 1 (omega arith) (adds_up old new (size (shape n)) (1 * span (p.axes ++ of.axes n)) (omega arith) adds))
