-- What is made of a variable of a dataset is its reduction.
use Rattle.std.proofs.Common.{◌≡◌, ◌≤◌, ◌||◌, ℕ, ℤ, Bool, true, false, not, cond, List, [], ◌∷◌, length, map, Option, refl, sym, ap, subst, ◌∙◌, arith}
use Rattle.std.specs.Str.{bytes_eq}
use Rattle.std.specs.List.{list_any}
use Rattle.std.proofs.lemmas.Bool.{or_parts}
use Rattle.std.proofs.lemmas.List.{length-map, map-id}
use Rattle.xr_types.specs.Names.{among, are_distinct, axis_names}
use Rattle.xr_types.specs.Points.{size}
use Rattle.xr_types.specs.declared.axis.Axis.{Axis}
use Rattle.xr_types.specs.declared.operation.FoldKind.{FoldKind}
use Rattle.xr_arrays.specs.declared.node.Node.{Node}
use Rattle.xr_arrays.specs.Arrays.{Array}
use Rattle.xr_arrays.specs.Folds.{folded_kind}
use Rattle.xr_arrays.specs.Nodes.{folded, folded_axes, is_positional, kept, value}
use Rattle.xr_defs.specs.Room.{greatest, span}
use Rattle.xr_defs.specs.Selecting.{axis_called, variable_array}
use Rattle.xr_defs.specs.Values as of
use Rattle.xr_defs.specs.Values.{without_fills}
use Rattle.xr_defs.specs.WellFormed.{AreCells, IsVariable}
use Rattle.xr_defs.proofs.Spans.{span_above}
use Rattle.xr_values.specs.declared.variable.Variable.{Variable}
use Rattle.xr_values.specs.Stands.{variable_in, IsNodeOf}
use Rattle.xr_values.proofs.Named.{bytes_eq_swap}
use Rattle.xr_formulas.specs.Chains.{chain_cells, chain_value, ChainFits}
use Rattle.xr_operations.specs.Reductions.{axes_left, feeds, is_emptied, masked_after, names_left, needs_cells, size_called, variable_over, variable_reduced}
use Rattle.xr_parts.proofs.Axes.{called_cons}
use Rattle.xr_parts.proofs.Words.{AreAmong, same_text}
use Rattle.xr_reducing.specs.declared.realized.VarMade.{VarMade}
use Rattle.xr_reducing.specs.Reduced.{folded_made, same_made, var_made}
use Rattle.xr_reducing.specs.Sets.{var_made_in}
use Rattle.xr_reducing.proofs.Folded.{cells_reduced, AreFull}
use Rattle.xr_reducing.proofs.Reduced.{attrs_left, fold_fits}
use Rattle.xr_reducing.proofs.Staying.{distinct_names, fed_each, fewer, full_left, kept_left, over_left, sizes_left}

-- ---- a variable has no more points than the axes span

pub called_below : (axes : List Axis) (n : List ℕ) → (axis_called axes n).size ≤ greatest axes n
called_below [] n = omega arith
called_below (x ∷ xs) n = subst (λ (y : Axis). y.size ≤ greatest (x ∷ xs) n) (sym (called_cons x xs n)) (by (bytes_eq x.name n) (bytes_eq_swap n x.name) (called_below xs n))
  where
    by : (b : Bool) → bytes_eq n x.name ≡ b → (axis_called xs n).size ≤ greatest xs n → (cond b x (axis_called xs n)).size ≤ greatest (x ∷ xs) n
    by true e rest = rw (e) (omega arith)
    by false e rest = rw (e) rest

pub named_in : (axes : List Axis) (dims : List (List ℕ)) (n : List ℕ) → AreAmong (axis_names axes) dims → among dims n ≡ true → among (axis_names axes) n ≡ true
named_in axes [] n all has = absurd cc
named_in axes (d ∷ ds) n all has = by (bytes_eq n d) refl has (named_in axes ds n all.1)
  where
    by : (b : Bool) → bytes_eq n d ≡ b → (b || among ds n) ≡ true → (among ds n ≡ true → among (axis_names axes) n ≡ true) → among (axis_names axes) n ≡ true
    by true e has rest = ap (among (axis_names axes)) (same_text n d e) ∙ all.0
    by false e has rest = rest has

pub within_span : (axes : List Axis) (dims : List (List ℕ)) → AreAmong (axis_names axes) dims → are_distinct dims ≡ true → size (map (size_called axes) dims) ≤ span axes
within_span axes dims all d = span_above (λ n. (axis_called axes n).size) dims axes d (λ n has. named_in axes dims n all has) (called_below axes)

-- ---- one that has none of the dimensions

none_left : (names dims : List (List ℕ)) → list_any (among names) dims ≡ false → names_left names dims ≡ dims
none_left names [] none = refl
none_left names (d ∷ ds) none =
    let parts = or_parts (among names d) (list_any (among names) ds) none in
    ap (λ b. cond (not b) (d ∷ names_left names ds) (names_left names ds)) parts.0 ∙ ap (λ es. d ∷ es) (none_left names ds parts.1)

-- ---- a variable

pub record IsVarReduced (nodes : List Node) (axes : List Axis) (means : of.Variable) (m : VarMade) : Type 0 where
  pub is : var_made_in nodes m ≡ means
  pub formed : IsVariable axes means
  pub fits : ChainFits nodes m.cells
  pub shape : (chain_value nodes m.cells).shape ≡ map (size_called axes) m.dims
  pub kind : (chain_value nodes m.cells).kind ≡ m.kind
  pub cells : chain_cells nodes m.cells ≤ size (map (size_called axes) m.dims)

module _ (nodes : List Node) (k : FoldKind) (names : List (List ℕ)) (axes : List Axis) (v : Variable) (plain : is_positional k ≡ false) (node : IsNodeOf nodes v.node (map (size_called axes) v.dims) v.kind) (is : IsVariable axes (variable_in nodes v))
    (full : needs_cells k ≡ true → list_any (λ d. is_emptied names d (size_called axes d)) v.dims ≡ false) (few : size (map (size_called axes) (names_left names v.dims)) ≤ 33554432) where
  abbrev after : List Axis
  after = axes_left names axes

  abbrev before : List ℕ
  before = map (size_called axes) v.dims

  abbrev own : Array
  own = variable_array axes (variable_in nodes v)

  value_is : value nodes v.node ≡ own
  value_is =
      ap (λ k. record { kind = k; shape = (value nodes v.node).shape; cells = (value nodes v.node).cells }) node.has_kind
      ∙ ap (λ s. record { kind = v.kind; shape = s; cells = (value nodes v.node).cells }) node.has_shape

  to_left : kept (feeds names v.dims) before ≡ map (size_called axes) (names_left names v.dims)
  to_left = subst (λ ds. kept (feeds names ds) before ≡ map (size_called axes) (names_left names v.dims)) (map-id v.dims) (kept_left names (λ d. d) (size_called axes) v.dims)

  to : kept (feeds names v.dims) before ≡ map (size_called after) (names_left names v.dims)
  to = to_left ∙ sizes_left names axes v.dims

  long : length (feeds names v.dims) ≡ length before
  long = subst (λ ds. length (feeds names ds) ≡ length before) (map-id v.dims) (fed_each names (λ d. d) (size_called axes) v.dims)

  small : size (kept (feeds names v.dims) before) ≤ 33554432
  small = subst (λ s. size s ≤ 33554432) (sym to_left) few

  low : length (kept (feeds names v.dims) before) ≤ 16
  low =
      let rank = is.cells.low_rank in
      let here = length-map v.dims (size_called axes) in
      let left = length-map (names_left names v.dims) (size_called axes) in
      let less = fewer (λ d. not (among names d)) v.dims in
      subst (λ s. length s ≤ 16) (sym to_left) (omega (arith, rank, here, left, less))

  one : is_positional k ≡ true → folded_axes (feeds names v.dims) ≡ 1
  one e = absurd (never (is_positional k) plain e)
    where
      never : (b : Bool) → b ≡ false → b ≡ true → ⊥
      never b e f = cc

  cells_of : AreCells (kept (feeds names v.dims) before) (folded_kind k v.kind) (masked_after k v.masked) (folded k (feeds names v.dims) own).cells
  cells_of = cells_reduced k names v.dims before v.kind v.masked (value nodes v.node).cells is.cells long small low
      (λ e. subst (λ ds. AreFull (feeds names ds) before) (map-id v.dims) (full_left names (λ d. d) (size_called axes) v.dims (full e)))

  same : folded k (feeds names v.dims) (value nodes v.node) ≡ folded k (feeds names v.dims) own
  same = ap (folded k (feeds names v.dims)) value_is

  makes : (b : Bool) → list_any (among names) v.dims ≡ b → IsVarReduced nodes after (cond b (variable_over k names axes (variable_in nodes v)) (variable_in nodes v)) (cond b (folded_made k names v) (same_made v))
  makes false e =
      let none = none_left names v.dims e in
      let sizes : map (size_called axes) v.dims ≡ map (size_called after) v.dims = subst (λ ds. map (size_called axes) ds ≡ map (size_called after) ds) none (sizes_left names axes v.dims) in
      record {
        is = refl;
        formed = record {
          name = is.name;
          over = subst (AreAmong (axis_names after)) none (over_left names axes v.dims is.over);
          distinct = is.distinct;
          attrs = is.attrs;
          cells = subst (λ s. AreCells s v.kind v.masked (value nodes v.node).cells) sizes is.cells;
        };
        fits = record { start = node.placed; steps = tt };
        shape = node.has_shape ∙ sizes;
        kind = node.has_kind;
        cells = omega arith;
      }
  makes true e =
      let shape : kept (feeds names v.dims) (value nodes v.node).shape ≡ map (size_called after) (names_left names v.dims) = ap (kept (feeds names v.dims)) node.has_shape ∙ to in
      let points = ap size shape in
      record {
        is = ap (λ (w : Array). of_cells w.cells) same;
        formed = record {
          name = is.name;
          over = over_left names axes v.dims is.over;
          distinct = distinct_names names v.dims is.distinct;
          attrs = attrs_left v.attrs is.attrs;
          cells = subst (λ s. AreCells s (folded_kind k v.kind) (masked_after k v.masked) (folded k (feeds names v.dims) own).cells) to cells_of;
        };
        fits = record { start = node.placed; steps = (fold_fits k names v.dims before (value nodes v.node) node.has_shape long one small low, tt) };
        shape = shape;
        kind = ap (folded_kind k) node.has_kind;
        cells = omega (arith, points);
      }
    where
      of_cells : List (Option ℤ) → of.Variable
      of_cells cells = record { name = v.name; dims = names_left names v.dims; kind = folded_kind k v.kind; masked = masked_after k v.masked; attrs = without_fills v.attrs; cells = cells }

  pub var_makes : IsVarReduced nodes after (variable_reduced k names axes (variable_in nodes v)) (var_made k names v)
  var_makes = makes (list_any (among names) v.dims) refl
