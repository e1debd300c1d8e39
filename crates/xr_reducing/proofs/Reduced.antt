-- What is made of an array is its reduction.
use Rattle.std.proofs.Common.{◌≡◌, ◌≤◌, ◌==◌, ◌||◌, ◌&&◌, ℕ, ℤ, Bool, true, false, not, List, length, Option, Ok, refl, sym, ap, subst, ◌∙◌, arith}
use Rattle.std.specs.Prelude.{nat_le}
use Rattle.std.specs.List.{list_any}
use Rattle.std.proofs.lemmas.Bool.{eqb-true, leb-true, not-true}
use Rattle.std.proofs.lemmas.List.{length-map}
use Rattle.xr_types.specs.Names.{among, axis_names, shape_over}
use Rattle.xr_types.specs.Points.{size}
use Rattle.xr_types.specs.Results.{unless}
use Rattle.xr_types.specs.declared.attr.Attr.{Attr}
use Rattle.xr_types.specs.declared.axis.Axis.{Axis}
use Rattle.xr_types.specs.declared.fault.Fault.{Fault}
use Rattle.xr_types.specs.declared.fault.Fault.TheVariants.{BadArgument, EmptyReduce, TooLarge}
use Rattle.xr_types.specs.declared.operation.FoldKind.{FoldKind}
use Rattle.xr_arrays.specs.declared.node.Feed.{Feed}
use Rattle.xr_arrays.specs.declared.node.Node.{Node}
use Rattle.xr_arrays.specs.Arrays.{Array}
use Rattle.xr_arrays.specs.Folds.{folded_kind}
use Rattle.xr_arrays.specs.Nodes.{folded, folded_axes, is_positional, kept, most_axes, most_node_cells, value}
use Rattle.xr_defs.specs.Building.{is_chars}
use Rattle.xr_defs.specs.Meanings.{Given}
use Rattle.xr_defs.specs.Values as of
use Rattle.xr_defs.specs.Values.{array_of, names_fill, without_fills}
use Rattle.xr_defs.specs.WellFormed.{AreAttributes, AreCells, IsAttribute, IsDataArray}
use Rattle.xr_defs.proofs.Spans.{points_above}
use Rattle.xr_values.specs.declared.data_array.DataArray.{DataArray}
use Rattle.xr_values.specs.Stands.{array_in, IsArrayIn}
use Rattle.xr_values.proofs.Grown.{array_value}
use Rattle.xr_formulas.specs.declared.chain.Step.TheVariants as step
use Rattle.xr_formulas.specs.declared.made.Made.{Made}
use Rattle.xr_formulas.specs.Chains.{StepFits}
use Rattle.xr_formulas.specs.Mades.{made_in, IsMade}
use Rattle.xr_operations.specs.Reductions.{axes_left, check_cells, check_count, check_size, coords_left, dims_given, feeds, is_emptied, masked_after, needs_cells, reduced, reduced_array}
use Rattle.xr_parts.specs.Frames.{IsFrame}
use Rattle.xr_parts.proofs.Words.{distinct_left, each_left}
use Rattle.xr_reducing.specs.Mades.{reduced_made}
use Rattle.xr_reducing.proofs.Folded.{cells_reduced, fed}
use Rattle.xr_reducing.proofs.Staying.{fed_each, fewer, frame_left, full_left, kept_left}

-- ---- checks that passed

pub passed : (b : Bool) (f : Fault) → unless b f ≡ Ok tt → b ≡ true
unfolding unless
passed true f e = refl
passed false f e = absurd cc

pub cells_passed : (k : FoldKind) (emptied : Bool) → check_cells k emptied ≡ Ok tt → needs_cells k ≡ true → emptied ≡ false
unfolding check_cells
cells_passed k emptied e needs = by (needs_cells k) emptied needs (not-true (needs_cells k && emptied) (passed (not (needs_cells k && emptied)) EmptyReduce e))
  where
    by : (n b : Bool) → n ≡ true → (n && b) ≡ false → b ≡ false
    by true b needs none = none
    by false b needs none = absurd cc

pub count_passed : (k : FoldKind) (fs : List Feed) → check_count k fs ≡ Ok tt → is_positional k ≡ true → folded_axes fs ≡ 1
unfolding check_count
count_passed k fs e positional = eqb-true (folded_axes fs) 1 (by (is_positional k) (folded_axes fs == 1) positional (passed (not (is_positional k) || (folded_axes fs == 1)) BadArgument e))
  where
    by : (n b : Bool) → n ≡ true → (not n || b) ≡ true → b ≡ true
    by true b is one = one
    by false b is one = absurd cc

few_from : (n m : ℕ) → nat_le n m ≡ true → n ≤ m
few_from n m e = leb-true n m e

pub size_passed : (shape : List ℕ) → check_size shape ≡ Ok tt → size shape ≤ 33554432
unfolding check_size
size_passed shape e = few_from (size shape) 33554432 (passed (nat_le (size shape) 33554432) TooLarge e)

-- ---- attributes

pub attrs_left : (attrs : List Attr) → AreAttributes attrs → AreAttributes (without_fills attrs)
attrs_left attrs are = record {
  each = each_left IsAttribute IsAttribute (λ (a : Attr). not (names_fill a)) (λ a e is. is) attrs are.each;
  distinct = distinct_left (λ (a : Attr). a.name) (λ (a : Attr). not (names_fill a)) attrs are.distinct;
}

-- ---- the fold of a node

pub fold_fits : (k : FoldKind) (names dims : List (List ℕ)) (shape : List ℕ) (v : Array) → v.shape ≡ shape → length (feeds names dims) ≡ length shape → (is_positional k ≡ true → folded_axes (feeds names dims) ≡ 1)
    → size (kept (feeds names dims) shape) ≤ 33554432 → length (kept (feeds names dims) shape) ≤ 16 → StepFits (step.Fold k (feeds names dims)) v
fold_fits k names dims shape v is long one few low =
    record {
      fits = (omega arith, subst (λ (s : List ℕ). length (feeds names dims) ≡ length s) (sym is) long, fed names dims v.shape, one);
      small = subst (λ (s : List ℕ). size (kept (feeds names dims) s) ≤ most_node_cells) (sym is) (omega (arith, few));
      low_rank = subst (λ (s : List ℕ). length (kept (feeds names dims) s) ≤ most_axes) (sym is) low;
    }

-- ---- arrays

module _ (nodes : List Node) (k : FoldKind) (names : List (List ℕ)) (a : DataArray) (is : IsArrayIn nodes a)
    (full : needs_cells k ≡ true → list_any (λ (x : Axis). is_emptied names x.name x.size) a.axes ≡ false)
    (one : is_positional k ≡ true → folded_axes (feeds names (axis_names a.axes)) ≡ 1) (few : size (shape_over (axes_left names a.axes)) ≤ 33554432) where
  abbrev dims : List (List ℕ)
  dims = axis_names a.axes

  abbrev before : List ℕ
  before = shape_over a.axes

  abbrev after : List Axis
  after = axes_left names a.axes

  abbrev own : Array
  own = array_of (array_in nodes a)

  to : kept (feeds names dims) before ≡ shape_over after
  to = kept_left names (λ (x : Axis). x.name) (λ (x : Axis). x.size) a.axes

  long : length (feeds names dims) ≡ length before
  long = fed_each names (λ (x : Axis). x.name) (λ (x : Axis). x.size) a.axes

  small : size (kept (feeds names dims) before) ≤ 33554432
  small = subst (λ s. size s ≤ 33554432) (sym to) few

  low : length (kept (feeds names dims) before) ≤ 16
  low =
      let rank = is.formed.cells.low_rank in
      let here = length-map a.axes (λ (x : Axis). x.size) in
      let left = length-map after (λ (x : Axis). x.size) in
      let less = fewer (λ (x : Axis). not (among names x.name)) a.axes in
      subst (λ s. length s ≤ 16) (sym to) (omega (arith, rank, here, left, less))

  cells : AreCells (shape_over after) (folded_kind k a.kind) (masked_after k a.masked) (folded k (feeds names dims) own).cells
  cells =
      subst (λ s. AreCells s (folded_kind k a.kind) (masked_after k a.masked) (folded k (feeds names dims) own).cells) to
      (cells_reduced k names dims before a.kind a.masked (array_in nodes a).cells is.formed.cells long small low (λ e. full_left names (λ (x : Axis). x.name) (λ (x : Axis). x.size) a.axes (full e)))

  frame : IsFrame after (coords_left names a.coords)
  frame = frame_left names a.axes a.coords (record { dims = is.formed.axes; over = is.formed.coords; distinct = is.formed.distinct })

  formed : IsDataArray (reduced k names (array_in nodes a))
  unfolding reduced
  formed = record { name = is.formed.name; axes = frame.dims; coords = frame.over; distinct = frame.distinct; attrs = attrs_left a.attrs is.formed.attrs; cells = cells }

  same : folded k (feeds names dims) (value nodes a.node) ≡ folded k (feeds names dims) own
  same = ap (folded k (feeds names dims)) (array_value nodes a is)

  abbrev made : Made
  made = reduced_made k names a after (feeds names dims)

  is_reduced : made_in nodes made ≡ reduced k names (array_in nodes a)
  unfolding reduced
  is_reduced = ap (λ (v : Array). of_cells v.cells) same
    where
      of_cells : List (Option ℤ) → of.DataArray
      of_cells cells = record { name = a.name; axes = after; kind = folded_kind k a.kind; masked = masked_after k a.masked; attrs = without_fills a.attrs; coords = coords_left names a.coords; cells = cells }

  pub is_made : IsMade nodes made
  is_made =
      let shape : kept (feeds names dims) (value nodes a.node).shape ≡ shape_over after = ap (kept (feeds names dims)) is.node.has_shape ∙ to in
      let points = ap size shape in
      let most = points_above after after frame.dims.distinct (λ n e. e) (λ n. omega arith) in
      record {
        fits = record { start = is.node.placed; steps = (fold_fits k names dims before (value nodes a.node) is.node.has_shape long one small low, tt) };
        shape = shape;
        kind = ap (folded_kind k) is.node.has_kind;
        formed = subst IsDataArray (sym is_reduced) formed;
        room = omega (arith, points, most);
      }

told : (nodes : List Node) (k : FoldKind) (a : DataArray) (g : Given) (names : List (List ℕ)) (m : Made) → IsArrayIn nodes a → is_chars a.kind ≡ false → dims_given (axis_names a.axes) g ≡ Ok names
    → check_cells k (list_any (λ (x : Axis). is_emptied names x.name x.size) a.axes) ≡ Ok tt → check_count k (feeds names (axis_names a.axes)) ≡ Ok tt → check_size (shape_over (axes_left names a.axes)) ≡ Ok tt
    → m ≡ reduced_made k names a (axes_left names a.axes) (feeds names (axis_names a.axes)) → (reduced_array k (array_in nodes a) g ≡ Ok (made_in nodes m)) × IsMade nodes m
unfolding reduced_array unless
told nodes k a g names m is plain dims some count few em =
    let full = cells_passed k (list_any (λ (x : Axis). is_emptied names x.name x.size) a.axes) some in
    let one = count_passed k (feeds names (axis_names a.axes)) count in
    let size_of = size_passed (shape_over (axes_left names a.axes)) few in
    let answer : reduced_array k (array_in nodes a) g ≡ Ok (reduced k names (array_in nodes a)) = rw (plain, dims, some, count, few) refl in
    (answer ∙ ap Ok (sym (ap (made_in nodes) em ∙ is_reduced nodes k names a is full one size_of)), subst (IsMade nodes) (sym em) (is_made nodes k names a is full one size_of))

-- the answer of the call
abbrev Told : List Node → FoldKind → DataArray → Given → List (List ℕ) → Made → List Axis → Type 0
Told nodes k a g names m held = IsArrayIn nodes a → is_chars a.kind ≡ false → dims_given (axis_names held) g ≡ Ok names → check_cells k (list_any (λ (x : Axis). is_emptied names x.name x.size) held) ≡ Ok tt
    → check_count k (feeds names (axis_names held)) ≡ Ok tt → check_size (shape_over (axes_left names held)) ≡ Ok tt → m ≡ reduced_made k names a (axes_left names held) (feeds names (axis_names held))
    → (reduced_array k (array_in nodes a) g ≡ Ok (made_in nodes m)) × IsMade nodes m

pub array_reduced : (nodes : List Node) (k : FoldKind) (a : DataArray) (g : Given) (held left axes : List Axis) (named names : List (List ℕ)) (fs seen : List Feed) (emptied : Bool) (m : Made) → IsArrayIn nodes a → held ≡ a.axes → is_chars a.kind ≡ false → dims_given (axis_names held) g ≡ Ok named → names ≡ named
    → emptied ≡ list_any (λ (x : Axis). is_emptied names x.name x.size) held → check_cells k emptied ≡ Ok tt → seen ≡ feeds names (axis_names held) → check_count k seen ≡ Ok tt → left ≡ axes_left names held → check_size (shape_over left) ≡ Ok tt
    → fs ≡ feeds names (axis_names held) → axes ≡ axes_left names held → m ≡ reduced_made k names a axes fs → (reduced_array k (array_in nodes a) g ≡ Ok (made_in nodes m)) × IsMade nodes m
array_reduced nodes k a g held left axes named names fs seen emptied m is own plain dims same none some eseen count eleft few efs eaxes em =
    subst (Told nodes k a g names m) (sym own) (told nodes k a g names m) is plain (dims ∙ ap Ok (sym same)) (subst (λ b. check_cells k b ≡ Ok tt) none some) (subst (λ gs. check_count k gs ≡ Ok tt) eseen count) (subst (λ (xs : List Axis). check_size (shape_over xs) ≡ Ok tt) eleft few)
    (em ∙ ap (λ xs. reduced_made k names a xs fs) eaxes ∙ ap (reduced_made k names a (axes_left names held)) efs)
