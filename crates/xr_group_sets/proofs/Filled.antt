-- Folds of lists along one axis, with a fill where a list is empty.
use Rattle.std.proofs.Common.{◌≡◌, ◌≤◌, ◌*◌, ◌||◌, ℕ, ℤ, Bool, true, false, not, inl, inr, List, [], ◌∷◌, Option, Some, None, is_some, Result, Ok, Err, All, ◌⊎◌, refl, sym, ap, subst, ◌∙◌}
use Rattle.std.specs.Prelude.{IfOk}
use Rattle.std.specs.Str.{bytes_eq}
use Rattle.std.specs.List.{AllByRecursion, list_any}
use Rattle.std.proofs.lemmas.Bool.{not-true, or_parts}
use Rattle.xr_types.specs.Kinds.{in_range}
use Rattle.xr_types.specs.Names.{among, axis_names, shape_over}
use Rattle.xr_types.specs.Points.{size}
use Rattle.xr_types.specs.Results.{unless}
use Rattle.xr_types.specs.declared.attr.Attr.{Attr}
use Rattle.xr_types.specs.declared.axis.Axis.{Axis}
use Rattle.xr_types.specs.declared.fault.Fault.TheVariants.{DoesNotFit, WouldPromote}
use Rattle.xr_types.specs.declared.kind.DType.{DType}
use Rattle.xr_types.specs.declared.operation.FoldKind.{FoldKind}
use Rattle.xr_arrays.specs.declared.node.Node.{Node}
use Rattle.xr_arrays.specs.Added.{AddsAtMost}
use Rattle.xr_arrays.specs.Arrays.{Array, IsCell}
use Rattle.xr_arrays.specs.Folds.{folded_kind}
use Rattle.xr_arrays.specs.Nodes.{value, ArePositions}
use Rattle.plan_core.proofs.Added.{adds_up}
use Rattle.xr_defs.specs.Parts.{axes_called}
use Rattle.xr_defs.specs.Room.{span}
use Rattle.xr_defs.specs.Selecting.{axis_called}
use Rattle.xr_defs.specs.Values as of
use Rattle.xr_defs.specs.Values.{without_fills}
use Rattle.xr_defs.specs.WellFormed.{names_of, IsDataArray}
use Rattle.xr_defs.specs.declared.value.Coord.{Coord}
use Rattle.xr_operations.specs.CellMethods.{check_fits}
use Rattle.xr_operations.specs.Moves.{check_fill}
use Rattle.xr_operations.specs.Reductions.{check_size, coords_left}
use Rattle.xr_parts.specs.Frames.{IsFrame}
use Rattle.xr_parts.proofs.Axes.{called_again, named_again}
use Rattle.xr_parts.proofs.Words.{AreAmong, absent_among}
use Rattle.xr_reducing.proofs.Reduced.{passed, size_passed}
use Rattle.xr_values.proofs.Named.{bytes_eq_swap}
use Rattle.xr_values.specs.declared.data_array.DataArray.{DataArray}
use Rattle.xr_values.specs.Stands.{array_in, IsArrayIn}
use Rattle.xr_formulas.specs.declared.chain.Chain.{Chain}
use Rattle.xr_formulas.specs.declared.made.Formula.TheVariants.{One}
use Rattle.xr_formulas.specs.declared.made.Made.{Made}
use Rattle.xr_formulas.specs.Chains.{chain_cells, chain_value, ChainFits, IsValueOf}
use Rattle.xr_formulas.specs.Mades.{formula_value, made_in, made_with, IsArrayOf, IsMade}
use Rattle.xr_groups.specs.declared.change.Change.{Change}
use Rattle.xr_groups.specs.declared.change.Least.{Least}
use Rattle.xr_groups.specs.declared.change.Least.TheVariants.{Never, Empty}
use Rattle.xr_groups.specs.Groupings.{is_free}
use Rattle.xr_groups.specs.Listed.{axes_by, dimensions, is_grouped}
use Rattle.xr_groups.specs.Methods.{array_listed, check_filled, check_given, has_empty, masked_by}
use Rattle.xr_grouping.specs.Changes.{IsChange}
use Rattle.xr_grouping.specs.Mades.{lists_chain, made_by}
use Rattle.xr_grouping.proofs.Binned.{all_full}
use Rattle.xr_grouping.proofs.Filling.{filled_listed, filled_made}
use Rattle.xr_grouping.proofs.Named.{one_of, IsOne}
use Rattle.xr_grouping.proofs.Ranges.{in_kind}
use Rattle.xr_group_sets.specs.Listing.{IsFull, IsListing}
use Rattle.xr_group_sets.proofs.Folded.{same_array}
use Rattle.xr_group_sets.proofs.Framed.{one_named, AreNamed}

-- ---- a grouped dimension of some of the axes

pub grouped_has : (c : Change) (ds : List (List ℕ)) → is_grouped (c ∷ []) ds ≡ true → among ds c.dimension ≡ true
grouped_has c [] some = absurd cc
grouped_has c (d ∷ ds) some = by (bytes_eq d c.dimension) (bytes_eq_swap c.dimension d) some (grouped_has c ds)
  where
    by : (b : Bool) → bytes_eq c.dimension d ≡ b → ((b || false) || is_grouped (c ∷ []) ds) ≡ true → (is_grouped (c ∷ []) ds ≡ true → among ds c.dimension ≡ true) → (bytes_eq c.dimension d || among ds c.dimension) ≡ true
    by true e some rest = ap (λ b. b || among ds c.dimension) e
    by false e some rest = ap (λ b. b || among ds c.dimension) e ∙ rest some

module _ (axes : List Axis) (coords : List Coord) (others : List (List ℕ)) (frame : IsFrame axes coords) (c : Change) (is : IsChange axes coords others c) (dims : List (List ℕ)) (over : AreAmong (axis_names axes) dims) (some : is_grouped (c ∷ []) dims ≡ true) where
  has : among dims c.dimension ≡ true
  has = grouped_has c dims some

  same : axis_called (axes_called axes dims) c.dimension ≡ axis_called axes c.dimension
  same = called_again axes dims c.dimension over has

  free_of : among (axis_names axes) c.axis.name ≡ false → is_free c.axis.name (axes_called axes dims) [] [] ≡ true
  free_of fresh = ap (λ b. not (b || false || false)) (ap (λ ns. among ns c.axis.name) (named_again axes dims over) ∙ absent_among (axis_names axes) dims c.axis.name over fresh)

  pub own_change : IsChange (axes_called axes dims) [] [] c
  own_change = record {
    has = ap (λ ns. among ns c.dimension) (named_again axes dims over) ∙ has;
    axis = is.axis;
    sized = is.sized;
    fed = subst (λ (x : Axis). All (ArePositions x.size 0) c.lists) (sym same) is.fed;
    named = by (one_named axes coords others c frame is);
    labelled = λ e l. ap (λ (x : Axis). is_some x.labels) same ∙ is.labelled e l;
  }
    where
      by : AreNamed axes coords (c ∷ []) → (c.axis.name ≡ c.dimension) ⊎ ((is_free c.axis.name (axes_called axes dims) [] [] ≡ true) ⊎ ((among (names_of []) c.axis.name ≡ true) × (among (names_of (coords_left (c.dimension ∷ []) [])) c.axis.name ≡ false)))
      by (inl all) = inl all.0
      by (inr one) = let e : c ≡ one.0 = cc (one.1.is) in inr (inl (free_of (ap (λ (d : Change). among (axis_names axes) d.axis.name) e ∙ one.1.fresh)))

-- ---- an array that a call makes, in a plan

made_placed : (old new : List Node) (m : Made) (c : Chain) (at_node : ℕ) → m.cells ≡ One c → IsMade old m → IsValueOf new (chain_value old c) at_node
    → IsArrayOf new (made_in old m) (record { name = m.name; axes = m.axes; kind = m.kind; masked = m.masked; attrs = m.attrs; coords = m.coords; node = at_node })
made_placed old new m c at_node cells is there =
    let same : value new at_node ≡ formula_value old m.cells = there.is ∙ ap (formula_value old) (sym cells) in
    let means : made_with m (value new at_node).cells ≡ made_in old m = ap (λ (v : Array). made_with m v.cells) same in
    record {
      is = means;
      inside = record {
        node = record { placed = there.inside; has_shape = ap (λ (v : Array). v.shape) same ∙ is.shape; has_kind = ap (λ (v : Array). v.kind) same ∙ is.kind };
        formed = subst IsDataArray (sym means) is.formed;
      };
    }

fill_fits : (t : DType) (x : Option ℤ) → check_given t (Some x) ≡ Ok tt → IsCell t x
unfolding check_given check_fill check_fits
fill_fits t None e = tt
fill_fits t (Some n) e = in_kind t n (passed (in_range t n) DoesNotFit e)

-- ---- as the code hands them on

module _ (old : List Node) (k : FoldKind) (cs : List Change) (x : Option ℤ) (a : DataArray) (is : IsArrayIn old a) (bare : a.coords ≡ []) (fits : IsListing k Empty cs (Some x) a.axes a.kind) where
  abbrev c : Change
  c = (fits.sole refl).0

  alone : cs ≡ c ∷ []
  alone = (fits.sole refl).1

  frame : IsFrame a.axes a.coords
  frame = record { dims = is.formed.axes; over = is.formed.coords; distinct = is.formed.distinct }

  one : IsOne a.axes a.coords c
  one = one_of a.axes a.coords c frame (subst (λ ys. IsChange a.axes ys [] c) (sym bare) (fits.sole refl).2)

  few : size (shape_over (axes_by (c ∷ []) a.axes)) ≤ 33554432
  few = size_passed (shape_over (axes_by (c ∷ []) a.axes)) (subst (λ ds. check_size (shape_over (axes_by ds a.axes)) ≡ Ok tt) alone fits.few)

  suits : IsCell (folded_kind k a.kind) x
  suits = fill_fits (folded_kind k a.kind) x fits.suits

  abbrev made_of : List Change → Made
  made_of ds = made_by k (masked_by k Empty a.masked (Some x)) ds (lists_chain k ds (Some x) a) a

  is_made : IsMade old (made_of cs)
  is_made = subst (λ ds. IsMade old (made_of ds)) (sym alone) (filled_made old k c a is fits.method one few x suits)

  is_listed : made_in old (made_of cs) ≡ array_listed k Empty false cs (Some x) (array_in old a)
  is_listed = subst (λ ds. made_in old (made_of ds) ≡ array_listed k Empty false ds (Some x) (array_in old a)) (sym alone) (filled_listed old k c a is fits.method one few x suits)

  pub filled_fits : (chain : Chain) → chain ≡ lists_chain k cs (Some x) a → ChainFits old chain
  filled_fits chain e = subst (ChainFits old) (sym e) is_made.fits

  pub filled_told : (new : List Node) (axes : List Axis) (chain : Chain) (at_node : ℕ) (name : Option (List ℕ)) (kind : DType) (masked : Bool) (attrs : List Attr) (coords : List Coord) → chain ≡ lists_chain k cs (Some x) a → axes ≡ axes_by cs a.axes → IsValueOf new (chain_value old chain) at_node
      → AddsAtMost old new (chain_cells old chain) → name ≡ a.name → kind ≡ folded_kind k a.kind → masked ≡ masked_by k Empty a.masked (Some x) → attrs ≡ without_fills a.attrs → coords ≡ []
      → IsArrayOf new (array_listed k Empty false cs (Some x) (array_in old a)) (record { name = name; axes = axes; kind = kind; masked = masked; attrs = attrs; coords = coords; node = at_node }) × AddsAtMost old new (256 * span (axes_by cs a.axes))
  filled_told new axes chain at_node name kind masked attrs coords e ex there adds en ek em ea ec =
      let left : coords ≡ coords_left (dimensions cs) a.coords = ec ∙ ap (coords_left (dimensions cs)) (sym bare) in (
        subst (IsArrayOf new (array_listed k Empty false cs (Some x) (array_in old a))) (λ i. record { name = sym en i; axes = sym ex i; kind = sym ek i; masked = sym em i; attrs = sym ea i; coords = sym left i; node = at_node })
            (subst (λ (d : of.DataArray). IsArrayOf new d (record { name = a.name; axes = axes_by cs a.axes; kind = folded_kind k a.kind; masked = masked_by k Empty a.masked (Some x); attrs = without_fills a.attrs; coords = coords_left (dimensions cs) a.coords; node = at_node })) is_listed
            (made_placed old new (made_of cs) (lists_chain k cs (Some x) a) at_node refl is_made (subst (λ d. IsValueOf new (chain_value old d) at_node) e there))),
        adds_up old new (chain_cells old chain) (256 * span (axes_by cs a.axes)) (subst (λ d. chain_cells old d ≤ 256 * span (axes_by cs a.axes)) (sym e) is_made.room) adds,
      )

-- no list is empty where no fill is needed
module _ (old : List Node) (k : FoldKind) (cs : List Change) (a : DataArray) (is : IsArrayIn old a) (fits : IsListing k Empty cs None a.axes a.kind) where
  full : AllByRecursion IsFull cs
  unfolding check_filled
  full =
      let none : list_any has_empty cs ≡ false = not-true (list_any has_empty cs) (passed (not (list_any has_empty cs)) WouldPromote fits.filled) in
      each cs none
    where
      each : (ds : List Change) → list_any has_empty ds ≡ false → AllByRecursion IsFull ds
      each [] none = tt
      each (d ∷ ds) none = let parts = or_parts (has_empty d) (list_any has_empty ds) none in (all_full d.lists parts.0, each ds parts.1)

  pub plain_fits : IsListing k Never cs None a.axes a.kind
  unfolding check_filled unless
  plain_fits = record {
    each = fits.each;
    distinct = fits.distinct;
    grouped = fits.grouped;
    method = fits.method;
    full = λ e. full;
    sole = λ e. absurd cc;
    windows = λ m e. absurd cc;
    one = fits.one;
    filled = refl;
    suits = fits.suits;
    few = fits.few;
  }

  pub plain_told : (new : List Node) (b : DataArray) → IsArrayOf new (array_listed k Never false cs None (array_in old a)) b → IsArrayOf new (array_listed k Empty false cs None (array_in old a)) b
  plain_told new b e = subst (λ (d : of.DataArray). IsArrayOf new d b) (same_array old k cs a is fits.each full) e

-- as it is handed on where lists may be empty and no fill is given
pub plain_by : (old : List Node) (k : FoldKind) (least : Least) (cs : List Change) (fill : Option (Option ℤ)) (a : DataArray) → IsArrayIn old a → IsListing k least cs fill a.axes a.kind → least ≡ Empty → fill ≡ None → IsListing k Never cs None a.axes a.kind
plain_by old k least cs fill a is fits el ef =
    plain_fits old k cs a is (subst (λ f. IsListing k Empty cs f a.axes a.kind) ef (subst (λ l. IsListing k l cs fill a.axes a.kind) el fits))

pub told_by : (old new : List Node) (k : FoldKind) (least : Least) (cs : List Change) (fill : Option (Option ℤ)) (a : DataArray) {E : Type 0} (r : Result DataArray E) → IsArrayIn old a → IsListing k least cs fill a.axes a.kind → least ≡ Empty → fill ≡ None
    → IfOk r (IsArrayOf new (array_listed k Never false cs None (array_in old a))) → IfOk r (IsArrayOf new (array_listed k least false cs fill (array_in old a)))
told_by old new k least cs fill a (Ok b) is fits el ef e =
    subst (λ l. IsArrayOf new (array_listed k l false cs fill (array_in old a)) b) (sym el) (subst (λ f. IsArrayOf new (array_listed k Empty false cs f (array_in old a)) b) (sym ef)
    (plain_told old k cs a is (subst (λ f. IsListing k Empty cs f a.axes a.kind) ef (subst (λ l. IsListing k l cs fill a.axes a.kind) el fits)) new b e))
told_by old new k least cs fill a (Err f) is fits el ef e = tt
