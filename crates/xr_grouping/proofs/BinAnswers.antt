-- The answer of a method of an array in bins.
use Rattle.std.proofs.Common.{◌≡◌, ◌<◌, ◌≤◌, ◌==◌, ◌||◌, Bool, true, false, not, cond, ℕ, ℤ, List, [], ◌∷◌, length, get_or, Option, None, Some, is_some, All, Ok, refl, sym, ap, subst, ◌∙◌, arith}
use Rattle.std.specs.List.{list_any}
use Rattle.std.proofs.lemmas.Bool.{not-true, or_parts}
use Rattle.std.proofs.lemmas.Bool.Decides.{nat_tests}
use Rattle.std.proofs.lemmas.List.{length-map}
use Rattle.std.specs.Prelude.{slice_set}
use Rattle.xr_types.specs.Names.{among, are_distinct, axis_names, shape_over}
use Rattle.xr_types.specs.Points.{size, IsPoint}
use Rattle.xr_types.specs.Results.{unless}
use Rattle.xr_types.specs.Kinds.{in_range}
use Rattle.xr_types.specs.declared.axis.Axis.{Axis}
use Rattle.xr_types.specs.declared.fault.Fault.TheVariants.{BadArgument, DoesNotFit, WouldPromote}
use Rattle.xr_types.specs.declared.kind.DType.{DType}
use Rattle.xr_types.specs.declared.operation.FoldKind.{FoldKind}
use Rattle.xr_arrays.specs.declared.node.Node.{Node}
use Rattle.xr_times.specs.declared.time.Freq.{Freq}
use Rattle.xr_arrays.specs.Arrays.{Array, IsCell}
use Rattle.xr_arrays.specs.Folds.{fold_of, folded_kind}
use Rattle.xr_arrays.specs.Nodes.{kept, ArePositions}
use Rattle.plan_core.proofs.Tabs.{tab_same}
use Rattle.xr_defs.specs.WellFormed.{AreCells}
use Rattle.xr_defs.specs.declared.grouping.Grouping.TheVariants.{Bins}
use Rattle.xr_values.specs.declared.data_array.DataArray.{DataArray}
use Rattle.xr_values.specs.Stands.{array_in, IsArrayIn}
use Rattle.xr_formulas.specs.declared.made.Made.{Made}
use Rattle.xr_formulas.specs.Mades.{made_in, IsMade}
use Rattle.xr_operations.specs.Reductions.{check_size, masked_after}
use Rattle.xr_reducing.proofs.Reduced.{size_passed}
use Rattle.xr_groups.specs.declared.change.Change.{Change}
use Rattle.xr_groups.specs.declared.change.Least.TheVariants.{Never, Empty}
use Rattle.xr_groups.specs.Groupings.{grouped_changes}
use Rattle.xr_groups.specs.Listed.{axes_by, feeds_by, is_grouped, listed}
use Rattle.xr_groups.specs.Methods.{array_by, array_listed, check_filled, check_given, has_empty, masked_by, of_groups}
use Rattle.xr_operations.specs.Moves.{check_fill}
use Rattle.xr_operations.specs.CellMethods.{check_fits}
use Rattle.xr_defs.specs.Meanings.{Given}
use Rattle.xr_formulas.specs.declared.chain.Chain.{Chain}
use Rattle.xr_grouping.specs.Mades.{binned_of, fill_asked, folded_made, lists_chain, made_by}
use Rattle.xr_grouping.proofs.Answering.{grouped_one, passes}
use Rattle.xr_grouping.proofs.Binned.{all_full}
use Rattle.xr_grouping.proofs.Filling.{filled_listed, filled_made}
use Rattle.xr_grouping.proofs.Ranges.{in_kind}
use Rattle.xr_grouping.proofs.Changed.{binned, IsOneOf}
use Rattle.xr_grouping.proofs.Folding.{is_listed, is_made}
use Rattle.xr_grouping.proofs.Listing.{found, found_length, listed_place, own}
use Rattle.xr_grouping.proofs.Named.{one_of, IsOne}
use Rattle.xr_parts.specs.Frames.{IsFrame}
use Rattle.xr_grouping.proofs.OneList.{kept_one, place, place_inside}

or_false : (b : Bool) → (b || false) ≡ b
or_false true = refl
or_false false = refl

-- where no list is empty, each is folded
module _ (k : FoldKind) (c : Change) (dims : List (List ℕ)) (shape : List ℕ) (t : DType) (masked : Bool) (cells : List (Option ℤ)) (is : AreCells shape t masked cells) (long : length dims ≡ length shape)
    (has : among dims c.dimension ≡ true) (distinct : are_distinct dims ≡ true) (inside : place c dims < length shape) (fed : All (ArePositions (get_or shape (place c dims) 0) 0) c.lists)
    (shaped : kept (feeds_by (c ∷ []) dims) shape ≡ slice_set shape (place c dims) (length c.lists)) (full : All (λ ps. 0 < length ps) c.lists) where
  abbrev cells_found : List ℕ → List (ℕ × Option ℤ)
  cells_found p = found k Empty None c dims shape t masked cells is long has distinct inside fed shaped p

  abbrev after : List ℕ
  after = kept (feeds_by (c ∷ []) dims) shape

  not_empty : (p : List ℕ) → IsPoint after p → (length (cells_found p) == 0) ≡ false
  not_empty p here =
      let same = found_length k Empty None c dims shape t masked cells is long has distinct inside fed shaped p here in
      let some = full (get_or p (place c dims) 0) [] (listed_place k Empty None c dims shape t masked cells is long has distinct inside fed shaped p here) in
      nonzero (length (cells_found p)) (omega (arith, same, some))
    where
      nonzero : (n : ℕ) → 0 < n → (n == 0) ≡ false
      nonzero n some = grind (arith, nat_tests, some)

  abbrev own_array : Array
  own_array = record { kind = t; shape = shape; cells = cells }

  pub same_listed : (listed k Empty None (feeds_by (c ∷ []) dims) own_array).cells ≡ (listed k Never None (feeds_by (c ∷ []) dims) own_array).cells
  same_listed = tab_same after (λ p. cond (length (cells_found p) == 0) None (fold_of k t (cells_found p))) (λ p. fold_of k t (cells_found p)) (λ p here. ap (λ b. cond b None (fold_of k t (cells_found p))) (not_empty p here))

pub fits_given : (t : DType) (fill : Option ℤ) → check_given t (Some fill) ≡ Ok tt → IsCell t fill
unfolding check_given check_fill check_fits
fits_given t None e = tt
fits_given t (Some n) e = in_kind t n (passes (in_range t n) DoesNotFit e)

module _ (nodes : List Node) (k : FoldKind) (d : List ℕ) (freq : Freq) (a : DataArray) (g : Given) (fill : Option (Option ℤ)) (cs : List Change) (m : Made) (is : IsArrayIn nodes a)
    (method : unless (of_groups k) BadArgument ≡ Ok tt) (asked : fill_asked (folded_kind k a.kind) g ≡ Ok fill) (changes : grouped_changes (Bins d freq) a.axes a.coords [] ≡ Ok cs)
    (filled : check_filled Empty cs (is_some fill) ≡ Ok tt) (suits : check_given (folded_kind k a.kind) fill ≡ Ok tt) (few : check_size (shape_over (axes_by cs a.axes)) ≡ Ok tt)
    (em : m ≡ made_by k (masked_by k Empty a.masked fill) cs (lists_chain k cs fill a) a) where
  frame : IsFrame a.axes a.coords
  frame = record { dims = is.formed.axes; over = is.formed.coords; distinct = is.formed.distinct }

  facts : IsOneOf a.axes a.coords [] frame cs
  facts = binned a.axes a.coords [] frame cs d freq changes

  abbrev c : Change
  c = facts.change

  one : IsOne a.axes a.coords c
  one = one_of a.axes a.coords c frame facts.formed

  has : of_groups k ≡ true
  has = passes (of_groups k) BadArgument method

  grouped : is_grouped cs (axis_names a.axes) ≡ true
  grouped = ap (λ ds. is_grouped ds (axis_names a.axes)) facts.is ∙ grouped_one c (axis_names a.axes) one.has

  small : size (shape_over (axes_by (c ∷ []) a.axes)) ≤ 33554432
  small = size_passed (shape_over (axes_by (c ∷ []) a.axes)) (subst (λ ds. check_size (shape_over (axes_by ds a.axes)) ≡ Ok tt) facts.is few)

  abbrev made_of : Option (Option ℤ) → Made
  made_of f = made_by k (masked_by k Empty a.masked f) (c ∷ []) (lists_chain k (c ∷ []) f a) a

  made_is : m ≡ made_of fill
  made_is = em ∙ ap (λ ds. made_by k (masked_by k Empty a.masked fill) ds (lists_chain k ds fill a) a) facts.is

  answer : binned_of k d freq (array_in nodes a) g ≡ Ok (array_by k Empty false cs fill (array_in nodes a))
  unfolding binned_of
  answer = rw (method, asked, changes, filled, suits, few) refl

  abbrev dims : List (List ℕ)
  dims = axis_names a.axes

  abbrev before : List ℕ
  before = shape_over a.axes

  long : length dims ≡ length before
  long = length-map a.axes (λ (x : Axis). x.name) ∙ sym (length-map a.axes (λ (x : Axis). x.size))

  inside : place c dims < length before
  inside = let here = place_inside c dims one.has in omega (arith, here, long)

  abbrev Makes : Option (Option ℤ) → Type 0
  Makes f = (made_in nodes (made_of f) ≡ array_listed k Empty false (c ∷ []) f (array_in nodes a)) × IsMade nodes (made_of f)

  full_of : check_filled Empty cs false ≡ Ok tt → All (λ ps. 0 < length ps) c.lists
  unfolding check_filled
  full_of filled =
      let none : list_any has_empty cs ≡ false = not-true (list_any has_empty cs) (passes (not (list_any has_empty cs)) WouldPromote filled) in
      let one : (has_empty c || false) ≡ false = ap (list_any has_empty) (sym facts.is) ∙ none in
      all_full c.lists (or_parts (has_empty c) false one).0

  made_plain : made_of None ≡ folded_made k (masked_after k a.masked) (c ∷ []) a
  made_plain = ap (λ b. made_by k b (c ∷ []) (lists_chain k (c ∷ []) None a) a) (or_false (masked_after k a.masked))

  same_array : All (λ ps. 0 < length ps) c.lists → array_listed k Empty false (c ∷ []) None (array_in nodes a) ≡ array_listed k Never false (c ∷ []) None (array_in nodes a)
  same_array full =
      ap (λ b. record (array_listed k Empty false (c ∷ []) None (array_in nodes a)) { masked = b }) (or_false (masked_after k a.masked))
      ∙ ap (λ xs. record (array_listed k Never false (c ∷ []) None (array_in nodes a)) { cells = xs })
      (same_listed k c dims before a.kind a.masked (array_in nodes a).cells is.formed.cells long one.has is.formed.axes.distinct inside one.fed (kept_one c dims before long one.has is.formed.axes.distinct) full)

  makes : (f : Option (Option ℤ)) → check_filled Empty cs (is_some f) ≡ Ok tt → check_given (folded_kind k a.kind) f ≡ Ok tt → Makes f
  makes None filled suits =
      let full = full_of filled in
      (ap (made_in nodes) made_plain ∙ is_listed nodes k c a is has one small ∙ sym (same_array full), subst (IsMade nodes) (sym made_plain) (is_made nodes k c a is has one small full))
  makes (Some x) filled suits =
      let fits = fits_given (folded_kind k a.kind) x suits in
      (filled_listed nodes k c a is has one small x fits, filled_made nodes k c a is has one small x fits)

  pub binned_told : (binned_of k d freq (array_in nodes a) g ≡ Ok (made_in nodes m)) × IsMade nodes m
  binned_told =
      let r = makes fill filled suits in (
        answer ∙ ap (λ b. Ok (cond b (array_listed k Empty false cs fill (array_in nodes a)) (array_in nodes a))) grouped
            ∙ ap (λ ds. Ok (array_listed k Empty false ds fill (array_in nodes a))) facts.is ∙ ap Ok (sym (ap (made_in nodes) made_is ∙ r.0)),
        subst (IsMade nodes) (sym made_is) r.1,
      )

-- as the code hands them on
pub bins_told_by : (nodes : List Node) (k : FoldKind) (d : List ℕ) (freq : Freq) (a : DataArray) (g : Given) (kind : DType) (fill : Option (Option ℤ)) (given masked : Bool) (own axes : List Axis) (slice cs : List Change) (chain : Chain) (m : Made) → IsArrayIn nodes a
    → kind ≡ folded_kind k a.kind → given ≡ is_some fill → own ≡ a.axes → slice ≡ cs → unless (of_groups k) BadArgument ≡ Ok tt → fill_asked kind g ≡ Ok fill → grouped_changes (Bins d freq) own a.coords [] ≡ Ok cs
    → check_filled Empty slice given ≡ Ok tt → check_given kind fill ≡ Ok tt → axes ≡ axes_by slice own → check_size (shape_over axes) ≡ Ok tt → chain ≡ lists_chain k slice fill a → masked ≡ masked_by k Empty a.masked fill
    → m ≡ made_by k masked slice chain a → (binned_of k d freq (array_in nodes a) g ≡ Ok (made_in nodes m)) × IsMade nodes m
bins_told_by nodes k d freq a g kind fill given masked own axes slice cs chain m is ek eg eo es method asked changes filled suits eaxes few echain emasked em =
    binned_told nodes k d freq a g fill cs m is method (subst (λ t. fill_asked t g ≡ Ok fill) ek asked)
    (subst (λ xs. grouped_changes (Bins d freq) xs a.coords [] ≡ Ok cs) eo changes)
    (subst (λ ds. check_filled Empty ds (is_some fill) ≡ Ok tt) es (subst (λ b. check_filled Empty slice b ≡ Ok tt) eg filled)) (subst (λ t. check_given t fill ≡ Ok tt) ek suits)
    (subst (λ (xs : List Axis). check_size (shape_over xs) ≡ Ok tt) (eaxes ∙ ap (λ ds. axes_by ds own) es ∙ ap (axes_by cs) eo) few)
    (em ∙ ap (λ b. made_by k b slice chain a) emasked ∙ ap (λ x. made_by k (masked_by k Empty a.masked fill) slice x a) echain
    ∙ ap (λ ds. made_by k (masked_by k Empty a.masked fill) ds (lists_chain k ds fill a) a) es)
