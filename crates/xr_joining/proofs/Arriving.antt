-- An array over joined axes is as well formed as it was.
use Rattle.std.proofs.Common.{◌≡◌, ◌<◌, ◌≤◌, ℕ, zero, suc, Bool, true, false, ◌||◌, cond, List, [], ◌∷◌, ◌++◌, length, map, get_or, Option, Some, None, option_map, is_some, refl, sym, ap, subst, ◌∙◌, arith}
use Rattle.std.specs.Prelude.{is_none, IfSome}
use Rattle.std.specs.Str.{bytes_eq}
use Rattle.std.specs.List.{list_any, AllByRecursion}
use Rattle.std.proofs.lemmas.Bool.{or_parts}
use Rattle.std.proofs.lemmas.Nat.{mul-le}
use Rattle.xr_types.specs.Names.{among, are_distinct, axis_names, shape_over}
use Rattle.xr_types.specs.Points.{IsPoint, size}
use Rattle.xr_types.specs.declared.axis.Axis.{Axis}
use Rattle.xr_types.specs.declared.kind.DType.{DType}
use Rattle.xr_arrays.specs.Arrays.{Array, at, made, IsCell}
use Rattle.xr_defs.specs.Carries.{IsOperand, Shares}
use Rattle.xr_defs.specs.Selecting.{axis_called}
use Rattle.xr_defs.specs.Values as of
use Rattle.xr_defs.specs.Values.{array_of}
use Rattle.xr_defs.specs.WellFormed.{names_of, AreCells, AreDimensions, IsContent, IsCoordinate, IsDataArray, IsDimension}
use Rattle.xr_defs.specs.declared.value.Content.{Content}
use Rattle.xr_defs.specs.declared.value.Content.TheVariants as contents
use Rattle.xr_defs.specs.declared.value.Coord.{Coord}
use Rattle.xr_operations.specs.Alignment.{all_sources, cell_or, fitted, fitted_cells, fitted_content, fitted_coord, has_hole, joined_in, masked_with, source_point}
use Rattle.xr_values.proofs.Named.{bytes_eq_swap}
use Rattle.xr_parts.specs.Frames.{IsThere}
use Rattle.xr_parts.proofs.Axes.{called_cons, called_holds}
use Rattle.xr_parts.proofs.Words.{each_map}
use Rattle.xr_joining.specs.Fitted.{taken_each, Arrives, AreBelow, Comes}
use Rattle.xr_joining.proofs.Cells.{cell_in, cell_seen, cells_made}
use Rattle.xr_joining.proofs.Takes.{source_inside, taken_all}

-- ---- positions that are all there

each_there : (s : List (Option ℕ)) (i : ℕ) → list_any is_none s ≡ false → i < length s → is_some (get_or s i None) ≡ true
each_there [] i whole lt = absurd (omega arith)
each_there (None ∷ s) zero whole lt = absurd cc
each_there (Some k ∷ s) zero whole lt = refl
each_there (o ∷ s) (suc i) whole lt = each_there s i (or_parts (is_none o) (list_any is_none s) whole).1 (omega arith)

none_after : (axes xs : List Axis) → shape_over xs ≡ [] → shape_over (map (joined_in axes) xs) ≡ []
none_after axes [] e = refl
none_after axes (x ∷ xs) e = absurd cc

source_some : (ss : List (List (Option ℕ))) (p : List ℕ) → list_any (λ s. list_any is_none s) ss ≡ false → IsPoint (map length ss) p → is_some (source_point ss p) ≡ true
source_some [] p whole here = refl
source_some (s ∷ ss) [] whole here = refl
source_some (s ∷ ss) (i ∷ p) whole here =
    let parts = or_parts (list_any is_none s) (list_any (λ s. list_any is_none s) ss) whole in
    by (get_or s i None) (source_point ss p) (each_there s i parts.0 here.0) (source_some ss p parts.1 here.1)
  where
    by : (o : Option ℕ) (r : Option (List ℕ)) → is_some o ≡ true → is_some r ≡ true → is_some (elim o [ None ↦ None | Some k ↦ option_map (λ q. k ∷ q) r ]) ≡ true
    by None r e f = absurd cc
    by (Some k) None e f = absurd cc
    by (Some k) (Some q) e f = refl

-- ---- axes that arrive

module _ (axes : List Axis) where
  pub in_is : (x : Axis) → Arrives axes x → joined_in axes x ≡ axis_called axes x.name
  in_is x there = ap (λ b. cond b (axis_called axes x.name) x) there.0

  pub in_comes : (x : Axis) → Arrives axes x → Comes x (joined_in axes x)
  in_comes x there = subst (Comes x) (sym (in_is x there)) there.1

  abbrev Arrive : List Axis → Type 0
  Arrive xs = AllByRecursion (Arrives axes) xs

  abbrev after : List Axis → List Axis
  after xs = map (joined_in axes) xs

  pub all_below : (xs : List Axis) → Arrive xs → AreBelow (shape_over xs) (all_sources axes xs)
  all_below [] all = tt
  all_below (x ∷ xs) all = ((in_comes x all.0).below, all_below xs all.1)

  pub all_long : (xs : List Axis) → Arrive xs → map length (all_sources axes xs) ≡ shape_over (after xs)
  all_long [] all = refl
  all_long (x ∷ xs) all = (λ i. (in_comes x all.0).long i ∷ all_long xs all.1 i)

  pub no_hole : (xs : List Axis) → Arrive xs → has_hole axes xs ≡ false
  no_hole [] all = refl
  no_hole (x ∷ xs) all = ap (λ b. b || has_hole axes xs) (in_comes x all.0).whole ∙ no_hole xs all.1

  pub smaller : (xs : List Axis) → Arrive xs → size (shape_over (after xs)) ≤ size (shape_over xs)
  smaller [] all = omega arith
  smaller (x ∷ xs) all = mul-le (joined_in axes x).size (size (shape_over (after xs))) x.size (size (shape_over xs)) (in_comes x all.0).fewer (smaller xs all.1)

  pub same_names : (xs : List Axis) → Arrive xs → axis_names (after xs) ≡ axis_names xs
  same_names [] all = refl
  same_names (x ∷ xs) all = (λ i. (in_comes x all.0).name i ∷ same_names xs all.1 i)

  pub same_rank : (xs : List Axis) → length (shape_over (after xs)) ≡ length (shape_over xs)
  same_rank [] = refl
  same_rank (x ∷ xs) = let rest = same_rank xs in omega arith

  -- the cells, taken along each axis
  pub fitted_is : (xs : List Axis) (a : Array) → Arrive xs → length a.cells ≡ size a.shape → a.shape ≡ shape_over xs → taken_each 0 (all_sources axes xs) a ≡ fitted_cells axes xs None a
  fitted_is xs a all whole shape =
      taken_all (shape_over xs) (all_sources axes xs) a whole shape (all_below xs all) ∙ ap (λ s. made a.kind s (λ p. cell_or None a (source_point (all_sources axes xs) p))) (all_long xs all)

  -- ---- cells

  fitted_formed : (xs : List Axis) (kind : DType) (masked : Bool) (a : Array) → Arrive xs → a.kind ≡ kind → a.shape ≡ shape_over xs → AreCells (shape_over xs) kind masked a.cells → AreCells (shape_over (after xs)) kind masked (fitted_cells axes xs None a).cells
  fitted_formed xs kind masked a all k e are =
      let ss = all_sources axes xs in
      let less = smaller xs all in
      let few = are.few in
      let rank = same_rank xs in
      let low = are.low_rank in
      cells_made (shape_over (after xs)) kind masked (λ p. cell_or None a (source_point ss p)) (omega arith) (omega arith)
      (λ p here.
      in_kind (source_point ss p) (source_inside (shape_over xs) ss p (all_below xs all) (long p here)))
      (λ plain p here.
      is_seen plain (source_point ss p) (source_inside (shape_over xs) ss p (all_below xs all) (long p here)) (source_some ss p (no_hole xs all) (long p here)))
    where
      long : (p : List ℕ) → IsPoint (shape_over (after xs)) p → IsPoint (map length (all_sources axes xs)) p
      long p here = subst (λ s. IsPoint s p) (sym (all_long xs all)) here

      same : a ≡ record { kind = kind; shape = shape_over xs; cells = a.cells }
      same = (λ i. record { kind = k i; shape = e i; cells = a.cells })

      in_kind : (o : Option (List ℕ)) → IfSome o (IsPoint (shape_over xs)) → IsCell kind (cell_or None a o)
      in_kind None here = tt
      in_kind (Some q) here = subst (λ (b : Array). IsCell kind (at b q)) (sym same) (cell_in (shape_over xs) kind masked a.cells are q here)

      is_seen : masked ≡ false → (o : Option (List ℕ)) → IfSome o (IsPoint (shape_over xs)) → is_some o ≡ true → is_some (cell_or None a o) ≡ true
      is_seen plain None here e = absurd cc
      is_seen plain (Some q) here e = subst (λ (b : Array). is_some (at b q) ≡ true) (sym same) (cell_seen (shape_over xs) kind masked a.cells are plain q here)

  pub same_mask : (masked : Bool) (xs : List Axis) → Arrive xs → masked_with masked None (has_hole axes xs) ≡ masked
  same_mask masked xs all = ap (λ b. masked || b) (no_hole xs all) ∙ by masked
    where
      by : (b : Bool) → (b || false) ≡ b
      by true = refl
      by false = refl

  -- ---- axes

  pub called_after : (xs : List Axis) (n : List ℕ) → Arrive xs → among (axis_names xs) n ≡ true → axis_called (after xs) n ≡ joined_in axes (axis_called xs n)
  called_after [] n all has = absurd cc
  called_after (x ∷ xs) n all has =
      called_cons (joined_in axes x) (after xs) n ∙ ap (λ m. cond (bytes_eq m n) (joined_in axes x) (axis_called (after xs) n)) (in_comes x all.0).name
      ∙ by (bytes_eq x.name n) (bytes_eq_swap n x.name) has (called_after xs n all.1) ∙ ap (joined_in axes) (sym (called_cons x xs n))
    where
      by : (b : Bool) → bytes_eq n x.name ≡ b → (bytes_eq n x.name || among (axis_names xs) n) ≡ true → (among (axis_names xs) n ≡ true → axis_called (after xs) n ≡ joined_in axes (axis_called xs n))
          → cond b (joined_in axes x) (axis_called (after xs) n) ≡ joined_in axes (cond b x (axis_called xs n))
      by true e has rest = refl
      by false e has rest = rest (ap (λ b. b || among (axis_names xs) n) (sym e) ∙ has)

  module _ (dims : AreDimensions axes) where
    abbrev Good : Axis → Type 0
    Good x = IsDimension x

    pub each_dimension : (xs : List Axis) → Arrive xs → AllByRecursion IsDimension (after xs)
    each_dimension [] all = tt
    each_dimension (x ∷ xs) all = (subst IsDimension (sym (in_is x all.0)) (called_holds IsDimension x.name axes dims.each all.0.0).0, each_dimension xs all.1)

    -- each is there
    pub each_there_after : (xs : List Axis) → Arrive xs → AllByRecursion (IsThere axes) (after xs)
    each_there_after [] all = tt
    each_there_after (x ∷ xs) all =
        let named = (in_comes x all.0).name in
        ((ap (among (axis_names axes)) named ∙ all.0.0, ap (axis_called axes) named ∙ sym (in_is x all.0)), each_there_after xs all.1)

    module _ (own : List Axis) (all : Arrive own) where
      shares : Shares (after own) axes
      shares = record {
        same = λ n has theirs.
            let there : among (axis_names own) n ≡ true = ap (λ ns. among ns n) (sym (same_names own all)) ∙ has in
            let found = called_holds (Arrives axes) n own all there in
            sym (called_after own n all there ∙ in_is (axis_called own n) found.0 ∙ ap (axis_called axes) found.1);
      }

      -- ---- coordinates

      pub over_arrive : (xs : List Axis) → AllByRecursion (IsThere own) xs → Arrive xs
      over_arrive [] over = tt
      over_arrive (x ∷ xs) over = (subst (Arrives axes) over.0.1 (called_holds (Arrives axes) x.name own all over.0.0).0, over_arrive xs over.1)

      over_after : (xs : List Axis) → AllByRecursion (IsThere own) xs → AllByRecursion (IsThere (after own)) (after xs)
      over_after [] over = tt
      over_after (x ∷ xs) over =
          let arrives = subst (Arrives axes) over.0.1 (called_holds (Arrives axes) x.name own all over.0.0).0 in
          let named = (in_comes x arrives).name in (
            (
              ap (λ n. among (axis_names (after own)) n) named ∙ ap (λ ns. among ns x.name) (same_names own all) ∙ over.0.0,
              ap (axis_called (after own)) named ∙ called_after own x.name all over.0.0 ∙ ap (joined_in axes) over.0.1,
            ),
            over_after xs over.1,
          )

      content_formed : (xs : List Axis) (c : Content) → Arrive xs → IsContent (shape_over xs) c → IsContent (shape_over (after xs)) (fitted_content axes xs None c)
      content_formed xs (contents.Cells a masked) there is = (refl, subst (λ m. AreCells (shape_over (after xs)) a.kind m (fitted_cells axes xs None a).cells) (sym (same_mask masked xs there)) (fitted_formed xs a.kind masked a there refl is.0 is.1))
      content_formed xs (contents.Text text) there is = none_after axes xs is
      content_formed xs (contents.Time coding t) there is = (none_after axes xs is.0, is.1)

      coord_formed : (c : Coord) → IsCoordinate own c → IsCoordinate (after own) (fitted_coord axes None c)
      coord_formed c is =
          let there = over_arrive c.axes is.over in
          record {
            name = is.name;
            over = over_after c.axes is.over;
            distinct = ap are_distinct (same_names c.axes there) ∙ is.distinct;
            attrs = is.attrs;
            content = content_formed c.axes c.content there is.content;
          }

    -- ---- the array

    same_coord_names : (cs : List Coord) → names_of (map (fitted_coord axes None) cs) ≡ names_of cs
    same_coord_names [] = refl
    same_coord_names (c ∷ cs) = ap (λ ns. c.name ∷ ns) (same_coord_names cs)

    module _ (a : of.DataArray) (all : Arrive a.axes) (is : IsDataArray a) where
      pub same_masked : (fitted axes None a).masked ≡ a.masked
      unfolding fitted
      same_masked = same_mask a.masked a.axes all

      pub still_formed : IsDataArray (fitted axes None a)
      unfolding fitted
      still_formed = record {
        name = is.name;
        axes = record { each = each_dimension a.axes all; distinct = ap are_distinct (same_names a.axes all) ∙ is.axes.distinct };
        coords = each_map (IsCoordinate a.axes) (IsCoordinate (after a.axes)) (fitted_coord axes None) a.coords (coord_formed a.axes all) is.coords;
        distinct = (λ i. are_distinct (same_names a.axes all i ++ same_coord_names a.coords i)) ∙ is.distinct;
        attrs = is.attrs;
        cells = subst (λ m. AreCells (shape_over (after a.axes)) a.kind m (fitted_cells axes a.axes None (array_of a)).cells) (sym (same_mask a.masked a.axes all)) (fitted_formed a.axes a.kind a.masked (array_of a) all refl refl is.cells);
      }

      pub is_operand : IsOperand axes (fitted axes None a)
      unfolding fitted
      is_operand = (still_formed, shares a.axes all)
