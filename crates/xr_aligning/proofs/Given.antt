-- Arrays and datasets that are given, and how they come to joined axes.
use Rattle.xr_aligning.proofs.Common.{AllByRecursion, Answers, AreLoose, Arrive, Axis, Bool, CallFault, Change, Comes, Coming, DataArray, Dataset, Err, Fault, How, IfOk, IsArrayIn, IsChange, IsChangeOf, IsDatasetIn, IsDimension, IsFrame, IsLabelledIn, IsLoose, IsReady, KeepsIn, KeepsLabels, Labelled, List, Node, Ok, Option, Result, TakesLabels, Value, [], aligned, all_of, ap, are_distinct, array_in, axes_of, axis_names, check_coord_by, check_coords, check_fill, check_fill_by, check_hole, check_variables, come, dataset_in, distinct_left, each_left, fit_of, fitted, fitted_by, fitted_set, fitted_value, has_labels, labelled_in, map, own_axes, refl, stands_for, subst, sym, true, with_labels, ℤ, ◌>>=◌, ◌∙◌, ◌∷◌, ◌≡◌}
use Rattle.xr_defs.specs.Meanings as of
use Rattle.xr_aligning.proofs.Joining.{are_loose, names_are}
use Rattle.xr_aligning.proofs.Kept.{all_seen, labels_kept, IsSeen}
use Rattle.xr_aligning.specs.declared.labelled.Labelled.TheVariants as labelled

-- ---- their axes

same_axes : (nodes : List Node) (l : Labelled) → axes_of (labelled_in nodes l) ≡ own_axes l
same_axes nodes (labelled.Array a) = refl
same_axes nodes (labelled.Set s) = refl

pub all_axes : (nodes : List Node) (ls : List Labelled) → map axes_of (map (labelled_in nodes) ls) ≡ map own_axes ls
all_axes nodes [] = refl
all_axes nodes (l ∷ ls) = (λ i. same_axes nodes l i ∷ all_axes nodes ls i)

dims_of : (nodes : List Node) (l : Labelled) → IsLabelledIn nodes l → AllByRecursion IsDimension (own_axes l)
dims_of nodes (labelled.Array a) is = is.formed.axes.each
dims_of nodes (labelled.Set s) is = is.formed.axes.each

own_distinct : (nodes : List Node) (l : Labelled) → IsLabelledIn nodes l → are_distinct (axis_names (own_axes l)) ≡ true
own_distinct nodes (labelled.Array a) is = is.formed.axes.distinct
own_distinct nodes (labelled.Set s) is = is.formed.axes.distinct

pub all_dims : (nodes : List Node) (ls : List Labelled) → AllByRecursion (IsLabelledIn nodes) ls → AllByRecursion (λ (xs : List Axis). AllByRecursion IsDimension xs) (map own_axes ls)
all_dims nodes [] all = tt
all_dims nodes (l ∷ ls) all = (dims_of nodes l all.0, all_dims nodes ls all.1)

pub array_frame : (nodes : List Node) (a : DataArray) → IsArrayIn nodes a → IsFrame a.axes a.coords
array_frame nodes a is = record { dims = is.formed.axes; over = is.formed.coords; distinct = is.formed.distinct }

pub set_frame : (nodes : List Node) (s : Dataset) → IsDatasetIn nodes s → IsFrame s.axes s.coords
set_frame nodes s is = record { dims = is.formed.axes; over = is.formed.coords; distinct = is.formed.coords_distinct }

-- ---- the change of their axes

pub is_change : (m : Coming) (fill : Option ℤ) (c : Change) → IsChangeOf m fill c → Comes m → IsChange c
is_change m fill c is comes = record {
  fits = is.fits ∙ comes.fits ∙ (λ i. map (fit_of (sym is.joined i)) (sym is.own i));
  arrive = subst (Arrive c.joined.now) (sym is.own) (subst (λ js. Arrive js (own_axes m.on)) (sym is.joined) comes.arrive);
}

pub change_is : (c : Change) → c.fits.now ≡ map (fit_of c.joined.now) c.own.now → Arrive c.joined.now c.own.now → IsChange c
change_is c fits arrive = record { fits = fits; arrive = arrive }

-- the joined axes whose labels one takes are as they have to be, but for their sizes
labels_loose : (own joined js : List Axis) → js ≡ with_labels own joined → AreLoose joined → AreLoose js
labels_loose own joined js is loose = subst AreLoose (sym is) (record {
  each = each_left IsLoose IsLoose (has_labels own) (λ x e one. one) joined loose.each;
  distinct = distinct_left (λ (x : Axis). x.name) (has_labels own) joined loose.distinct;
})

pub all_ready : (plan : List Node) (joined : List Axis) (ms : List Coming) (ls : List Labelled) → map (λ (m : Coming). m.on) ms ≡ ls → AllByRecursion (IsLabelledIn plan) ls → AllByRecursion (TakesLabels joined) ms → AllByRecursion Comes ms → AreLoose joined → AllByRecursion (KeepsIn joined) (map own_axes ls)
    → AllByRecursion (IsReady plan) ms
all_ready plan joined ms ls same inside takes come loose keep = by ms takes come (subst (AllByRecursion (IsLabelledIn plan)) (sym same) inside) (subst (λ ls. AllByRecursion (KeepsIn joined) (map own_axes ls)) (sym same) keep)
  where
    by : (ms : List Coming) → AllByRecursion (TakesLabels joined) ms → AllByRecursion Comes ms → AllByRecursion (IsLabelledIn plan) (map (λ (m : Coming). m.on) ms) → AllByRecursion (KeepsIn joined) (map own_axes (map (λ (m : Coming). m.on) ms)) → AllByRecursion (IsReady plan) ms
    by [] takes come inside keep = tt
    by (m ∷ ms) takes come inside keep = (
      record { comes = come.0; here = inside.0; loose = labels_loose (own_axes m.on) joined m.joined takes.0 loose; keep = subst (λ js. AllByRecursion (KeepsLabels js) (own_axes m.on)) (sym takes.0) keep.0 },
      by ms takes.1 come.1 inside.1 keep.1,
    )

-- ---- the joined axes

module _ (j : How) (filled : Bool) (nodes : List Node) (ls : List Labelled) (lists : List (List Axis)) (are : lists ≡ map own_axes ls) where
  dims_here : AllByRecursion (IsLabelledIn nodes) ls → AllByRecursion (λ (os : List Axis). AllByRecursion IsDimension os) lists
  dims_here inside = subst (AllByRecursion (λ (os : List Axis). AllByRecursion IsDimension os)) (sym are) (all_dims nodes ls inside)

  pub axes_answered : (r : Result (List Axis) CallFault) → Answers (λ (xs : List Axis). xs) r (aligned j filled lists) → Answers (λ (xs : List Axis). xs) r (aligned j filled (map axes_of (map (labelled_in nodes) ls)))
  axes_answered r told = subst (λ os. Answers (λ (xs : List Axis). xs) r (aligned j filled os)) (are ∙ sym (all_axes nodes ls)) told

  pub axes_loose : (r : Result (List Axis) CallFault) → AllByRecursion (IsLabelledIn nodes) ls → Answers (λ (xs : List Axis). xs) r (aligned j filled lists) → IfOk r AreLoose
  axes_loose (Ok xs) inside told = are_loose j filled lists (dims_here inside) xs told
  axes_loose (Err e) inside told = tt

  keep_all : (xs : List Axis) → AllByRecursion (λ (os : List Axis). AllByRecursion IsDimension os) lists → aligned j filled lists ≡ Ok xs → (ms : List Labelled) → AllByRecursion (IsSeen lists) (map own_axes ms) → AllByRecursion (IsLabelledIn nodes) ms → AllByRecursion (KeepsIn xs) (map own_axes ms)
  keep_all xs dims told [] seen inside = tt
  keep_all xs dims told (m ∷ ms) seen inside = (labels_kept j filled lists xs told (names_are j filled lists dims xs told) (own_axes m) (own_distinct nodes m inside.0) seen.0, keep_all xs dims told ms seen.1 inside.1)

  pub axes_kept : (r : Result (List Axis) CallFault) → AllByRecursion (IsLabelledIn nodes) ls → Answers (λ (xs : List Axis). xs) r (aligned j filled lists) → IfOk r (λ xs. AllByRecursion (KeepsIn xs) (map own_axes ls))
  axes_kept (Ok xs) inside told = keep_all xs (dims_here inside) told ls (subst (AllByRecursion (IsSeen lists)) are (all_seen lists)) inside
  axes_kept (Err e) inside told = tt

-- ---- by their own joined axes

module _ (nodes : List Node) (joined : List Axis) where
  fill_same : (fill : Option Value) (l : Labelled) (js : List Axis) → js ≡ with_labels (own_axes l) joined → check_fill_by js fill (labelled_in nodes l) ≡ check_fill joined fill (labelled_in nodes l)
  unfolding check_fill check_coord_by
  fill_same fill (labelled.Array a) js is = ap (λ xs. check_hole xs fill a.now.axes a.now.kind >>= λ u. check_coords xs fill a.now.coords) is
  fill_same fill (labelled.Set s) js is = ap (λ xs. check_variables xs fill s.now.axes (dataset_in nodes s.now).vars >>= λ u. check_coords xs fill s.now.coords) is

  fitted_same : (fill : Option ℤ) (l : Labelled) (js : List Axis) → js ≡ with_labels (own_axes l) joined → fitted_by js fill (labelled_in nodes l) ≡ fitted_value joined fill (labelled_in nodes l)
  fitted_same fill (labelled.Array a) js is = ap (λ xs. of.Array (fitted xs fill (array_in nodes a.now))) is
  fitted_same fill (labelled.Set s) js is = ap (λ xs. of.Set (fitted_set xs fill (dataset_in nodes s.now))) is

  fills_told : (fill : Option Value) (ms : List Coming) → AllByRecursion (TakesLabels joined) ms → all_of (λ (m : Coming). check_fill_by m.joined fill (stands_for nodes m)) ms ≡ all_of (check_fill joined fill) (map (labelled_in nodes) (map (λ (m : Coming). m.on) ms))
  fills_told fill [] all = refl
  fills_told fill (m ∷ ms) all = (λ i. fill_same fill m.on m.joined all.0 i >>= λ u. fills_told fill ms all.1 i)

  come_told : (fill : Option ℤ) (ms : List Coming) → AllByRecursion (TakesLabels joined) ms → map (come nodes fill) ms ≡ map (fitted_value joined fill) (map (labelled_in nodes) (map (λ (m : Coming). m.on) ms))
  come_told fill [] all = refl
  come_told fill (m ∷ ms) all = (λ i. fitted_same fill m.on m.joined all.0 i ∷ come_told fill ms all.1 i)

  pub fills_are : (fill : Option Value) (ms : List Coming) (ls : List Labelled) → AllByRecursion (TakesLabels joined) ms → map (λ (m : Coming). m.on) ms ≡ ls
      → all_of (λ (m : Coming). check_fill_by m.joined fill (stands_for nodes m)) ms ≡ all_of (check_fill joined fill) (map (labelled_in nodes) ls)
  fills_are fill ms ls all same = fills_told fill ms all ∙ ap (λ ls. all_of (check_fill joined fill) (map (labelled_in nodes) ls)) same

  pub come_are : (fill : Option ℤ) (ms : List Coming) (ls : List Labelled) → AllByRecursion (TakesLabels joined) ms → map (λ (m : Coming). m.on) ms ≡ ls → map (come nodes fill) ms ≡ map (fitted_value joined fill) (map (labelled_in nodes) ls)
  come_are fill ms ls all same = come_told fill ms all ∙ ap (λ ls. map (fitted_value joined fill) (map (labelled_in nodes) ls)) same

all_map : {X Y E : Type 0} (check : Y → Result (Unit {0}) E) (f : X → Y) (xs : List X) → all_of (λ x. check (f x)) xs ≡ all_of check (map f xs)
all_map check f [] = refl
all_map check f (x ∷ xs) = ap (λ r. check (f x) >>= λ u. r) (all_map check f xs)

pub sizes_are : (nodes : List Node) (fill : Option ℤ) (check : Value → Result (Unit {0}) Fault) (ms : List Coming) → all_of (λ (m : Coming). check (come nodes fill m)) ms ≡ all_of check (map (come nodes fill) ms)
sizes_are nodes fill check ms = all_map check (come nodes fill) ms
