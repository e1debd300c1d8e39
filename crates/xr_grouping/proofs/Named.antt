-- The name of the new axis is none of the other axes' and of the coordinates that are left.
use Rattle.std.proofs.Common.{inl, inr, ◌≡◌, ◌||◌, ◌+◌, ℕ, suc, Bool, true, false, not, cond, List, [], ◌∷◌, length, get_or, All, refl, sym, ap, subst, ◌∙◌, arith}
use Rattle.std.specs.Str.{bytes_eq}
use Rattle.std.specs.List.{AllByRecursion, list_any}
use Rattle.std.proofs.lemmas.Bool.{or_parts}
use Rattle.xr_types.specs.Names.{among, axis_names, shape_over}
use Rattle.xr_types.specs.declared.axis.Axis.{Axis}
use Rattle.xr_arrays.specs.Nodes.{ArePositions}
use Rattle.xr_defs.specs.declared.value.Coord.{Coord}
use Rattle.xr_defs.specs.Selecting.{axis_called}
use Rattle.xr_defs.specs.WellFormed.{names_of, IsDimension}
use Rattle.xr_operations.specs.Reductions.{coords_left}
use Rattle.xr_parts.specs.Frames.{IsFrame}
use Rattle.xr_parts.proofs.Axes.{called_cons}
use Rattle.xr_parts.proofs.Words.{other_name, same_text, split}
use Rattle.xr_values.proofs.Named.{bytes_eq_swap}
use Rattle.xr_groups.specs.declared.change.Change.{Change}
use Rattle.xr_grouping.specs.Changes.{IsChange, IsNewName}
use Rattle.xr_grouping.proofs.Framed.{IsFreeName, IsFresh}
use Rattle.xr_grouping.proofs.OneList.{place}

-- an axis in the place of the one that is grouped
pub record IsOne (axes : List Axis) (coords : List Coord) (c : Change) : Type 0 where
  pub has : among (axis_names axes) c.dimension ≡ true
  pub axis : IsDimension c.axis
  pub sized : c.axis.size ≡ length c.lists
  pub fed : All (ArePositions (get_or (shape_over axes) (place c (axis_names axes)) 0) 0) c.lists
  pub fresh : IsFresh c axes
  pub free : IsFreeName c coords

-- the size at the place of a dimension
size_there : (c : Change) (axes : List Axis) → among (axis_names axes) c.dimension ≡ true → get_or (shape_over axes) (place c (axis_names axes)) 0 ≡ (axis_called axes c.dimension).size
size_there c [] has = absurd cc
size_there c (x ∷ xs) has = by (bytes_eq c.dimension x.name) (bytes_eq x.name c.dimension) (bytes_eq_swap x.name c.dimension) has (size_there c xs) ∙ sym (ap (λ (y : Axis). y.size) (called_cons x xs c.dimension))
  where
    next : 1 + place c (axis_names xs) ≡ suc (place c (axis_names xs))
    next = omega arith

    by : (b b' : Bool) → b' ≡ b → (b || among (axis_names xs) c.dimension) ≡ true → (among (axis_names xs) c.dimension ≡ true → get_or (shape_over xs) (place c (axis_names xs)) 0 ≡ (axis_called xs c.dimension).size)
        → get_or (shape_over (x ∷ xs)) (cond (not b) (1 + place c (axis_names xs)) 0) 0 ≡ (cond b' x (axis_called xs c.dimension)).size
    by true true e has rest = refl
    by true false e has rest = absurd cc
    by false true e has rest = absurd cc
    by false false e has rest = ap (λ n. get_or (shape_over (x ∷ xs)) n 0) next ∙ rest has

absent_axes : (xs : List Axis) (n : List ℕ) → among (axis_names xs) n ≡ false → AllByRecursion (λ (y : Axis). bytes_eq y.name n ≡ false) xs
absent_axes [] n none = tt
absent_axes (y ∷ ys) n none = let parts = or_parts (bytes_eq n y.name) (among (axis_names ys) n) none in (bytes_eq_swap y.name n ∙ parts.0, absent_axes ys n parts.1)

absent_coords : (xs : List Coord) (n : List ℕ) → among (names_of xs) n ≡ false → AllByRecursion (λ (y : Coord). bytes_eq y.name n ≡ false) xs
absent_coords [] n none = tt
absent_coords (y ∷ ys) n none = let parts = or_parts (bytes_eq n y.name) (among (names_of ys) n) none in (bytes_eq_swap y.name n ∙ parts.0, absent_coords ys n parts.1)

-- a coordinate isn't named as an axis
pub coord_apart : (axes : List Axis) (xs : List Coord) (n : List ℕ) → AllByRecursion (λ m. among (axis_names axes) m ≡ false) (names_of xs) → among (names_of xs) n ≡ true → among (axis_names axes) n ≡ false
coord_apart axes [] n apart has = absurd cc
coord_apart axes (y ∷ ys) n apart has = by (bytes_eq n y.name) refl has (coord_apart axes ys n apart.1)
  where
    by : (b : Bool) → bytes_eq n y.name ≡ b → (b || among (names_of ys) n) ≡ true → (among (names_of ys) n ≡ true → among (axis_names axes) n ≡ false) → among (axis_names axes) n ≡ false
    by true e has rest = ap (among (axis_names axes)) (same_text n y.name e) ∙ apart.0
    by false e has rest = rest has

left_of : (names : List (List ℕ)) (P : Coord → Type 0) (xs : List Coord) → AllByRecursion P xs → AllByRecursion P (coords_left names xs)
left_of names P [] all = tt
left_of names P (y ∷ ys) all = by (not (list_any (among names) (axis_names y.axes))) (left_of names P ys all.1)
  where
    by : (b : Bool) → AllByRecursion P (coords_left names ys) → AllByRecursion P (cond b (y ∷ coords_left names ys) (coords_left names ys))
    by true rest = (all.0, rest)
    by false rest = rest

none_of : (a b e : Bool) → not (a || b || e) ≡ true → (a ≡ false) × (b ≡ false)
none_of true b e h = absurd cc
none_of false true e h = absurd cc
none_of false false e h = (refl, refl)

module _ (axes : List Axis) (coords : List Coord) (c : Change) (frame : IsFrame axes coords) (is : IsChange axes coords [] c) where
  abbrev d : List ℕ
  d = c.dimension

  abbrev n : List ℕ
  n = c.axis.name

  each_other : (xs : List Axis) → AllByRecursion (λ (y : Axis). bytes_eq y.name n ≡ false) xs → IsFresh c xs
  each_other [] all = tt
  each_other (y ∷ ys) all = (λ e. all.0, each_other ys all.1)

  own_name : (xs : List Axis) → n ≡ d → IsFresh c xs
  own_name [] e = tt
  own_name (y ∷ ys) e = (λ apart. ap (bytes_eq y.name) e ∙ apart, own_name ys e)

  coords_apart : (xs : List Coord) → AllByRecursion (λ m. among (axis_names axes) m ≡ false) (names_of xs) → AllByRecursion (λ (y : Coord). bytes_eq y.name d ≡ false) xs
  coords_apart [] apart = tt
  coords_apart (y ∷ ys) apart = (other_name (axis_names axes) d y.name is.has apart.0, coords_apart ys apart.1)

  fresh_and_free : IsNewName axes coords [] d n → IsFresh c axes × IsFreeName c coords
  fresh_and_free (inl e) =
      let apart = (split (axis_names axes) (names_of coords) frame.distinct).apart in
      (own_name axes e, left_of (d ∷ []) (λ (y : Coord). bytes_eq y.name n ≡ false) coords (subst (λ m. AllByRecursion (λ (y : Coord). bytes_eq y.name m ≡ false) coords) (sym e) (coords_apart coords apart)))
  fresh_and_free (inr (inl none)) =
      let parts = none_of (among (axis_names axes) n) (among (names_of coords) n) false none in
      (each_other axes (absent_axes axes n parts.0), left_of (d ∷ []) (λ (y : Coord). bytes_eq y.name n ≡ false) coords (absent_coords coords n parts.1))
  fresh_and_free (inr (inr own)) =
      let apart = (split (axis_names axes) (names_of coords) frame.distinct).apart in
      (each_other axes (absent_axes axes n (coord_apart axes coords n apart own.0)), absent_coords (coords_left (d ∷ []) coords) n own.1)

  pub one_of : IsOne axes coords c
  one_of =
      let names = fresh_and_free is.named in
      record {
        has = is.has;
        axis = is.axis;
        sized = is.sized;
        fed = subst (λ m. All (ArePositions m 0) c.lists) (sym (size_there c axes is.has)) is.fed;
        fresh = names.0;
        free = names.1;
      }
