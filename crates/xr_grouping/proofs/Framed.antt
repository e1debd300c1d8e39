-- Axes of which one has another in its place, and the coordinates that are left over them.
use Rattle.std.proofs.Common.{◌≡◌, ◌+◌, ◌||◌, ℕ, suc, Bool, true, false, not, cond, List, [], ◌∷◌, refl, sym, ap, ◌∙◌, arith}
use Rattle.std.specs.Prelude.{slice_set}
use Rattle.std.specs.Str.{bytes_eq}
use Rattle.std.specs.List.{AllByRecursion, list_any}
use Rattle.std.proofs.lemmas.Bool.{not-true, or_parts}
use Rattle.xr_types.specs.Names.{among, are_distinct, axis_names, shape_over}
use Rattle.xr_types.specs.declared.axis.Axis.{Axis}
use Rattle.xr_defs.specs.declared.value.Coord.{Coord}
use Rattle.xr_defs.specs.Selecting.{axis_called}
use Rattle.xr_defs.specs.WellFormed.{names_of, IsCoordinate, IsDimension}
use Rattle.xr_operations.specs.Reductions.{coords_left}
use Rattle.xr_groups.specs.declared.change.Change.{Change}
use Rattle.xr_groups.specs.Listed.{axes_by}
use Rattle.xr_parts.specs.Frames.{IsFrame, IsThere}
use Rattle.xr_parts.proofs.Axes.{called_cons}
use Rattle.xr_parts.proofs.Words.{distinct_cons, distinct_left, distinct_parts, each_left, join, other_name, same_text, split}
use Rattle.xr_values.proofs.Named.{bytes_eq_swap}
use Rattle.xr_grouping.proofs.OneList.{place}

never : (b : Bool) → b ≡ true → b ≡ false → ⊥
never b s t = cc

module _ (c : Change) where
  abbrev d : List ℕ
  d = c.dimension

  abbrev n : List ℕ
  n = c.axis.name

  abbrev new : List Axis → List Axis
  new axes = axes_by (c ∷ []) axes

  -- no other axis has the new name
  abbrev pub IsFresh : List Axis → Type 0
  IsFresh axes = AllByRecursion (λ (x : Axis). bytes_eq x.name d ≡ false → bytes_eq x.name n ≡ false) axes

  abbrev put : Bool → Axis → Axis
  put b x = cond b c.axis x

  dims_by : (axes : List Axis) → IsDimension c.axis → AllByRecursion IsDimension axes → AllByRecursion IsDimension (new axes)
  dims_by [] one all = tt
  dims_by (x ∷ xs) one all = by (bytes_eq x.name d) (dims_by xs one all.1)
    where
      by : (b : Bool) → AllByRecursion IsDimension (new xs) → AllByRecursion IsDimension (put b x ∷ new xs)
      by true rest = (one, rest)
      by false rest = (all.0, rest)

  -- ---- names

  -- a name that is neither the dimension's nor the new one is there as before
  other_among : (axes : List Axis) (m : List ℕ) → bytes_eq m d ≡ false → bytes_eq m n ≡ false → among (axis_names (new axes)) m ≡ among (axis_names axes) m
  other_among [] m apart fresh = refl
  other_among (x ∷ xs) m apart fresh = by (bytes_eq x.name d) refl (other_among xs m apart fresh)
    where
      by : (b : Bool) → bytes_eq x.name d ≡ b → among (axis_names (new xs)) m ≡ among (axis_names xs) m → (bytes_eq m (put b x).name || among (axis_names (new xs)) m) ≡ (bytes_eq m x.name || among (axis_names xs) m)
      by true e rest = ap (λ t. t || among (axis_names (new xs)) m) (fresh ∙ sym (ap (bytes_eq m) (same_text x.name d e) ∙ apart)) ∙ ap (λ t. bytes_eq m x.name || t) rest
      by false e rest = ap (λ t. bytes_eq m x.name || t) rest

  -- where the dimension isn't, nothing changes
  pub unchanged : (axes : List Axis) → among (axis_names axes) d ≡ false → new axes ≡ axes
  unchanged [] none = refl
  unchanged (x ∷ xs) none =
      let parts = or_parts (bytes_eq d x.name) (among (axis_names xs) d) none in
      ap (λ b. put b x ∷ new xs) (bytes_eq_swap x.name d ∙ parts.0) ∙ ap (λ ys. x ∷ ys) (unchanged xs parts.1)

  no_new : (axes : List Axis) → IsFresh axes → among (axis_names axes) d ≡ false → among (axis_names axes) n ≡ false
  no_new [] fresh none = refl
  no_new (x ∷ xs) fresh none =
      let parts = or_parts (bytes_eq d x.name) (among (axis_names xs) d) none in
      ap (λ t. t || among (axis_names xs) n) (bytes_eq_swap n x.name ∙ fresh.0 (bytes_eq_swap x.name d ∙ parts.0)) ∙ no_new xs fresh.1 parts.1

  distinct_by : (axes : List Axis) → IsFresh axes → are_distinct (axis_names axes) ≡ true → are_distinct (axis_names (new axes)) ≡ true
  distinct_by [] fresh distinct = refl
  distinct_by (x ∷ xs) fresh distinct = by (bytes_eq x.name d) refl (distinct_parts x.name (axis_names xs) distinct) (distinct_by xs fresh.1)
    where
      by : (b : Bool) → bytes_eq x.name d ≡ b → (among (axis_names xs) x.name ≡ false) × (are_distinct (axis_names xs) ≡ true) → (are_distinct (axis_names xs) ≡ true → are_distinct (axis_names (new xs)) ≡ true)
          → are_distinct ((put b x).name ∷ axis_names (new xs)) ≡ true
      by true e parts rest =
          let none : among (axis_names xs) d ≡ false = ap (among (axis_names xs)) (sym (same_text x.name d e)) ∙ parts.0 in
          distinct_cons n (axis_names (new xs)) (ap (λ (ys : List Axis). among (axis_names ys) n) (unchanged xs none) ∙ no_new xs fresh.1 none) (rest parts.1)
      by false e parts rest = distinct_cons x.name (axis_names (new xs)) (other_among xs x.name e (fresh.0 e) ∙ parts.0) (rest parts.1)

  -- ---- other axes

  called_other : (axes : List Axis) (m : List ℕ) → bytes_eq m d ≡ false → bytes_eq m n ≡ false → axis_called (new axes) m ≡ axis_called axes m
  called_other [] m apart fresh = refl
  called_other (x ∷ xs) m apart fresh = called_cons (put (bytes_eq x.name d) x) (new xs) m ∙ by (bytes_eq x.name d) refl (called_other xs m apart fresh) ∙ sym (called_cons x xs m)
    where
      by : (b : Bool) → bytes_eq x.name d ≡ b → axis_called (new xs) m ≡ axis_called xs m → cond (bytes_eq (put b x).name m) (put b x) (axis_called (new xs) m) ≡ cond (bytes_eq x.name m) x (axis_called xs m)
      by true e rest =
          ap (λ t. cond t c.axis (axis_called (new xs) m)) (bytes_eq_swap n m ∙ fresh) ∙ rest
          ∙ sym (ap (λ t. cond t x (axis_called xs m)) (bytes_eq_swap x.name m ∙ ap (bytes_eq m) (same_text x.name d e) ∙ apart))
      by false e rest = ap (cond (bytes_eq x.name m) x) rest

  fresh_name : (axes : List Axis) (m : List ℕ) → IsFresh axes → among (axis_names axes) m ≡ true → bytes_eq m d ≡ false → bytes_eq m n ≡ false
  fresh_name [] m fresh has apart = absurd cc
  fresh_name (x ∷ xs) m fresh has apart = by (bytes_eq m x.name) refl has (fresh_name xs m fresh.1)
    where
      by : (b : Bool) → bytes_eq m x.name ≡ b → (b || among (axis_names xs) m) ≡ true → (among (axis_names xs) m ≡ true → bytes_eq m d ≡ false → bytes_eq m n ≡ false) → bytes_eq m n ≡ false
      by true e has rest = ap (λ k. bytes_eq k n) (same_text m x.name e) ∙ fresh.0 (ap (λ k. bytes_eq k d) (sym (same_text m x.name e)) ∙ apart)
      by false e has rest = rest has apart

  there_by : (axes ys : List Axis) → IsFresh axes → list_any (among (d ∷ [])) (axis_names ys) ≡ false → AllByRecursion (IsThere axes) ys → AllByRecursion (IsThere (new axes)) ys
  there_by axes [] fresh none all = tt
  there_by axes (y ∷ ys) fresh none all =
      let parts = or_parts (among (d ∷ []) y.name) (list_any (among (d ∷ [])) (axis_names ys)) none in
      let apart = (or_parts (bytes_eq y.name d) false parts.0).0 in
      let free = fresh_name axes y.name fresh all.0.0 apart in
      ((other_among axes y.name apart free ∙ all.0.0, called_other axes y.name apart free ∙ all.0.1), there_by axes ys fresh parts.1 all.1)

  -- ---- the frame

  -- none of the coordinates that are left has the new name
  abbrev pub IsFreeName : List Coord → Type 0
  IsFreeName coords = AllByRecursion (λ (x : Coord). bytes_eq x.name n ≡ false) (coords_left (d ∷ []) coords)

  abbrev left : List Coord → List Coord
  left coords = coords_left (d ∷ []) coords

  stay : Coord → Bool
  stay x = not (list_any (among (d ∷ [])) (axis_names x.axes))

  -- coordinates whose names aren't those of the axes before aren't those of the axes after
  names_apart : (axes : List Axis) (coords : List Coord) → among (axis_names axes) d ≡ true → AllByRecursion (λ (x : Coord). bytes_eq x.name n ≡ false) coords → AllByRecursion (λ m. among (axis_names axes) m ≡ false) (names_of coords)
      → AllByRecursion (λ m. among (axis_names (new axes)) m ≡ false) (names_of coords)
  names_apart axes [] has free apart = tt
  names_apart axes (x ∷ xs) has free apart =
      (other_among axes x.name (other_name (axis_names axes) d x.name has apart.0) free.0 ∙ apart.0, names_apart axes xs has free.1 apart.1)

  apart_left : (P : List ℕ → Type 0) (coords : List Coord) → AllByRecursion P (names_of coords) → AllByRecursion P (names_of (left coords))
  apart_left P [] all = tt
  apart_left P (x ∷ xs) all = by (not (list_any (among (d ∷ [])) (axis_names x.axes))) (apart_left P xs all.1)
    where
      by : (b : Bool) → AllByRecursion P (names_of (left xs)) → AllByRecursion P (names_of (cond b (x ∷ left xs) (left xs)))
      by true rest = (all.0, rest)
      by false rest = rest

  pub frame_by : (axes : List Axis) (coords : List Coord) → IsFrame axes coords → among (axis_names axes) d ≡ true → IsDimension c.axis → IsFresh axes → IsFreeName coords → IsFrame (new axes) (left coords)
  frame_by axes coords is has one fresh free =
      let both = split (axis_names axes) (names_of coords) is.distinct in
      record {
        dims = record { each = dims_by axes one is.dims.each; distinct = distinct_by axes fresh is.dims.distinct };
        over = each_left (IsCoordinate axes) (IsCoordinate (new axes)) (λ (x : Coord). not (list_any (among (d ∷ [])) (axis_names x.axes)))
            (λ x e at. record { name = at.name; over = there_by axes x.axes fresh (not-true (list_any (among (d ∷ [])) (axis_names x.axes)) e) at.over; distinct = at.distinct; attrs = at.attrs; content = at.content }) coords is.over;
        distinct = join (axis_names (new axes)) (names_of (left coords)) (record {
          first = distinct_by axes fresh is.dims.distinct;
          second = distinct_left (λ (x : Coord). x.name) (λ (x : Coord). not (list_any (among (d ∷ [])) (axis_names x.axes))) coords both.second;
          apart = names_apart axes (left coords) has free (apart_left (λ m. among (axis_names axes) m ≡ false) coords both.apart);
        });
      }

  -- ---- sizes

  pub shape_by : (axes : List Axis) → among (axis_names axes) d ≡ true → are_distinct (axis_names axes) ≡ true → shape_over (new axes) ≡ slice_set (shape_over axes) (place c (axis_names axes)) c.axis.size
  shape_by [] has distinct = absurd cc
  shape_by (x ∷ xs) has distinct = by (bytes_eq d x.name) refl (bytes_eq x.name d) (bytes_eq_swap x.name d) (λ more. shape_by xs more (distinct_parts x.name (axis_names xs) distinct).1)
    where
      same_shape : among (axis_names xs) d ≡ false → shape_over (new xs) ≡ shape_over xs
      same_shape none = ap shape_over (unchanged xs none)

      behind : (b b' : Bool) → (b || b') ≡ true → b ≡ false → b' ≡ true
      behind true b' h e = absurd cc
      behind false b' h e = h

      by : (b : Bool) → bytes_eq d x.name ≡ b → (b' : Bool) → b' ≡ bytes_eq d x.name
          → (among (axis_names xs) d ≡ true → shape_over (new xs) ≡ slice_set (shape_over xs) (place c (axis_names xs)) c.axis.size)
          → (put b' x).size ∷ shape_over (new xs) ≡ slice_set (x.size ∷ shape_over xs) (cond (not b) (1 + place c (axis_names xs)) 0) c.axis.size
      by true t false t' rest = absurd (never (bytes_eq d x.name) t (sym t'))
      by false t true t' rest = absurd (never (bytes_eq d x.name) (sym t') t)
      by true t true t' rest = ap (λ ms. c.axis.size ∷ ms) (same_shape (ap (among (axis_names xs)) (same_text d x.name t) ∙ (distinct_parts x.name (axis_names xs) distinct).0))
      by false t false t' rest =
          let next : suc (place c (axis_names xs)) ≡ 1 + place c (axis_names xs) = omega arith in
          ap (λ ms. x.size ∷ ms) (rest (behind (bytes_eq d x.name) (among (axis_names xs) d) has t)) ∙ ap (λ m. slice_set (x.size ∷ shape_over xs) m c.axis.size) next
