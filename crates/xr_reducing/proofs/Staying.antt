-- What a reduction leaves: dimensions, axes, and the coordinates over them.
use Rattle.std.proofs.Common.{◌≡◌, ◌≤◌, ◌&&◌, ◌||◌, ◌==◌, ℕ, zero, suc, Bool, true, false, not, cond, List, [], ◌∷◌, length, map, filter, refl, sym, ap, ◌∙◌, arith}
use Rattle.std.specs.Str.{bytes_eq}
use Rattle.std.specs.List.{AllByRecursion, list_any}
use Rattle.std.proofs.lemmas.Bool.{not-true, or_parts}
use Rattle.xr_types.specs.Names.{among, are_distinct, axis_names}
use Rattle.xr_types.specs.declared.axis.Axis.{Axis}
use Rattle.xr_arrays.specs.declared.node.Feed.TheVariants as feed
use Rattle.xr_arrays.specs.Nodes.{kept}
use Rattle.xr_defs.specs.declared.value.Coord.{Coord}
use Rattle.xr_defs.specs.Selecting.{axis_called}
use Rattle.xr_defs.specs.WellFormed.{names_of, IsCoordinate, IsDimension}
use Rattle.xr_operations.specs.Reductions.{axes_left, coords_left, feeds, is_emptied, names_left, size_called}
use Rattle.xr_parts.specs.Frames.{IsFrame, IsThere}
use Rattle.xr_parts.proofs.Axes.{called_cons, called_on}
use Rattle.xr_parts.proofs.Words.{AreAmong, absent_left, distinct_left, each_left, each_named_left, each_weaker, join, same_text, split}
use Rattle.xr_values.proofs.Named.{bytes_eq_swap}
use Rattle.xr_reducing.proofs.Folded.{AreFull}

-- ---- sizes

module _ (names : List (List ℕ)) {X : Type 0} (name : X → List ℕ) (sized : X → ℕ) where
  stays : X → Bool
  stays x = not (among names (name x))

  pub kept_left : (xs : List X) → kept (feeds names (map name xs)) (map sized xs) ≡ map sized (filter (λ x. not (among names (name x))) xs)
  kept_left [] = refl
  kept_left (x ∷ xs) = by (among names (name x)) (kept_left xs)
    where
      by : (b : Bool) → kept (feeds names (map name xs)) (map sized xs) ≡ map sized (filter (λ x. not (among names (name x))) xs)
          → kept (cond b feed.All feed.Keep ∷ feeds names (map name xs)) (sized x ∷ map sized xs) ≡ map sized (cond (not b) (x ∷ filter (λ x. not (among names (name x))) xs) (filter (λ x. not (among names (name x))) xs))
      by true rest = rest
      by false rest = ap (λ ns. sized x ∷ ns) rest

  pub full_left : (xs : List X) → list_any (λ x. is_emptied names (name x) (sized x)) xs ≡ false → AreFull (feeds names (map name xs)) (map sized xs)
  full_left [] none = tt
  full_left (x ∷ xs) none =
      let parts = or_parts (is_emptied names (name x) (sized x)) (list_any (λ x. is_emptied names (name x) (sized x)) xs) none in
      by (among names (name x)) (sized x) parts.0 (full_left xs parts.1)
    where
      by : (b : Bool) (n : ℕ) → (b && (n == 0)) ≡ false → AreFull (feeds names (map name xs)) (map sized xs) → AreFull (cond b feed.All feed.Keep ∷ feeds names (map name xs)) (n ∷ map sized xs)
      by true zero some rest = absurd cc
      by true (suc n) some rest = (omega arith, rest)
      by false n some rest = rest

  pub fed_each : (xs : List X) → length (feeds names (map name xs)) ≡ length (map sized xs)
  fed_each [] = refl
  fed_each (x ∷ xs) = ap suc (fed_each xs)

pub fewer : {X : Type 0} (p : X → Bool) (xs : List X) → length (filter p xs) ≤ length xs
fewer p [] = omega arith
fewer p (x ∷ xs) = by (p x) (fewer p xs)
  where
    by : (b : Bool) → length (filter p xs) ≤ length xs → length (cond b (x ∷ filter p xs) (filter p xs)) ≤ length (x ∷ xs)
    by true rest = omega arith
    by false rest = omega arith

pub same_names : (ds : List (List ℕ)) → map (λ d. d) ds ≡ ds
same_names [] = refl
same_names (d ∷ ds) = ap (λ es. d ∷ es) (same_names ds)

-- ---- axes by their names

module _ (names : List (List ℕ)) where
  other : (m n : List ℕ) → among names m ≡ true → among names n ≡ false → bytes_eq m n ≡ false
  other m n has lacks = by (bytes_eq m n) refl
    where
      never : (b : Bool) → b ≡ true → b ≡ false → ⊥
      never b s t = cc

      by : (b : Bool) → bytes_eq m n ≡ b → b ≡ false
      by true e = absurd (never (among names m) has (ap (among names) (same_text m n e) ∙ lacks))
      by false e = refl

  pub called_left : (axes : List Axis) (n : List ℕ) → among names n ≡ false → axis_called (axes_left names axes) n ≡ axis_called axes n
  called_left [] n lacks = refl
  called_left (y ∷ ys) n lacks = by (among names y.name) refl (called_left ys n lacks)
    where
      by : (b : Bool) → among names y.name ≡ b → axis_called (axes_left names ys) n ≡ axis_called ys n → axis_called (cond (not b) (y ∷ axes_left names ys) (axes_left names ys)) n ≡ axis_called (y ∷ ys) n
      by true e rest = rest ∙ sym (called_on y ys n (other y.name n e lacks))
      by false e rest = called_cons y (axes_left names ys) n ∙ ap (cond (bytes_eq y.name n) y) rest ∙ sym (called_cons y ys n)

  pub named_left : (axes : List Axis) (n : List ℕ) → among names n ≡ false → among (axis_names (axes_left names axes)) n ≡ among (axis_names axes) n
  named_left [] n lacks = refl
  named_left (y ∷ ys) n lacks = by (among names y.name) refl (named_left ys n lacks)
    where
      by : (b : Bool) → among names y.name ≡ b → among (axis_names (axes_left names ys)) n ≡ among (axis_names ys) n
          → among (axis_names (cond (not b) (y ∷ axes_left names ys) (axes_left names ys))) n ≡ (bytes_eq n y.name || among (axis_names ys) n)
      by true e rest = rest ∙ ap (λ b. b || among (axis_names ys) n) (sym (bytes_eq_swap n y.name ∙ other y.name n e lacks))
      by false e rest = ap (λ b. bytes_eq n y.name || b) rest

  -- ---- the coordinates over them

  there_left : (axes ys : List Axis) → list_any (among names) (axis_names ys) ≡ false → AllByRecursion (IsThere axes) ys → AllByRecursion (IsThere (axes_left names axes)) ys
  there_left axes [] lack all = tt
  there_left axes (y ∷ ys) lack all =
      let parts = or_parts (among names y.name) (list_any (among names) (axis_names ys)) lack in
      ((named_left axes y.name parts.0 ∙ all.0.0, called_left axes y.name parts.0 ∙ all.0.1), there_left axes ys parts.1 all.1)

  pub frame_left : (axes : List Axis) (coords : List Coord) → IsFrame axes coords → IsFrame (axes_left names axes) (coords_left names coords)
  frame_left axes coords is =
      let both = split (axis_names axes) (names_of coords) is.distinct in
      let stay = λ (c : Coord). not (list_any (among names) (axis_names c.axes)) in
      let axis = λ (x : Axis). not (among names x.name) in
      record {
        dims = record { each = each_left IsDimension IsDimension axis (λ x e one. one) axes is.dims.each; distinct = distinct_left (λ (x : Axis). x.name) axis axes is.dims.distinct };
        over = each_left (IsCoordinate axes) (IsCoordinate (axes_left names axes)) stay
            (λ c e one. record { name = one.name; over = there_left axes c.axes (not-true (list_any (among names) (axis_names c.axes)) e) one.over; distinct = one.distinct; attrs = one.attrs; content = one.content }) coords is.over;
        distinct = join (axis_names (axes_left names axes)) (names_of (coords_left names coords)) (record {
          first = distinct_left (λ (x : Axis). x.name) axis axes is.dims.distinct;
          second = distinct_left (λ (c : Coord). c.name) stay coords both.second;
          apart = each_weaker (λ n. among (axis_names axes) n ≡ false) (λ n. among (axis_names (axes_left names axes)) n ≡ false) (names_of (coords_left names coords)) (λ n. absent_left (λ (x : Axis). x.name) axis axes n)
              (each_named_left (λ (c : Coord). c.name) stay (λ n. among (axis_names axes) n ≡ false) coords both.apart);
        });
      }

  -- ---- the dimensions of a variable

  pub sizes_left : (axes : List Axis) (dims : List (List ℕ)) → map (size_called axes) (names_left names dims) ≡ map (size_called (axes_left names axes)) (names_left names dims)
  sizes_left axes [] = refl
  sizes_left axes (d ∷ ds) = by (among names d) refl (sizes_left axes ds)
    where
      by : (b : Bool) → among names d ≡ b → map (size_called axes) (names_left names ds) ≡ map (size_called (axes_left names axes)) (names_left names ds)
          → map (size_called axes) (cond (not b) (d ∷ names_left names ds) (names_left names ds)) ≡ map (size_called (axes_left names axes)) (cond (not b) (d ∷ names_left names ds) (names_left names ds))
      by true e rest = rest
      by false e rest = ap (λ (y : Axis). y.size ∷ map (size_called axes) (names_left names ds)) (sym (called_left axes d e)) ∙ ap (λ ns. size_called (axes_left names axes) d ∷ ns) rest

  pub over_left : (axes : List Axis) (dims : List (List ℕ)) → AreAmong (axis_names axes) dims → AreAmong (axis_names (axes_left names axes)) (names_left names dims)
  over_left axes dims all = each_left (λ d. among (axis_names axes) d ≡ true) (λ d. among (axis_names (axes_left names axes)) d ≡ true) (λ d. not (among names d)) (λ d e has. named_left axes d (not-true (among names d) e) ∙ has) dims all

  pub distinct_names : (dims : List (List ℕ)) → are_distinct dims ≡ true → are_distinct (names_left names dims) ≡ true
  distinct_names dims d =
      ap are_distinct (sym (same_names (names_left names dims))) ∙ distinct_left (λ n. n) (λ n. not (among names n)) dims (ap are_distinct (same_names dims) ∙ d)
