-- Axes by their names, and the coordinates over them.
use Rattle.xr_parts.proofs.Common.{AllByRecursion, Axis, Bool, Coord, IsCoordinate, IsDimension, IsFrame, IsThere, List, None, Option, Some, [], add-one, all_among, among, and_parts, ap, are_distinct, axes_called, axis_called, axis_names, axis_position, bytes_eq, bytes_eq_swap, cases_Bool, cond, cond-false, cond-true, coords_over, false, get_or, if◌then◌else◌, inl, inr, map, names_of, no_axis, option_map, or_parts, refl, shape_over, subst, sym, true, ℕ, ◌++◌, ◌+◌, ◌||◌, ◌∙◌, ◌∷◌, ◌≡◌}
use Rattle.xr_parts.proofs.Words.{AreAmong, AreAbsent, absent_among, anything, distinct_left, distinct_parts, each_left, each_map, each_named_left, each_weaker, itself, join, same_text, split}

-- ---- the axis of a name

pub called_cons : (x : Axis) (xs : List Axis) (name : List ℕ) → axis_called (x ∷ xs) name ≡ cond (bytes_eq x.name name) x (axis_called xs name)
called_cons x xs name = by (bytes_eq x.name name) (axis_position name xs)
  where
    by : (b : Bool) (o : Option ℕ) → elim (if b then Some 0 else option_map (λ n. n + 1) o) as (λ o. Axis) [ None ↦ no_axis | Some k ↦ get_or (x ∷ xs) k no_axis ] ≡ cond b x (elim o as (λ o. Axis) [ None ↦ no_axis | Some k ↦ get_or xs k no_axis ])
    by true o = refl
    by false None = refl
    by false (Some k) = ap (λ n. get_or (x ∷ xs) n no_axis) (add-one k)

pub called_here : (x : Axis) (xs : List Axis) (name : List ℕ) → bytes_eq x.name name ≡ true → axis_called (x ∷ xs) name ≡ x
called_here x xs name e = called_cons x xs name ∙ cond-true (bytes_eq x.name name) x (axis_called xs name) e

pub called_on : (x : Axis) (xs : List Axis) (name : List ℕ) → bytes_eq x.name name ≡ false → axis_called (x ∷ xs) name ≡ axis_called xs name
called_on x xs name e = called_cons x xs name ∙ cond-false (bytes_eq x.name name) x (axis_called xs name) e

-- what holds of each axis holds of the one of a name that is there, which has the name
module _ (P : Axis → Type 0) (name : List ℕ) where
  abbrev Called : Axis → Type 0
  Called y = P y × (y.name ≡ name)

  pub called_holds : (axes : List Axis) → AllByRecursion P axes → among (axis_names axes) name ≡ true → P (axis_called axes name) × ((axis_called axes name).name ≡ name)
  called_holds [] all has = absurd cc
  called_holds (x ∷ xs) all has =
      elim (cases_Bool (bytes_eq x.name name)) [
        | inl e ↦ subst Called (sym (called_here x xs name e)) (all.0, same_text x.name name e)
        | inr e ↦
            let other : bytes_eq name x.name ≡ false = bytes_eq_swap name x.name ∙ e in
            subst Called (sym (called_on x xs name e)) (called_holds xs all.1 (ap (λ b. b || among (axis_names xs) name) (sym other) ∙ has))
      ]

pub called_name : (axes : List Axis) (name : List ℕ) → among (axis_names axes) name ≡ true → (axis_called axes name).name ≡ name
called_name axes name has = (called_holds (λ x. Unit {0}) name axes (anything axes) has).1

-- ---- by its place

pub place_called : (axes : List Axis) (name : List ℕ) (k : ℕ) → axis_position name axes ≡ Some k → axis_called axes name ≡ get_or axes k no_axis
place_called axes name k e = ap (λ o. elim o as (λ o. Axis) [ None ↦ no_axis | Some k ↦ get_or axes k no_axis ]) e

pub none_called : (axes : List Axis) (name : List ℕ) → axis_position name axes ≡ None → among (axis_names axes) name ≡ false
none_called [] name e = refl
none_called (x ∷ xs) name e = by (bytes_eq x.name name) (bytes_eq_swap name x.name) (axis_position name xs) (none_called xs name) e
  where
    by : (b : Bool) → bytes_eq name x.name ≡ b → (o : Option ℕ) → (o ≡ None → among (axis_names xs) name ≡ false) → (if b then Some 0 else option_map (λ n. n + 1) o) ≡ None → (bytes_eq name x.name || among (axis_names xs) name) ≡ false
    by true s o rest e = absurd cc
    by false s None rest e = ap (λ t. t || among (axis_names xs) name) s ∙ rest refl
    by false s (Some k) rest e = absurd cc

-- ---- an axis that is there stays so behind one of another name

there_on : (x : Axis) (xs ys : List Axis) → among (axis_names ys) x.name ≡ false → AllByRecursion (IsThere xs) ys → AllByRecursion (IsThere (x ∷ xs)) ys
there_on x xs [] absent all = tt
there_on x xs (y ∷ ys) absent all =
    let parts = or_parts (bytes_eq x.name y.name) (among (axis_names ys) x.name) absent in
    let other : bytes_eq y.name x.name ≡ false = bytes_eq_swap y.name x.name ∙ parts.0 in
    ((ap (λ b. b || among (axis_names xs) y.name) other ∙ all.0.0, called_on x xs y.name parts.0 ∙ all.0.1), there_on x xs ys parts.1 all.1)

-- each axis is the one of its name
pub own_axes : (axes : List Axis) → are_distinct (axis_names axes) ≡ true → AllByRecursion (IsThere axes) axes
own_axes [] d = tt
own_axes (x ∷ xs) d =
    let parts = distinct_parts x.name (axis_names xs) d in
    ((ap (λ b. b || among (axis_names xs) x.name) (itself x.name), called_here x xs x.name (itself x.name)), there_on x xs xs parts.0 (own_axes xs parts.1))

-- ---- some of the axes

pub named_again : (axes : List Axis) (dims : List (List ℕ)) → AreAmong (axis_names axes) dims → axis_names (axes_called axes dims) ≡ dims
named_again axes [] all = refl
named_again axes (d ∷ ds) all = ap (λ n. n ∷ axis_names (axes_called axes ds)) (called_name axes d all.0) ∙ ap (λ ns. d ∷ ns) (named_again axes ds all.1)

pub sizes_again : (axes : List Axis) (dims : List (List ℕ)) → shape_over (axes_called axes dims) ≡ map (λ d. (axis_called axes d).size) dims
sizes_again axes [] = refl
sizes_again axes (d ∷ ds) = ap (λ t. (axis_called axes d).size ∷ t) (sizes_again axes ds)

pub called_again : (axes : List Axis) (dims : List (List ℕ)) (name : List ℕ) → AreAmong (axis_names axes) dims → among dims name ≡ true → axis_called (axes_called axes dims) name ≡ axis_called axes name
called_again axes [] name all has = absurd cc
called_again axes (d ∷ ds) name all has =
    called_cons (axis_called axes d) (axes_called axes ds) name ∙ ap (λ n. cond (bytes_eq n name) (axis_called axes d) (axis_called (axes_called axes ds) name)) (called_name axes d all.0)
    ∙ by (bytes_eq d name) refl (ap (λ t. t || among ds name) (bytes_eq_swap d name) ∙ has) (called_again axes ds name all.1)
  where
    by : (b : Bool) → bytes_eq d name ≡ b → (b || among ds name) ≡ true → (among ds name ≡ true → axis_called (axes_called axes ds) name ≡ axis_called axes name) → cond b (axis_called axes d) (axis_called (axes_called axes ds) name) ≡ axis_called axes name
    by true e has rest = ap (axis_called axes) (same_text d name e)
    by false e has rest = rest has

-- axes that are there are those of their names
pub the_axes : (axes xs : List Axis) → AllByRecursion (IsThere axes) xs → axes_called axes (axis_names xs) ≡ xs
the_axes axes [] all = refl
the_axes axes (x ∷ xs) all = ap (λ y. y ∷ axes_called axes (axis_names xs)) all.0.1 ∙ ap (λ ys. x ∷ ys) (the_axes axes xs all.1)

pub names_there : (axes xs : List Axis) → AllByRecursion (IsThere axes) xs → AreAmong (axis_names axes) (axis_names xs)
names_there axes xs all = each_map (IsThere axes) (λ n. among (axis_names axes) n ≡ true) (λ (x : Axis). x.name) xs (λ x is. is.0) all

-- ---- a frame over some of the axes

dims_there : (axes xs : List Axis) (dims : List (List ℕ)) → AreAmong (axis_names axes) dims → all_among dims (axis_names xs) ≡ true → AllByRecursion (IsThere axes) xs → AllByRecursion (IsThere (axes_called axes dims)) xs
dims_there axes [] dims among_axes within all = tt
dims_there axes (x ∷ xs) dims among_axes within all =
    let parts = and_parts (among dims x.name) (all_among dims (axis_names xs)) within in
    ((ap (λ ns. among ns x.name) (named_again axes dims among_axes) ∙ parts.0, called_again axes dims x.name among_axes parts.0 ∙ all.0.1), dims_there axes xs dims among_axes parts.1 all.1)

each_called : (axes : List Axis) (dims : List (List ℕ)) → AllByRecursion IsDimension axes → AreAmong (axis_names axes) dims → AllByRecursion IsDimension (axes_called axes dims)
each_called axes dims each all = each_map (λ d. among (axis_names axes) d ≡ true) IsDimension (axis_called axes) dims (λ d has. (called_holds IsDimension d axes each has).0) all

coord_over : (axes : List Axis) (dims : List (List ℕ)) (c : Coord) → AreAmong (axis_names axes) dims → all_among dims (axis_names c.axes) ≡ true → IsCoordinate axes c → IsCoordinate (axes_called axes dims) c
coord_over axes dims c among_axes within is =
    record { name = is.name; over = dims_there axes c.axes dims among_axes within is.over; distinct = is.distinct; attrs = is.attrs; content = is.content }

absent_dims : (axes : List Axis) (dims names : List (List ℕ)) → AreAmong (axis_names axes) dims → AreAbsent (axis_names axes) names → AreAbsent dims names
absent_dims axes dims names among_axes absent = each_weaker (λ n. among (axis_names axes) n ≡ false) (λ n. among dims n ≡ false) names (λ n lacks. absent_among (axis_names axes) dims n among_axes lacks) absent

-- the axes of these names with the coordinates over them
pub frame_over : (axes : List Axis) (coords : List Coord) (dims : List (List ℕ)) → IsFrame axes coords → AreAmong (axis_names axes) dims → are_distinct dims ≡ true → IsFrame (axes_called axes dims) (coords_over dims coords)
frame_over axes coords dims is among_axes distinct =
    let named = named_again axes dims among_axes in
    let names = split (axis_names axes) (names_of coords) is.distinct in
    let over = λ (c : Coord). all_among dims (axis_names c.axes) in
    record {
      dims = record { each = each_called axes dims is.dims.each among_axes; distinct = ap are_distinct named ∙ distinct };
      over = each_left (IsCoordinate axes) (IsCoordinate (axes_called axes dims)) over (λ c within one. coord_over axes dims c among_axes within one) coords is.over;
      distinct = ap (λ ns. are_distinct (ns ++ names_of (coords_over dims coords))) named
          ∙ join dims (names_of (coords_over dims coords)) (record {
            first = distinct;
            second = distinct_left (λ (c : Coord). c.name) over coords names.second;
            apart = absent_dims axes dims (names_of (coords_over dims coords)) among_axes (each_named_left (λ (c : Coord). c.name) over (λ n. among (axis_names axes) n ≡ false) coords names.apart);
          });
    }
