-- Labels of an axis: their order, the positions that hold them, and the look-ups with their checks in order.
-- xarray user guide, "Indexing and selecting data"; pandas, `Index.get_loc`, `Index.get_indexer` and
-- `Index.slice_indexer`.
use Rattle.std.specs.Prelude.{◌≡◌, ◌-ℤ◌, ◌==◌, ◌&&◌, ◌||◌, nat_lt, nat_le, ℕ, pos, unsigned_abs, Bool, true, false, not, List, [], ◌∷◌, length, map, Option, Some, None, is_some, Result, Ok, Err, get_or, option_map, if◌then◌else◌, MatchOption}
use Rattle.std.specs.List.{filter, list_any, list_all, range_with_len}
use Rattle.std.specs.declared.cmp.Ordering.{Ordering}
use Rattle.std.specs.declared.cmp.Ordering.TheVariants.{Less, Greater}
use Rattle.std.specs.Ordering.{is_lt, is_eq, is_le, int_cmp, nat_cmp}
use Rattle.std.specs.Cmp.Lexicographic.{slice_cmp}
use Rattle.xr_types.specs.declared.axis.Axis.{Axis}
use Rattle.xr_types.specs.declared.axis.Label.{Label}
use Rattle.xr_types.specs.declared.axis.Label.TheVariants.{Int, Time, Text}
use Rattle.xr_types.specs.declared.axis.LabelList.{LabelList}
use Rattle.xr_types.specs.declared.axis.LabelList.TheVariants.{Numbers, Times, Texts}
use Rattle.xr_types.specs.declared.fault.Fault.{Fault}
use Rattle.xr_types.specs.declared.fault.Fault.TheVariants.{LabelKind, NotUnique, NotMonotonic, NoSuchLabel}
use Rattle.xr_types.specs.declared.operation.Near.{Near}
use Rattle.xr_types.specs.declared.operation.Near.TheVariants.{Pad, Backfill, Nearest}
use Rattle.xr_arrays.specs.declared.search.Direction.{Direction}
use Rattle.xr_arrays.specs.declared.search.Direction.TheVariants.{Ascending, Descending, Neither}

-- the labels in the order of their positions
abbrev pub labels_of : LabelList → List Label
labels_of (Numbers kind xs) = map Int xs
labels_of (Times coding xs) = map Time xs
labels_of (Texts xs) = map Text xs

-- an axis with labels, as many as its size
abbrev pub IsLabelled : Axis → Type 0
IsLabelled axis = MatchOption axis.labels ⊥ (λ labels. length (labels_of labels.list) ≡ axis.size)

-- the labels of an axis that has some
abbrev pub list_of : Axis → Option LabelList
list_of axis = option_map (λ labels. labels.list) axis.labels

-- the label at a position
abbrev pub label_at : List Label → ℕ → Label
label_at xs p = get_or xs p (Int (pos 0))

-- ---- the order of labels

-- numbers by value, times by seconds, texts by bytes. No look-up compares labels of two kinds.
abbrev pub order : Label → Label → Ordering
order (Int a) (Int b) = int_cmp a b
order (Time a) (Time b) = int_cmp a b
order (Text a) (Text b) = slice_cmp nat_cmp a b
order (Int a) y = Less
order (Time a) (Int b) = Greater
order (Time a) (Text b) = Less
order (Text a) y = Greater

abbrev pub same : Label → Label → Bool
same x y = is_eq (order x y)

abbrev pub below : Label → Label → Bool
below x y = is_lt (order x y)

abbrev pub at_most : Label → Label → Bool
at_most x y = is_le (order x y)

-- each label stands in the relation to the next
abbrev pub each_next : (Label → Label → Bool) → List Label → Bool
each_next relation [] = true
each_next relation (x ∷ []) = true
each_next relation (x ∷ y ∷ rest) = relation x y && each_next relation (y ∷ rest)

abbrev pub is_ascending : List Label → Bool
is_ascending xs = each_next at_most xs

abbrev pub is_descending : List Label → Bool
is_descending xs = each_next (λ x y. at_most y x) xs

-- ascending where both
abbrev pub direction_of : List Label → Direction
direction_of xs = if is_ascending xs then Ascending else (if is_descending xs then Descending else Neither)

-- some label stands twice
abbrev pub repeats : List Label → Bool
repeats [] = false
repeats (x ∷ xs) = list_any (λ y. same x y) xs || repeats xs

-- ---- positions

-- the ascending list of the positions whose label passes a test
abbrev pub positions : (Label → Bool) → List Label → List ℕ
positions test xs = filter (λ p. test (label_at xs p)) (range_with_len 0 (length xs))

-- the positions that hold a label
abbrev pub hits : List Label → Label → List ℕ
hits xs label = positions (λ x. same x label) xs

-- the one position of a list
abbrev pub sole : List ℕ → Result ℕ Fault
sole [] = Err NoSuchLabel
sole (p ∷ []) = Ok p
sole (p ∷ q ∷ rest) = Err NotUnique

-- the position that holds a label
abbrev pub place : List Label → Label → Result ℕ Fault
place xs label = sole (hits xs label)

-- ---- a label of the axis's kind

abbrev pub is_kin : LabelList → Label → Bool
is_kin (Numbers kind xs) (Int n) = true
is_kin (Times coding xs) (Time t) = true
is_kin (Texts xs) (Text t) = true
is_kin list label = false

abbrev pub is_kin_end : LabelList → Option Label → Bool
is_kin_end list None = true
is_kin_end list (Some label) = is_kin list label

-- ---- the position that holds a label: another kind, two hits, no hit

abbrev pub find_of : LabelList → Label → Result ℕ Fault
find_of list label = if is_kin list label then place (labels_of list) label else Err LabelKind

-- ---- the position whose label is near one

-- how far two numbers, or two times in seconds, lie apart
abbrev pub distance : Label → Label → ℕ
distance (Int a) (Int b) = unsigned_abs (a -ℤ b)
distance (Time a) (Time b) = unsigned_abs (a -ℤ b)
distance x y = 0

-- whether y, one of the labels, is the wanted one: the greatest not above, the least not below, or the
-- nearest, of two as near the larger
abbrev pub is_near : Near → Label → List Label → Label → Bool
is_near Pad label xs y = at_most y label && list_all (λ x. below label x || at_most x y) xs
is_near Backfill label xs y = at_most label y && list_all (λ x. below x label || at_most y x) xs
is_near Nearest label xs y = list_all (λ x. nat_lt (distance y label) (distance x label) || ((distance y label == distance x label) && at_most x y)) xs

abbrev pub near : Near → List Label → Label → List ℕ
near method xs label = positions (is_near method label xs) xs

abbrev pub is_text : Label → Bool
is_text (Text t) = true
is_text label = false

abbrev pub is_nearest : Near → Bool
is_nearest Nearest = true
is_nearest method = false

-- a label of the axis's kind; texts have no distance, so neither `nearest` nor a tolerance
abbrev pub can_be_near : LabelList → Label → Near → Option ℕ → Bool
can_be_near list label method tolerance = is_kin list label && not (is_text label && (is_nearest method || is_some tolerance))

-- an ascending axis takes each method, a descending one `nearest` alone
abbrev pub suits : Near → Direction → Bool
suits method Ascending = true
suits method Descending = is_nearest method
suits method Neither = false

abbrev pub is_within : Option ℕ → ℕ → Bool
is_within None far = true
is_within (Some most) far = nat_le far most

-- the first of the positions, unless its label is farther than the tolerance
abbrev pub reached : List Label → Label → Option ℕ → List ℕ → Result ℕ Fault
reached xs label tolerance [] = Err NoSuchLabel
reached xs label tolerance (p ∷ ps) = if is_within tolerance (distance (label_at xs p) label) then Ok p else Err NoSuchLabel

-- another kind; a label twice; a direction that the method doesn't take; none, or one too far
abbrev pub find_near_of : LabelList → Label → Near → Option ℕ → Result ℕ Fault
find_near_of list label method tolerance =
    if can_be_near list label method tolerance
    then (if repeats (labels_of list)
    then Err NotUnique
    else (if suits method (direction_of (labels_of list))
    then reached (labels_of list) label tolerance (near method (labels_of list) label)
    else Err NotMonotonic))
    else Err LabelKind

-- ---- the positions whose label lies between two ends, both included

-- not before the first end: on a descending axis that is the greater one
abbrev pub is_from : Direction → Option Label → Label → Bool
is_from direction None x = true
is_from Descending (Some from) x = at_most x from
is_from direction (Some from) x = at_most from x

abbrev pub is_to : Direction → Option Label → Label → Bool
is_to direction None x = true
is_to Descending (Some to) x = at_most to x
is_to direction (Some to) x = at_most x to

abbrev pub between : List Label → Option Label → Option Label → List ℕ
between xs from to = positions (λ x. is_from (direction_of xs) from x && is_to (direction_of xs) to x) xs

abbrev pub is_neither : Direction → Bool
is_neither Neither = true
is_neither direction = false

-- an end where the axis has no direction
abbrev pub ordered_slice : List Label → Option Label → Option Label → Result (List ℕ) Fault
ordered_slice xs from to = if is_neither (direction_of xs) && (is_some from || is_some to) then Err NotMonotonic else Ok (between xs from to)

-- another kind first
abbrev pub slice_of : LabelList → Option Label → Option Label → Result (List ℕ) Fault
slice_of list from to = if is_kin_end list from && is_kin_end list to then ordered_slice (labels_of list) from to else Err LabelKind
