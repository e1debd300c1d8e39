-- Which coordinates and attributes a result keeps, one after the other, and that they are well formed where the operands are.
use Rattle.xr_values.proofs.Common.{All, All-head, All-nil, All-tail, All-weaker, AllByRecursion, AreAttributes, AreDimensions, Attr, Axis, Bool, Bor, Carry, Coord, DataArray, Decides-int_eq, IsAttribute, IsCoordinate, List, MatchOption, Node, None, Option, Some, [], among, and_from, and_parts, ap, are_distinct, array_in, attrs_among, axis_names, bytes_eq, bytes_eq-Decides, carried, cond_both, coord_rule, coords_among, drop, eq-eqb, false, filter, filter_passes, first_attrs, first_called, first_named, flat_map, flat_map-map, get_or, has_place, is_agreed, is_name, is_shared, joined_attrs, joined_coord, kept_here, length, list_all, list_any-append, map, map-id, map-map, name_among, named_as, names_fill, names_of, nat_eq, not, not-true, not_from_false, number_of, or_from, or_left, pointwise, recursion_from_All, refl, same_attr, same_cell, same_content, same_coord, same_name, shared_attrs, shared_here, stands, subst, suc, sym, take, take_all, the_attrs, the_coords, the_names, true, ℕ, ℤ, ⊤, ◌&&◌, ◌++◌, ◌+◌, ◌<◌, ◌∙◌, ◌∷◌, ◌≡◌, ◌≤◌}
use Rattle.std.specs.Ordering.{int_eq}
use Rattle.xr_values.proofs.Firsts.{Other, absent, distinct_filtered, first_distinct, firsts_all, kept_on, nows}
use Rattle.xr_defs.specs.declared.value.Content.{Content}
use Rattle.xr_types.specs.declared.attr.NcType.{NcType}
use Rattle.xr_types.specs.declared.attr.NcType.TheVariants.{Byte}
use Rattle.xr_types.specs.contracts.attr.NcType.{the_type}
use denote.Enum.Bare.{sameb}
use lib.Dec.{eqb-suc-suc}
use denote.Enum.Declared.{tag_of}
use Rattle.std.specs.Prelude.{◌==◌}
use Rattle.xr_types.specs.declared.axis.Calendar.{Calendar}
use Rattle.xr_types.specs.declared.axis.Calendar.TheVariants.{Civil}
use Rattle.xr_times.specs.Times.{same_calendar}
use Rattle.xr_defs.specs.declared.value.Content.TheVariants.{Cells, Text, Time}
use Rattle.xr_defs.specs.declared.carrying.Parts.{Parts}
use Rattle.std.proofs.lemmas.Bool.{both_ways, false_from_ne_true, or_right}
use Rattle.std.proofs.lemmas.List.Elements.{All-append, All-filter, All-from_recursion, All-map}
use Rattle.xr_defs.specs.Selecting.{axis_called}
use Rattle.xr_defs.specs.Values as of
use Rattle.xr_defs.specs.declared.carrying.Carry.TheVariants.{Keep, Method, Binary, First}
use Rattle.xr_defs.specs.Carries.{AreParts, IsOperand, Shares}

-- ---- arrays in a plan

pub in_any_plan : (nodes : List Node) (how : Carry) (arrays : List DataArray) (axes : List Axis) (p : Parts)
    → p ≡ record { name = name_among how (the_names arrays); attrs = attrs_among how (the_attrs arrays); coords = coords_among axes (the_coords arrays) }
    → p ≡ carried how (map (array_in nodes) arrays) axes
in_any_plan nodes how arrays axes p is = simp (map-map, flat_map-map) is

-- ---- a coordinate is equal to itself

all_same : {X : Type 0} (E : X → X → Bool) → ((x : X) → E x x ≡ true) → (xs : List X) → pointwise E xs xs ≡ true
all_same E each [] = refl
all_same E each (x ∷ xs) = ap (λ b. b && pointwise E xs xs) (each x) ∙ all_same E each xs

bytes_same : (a : List ℕ) → bytes_eq a a ≡ true
bytes_same a = (bytes_eq-Decides a a).1 refl

cell_same : (c : Option ℤ) → same_cell c c ≡ true
cell_same None = refl
cell_same (Some n) = (Decides-int_eq n n).1 refl

calendar_same : (c : Calendar) → same_calendar c c ≡ true
calendar_same Civil = refl
calendar_same c = refl

content_same : (c : Content) → same_content c c ≡ true
unfolding same_content
content_same (Cells a m) = ap (λ b. b && pointwise same_cell a.cells a.cells) (all_same nat_eq (λ n. eq-eqb n n refl) a.shape) ∙ all_same same_cell cell_same a.cells
content_same (Text t) = bytes_same t
content_same (Time c t) = ap (λ b. b && int_eq t t) (calendar_same c.units.calendar) ∙ (Decides-int_eq t t).1 refl

pub coord_same : (c : Coord) → same_coord c c ≡ true
unfolding same_coord
coord_same c = ap (λ b. b && same_content c.content c.content) (all_same bytes_eq bytes_same (axis_names c.axes)) ∙ content_same c.content

-- ---- the first coordinate of each name

abbrev coord_name : Coord → List ℕ
coord_name c = c.name

-- those of the whole list that stand, as far as they are looked at
abbrev pub kept_upto : List Axis → List (Bor Coord) → ℕ → List Coord
kept_upto axes all i = map (joined_coord (nows all)) (filter (stands axes (nows all)) (first_named (nows (take i all))))

pub coords_on : (axes : List Axis) (all : List (Bor Coord)) (i : ℕ) (c : Bor Coord) (before behind : List (Bor Coord)) (kept new : List Coord)
    → i < length all → c ≡ get_or all i c → before ≡ take i all → behind ≡ drop 1 (drop i all) → kept ≡ kept_upto axes all i
    → new ≡ kept ++ kept_here axes (nows all) (nows before) c.now (nows behind) → new ≡ kept_upto axes all (i + 1)
unfolding is_agreed first_named
coords_on axes = kept_on coord_name first_named refl (λ c rest. refl) same_coord coord_same (has_place axes) joined_coord

pub coords_end : (axes : List Axis) (all : List (Bor Coord)) (i : ℕ) (kept : List Coord) → length all ≤ i → kept ≡ kept_upto axes all i → kept ≡ coords_among axes (nows all)
unfolding coords_among
coords_end axes all i kept end k = k ∙ ap (λ ds. map (joined_coord (nows all)) (filter (stands axes (nows all)) (first_named (nows ds)))) (take_all i all end)

-- ---- the first attribute of each name

tagged : (kind : NcType) → number_of kind ≡ suc (tag_of the_type kind)
tagged Byte = refl
tagged kind = refl

pub kinds_same : (a b : NcType) → sameb the_type a b ≡ (number_of a == number_of b)
kinds_same a b = rw (tagged a, tagged b) (sym (eqb-suc-suc (tag_of the_type a) (tag_of the_type b)))

abbrev attr_name : Attr → List ℕ
attr_name a = a.name

attr_same : (a : Attr) → same_attr a a ≡ true
attr_same a = ap (λ t. t && bytes_eq a.raw a.raw) (eq-eqb (number_of a.kind) (number_of a.kind) refl) ∙ bytes_same a.raw

abbrev pub shared_upto : List (Bor Attr) → ℕ → List Attr
shared_upto all i = map (λ a. a) (filter (is_shared (nows all)) (first_called (nows (take i all))))

pub attrs_on : (all : List (Bor Attr)) (i : ℕ) (a : Bor Attr) (before behind : List (Bor Attr)) (kept new : List Attr)
    → i < length all → a ≡ get_or all i a → before ≡ take i all → behind ≡ drop 1 (drop i all) → kept ≡ shared_upto all i
    → new ≡ kept ++ shared_here (nows before) a.now (nows behind) → new ≡ shared_upto all (i + 1)
unfolding is_shared first_called
attrs_on = kept_on attr_name first_called refl (λ a rest. refl) same_attr attr_same (λ b. true) (λ whole b. b)

pub attrs_end : (all : List (Bor Attr)) (i : ℕ) (kept : List Attr) → length all ≤ i → kept ≡ shared_upto all i → kept ≡ shared_attrs (nows all)
unfolding shared_attrs
attrs_end all i kept end k = k ∙ map-id (filter (is_shared (nows all)) (first_called (nows (take i all)))) ∙ ap (λ ds. filter (is_shared (nows all)) (first_called (nows ds))) (take_all i all end)

All-flat_map : {X Y : Type 0} (P : Y → Type 0) (f : X → List Y) (xs : List X) → All (λ x. All P (f x)) xs → All P (flat_map f xs)
All-flat_map P f [] all = All-nil P
All-flat_map P f (x ∷ xs) all = All-append P (f x) (flat_map f xs) (All-head (λ z. All P (f z)) x xs all) (All-flat_map P f xs (All-tail (λ z. All P (f z)) x xs all))

-- ---- attributes

fewer_attributes : (p : Attr → Bool) (attrs : List Attr) → AreAttributes attrs → AreAttributes (filter p attrs)
fewer_attributes p attrs are = record {
  each = recursion_from_All IsAttribute (filter p attrs) (All-filter p IsAttribute attrs (All-from_recursion IsAttribute attrs are.each));
  distinct = distinct_filtered attr_name p attrs are.distinct;
}

joined_formed : (lists : List (List Attr)) → All AreAttributes lists → AreAttributes (joined_attrs lists)
unfolding shared_attrs first_called
joined_formed lists all =
    let attrs = flat_map (λ attrs. attrs) lists in
    let own = All-flat_map IsAttribute (λ attrs. attrs) lists (All-weaker AreAttributes (All IsAttribute) (λ attrs are. All-from_recursion IsAttribute attrs are.each) lists all) in
    fewer_attributes (is_shared attrs) (first_called attrs) (record {
      each = recursion_from_All IsAttribute (first_called attrs) (firsts_all attr_name first_called refl (λ a rest. refl) IsAttribute attrs own);
      distinct = first_distinct attr_name first_called refl (λ a rest. refl) attrs;
    })

first_formed : (lists : List (List Attr)) → All AreAttributes lists → AreAttributes (first_attrs lists)
first_formed [] all = record { each = tt; distinct = refl }
first_formed (attrs ∷ lists) all = All-head AreAttributes attrs lists all

attrs_formed : (how : Carry) (lists : List (List Attr)) → All AreAttributes lists → AreAttributes (attrs_among how lists)
attrs_formed Method lists all = fewer_attributes (λ a. not (names_fill a)) (first_attrs lists) (first_formed lists all)
attrs_formed Binary lists all = fewer_attributes (λ a. not (names_fill a)) (joined_attrs lists) (joined_formed lists all)
attrs_formed First lists all = joined_formed lists all
attrs_formed how lists all = first_formed lists all

-- ---- the name

abbrev IsGiven : Option (List ℕ) → Type 0
IsGiven name = MatchOption name ⊤ (λ n. is_name n ≡ true)

name_formed : (how : Carry) (names : List (Option (List ℕ))) → All IsGiven names → IsGiven (name_among how names)
name_formed Binary (name ∷ names) all = cond_both (list_all (same_name name) names) name None IsGiven (λ e. All-head IsGiven name names all) (λ e. tt)
name_formed First (name ∷ names) all = cond_both (list_all (same_name name) names) name None IsGiven (λ e. All-head IsGiven name names all) (λ e. tt)
name_formed Keep [] all = tt
name_formed how [] all = tt
name_formed how (name ∷ names) all = All-head IsGiven name names all

-- ---- a result's coordinates lie over its axes

-- a coordinate of an array that shares its axes with the result
record HasHome (axes : List Axis) (c : Coord) : Type 0 where
  own : List Axis
  shares : Shares own axes
  formed : IsCoordinate own c

homes : (axes : List Axis) (a : of.DataArray) → IsOperand axes a → All (HasHome axes) a.coords
homes axes a is = All-weaker (IsCoordinate a.axes) (HasHome axes) (λ c formed. record { own = a.axes; shares = is.1; formed = formed }) a.coords (All-from_recursion (IsCoordinate a.axes) a.coords is.0.coords)

abbrev IsOver : List Axis → Axis → Type 0
IsOver axes x = (among (axis_names axes) x.name ≡ true) × (axis_called axes x.name ≡ x)

over_shared : (axes own xs : List Axis) → Shares own axes → list_all (among (axis_names axes)) (axis_names xs) ≡ true → AllByRecursion (IsOver own) xs → AllByRecursion (IsOver axes) xs
over_shared axes own [] shares all over = tt
over_shared axes own (x ∷ xs) shares all over =
    let parts = and_parts (among (axis_names axes) x.name) (list_all (among (axis_names axes)) (axis_names xs)) all in
    ((parts.0, shares.same x.name over.0.0 parts.0 ∙ over.0.1), over_shared axes own xs shares parts.1 over.1)

-- where one stands, its name is no dimension's, and its dimensions are there
placed : (axes : List Axis) (coords : List Coord) (c : Coord) → stands axes coords c ≡ true → (among (axis_names axes) c.name ≡ false) × (list_all (among (axis_names axes)) (axis_names c.axes) ≡ true)
unfolding has_place
placed axes coords c is =
    let parts = and_parts (not (among (axis_names axes) c.name)) (list_all (among (axis_names axes)) (axis_names c.axes)) (and_parts (has_place axes c) (is_agreed coords c) is).0 in
    (not-true (among (axis_names axes) c.name) parts.0, parts.1)

settled : (axes : List Axis) (coords : List Coord) → All (HasHome axes) coords → (c : Coord) → stands axes coords c ≡ true → HasHome axes c → IsCoordinate axes (joined_coord coords c)
settled axes coords own c is home =
    let like = filter (named_as c) coords in
    record {
      name = home.formed.name;
      over = over_shared axes home.own c.axes home.shares (placed axes coords c is).1 home.formed.over;
      distinct = home.formed.distinct;
      attrs = joined_formed (map (λ (d : Coord). d.attrs) like)
          (All-map AreAttributes (λ (d : Coord). d.attrs) like (All-weaker (HasHome axes) (λ (d : Coord). AreAttributes d.attrs) (λ d h. h.formed.attrs) like (All-filter (named_as c) (HasHome axes) coords own)));
      content = home.formed.content;
    }

-- no name of these is one of the others
distinct_both : (names more : List (List ℕ)) → are_distinct names ≡ true → are_distinct more ≡ true → ((n : List ℕ) → among names n ≡ true → among more n ≡ false) → are_distinct (names ++ more) ≡ true
distinct_both [] more first second apart = second
distinct_both (n ∷ names) more first second apart =
    let parts = and_parts (not (among names n)) (are_distinct names) first in
    let here = list_any-append (bytes_eq n) names more ∙ or_from (among names n) (among more n) (not-true (among names n) parts.0) (apart n (or_left (bytes_eq n n) (among names n) (bytes_same n))) in
    and_from (not (among (names ++ more) n)) (are_distinct (names ++ more)) (not_from_false (among (names ++ more) n) here) (distinct_both names more parts.1 second (λ m e. apart m (or_right (bytes_eq m n) (among names m) e)))

-- what a result over these axes carries of well-formed operands is well formed
pub carried_formed : (how : Carry) (arrays : List of.DataArray) (axes : List Axis) → AreDimensions axes → AllByRecursion (IsOperand axes) arrays → AreParts axes (carried how arrays axes)
unfolding coords_among first_named
carried_formed how arrays axes dimensions all =
    let coords = flat_map (λ (a : of.DataArray). a.coords) arrays in
    let kept = filter (stands axes coords) (first_named coords) in
    let operands = All-from_recursion (IsOperand axes) arrays all in
    let own = All-flat_map (HasHome axes) (λ (a : of.DataArray). a.coords) arrays (All-weaker (IsOperand axes) (λ (a : of.DataArray). All (HasHome axes) a.coords) (homes axes) arrays operands) in
    let home = All-filter (stands axes coords) (HasHome axes) (first_named coords) (firsts_all coord_name first_named refl (λ c rest. refl) (HasHome axes) coords own) in
    let passes = filter_passes (stands axes coords) (first_named coords) in
    record {
      name = name_formed how (map (λ (a : of.DataArray). a.name) arrays) (All-map IsGiven (λ (a : of.DataArray). a.name) arrays (All-weaker (IsOperand axes) (λ (a : of.DataArray). IsGiven a.name) (λ a is. is.0.name) arrays operands));
      attrs = attrs_formed how (map (λ (a : of.DataArray). a.attrs) arrays) (All-map AreAttributes (λ (a : of.DataArray). a.attrs) arrays (All-weaker (IsOperand axes) (λ (a : of.DataArray). AreAttributes a.attrs) (λ a is. is.0.attrs) arrays operands));
      coords = recursion_from_All (IsCoordinate axes) (coord_rule arrays axes) (All-map (IsCoordinate axes) (joined_coord coords) kept (λ k d lt. settled axes coords own _ (passes k d lt) (home k d lt)));
      distinct = ap (λ ns. are_distinct (axis_names axes ++ ns)) (map-map coord_name (joined_coord coords) kept)
          ∙ distinct_both (axis_names axes) (names_of kept) dimensions.distinct
          (distinct_filtered coord_name (stands axes coords) (first_named coords) (first_distinct coord_name first_named refl (λ c rest. refl) coords))
          (λ n e. absent coord_name n kept (All-weaker (λ c. stands axes coords c ≡ true) (Other coord_name n)
          (λ c s. false_from_ne_true (bytes_eq n c.name) (λ t. both_ways (among (axis_names axes) c.name) (placed axes coords c s).0 (subst (λ m. among (axis_names axes) m ≡ true) ((bytes_eq-Decides n c.name).0 t) e))) kept passes));
    }
