-- What a result has of its operands beside cells and axes: the name, the attributes, and the coordinates that are no index
-- (xarray user guide, "Computation", sections "Coordinates" and "Math with Datasets"; the rule of the attributes is this
-- project's own). The attributes of an index are those of the first operand that has it.
use Rattle.std.specs.Prelude.{ℕ, ℤ, Bool, true, false, not, ◌&&◌, ◌||◌, ◌==◌, List, [], ◌∷◌, map, flat_map, filter, Option, Some, None, nat_eq, if◌then◌else◌}
use Rattle.std.specs.Str.{bytes_eq}
use Rattle.std.specs.Ordering.{int_eq}
use Rattle.std.specs.List.{list_all}
use Rattle.std.specs.Cmp.Lexicographic.{pointwise}
use Rattle.xr_types.specs.declared.attr.Attr.{Attr}
use Rattle.xr_types.specs.declared.axis.Axis.{Axis}
use Rattle.xr_times.specs.Times.{same_calendar}
use Rattle.xr_defs.specs.declared.value.Content.{Content}
use Rattle.xr_defs.specs.declared.value.Content.TheVariants.{Cells, Text, Time}
use Rattle.xr_defs.specs.declared.value.Coord.{Coord}
use Rattle.xr_types.specs.Names.{among}
use Rattle.xr_files.specs.Classic.{number_of}
use Rattle.xr_defs.specs.Values as of
use Rattle.xr_defs.specs.Values.{without_fills}
use Rattle.xr_types.specs.Names.{axis_names}
use Rattle.xr_defs.specs.declared.carrying.Carry.{Carry}
use Rattle.xr_defs.specs.declared.carrying.Carry.TheVariants.{Keep, Method, Binary, Where, First}
use Rattle.xr_defs.specs.declared.carrying.Parts.{Parts}

-- ---- the name

abbrev pub first_name : List (Option (List ℕ)) → Option (List ℕ)
first_name [] = None
first_name (name ∷ names) = name

abbrev pub same_name : Option (List ℕ) → Option (List ℕ) → Bool
same_name None None = true
same_name None (Some b) = false
same_name (Some a) None = false
same_name (Some a) (Some b) = bytes_eq a b

-- the name that all have
abbrev pub shared_name : List (Option (List ℕ)) → Option (List ℕ)
shared_name [] = None
shared_name (name ∷ names) = if list_all (same_name name) names then name else None

-- a method keeps the name; an operation on several arrays keeps the one that all have
abbrev pub name_among : Carry → List (Option (List ℕ)) → Option (List ℕ)
name_among Keep names = first_name names
name_among Method names = first_name names
name_among Where names = first_name names
name_among Binary names = shared_name names
name_among First names = shared_name names

-- ---- the attributes

abbrev pub first_attrs : List (List Attr) → List Attr
first_attrs [] = []
first_attrs (attrs ∷ others) = attrs

abbrev pub same_attr : Attr → Attr → Bool
same_attr a b = number_of a.kind == number_of b.kind && bytes_eq a.raw b.raw

abbrev pub called_as : Attr → Attr → Bool
called_as a b = bytes_eq b.name a.name

-- those of its name have its type and values
unfoldable pub is_shared : List Attr → Attr → Bool
is_shared attrs a = list_all (λ b. not (called_as a b) || same_attr a b) attrs

-- the first of each name
unfoldable pub first_called : List Attr → List Attr
first_called [] = []
first_called (a ∷ attrs) = a ∷ filter (λ b. not (called_as a b)) (first_called attrs)

-- an attribute stands where all operands that have its name have it alike, in the order of first appearance
unfoldable pub shared_attrs : List Attr → List Attr
shared_attrs attrs = filter (is_shared attrs) (first_called attrs)

abbrev pub joined_attrs : List (List Attr) → List Attr
joined_attrs lists = shared_attrs (flat_map (λ attrs. attrs) lists)

-- one array keeps its attributes, and those of several are joined; the method `where` keeps its receiver's. `Method` and
-- `Binary` drop those that name fill numbers
abbrev pub attrs_among : Carry → List (List Attr) → List Attr
attrs_among Keep lists = first_attrs lists
attrs_among Where lists = first_attrs lists
attrs_among First lists = joined_attrs lists
attrs_among Method lists = without_fills (first_attrs lists)
attrs_among Binary lists = without_fills (joined_attrs lists)

-- ---- the coordinates that are no index

-- missing cells are equal, and so are equal numbers whatever their kind
abbrev pub same_cell : Option ℤ → Option ℤ → Bool
same_cell None None = true
same_cell None (Some n) = false
same_cell (Some m) None = false
same_cell (Some m) (Some n) = int_eq m n

-- numbers, texts and times are never equal to each other
unfoldable pub same_content : Content → Content → Bool
same_content (Cells a m) (Cells b n) = pointwise nat_eq a.shape b.shape && pointwise same_cell a.cells b.cells
same_content (Cells a m) (Text t) = false
same_content (Cells a m) (Time d t) = false
same_content (Text s) (Cells b n) = false
same_content (Text s) (Text t) = bytes_eq s t
same_content (Text s) (Time d t) = false
same_content (Time c s) (Cells b n) = false
same_content (Time c s) (Text t) = false
same_content (Time c s) (Time d t) = same_calendar c.units.calendar d.units.calendar && int_eq s t

-- the same dimensions in the same order, and equal cells
unfoldable pub same_coord : Coord → Coord → Bool
same_coord c d = pointwise bytes_eq (axis_names c.axes) (axis_names d.axes) && same_content c.content d.content

abbrev pub named_as : Coord → Coord → Bool
named_as c d = bytes_eq d.name c.name

-- those of its name are equal to it
unfoldable pub is_agreed : List Coord → Coord → Bool
is_agreed coords c = list_all (λ d. not (named_as c d) || same_coord c d) coords

-- its dimensions are among those of the result, and none of these has its name
unfoldable pub has_place : List Axis → Coord → Bool
has_place axes c = not (among (axis_names axes) c.name) && list_all (among (axis_names axes)) (axis_names c.axes)

-- the first of each name
unfoldable pub first_named : List Coord → List Coord
first_named [] = []
first_named (c ∷ coords) = c ∷ filter (λ d. not (named_as c d)) (first_named coords)

abbrev pub stands : List Axis → List Coord → Coord → Bool
stands axes coords c = has_place axes c && is_agreed coords c

-- whether none of these has its name
abbrev pub is_new : List Coord → Coord → Bool
is_new coords c = list_all (λ d. not (named_as c d)) coords

-- the attributes of those of its name are joined
abbrev pub joined_coord : List Coord → Coord → Coord
joined_coord coords c = record c { attrs = joined_attrs (map (λ (d : Coord). d.attrs) (filter (named_as c) coords)) }

unfoldable pub coords_among : List Axis → List Coord → List Coord
coords_among axes coords = map (joined_coord coords) (filter (stands axes coords) (first_named coords))

-- ---- the rules

abbrev pub name_rule : Carry → List of.DataArray → Option (List ℕ)
name_rule how arrays = name_among how (map (λ (a : of.DataArray). a.name) arrays)

abbrev pub attr_rule : Carry → List of.DataArray → List Attr
attr_rule how arrays = attrs_among how (map (λ (a : of.DataArray). a.attrs) arrays)

-- over the axes of the result
abbrev pub coord_rule : List of.DataArray → List Axis → List Coord
coord_rule arrays axes = coords_among axes (flat_map (λ (a : of.DataArray). a.coords) arrays)

abbrev pub carried : Carry → List of.DataArray → List Axis → Parts
carried how arrays axes = record { name = name_rule how arrays; attrs = attr_rule how arrays; coords = coord_rule arrays axes }
