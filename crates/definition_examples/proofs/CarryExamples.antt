-- What results carry, computed.
use Rattle.std.proofs.Common.{◌≡◌, ℕ, List, [], ◌∷◌, ◌++◌, Option, Some, None, true, false, refl}
use Rattle.std.specs.Prelude.{codes, ℤ, pos}
use Rattle.xr_types.specs.declared.attr.Attr.{Attr}
use Rattle.xr_types.specs.declared.attr.NcType.TheVariants as types
use Rattle.xr_types.specs.declared.axis.Axis.{Axis}
use Rattle.xr_types.specs.declared.axis.TimeCoding.{TimeCoding}
use Rattle.xr_types.specs.declared.axis.Calendar.TheVariants.{Civil}
use Rattle.xr_types.specs.declared.axis.TimeUnit.TheVariants.{Seconds}
use Rattle.xr_types.specs.declared.kind.DType.{DType}
use Rattle.xr_types.specs.declared.kind.DType.TheVariants.{Int8, Int64}
use Rattle.xr_defs.specs.declared.value.Content.{Content}
use Rattle.xr_defs.specs.declared.value.Content.TheVariants.{Cells, Text, Time}
use Rattle.xr_defs.specs.declared.value.Coord.{Coord}
use Rattle.xr_defs.specs.Values.{DataArray}
use Rattle.xr_defs.specs.declared.carrying.Carry.TheVariants.{Keep, Method, Binary, Where, First}
use Rattle.xr_defs.specs.Carrying.{name_rule, attr_rule, coord_rule, coords_among, first_called, first_named, has_place, is_agreed, is_shared, same_content, same_coord, shared_attrs}
use Rattle.xr_defs.specs.WellFormed.{names_of}

abbrev bare : List ℕ → Axis
bare name = record { name = name; size = 2; labels = None }

abbrev metres : List Attr
metres = record { name = codes "units"; kind = types.Char; raw = codes "m" } ∷ []

abbrev along_x : List ℕ → DType → List (Option ℤ) → Coord
along_x name kind cells = record { name = name; axes = bare (codes "x") ∷ []; attrs = []; content = Cells (record { kind = kind; shape = 2 ∷ []; cells = cells }) true }

abbrev scalar : List ℕ → Content → Coord
scalar name content = record { name = name; axes = []; attrs = []; content = content }

abbrev over_x : List ℕ → List Attr → List Coord → DataArray
over_x name attrs coords = record { name = Some name; axes = bare (codes "x") ∷ []; kind = Int64; masked = false; attrs = attrs; coords = coords; cells = Some (pos 1) ∷ Some (pos 2) ∷ [] }

-- `c` along `x`, and the text `s`
abbrev a : DataArray
a = over_x (codes "a") metres (along_x (codes "c") Int64 (Some (pos 1) ∷ None ∷ []) ∷ scalar (codes "s") (Text (codes "one")) ∷ [])

-- a text of its own, another `s`, and the numbers of `c` in another kind
abbrev b : DataArray
b = over_x (codes "b") [] (scalar (codes "z") (Text (codes "z")) ∷ scalar (codes "s") (Text (codes "two")) ∷ along_x (codes "c") Int8 (Some (pos 1) ∷ None ∷ []) ∷ [])

-- a method keeps the name, and so does the receiver's; an operation on several keeps the name that all have
names_kept : name_rule Method (a ∷ []) ≡ Some (codes "a")
names_kept = refl

receiver : name_rule Where (a ∷ b ∷ []) ≡ Some (codes "a")
receiver = refl

two_names : name_rule Binary (a ∷ b ∷ []) ≡ None
two_names = refl

one_name : name_rule Binary (a ∷ a ∷ []) ≡ Some (codes "a")
one_name = refl

with_a_literal : name_rule Binary (a ∷ []) ≡ Some (codes "a")
with_a_literal = refl

combined : name_rule First (a ∷ a ∷ b ∷ []) ≡ None
combined = refl

-- a call on one array keeps the attributes, those that name fill numbers unless it makes new cells
abbrev int : List ℕ → ℕ → Attr
int name n = record { name = name; kind = types.Int; raw = 0 ∷ 0 ∷ 0 ∷ n ∷ [] }

abbrev fill : List Attr
fill = int (codes "_FillValue") 9 ∷ int (codes "missing_value") 8 ∷ []

selected : attr_rule Keep (over_x (codes "a") (metres ++ fill) [] ∷ []) ≡ metres ++ fill
selected = refl

computed : attr_rule Method (over_x (codes "a") (fill ++ metres) [] ∷ []) ≡ metres
computed = refl

of_the_receiver : attr_rule Where (over_x (codes "a") fill [] ∷ a ∷ []) ≡ fill
of_the_receiver = refl

-- those of several are joined, in the order of first appearance: `n` differs, and `units` and `m` only one has
abbrev p : DataArray
p = over_x (codes "p") (metres ++ int (codes "n") 1 ∷ fill) []

abbrev q : DataArray
q = over_x (codes "q") (int (codes "n") 2 ∷ int (codes "m") 3 ∷ fill) []

added : attr_rule Binary (p ∷ q ∷ []) ≡ metres ++ int (codes "m") 3 ∷ []
unfolding shared_attrs first_called is_shared
added = refl

combined_attrs : attr_rule First (p ∷ q ∷ []) ≡ metres ++ fill ++ int (codes "m") 3 ∷ []
unfolding shared_attrs first_called is_shared
combined_attrs = refl

-- the type counts beside the values, and so do two of three
another_type : attr_rule Binary (over_x (codes "a") (int (codes "n") 1 ∷ []) [] ∷ over_x (codes "a") (record (int (codes "n") 1) { kind = types.UInt } ∷ []) [] ∷ []) ≡ []
unfolding shared_attrs first_called is_shared
another_type = refl

one_of_three : attr_rule First (p ∷ p ∷ q ∷ []) ≡ attr_rule First (p ∷ q ∷ [])
unfolding shared_attrs first_called is_shared
one_of_three = refl

-- `c` is equal in both and `z` only one has, while `s` differs; the first `c` stands, with the attributes that both have
coords_of_both : coord_rule (a ∷ b ∷ []) (bare (codes "x") ∷ []) ≡ along_x (codes "c") Int64 (Some (pos 1) ∷ None ∷ []) ∷ scalar (codes "z") (Text (codes "z")) ∷ []
unfolding coords_among first_named has_place is_agreed same_coord same_content shared_attrs first_called is_shared
coords_of_both = refl

-- the dimension is reduced
reduced : names_of (coord_rule (a ∷ []) []) ≡ codes "s" ∷ []
unfolding coords_among first_named has_place is_agreed same_coord same_content shared_attrs first_called is_shared
reduced = refl

-- a new dimension has the name of a coordinate
new_dimension : names_of (coord_rule (a ∷ b ∷ []) (bare (codes "z") ∷ bare (codes "x") ∷ [])) ≡ codes "c" ∷ []
unfolding coords_among first_named has_place is_agreed same_coord same_content shared_attrs first_called is_shared
new_dimension = refl

-- equal cells, and other attributes
abbrev described : List Attr → Coord
described attrs = record (scalar (codes "s") (Text (codes "one"))) { attrs = attrs }

joined_coords : coord_rule (over_x (codes "a") [] (described (metres ++ int (codes "n") 1 ∷ []) ∷ []) ∷ over_x (codes "b") [] (described (int (codes "n") 2 ∷ fill) ∷ []) ∷ []) (bare (codes "x") ∷ []) ≡ described (metres ++ fill) ∷ []
unfolding coords_among first_named has_place is_agreed same_coord same_content shared_attrs first_called is_shared
joined_coords = refl

-- a hole isn't equal to a number, a text to a number or a time, and dimensions count
abbrev coding : TimeCoding
coding = record { units = record { unit = Seconds; reference = pos 0; calendar = Civil; early = true }; units_text = codes "seconds since 1970-01-01"; calendar_text = None }

abbrev number : ℤ → Content
number n = Cells (record { kind = Int64; shape = []; cells = Some n ∷ [] }) false

hole : same_coord (along_x (codes "c") Int64 (Some (pos 1) ∷ None ∷ [])) (along_x (codes "c") Int64 (Some (pos 1) ∷ Some (pos 0) ∷ [])) ≡ false
unfolding same_coord same_content
hole = refl

text_and_number : same_content (Text (codes "1")) (number (pos 1)) ≡ false
unfolding same_content
text_and_number = refl

time_and_number : same_content (Time coding (pos 1)) (number (pos 1)) ≡ false
unfolding same_content
time_and_number = refl

two_times : same_content (Time coding (pos 1)) (Time (record coding { units_text = codes "minutes since 1970-01-01" }) (pos 1)) ≡ true
unfolding same_content
two_times = refl
