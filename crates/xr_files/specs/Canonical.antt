-- The one spelling that the writer gives for a file: an empty list is a tag and a count of 0, padding in the header
-- is zeros, fixed variables follow the header in order, then the records (Unidata, "The NetCDF Classic Format
-- Specification"; the padding of values repeats the variable's fill value, as netcdf-c writes it).
use Rattle.std.specs.Prelude.{◌≡◌, ◌+◌, ◌-◌, ◌*◌, ◌/◌, ◌<◌, ◌≤◌, ℕ, Bool, true, not, ◌&&◌, List, [], ◌∷◌, ◌++◌, length, map, flat_map, filter, take, drop, sum, find, replicate, Some, None, nat_le, ◌==◌, if◌then◌else◌, codes}
use Rattle.std.specs.Str.{bytes_eq}
use Rattle.std.specs.List.{list_all, range_with_len, AllByRecursion}
use Rattle.std.specs.Int.{w32, to_be_bytes}
use Rattle.xr_types.specs.declared.attr.Attr.{Attr}
use Rattle.xr_types.specs.declared.attr.NcType.{NcType}
use Rattle.xr_types.specs.declared.attr.NcType.TheVariants.{Byte, Char, Short, Int, Float, Double, UByte, UShort, UInt, Int64, UInt64}
use Rattle.xr_files.specs.declared.file.CdfDim.{CdfDim}
use Rattle.xr_files.specs.declared.file.CdfVar.{CdfVar}
use Rattle.xr_files.specs.declared.file.CdfFile.{CdfFile}
use Rattle.xr_types.specs.Points.{size}
use Rattle.xr_types.specs.Names.{are_distinct}
use Rattle.xr_types.specs.Widths.{width}
use Rattle.xr_files.specs.Classic.{number_of, has_type, count_width, most_count, place_width, padding, is_name, is_record_dim, dim_at, dim_names, attr_names}
use Rattle.xr_files.specs.Files.{most_bytes, magic, is_version, is_record_var, var_size, padded, shape_of}

-- ---- the header

-- a tag, a type
abbrev pub number_text : ℕ → List ℕ
number_text n = to_be_bytes w32 n

-- a count, a length, a number of a dimension, a size
abbrev pub count_text : ℕ → ℕ → List ℕ
count_text version n = to_be_bytes (count_width version) n

abbrev pub zeros : ℕ → List ℕ
zeros n = replicate n 0

abbrev pub name_text : ℕ → List ℕ → List ℕ
name_text version text = count_text version (length text) ++ (text ++ zeros (padding (length text)))

abbrev pub list_text : {A : Type 0} → ℕ → ℕ → (A → List ℕ) → List A → List ℕ
list_text version tag entry [] = number_text 0 ++ count_text version 0
list_text version tag entry (x ∷ xs) = number_text tag ++ (count_text version (length (x ∷ xs)) ++ flat_map entry (x ∷ xs))

abbrev pub dim_text : ℕ → CdfDim → List ℕ
dim_text version d = name_text version d.name ++ count_text version d.len

abbrev pub attr_text : ℕ → Attr → List ℕ
attr_text version a = name_text version a.name ++ (number_text (number_of a.kind) ++ (count_text version (length a.raw / width a.kind) ++ (a.raw ++ zeros (padding (length a.raw)))))

-- bytes of a variable's values, of a record variable per record
abbrev pub slab : List CdfDim → CdfVar → ℕ
slab dims v = var_size dims v.dims (width v.kind)

-- a variable with the place at which its values begin
abbrev pub var_text : ℕ → List CdfDim → CdfVar × ℕ → List ℕ
var_text version dims x =
    name_text version x.0.name ++ (count_text version (length x.0.dims) ++ (flat_map (count_text version) x.0.dims ++ (list_text version 12 (attr_text version) x.0.attrs ++
    (number_text (number_of x.0.kind) ++ (count_text version (padded (slab dims x.0)) ++ to_be_bytes (place_width version) x.1)))))

abbrev pub header_text : CdfFile → List (CdfVar × ℕ) → List ℕ
header_text f placed =
    magic f.version ++ (count_text f.version f.numrecs ++ (list_text f.version 10 (dim_text f.version) f.dims ++ (list_text f.version 12 (attr_text f.version) f.attrs ++
    list_text f.version 11 (var_text f.version f.dims) placed)))

-- places don't change the length of a header
abbrev pub header_size : CdfFile → ℕ
header_size f = length (header_text f (map (λ v. (v, 0)) f.vars))

-- ---- where values begin

abbrev pub is_record : CdfFile → CdfVar → Bool
is_record f v = is_record_var f.dims v.dims

abbrev pub fixed_vars : CdfFile → List CdfVar
fixed_vars f = filter (λ v. not (is_record f v)) f.vars

abbrev pub record_vars : CdfFile → List CdfVar
record_vars f = filter (is_record f) f.vars

-- bytes that a variable takes among the fixed values, or in each record; a lone record variable has no padding
abbrev pub room : CdfFile → CdfVar → ℕ
room f v = if is_record f v && length (record_vars f) == 1 then slab f.dims v else padded (slab f.dims v)

abbrev pub fixed_size : CdfFile → ℕ
fixed_size f = sum (map (room f) (fixed_vars f))

abbrev pub recsize : CdfFile → ℕ
recsize f = sum (map (room f) (record_vars f))

-- each variable with its place: the fixed ones from the one place on, the record ones from the other on
abbrev pub placed_from : CdfFile → List CdfVar → ℕ → ℕ → List (CdfVar × ℕ)
placed_from f [] fixed records = []
placed_from f (v ∷ vs) fixed records =
    if is_record f v then (v, records) ∷ placed_from f vs fixed (records + room f v) else (v, fixed) ∷ placed_from f vs (fixed + room f v) records

abbrev pub placed : CdfFile → List (CdfVar × ℕ)
placed f = placed_from f f.vars (header_size f) (header_size f + fixed_size f)

-- ---- values

-- the fill value of a type: bytes that a program which looks at the padding takes for missing values; values of four
-- bytes and of eight have no padding
abbrev pub default_fill : NcType → List ℕ
default_fill Byte = 129 ∷ []
default_fill Char = 0 ∷ []
default_fill Short = 128 ∷ 1 ∷ []
default_fill Int = []
default_fill Float = []
default_fill Double = []
default_fill UByte = 255 ∷ []
default_fill UShort = 255 ∷ 255 ∷ []
default_fill UInt = []
default_fill Int64 = []
default_fill UInt64 = []

-- the `_FillValue` of the variable where it is one value of the variable's type
abbrev pub is_own_fill : NcType → Attr → Bool
is_own_fill kind a = bytes_eq a.name (codes "_FillValue") && (number_of a.kind == number_of kind && length a.raw == width kind)

abbrev pub fill_of : CdfVar → List ℕ
fill_of v = elim (find (is_own_fill v.kind) v.attrs) [ None ↦ default_fill v.kind | Some a ↦ a.raw ]

-- up to three bytes of it, over and over
abbrev pub filling : CdfVar → ℕ → List ℕ
filling v n = take n (fill_of v ++ (fill_of v ++ fill_of v))

abbrev pub with_filling : CdfFile → CdfVar → List ℕ → List ℕ
with_filling f v raw = raw ++ filling v (room f v - length raw)

abbrev pub record_text : CdfFile → ℕ → CdfVar → List ℕ
record_text f r v = with_filling f v (take (slab f.dims v) (drop (r * slab f.dims v) v.raw))

abbrev pub values_text : CdfFile → List ℕ
values_text f =
    flat_map (λ v. with_filling f v v.raw) (fixed_vars f)
    ++ flat_map (λ r. flat_map (record_text f r) (record_vars f)) (range_with_len 0 f.numrecs)

-- the canonical bytes of a file
unfoldable pub canonical : CdfFile → List ℕ
canonical f = header_text f (placed f) ++ values_text f

-- their number
abbrev pub canonical_size : CdfFile → ℕ
canonical_size f = header_size f + fixed_size f + f.numrecs * recsize f

-- ---- which files have a spelling

-- a count, a length or a number of a dimension fits the version's field
abbrev pub Fits : ℕ → ℕ → Type 0
Fits version n = n ≤ most_count version

pub record IsName (version : ℕ) (text : List ℕ) : Type 0 where
  pub name : is_name text ≡ true
  pub fits : Fits version (length text)

-- an attribute's values have their type's width
pub record IsAttr (version : ℕ) (a : Attr) : Type 0 where
  pub name : IsName version a.name
  pub whole : length a.raw ≡ (length a.raw / width a.kind) * width a.kind
  pub fits : Fits version (length a.raw / width a.kind)

pub record AreAttrs (version : ℕ) (attrs : List Attr) : Type 0 where
  pub each : AllByRecursion (IsAttr version) attrs
  pub distinct : are_distinct (attr_names attrs) ≡ true
  pub fits : Fits version (length attrs)

pub record IsDim (version : ℕ) (d : CdfDim) : Type 0 where
  pub name : IsName version d.name
  pub fits : Fits version d.len

-- a variable's values are as many bytes as its shape, the records and its type say
pub record IsVar (f : CdfFile) (v : CdfVar) : Type 0 where
  pub name : IsName f.version v.name
  pub dims : AllByRecursion (λ i. i < length f.dims) v.dims
  pub rank_fits : Fits f.version (length v.dims)
  pub attrs : AreAttrs f.version v.attrs
  pub raw : length v.raw ≡ size (shape_of f.dims f.numrecs v.dims) * width v.kind

-- the parts of a file fit together, and its counts, lengths and numbers fit the version's fields; the number of records
-- doesn't have all bits set
pub record IsFile (f : CdfFile) : Type 0 where
  pub known : is_version f.version ≡ true
  pub numrecs : f.numrecs < most_count f.version
  pub dims : AllByRecursion (IsDim f.version) f.dims
  pub dims_distinct : are_distinct (dim_names f.dims) ≡ true
  pub dims_fit : Fits f.version (length f.dims)
  pub attrs : AreAttrs f.version f.attrs
  pub vars : AllByRecursion (IsVar f) f.vars
  pub vars_distinct : are_distinct (map (λ (v : CdfVar). v.name) f.vars) ≡ true
  pub vars_fit : Fits f.version (length f.vars)

-- the version can hold it: it has each type, and there is one record dimension at most, which stands first only
abbrev pub count_record_dims : List CdfDim → ℕ
count_record_dims dims = length (filter is_record_dim dims)

abbrev pub in_place : List CdfDim → List ℕ → Bool
in_place dims [] = true
in_place dims (i ∷ ids) = list_all (λ j. not (is_record_dim (dim_at dims j))) ids

abbrev pub has_types : ℕ → List Attr → Bool
has_types version attrs = list_all (λ (a : Attr). has_type version a.kind) attrs

abbrev pub can_hold_var : CdfFile → CdfVar → Bool
can_hold_var f v = has_type f.version v.kind && has_types f.version v.attrs && in_place f.dims v.dims

abbrev pub can_hold : CdfFile → Bool
can_hold f = nat_le (count_record_dims f.dims) 1 && has_types f.version f.attrs && list_all (can_hold_var f) f.vars

-- neither the file nor a record is larger than a file may be
abbrev pub is_small : CdfFile → Bool
is_small f = nat_le (canonical_size f) most_bytes && nat_le (recsize f) most_bytes
