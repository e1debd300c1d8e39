-- The header of a classic file, versions 1, 2 and 5 (Unidata, "The NetCDF Classic Format Specification").
-- Numbers are big-endian and without a sign. A fault stands at the first byte of its field.
use Rattle.std.specs.Prelude.{◌-◌, ◌%◌, ◌*◌, ℕ, Bool, not, ◌&&◌, ◌||◌, List, [], length, map, get_or, Option, Some, None, nat_lt, ◌==◌, if◌then◌else◌}
use Rattle.std.specs.Str.{is_utf8}
use Rattle.std.specs.List.{list_any}
use Rattle.std.specs.Int.{Width, w32, w64}
use Rattle.xr_types.specs.declared.fault.CdfKind.TheVariants.{BadTag, BadName, Repeated, BadDimension, BadType}
use Rattle.xr_types.specs.declared.attr.Attr.{Attr}
use Rattle.xr_types.specs.declared.attr.NcType.{NcType}
use Rattle.xr_types.specs.declared.attr.NcType.TheVariants.{Byte, Char, Short, Int, Float, Double, UByte, UShort, UInt, Int64, UInt64}
use Rattle.xr_types.specs.Names.{among}
use Rattle.xr_types.specs.Widths.{width}
use Rattle.xr_files.specs.declared.file.CdfDim.{CdfDim}
use Rattle.xr_files.specs.declared.file.VarHead.{VarHead}
use Rattle.xr_files.specs.Format.{Format, chars, number, chain, rule, via, each}

-- ---- types

-- nc_type: byte 1, char 2, short 3, int 4, float 5, double 6; version 5 also has ubyte 7, ushort 8, uint 9, int64 10
-- and uint64 11
abbrev pub is_type : ℕ → ℕ → Bool
is_type version n = nat_lt 0 n && nat_lt n (if version == 5 then 12 else 7)

abbrev pub type_of : ℕ → NcType
type_of n =
    if n == 1 then Byte else if n == 2 then Char else if n == 3 then Short else if n == 4 then Int else if n == 5 then Float else if n == 6 then Double
    else if n == 7 then UByte else if n == 8 then UShort else if n == 9 then UInt else if n == 10 then Int64 else UInt64

abbrev pub number_of : NcType → ℕ
number_of Byte = 1
number_of Char = 2
number_of Short = 3
number_of Int = 4
number_of Float = 5
number_of Double = 6
number_of UByte = 7
number_of UShort = 8
number_of UInt = 9
number_of Int64 = 10
number_of UInt64 = 11

-- the version has the type
abbrev pub has_type : ℕ → NcType → Bool
has_type version kind = is_type version (number_of kind)

-- ---- fields

-- a tag, a type
abbrev pub word : Format ℕ
word = number w32

-- a count, a length, a number of a dimension, a size take eight bytes in version 5, and four in the others
abbrev pub count_width : ℕ → Width
count_width version = if version == 5 then w64 else w32

-- the greatest number that they hold
abbrev pub most_count : ℕ → ℕ
most_count version = if version == 5 then 18446744073709551615 else 4294967295

abbrev pub count : ℕ → Format ℕ
count version = number (count_width version)

-- a place in the file takes four bytes in version 1, and eight in the others
abbrev pub place_width : ℕ → Width
place_width version = if version == 1 then w32 else w64

-- the number of records has all bits set where nobody counted them
abbrev pub counted : ℕ → ℕ → Option ℕ
counted version n = if n == most_count version then None else Some n

-- how many bytes fill a text up to a multiple of four
abbrev pub padding : ℕ → ℕ
padding n = (4 - n % 4) % 4

-- a name isn't empty, and it is UTF-8
abbrev pub is_name : List ℕ → Bool
is_name text = not (length text == 0) && is_utf8 text

-- its count of bytes, the bytes, and padding whose bytes are ignored
unfoldable pub name : ℕ → Format (List ℕ)
name version = rule BadName is_name (chain (count version) (λ n. chain (chars n) (λ text. via (λ pad. text) (chars (padding n)))))

-- a name that doesn't stand earlier in its list
unfoldable pub new_name : ℕ → List (List ℕ) → Format (List ℕ)
new_name version names = rule Repeated (λ text. not (among names text)) (name version)

unfoldable pub nc_type : ℕ → Format NcType
nc_type version = via type_of (rule BadType (is_type version) word)

-- a tag of 0 and a count of 0, or the list's own tag, a count, and that many entries
unfoldable pub list : {A : Type 0} → ℕ → ℕ → (List A → Format A) → Format (List A)
list version tag entry = chain (rule BadTag (λ t. t == 0 || t == tag) word) (λ t. chain (rule BadTag (λ n. not (t == 0) || n == 0) (count version)) (λ n. each n entry []))

-- ---- entries, each by those before it in its list

-- a length of 0 marks the record dimension, of which there is one at most
abbrev pub is_record_dim : CdfDim → Bool
is_record_dim d = d.len == 0

abbrev pub is_length : List CdfDim → ℕ → Bool
is_length seen n = not (n == 0) || not (list_any is_record_dim seen)

abbrev pub dim_names : List CdfDim → List (List ℕ)
dim_names dims = map (λ (d : CdfDim). d.name) dims

unfoldable pub dimension : ℕ → List CdfDim → Format CdfDim
dimension version seen = chain (new_name version (dim_names seen)) (λ text. via (λ n. record { name = text; len = n }) (rule BadDimension (is_length seen) (count version)))

abbrev pub attr_names : List Attr → List (List ℕ)
attr_names attrs = map (λ (a : Attr). a.name) attrs

-- a type, a count of values, the values, and padding whose bytes are ignored
unfoldable pub values : ℕ → List ℕ → Format Attr
values version text = chain (nc_type version) (λ kind. chain (count version) (λ n. chain (chars (n * width kind)) (λ raw. via (λ pad. record { name = text; kind = kind; raw = raw }) (chars (padding (n * width kind))))))

unfoldable pub attribute : ℕ → List Attr → Format Attr
attribute version seen = chain (new_name version (attr_names seen)) (values version)

abbrev pub no_dim : CdfDim
no_dim = record { name = []; len = 1 }

abbrev pub dim_at : List CdfDim → ℕ → CdfDim
dim_at dims i = get_or dims i no_dim

-- the number of a dimension: there is one, and the record dimension stands first only
abbrev pub is_dim_number : List CdfDim → ℕ → ℕ → Bool
is_dim_number dims place n = nat_lt n (length dims) && (place == 0 || not (is_record_dim (dim_at dims n)))

unfoldable pub dim_number : ℕ → List CdfDim → List ℕ → Format ℕ
dim_number version dims seen = rule BadDimension (is_dim_number dims (length seen)) (count version)

abbrev pub var_names : List VarHead → List (List ℕ)
var_names vars = map (λ (v : VarHead). v.name) vars

-- dimensions, attributes, a type, a size that is ignored, and where the values begin
unfoldable pub var_head : ℕ → List CdfDim → List ℕ → Format VarHead
var_head version dims text =
    chain (count version) (λ rank. chain (each rank (dim_number version dims) []) (λ ids. chain (list version 12 (attribute version)) (λ attrs.
    chain (nc_type version) (λ kind. chain (count version) (λ vsize. via (λ begin. record { name = text; dims = ids; attrs = attrs; kind = kind; begin = begin }) (number (place_width version)))))))

unfoldable pub variable : ℕ → List CdfDim → List VarHead → Format VarHead
variable version dims seen = chain (new_name version (var_names seen)) (var_head version dims)

-- ---- the header behind the magic

-- the number of records is none in a streamed file
pub record Header : Type 0 where
  pub numrecs : Option ℕ
  pub dims : List CdfDim
  pub attrs : List Attr
  pub vars : List VarHead

unfoldable pub header : ℕ → Format Header
header version =
    chain (via (counted version) (count version)) (λ numrecs. chain (list version 10 (dimension version)) (λ dims. chain (list version 12 (attribute version)) (λ attrs.
    via (λ vars. record { numrecs = numrecs; dims = dims; attrs = attrs; vars = vars }) (list version 11 (variable version dims)))))
