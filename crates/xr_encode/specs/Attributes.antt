-- The attributes of a variable as they are written, but for its cells.
use Rattle.std.specs.Prelude.{ℕ, ℤ, Bool, ◌||◌, List, [], ◌∷◌, Option, Some, None, if◌then◌else◌, codes}
use Rattle.xr_types.specs.declared.attr.Attr.{Attr}
use Rattle.xr_types.specs.declared.attr.NcType.{NcType}
use Rattle.xr_files.specs.Classic.{has_type}
use Rattle.xr_defs.specs.declared.write_options.WriteOptions.{WriteOptions}
use Rattle.xr_defs.specs.Decoding.{is_attr, own_fill}
use Rattle.xr_defs.specs.Encoding.{value_bytes, first_of, uses_option}
use Rattle.xr_encode.specs.declared.outline.Outline.{Outline}
use Rattle.xr_encode.specs.Outlines.{without_cells}

-- the attribute `_FillValue` of a type
abbrev pub fill_of_type : NcType → ℤ → Attr
fill_of_type t n = record { name = codes "_FillValue"; kind = t; raw = value_bytes t n }

-- the number of a `_FillValue` that is in use
abbrev pub fill_in_use : Outline → Option ℤ
fill_in_use o = if o.masked then first_of (own_fill o.attrs) else None

-- an attribute, which is written anew where it is the `_FillValue` that is in use
abbrev pub written_anew : NcType → Option ℤ → Attr → Attr
written_anew t None a = a
written_anew t (Some n) a = if is_attr (codes "_FillValue") a then fill_of_type t n else a

-- the option's number where it is in use
abbrev pub option_in_use : WriteOptions → Outline → Option ℤ
option_in_use options o = if uses_option options (without_cells o) then options.fill else None

abbrev pub fill_given : NcType → Option ℤ → List Attr
fill_given t None = []
fill_given t (Some n) = fill_of_type t n ∷ []

-- the version has the type of an attribute as it is written, given the number of a `_FillValue` that is in use
abbrev pub is_typed : ℕ → Option ℤ → Attr → Bool
is_typed version None a = has_type version a.kind
is_typed version (Some n) a = is_attr (codes "_FillValue") a || has_type version a.kind
