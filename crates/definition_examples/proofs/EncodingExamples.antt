-- Worked datasets as files, and as they are printed, computed.
use Rattle.std.proofs.Common.{◌≡◌, ℕ, List, [], ◌∷◌, Some, None, Ok, Err, refl}
use Rattle.std.specs.Prelude.{codes, ℤ, pos, negsuc, true, false}
use Rattle.std.specs.Str.{is_utf8, chars}
use Rattle.std.specs.Fmt.{digits}
use lib.Utf8
use Rattle.xr_types.specs.declared.fault.Fault.TheVariants.{NoFill, FillCollides, CannotHold, DoesNotFit, NoDimension}
use Rattle.xr_types.specs.declared.attr.Attr.{Attr}
use Rattle.xr_types.specs.declared.attr.NcType.{NcType}
use Rattle.xr_types.specs.declared.attr.NcType.TheVariants.{Byte, Char, Short, Int, UByte, UInt, Int64}
use Rattle.xr_types.specs.declared.axis.Axis.{Axis}
use Rattle.xr_types.specs.declared.axis.LabelList.TheVariants.{Texts, Times}
use Rattle.xr_types.specs.declared.axis.TimeCoding.{TimeCoding}
use Rattle.xr_types.specs.declared.axis.TimeUnit.TheVariants.{Days}
use Rattle.xr_types.specs.declared.axis.Calendar.TheVariants.{NoLeap}
use Rattle.xr_types.specs.declared.kind.DType.{DType}
use Rattle.xr_types.specs.declared.kind.DType.TheVariants as kinds
use Rattle.xr_files.specs.declared.file.CdfFile.{CdfFile}
use Rattle.xr_defs.specs.declared.value.Content.TheVariants as contents
use Rattle.xr_defs.specs.declared.write_options.WriteOptions.{WriteOptions}
use Rattle.xr_types.specs.Results.{unless}
use Rattle.xr_files.specs.Canonical.{canonical}
use Rattle.xr_defs.specs.Values.{Dataset, Variable}
use Rattle.xr_defs.specs.Decoding.{set_of, is_skipped, labels_in, is_index, is_coordinate, check_count}
use Rattle.xr_defs.specs.Encoding.{file_of, check_unlimited, check_names, check_records, check_fill, check_fit, check_cells, reference_text, units_written}
use Rattle.xr_times.specs.Units.{behind_word}
use Rattle.xr_defs.specs.Printing.{set_text}

abbrev plainly : WriteOptions
plainly = record { version = 1; fill = None; unlimited = None }

abbrev filled : ℤ → WriteOptions
filled n = record { version = 1; fill = Some n; unlimited = None }

abbrev along : List ℕ → WriteOptions
along d = record { version = 1; fill = None; unlimited = Some d }

abbrev bare : List ℕ → ℕ → Axis
bare name n = record { name = name; size = n; labels = None }

abbrev one_variable : List Axis → Variable → Dataset
one_variable axes v = record { axes = axes; coords = []; vars = v ∷ []; attrs = []; skipped = [] }

-- 1 and a missing cell
abbrev hole : List Attr → Dataset
hole attrs = one_variable (bare (codes "x") 2 ∷ []) (record { name = codes "v"; dims = codes "x" ∷ []; kind = kinds.Int16; masked = true; attrs = attrs; cells = Some (pos 1) ∷ None ∷ [] })

no_fill : file_of (hole []) plainly ≡ Err NoFill
unfolding file_of check_unlimited check_names check_records check_fill check_fit check_cells unless digits
no_fill = refl

fill_collides : file_of (hole []) (filled (pos 1)) ≡ Err FillCollides
unfolding file_of check_unlimited check_names check_records check_fill check_fit check_cells unless digits
fill_collides = refl

does_not_fit : file_of (hole []) (filled (pos 32768)) ≡ Err DoesNotFit
unfolding file_of check_unlimited check_names check_records check_fill check_fit check_cells unless digits
does_not_fit = refl

abbrev hole_file : CdfFile
hole_file =
    record {
      version = 1;
      numrecs = 0;
      attrs = [];
      dims = record { name = codes "x"; len = 2 } ∷ [];
      vars = record { name = codes "v"; dims = 0 ∷ []; attrs = record { name = codes "_FillValue"; kind = Short; raw = 255 ∷ 255 ∷ [] } ∷ []; kind = Short; raw = 0 ∷ 1 ∷ 255 ∷ 255 ∷ [] } ∷ [];
    }

by_the_option : file_of (hole []) (filled (negsuc 0)) ≡ Ok hole_file
unfolding file_of check_unlimited check_names check_records check_fill check_fit check_cells unless digits canonical
by_the_option = refl

-- and it reads again as it was, with the attribute that the writer added
read_again : set_of hole_file true ≡ Ok (hole (record { name = codes "_FillValue"; kind = Short; raw = 255 ∷ 255 ∷ [] } ∷ []))
unfolding set_of check_count unless is_skipped labels_in is_index is_coordinate
read_again = refl

-- the variable's own number is in use, and the option isn't
own_number : file_of (hole (record { name = codes "_FillValue"; kind = Int; raw = 0 ∷ 0 ∷ 0 ∷ 7 ∷ [] } ∷ [])) (filled (pos 1))
    ≡ Ok (record hole_file { vars = record { name = codes "v"; dims = 0 ∷ []; attrs = record { name = codes "_FillValue"; kind = Short; raw = 0 ∷ 7 ∷ [] } ∷ []; kind = Short; raw = 0 ∷ 1 ∷ 0 ∷ 7 ∷ [] } ∷ [] })
unfolding file_of check_unlimited check_names check_records check_fill check_fit check_cells unless digits canonical
own_number = refl

-- two empty axes
two_empty : file_of (record { axes = bare (codes "x") 0 ∷ bare (codes "y") 0 ∷ []; coords = []; attrs = []; skipped = []; vars = record { name = codes "p"; dims = codes "x" ∷ []; kind = kinds.Int64; masked = false; attrs = []; cells = [] } ∷ [] }) plainly ≡ Err CannotHold
unfolding file_of check_unlimited check_names check_records check_fill check_fit check_cells unless digits
two_empty = refl

-- a number that type int doesn't hold
too_wide : file_of (one_variable [] (record { name = codes "v"; dims = []; kind = kinds.Int64; masked = false; attrs = []; cells = Some (pos 4000000000) ∷ [] })) plainly ≡ Err CannotHold
unfolding file_of check_unlimited check_names check_records check_fill check_fit check_cells unless digits
too_wide = refl

no_such_dimension : file_of (hole []) (along (codes "t")) ≡ Err (NoDimension (codes "t"))
unfolding file_of check_unlimited check_names check_records check_fill check_fit check_cells unless digits
no_such_dimension = refl

-- truth values over texts, there and back
abbrev truths : Dataset
truths =
    record {
      axes = record { name = codes "s"; size = 2; labels = Some (record { list = Texts (codes "ab" ∷ codes "c" ∷ []); attrs = [] }) } ∷ [];
      coords = [];
      attrs = [];
      skipped = [];
      vars = record { name = codes "b"; dims = codes "s" ∷ []; attrs = []; kind = kinds.Bool; masked = false; cells = Some (pos 0) ∷ Some (pos 1) ∷ [] } ∷ [];
    }

abbrev truths_file : CdfFile
truths_file =
    record {
      version = 1;
      numrecs = 0;
      attrs = [];
      dims = record { name = codes "s"; len = 2 } ∷ record { name = codes "string2"; len = 2 } ∷ [];
      vars = record { name = codes "s"; dims = 0 ∷ 1 ∷ []; attrs = []; kind = Char; raw = 97 ∷ 98 ∷ 99 ∷ 0 ∷ [] }
          ∷ record { name = codes "b"; dims = 0 ∷ []; attrs = record { name = codes "dtype"; kind = Char; raw = codes "bool" } ∷ []; kind = Byte; raw = 0 ∷ 1 ∷ [] }
          ∷ [];
    }

truths_written : file_of truths plainly ≡ Ok truths_file
unfolding file_of check_unlimited check_names check_records check_fill check_fit check_cells unless digits canonical
truths_written = refl

truths_read : set_of truths_file false ≡ Ok truths
unfolding set_of check_count unless is_skipped labels_in is_index is_coordinate is_utf8 chars Utf8.encode digits
truths_read = refl

truths_printed : set_text truths ≡ codes "Dataset\ndim s: 2\ncoord s text (s): \"ab\" \"c\"\nvar b bool (s)\n"
unfolding digits
truths_printed = refl

-- a coordinate over a variable's dimension, and a scalar text, which the variable lists in this order; and a record dimension
abbrev listed : Dataset
listed =
    record {
      axes = bare (codes "x") 1 ∷ [];
      coords = record { name = codes "k"; axes = []; attrs = []; content = contents.Text (codes "ab") }
          ∷ record { name = codes "c"; axes = bare (codes "x") 1 ∷ []; attrs = []; content = contents.Cells (record { kind = kinds.Int8; shape = 1 ∷ []; cells = Some (pos 7) ∷ [] }) false }
          ∷ [];
      attrs = [];
      skipped = [];
      vars = record { name = codes "v"; dims = codes "x" ∷ []; kind = kinds.Int8; masked = false; attrs = []; cells = Some (negsuc 0) ∷ [] } ∷ [];
    }

listed_written : file_of listed (along (codes "x"))
    ≡ Ok (record {
      version = 1;
      numrecs = 1;
      attrs = [];
      dims = record { name = codes "x"; len = 0 } ∷ record { name = codes "string2"; len = 2 } ∷ [];
      vars = record { name = codes "c"; dims = 0 ∷ []; attrs = []; kind = Byte; raw = 7 ∷ [] }
          ∷ record { name = codes "k"; dims = 1 ∷ []; attrs = []; kind = Char; raw = codes "ab" }
          ∷ record { name = codes "v"; dims = 0 ∷ []; attrs = record { name = codes "coordinates"; kind = Char; raw = codes "c k" } ∷ []; kind = Byte; raw = 255 ∷ [] }
          ∷ [];
    })
unfolding file_of check_unlimited check_names check_records check_fill check_fit check_cells unless digits canonical
listed_written = refl

listed_printed : set_text listed ≡ codes "Dataset\ndim x: 1\ncoord c int8 (x): 7\ncoord k text (): \"ab\"\nvar v int8 (x)\n"
unfolding digits
listed_printed = refl

-- kinds and their types by the version: 200 is no byte, and version 5 has a type of its own for it
abbrev in_version : ℕ → WriteOptions
in_version n = record { version = n; fill = None; unlimited = None }

abbrev one_number : DType → ℤ → Dataset
one_number kind n = one_variable [] (record { name = codes "v"; dims = []; kind = kind; masked = false; attrs = []; cells = Some n ∷ [] })

abbrev number_file : ℕ → NcType → List ℕ → CdfFile
number_file version kind raw = record { version = version; numrecs = 0; attrs = []; dims = []; vars = record { name = codes "v"; dims = []; attrs = []; kind = kind; raw = raw } ∷ [] }

no_byte : file_of (one_number kinds.UInt8 (pos 200)) (in_version 2) ≡ Err CannotHold
unfolding file_of check_unlimited check_names check_records check_fill check_fit check_cells unless digits
no_byte = refl

as_byte : file_of (one_number kinds.UInt8 (pos 100)) (in_version 2) ≡ Ok (number_file 2 Byte (100 ∷ []))
unfolding file_of check_unlimited check_names check_records check_fill check_fit check_cells unless digits canonical
as_byte = refl

as_ubyte : file_of (one_number kinds.UInt8 (pos 200)) (in_version 5) ≡ Ok (number_file 5 UByte (200 ∷ []))
unfolding file_of check_unlimited check_names check_records check_fill check_fit check_cells unless digits canonical
as_ubyte = refl

in_eight_bytes : file_of (one_number kinds.Int64 (negsuc 1)) (in_version 5) ≡ Ok (number_file 5 Int64 (255 ∷ 255 ∷ 255 ∷ 255 ∷ 255 ∷ 255 ∷ 255 ∷ 254 ∷ []))
unfolding file_of check_unlimited check_names check_records check_fill check_fit check_cells unless digits canonical
in_eight_bytes = refl

-- an attribute whose type the version doesn't have, unless it is a fill number in use, which is written with the variable's type
abbrev counted : Attr
counted = record { name = codes "n"; kind = UInt; raw = 0 ∷ 0 ∷ 0 ∷ 7 ∷ [] }

no_such_type : file_of (hole (counted ∷ record { name = codes "_FillValue"; kind = Short; raw = 0 ∷ 7 ∷ [] } ∷ [])) plainly ≡ Err CannotHold
unfolding file_of check_unlimited check_names check_records check_fill check_fit check_cells unless digits
no_such_type = refl

no_such_type_of_the_file : file_of (record (hole []) { attrs = counted ∷ [] }) (filled (pos 7)) ≡ Err CannotHold
unfolding file_of check_unlimited check_names check_records check_fill check_fit check_cells unless digits
no_such_type_of_the_file = refl

another_type : file_of (hole (record counted { name = codes "_FillValue" } ∷ [])) plainly
    ≡ Ok (record hole_file { vars = record { name = codes "v"; dims = 0 ∷ []; attrs = record { name = codes "_FillValue"; kind = Short; raw = 0 ∷ 7 ∷ [] } ∷ []; kind = Short; raw = 0 ∷ 1 ∷ 0 ∷ 7 ∷ [] } ∷ [] })
unfolding file_of check_unlimited check_names check_records check_fill check_fit check_cells unless digits canonical
another_type = refl

-- a number of the kind that type byte doesn't hold
fits_the_kind : file_of (record (hole []) { vars = record { name = codes "v"; dims = codes "x" ∷ []; kind = kinds.UInt8; masked = true; attrs = []; cells = Some (pos 1) ∷ None ∷ [] } ∷ [] }) (filled (pos 200)) ≡ Err CannotHold
unfolding file_of check_unlimited check_names check_records check_fill check_fit check_cells unless digits
fits_the_kind = refl

-- as they are printed
types_printed : set_text (record (one_number kinds.UInt64 (pos 0)) { attrs = counted ∷ record { name = codes "b"; kind = UByte; raw = 200 ∷ 7 ∷ [] } ∷ record { name = codes "l"; kind = Int64; raw = 255 ∷ 255 ∷ 255 ∷ 255 ∷ 255 ∷ 255 ∷ 255 ∷ 255 ∷ [] } ∷ [] })
    ≡ codes "Dataset\nvar v uint64 ()\nattr n uint: 7\nattr b ubyte: 200 7\nattr l int64: -1\n"
unfolding digits
types_printed = refl

-- ---- times: counts from a reference whose text stays, in days, or in hours where one of them isn't a whole day

abbrev since_1970 : TimeCoding
since_1970 = record { units = record { unit = Days; reference = pos 0; calendar = NoLeap; early = true }; units_text = codes "day  since 1970-1-1"; calendar_text = Some (codes "365_day") }

abbrev timed : List ℤ → Dataset
timed ts = record { axes = record { name = codes "time"; size = 2; labels = Some (record { list = Times since_1970 ts; attrs = [] }) } ∷ []; coords = []; vars = []; attrs = []; skipped = [] }

abbrev text_attr : List ℕ → List ℕ → Attr
text_attr name text = record { name = name; kind = Char; raw = text }

abbrev times_file : List ℕ → List ℕ → CdfFile
times_file units raw =
    record {
      version = 1;
      numrecs = 0;
      attrs = [];
      dims = record { name = codes "time"; len = 2 } ∷ [];
      vars = record { name = codes "time"; dims = 0 ∷ []; attrs = text_attr (codes "units") units ∷ text_attr (codes "calendar") (codes "365_day") ∷ []; kind = Int; raw = raw } ∷ [];
    }

whole_days : file_of (timed (pos 0 ∷ negsuc 86399 ∷ [])) plainly ≡ Ok (times_file (codes "day  since 1970-1-1") (0 ∷ 0 ∷ 0 ∷ 0 ∷ 255 ∷ 255 ∷ 255 ∷ 255 ∷ []))
unfolding file_of check_unlimited check_names check_records check_fill check_fit check_cells unless digits units_written
whole_days = refl

a_noon : file_of (timed (pos 0 ∷ pos 43200 ∷ [])) plainly ≡ Ok (times_file (codes "hours since 1970-1-1") (0 ∷ 0 ∷ 0 ∷ 0 ∷ 0 ∷ 0 ∷ 0 ∷ 12 ∷ []))
unfolding file_of check_unlimited check_names check_records check_fill check_fit check_cells unless digits units_written reference_text behind_word
a_noon = refl
