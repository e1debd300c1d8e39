-- Worked files as datasets, computed: each was decided from the conventions' text.
use Rattle.std.proofs.Common.{◌≡◌, ℕ, List, [], ◌∷◌, Some, None, Ok, refl}
use Rattle.std.specs.Prelude.{codes, pos, negsuc, true, false, replicate}
use Rattle.std.specs.Str.{is_utf8, chars}
use Rattle.std.specs.Fmt.{digits}
use lib.Utf8
use Rattle.xr_types.specs.declared.attr.Attr.{Attr}
use Rattle.xr_types.specs.declared.attr.NcType.{NcType}
use Rattle.xr_types.specs.declared.attr.NcType.TheVariants.{Byte, Char, Short, Int, Float, UByte, UInt64}
use Rattle.xr_types.specs.declared.axis.Axis.{Axis}
use Rattle.xr_types.specs.declared.axis.LabelList.TheVariants.{Numbers, Times, Texts}
use Rattle.xr_types.specs.declared.axis.TimeCoding.{TimeCoding}
use Rattle.xr_types.specs.declared.axis.TimeUnit.TheVariants.{Days}
use Rattle.xr_types.specs.declared.axis.Calendar.TheVariants.{Civil, NoLeap}
use Rattle.xr_types.specs.declared.axis.LabelList.{LabelList}
use Rattle.xr_types.specs.declared.kind.DType.TheVariants as kinds
use Rattle.xr_files.specs.declared.file.CdfDim.{CdfDim}
use Rattle.xr_files.specs.declared.file.CdfFile.{CdfFile}
use Rattle.xr_defs.specs.declared.value.Content.TheVariants as contents
use Rattle.xr_types.specs.Results.{unless}
use Rattle.xr_defs.specs.Values.{Dataset}
use Rattle.xr_defs.specs.Decoding.{set_of, is_skipped, labels_in, is_index, is_coordinate, check_count, coding_of, times_counted, times_of}
use Rattle.xr_times.specs.Times.{days_of_years, days_of_months}
use Rattle.xr_times.specs.Units.{units_of, unit, behind_word, reference, date, part}

abbrev dim : List ℕ → ℕ → CdfDim
dim name len = record { name = name; len = len }

abbrev attr : List ℕ → NcType → List ℕ → Attr
attr name kind raw = record { name = name; kind = kind; raw = raw }

abbrev bare : List ℕ → ℕ → Axis
bare name n = record { name = name; size = n; labels = None }

-- nothing
nothing : set_of (record { version = 1; numrecs = 0; dims = []; attrs = []; vars = [] }) false ≡ Ok (record { axes = []; coords = []; vars = []; attrs = []; skipped = [] })
unfolding set_of check_count unless is_skipped labels_in is_index is_coordinate
nothing = refl

-- texts as labels, without their trailing NULs, and truth values
abbrev texts_file : CdfFile
texts_file =
    record {
      version = 1;
      numrecs = 0;
      attrs = [];
      dims = dim (codes "s") 2 ∷ dim (codes "string2") 2 ∷ [];
      vars = record { name = codes "s"; dims = 0 ∷ 1 ∷ []; attrs = []; kind = Char; raw = 97 ∷ 98 ∷ 99 ∷ 0 ∷ [] }
          ∷ record { name = codes "b"; dims = 0 ∷ []; attrs = attr (codes "dtype") Char (codes "bool") ∷ []; kind = Byte; raw = 0 ∷ 2 ∷ [] }
          ∷ [];
    }

abbrev texts_set : Dataset
texts_set =
    record {
      axes = record { name = codes "s"; size = 2; labels = Some (record { list = Texts (codes "ab" ∷ codes "c" ∷ []); attrs = [] }) } ∷ [];
      coords = [];
      attrs = [];
      skipped = [];
      vars = record { name = codes "b"; dims = codes "s" ∷ []; attrs = []; kind = kinds.Bool; masked = false; cells = Some (pos 0) ∷ Some (pos 1) ∷ [] } ∷ [];
    }

texts : set_of texts_file false ≡ Ok texts_set
unfolding set_of check_count unless is_skipped labels_in is_index is_coordinate is_utf8 chars Utf8.encode
texts = refl

-- the record dimension with an index, floats that are skipped, a fill number that is missing; the index isn't masked
abbrev fill : Attr
fill = attr (codes "_FillValue") Short (252 ∷ 25 ∷ [])

abbrev records_file : CdfFile
records_file =
    record {
      version = 1;
      numrecs = 2;
      attrs = [];
      dims = dim (codes "time") 0 ∷ dim (codes "lat") 2 ∷ [];
      vars = record { name = codes "lat"; dims = 1 ∷ []; attrs = []; kind = Float; raw = replicate 8 0 }
          ∷ record { name = codes "time"; dims = 0 ∷ []; attrs = attr (codes "_FillValue") Int (0 ∷ 0 ∷ 0 ∷ 15 ∷ []) ∷ []; kind = Int; raw = 0 ∷ 0 ∷ 0 ∷ 0 ∷ 0 ∷ 0 ∷ 0 ∷ 15 ∷ [] }
          ∷ record { name = codes "t"; dims = 0 ∷ 1 ∷ []; attrs = fill ∷ []; kind = Short; raw = 0 ∷ 1 ∷ 252 ∷ 25 ∷ 0 ∷ 3 ∷ 255 ∷ 255 ∷ [] }
          ∷ [];
    }

abbrev records_set : Dataset
records_set =
    record {
      axes = record { name = codes "time"; size = 2; labels = Some (record { list = Numbers kinds.Int32 (pos 0 ∷ pos 15 ∷ []); attrs = attr (codes "_FillValue") Int (0 ∷ 0 ∷ 0 ∷ 15 ∷ []) ∷ [] }) } ∷ bare (codes "lat") 2 ∷ [];
      coords = [];
      attrs = [];
      skipped = codes "lat" ∷ [];
      vars = record { name = codes "t"; dims = codes "time" ∷ codes "lat" ∷ []; attrs = fill ∷ []; kind = kinds.Int16; masked = true; cells = Some (pos 1) ∷ None ∷ Some (pos 3) ∷ Some (negsuc 0) ∷ [] } ∷ [];
    }

records : set_of records_file true ≡ Ok records_set
unfolding set_of check_count unless is_skipped labels_in is_index is_coordinate times_of coding_of
records = refl

-- coordinates that attributes list: one over the dimension, one a scalar text; a bare axis that only the text had is gone
abbrev listing : Attr
listing = attr (codes "coordinates") Char (codes " c  k none")

abbrev listed_file : CdfFile
listed_file =
    record {
      version = 2;
      numrecs = 0;
      attrs = [];
      dims = dim (codes "x") 2 ∷ dim (codes "string3") 3 ∷ [];
      vars = record { name = codes "v"; dims = 0 ∷ []; attrs = listing ∷ []; kind = Byte; raw = 1 ∷ 255 ∷ [] }
          ∷ record { name = codes "c"; dims = 0 ∷ []; attrs = []; kind = Byte; raw = 7 ∷ 8 ∷ [] }
          ∷ record { name = codes "k"; dims = 1 ∷ []; attrs = []; kind = Char; raw = 97 ∷ 98 ∷ 0 ∷ [] }
          ∷ [];
    }

abbrev listed_set : Dataset
listed_set =
    record {
      axes = bare (codes "x") 2 ∷ [];
      coords = record { name = codes "c"; axes = bare (codes "x") 2 ∷ []; attrs = []; content = contents.Cells (record { kind = kinds.Int8; shape = 2 ∷ []; cells = Some (pos 7) ∷ Some (pos 8) ∷ [] }) false }
          ∷ record { name = codes "k"; axes = []; attrs = []; content = contents.Text (codes "ab") }
          ∷ [];
      attrs = [];
      skipped = [];
      vars = record { name = codes "v"; dims = codes "x" ∷ []; attrs = []; kind = kinds.Int8; masked = false; cells = Some (pos 1) ∷ Some (negsuc 0) ∷ [] } ∷ [];
    }

listed : set_of listed_file false ≡ Ok listed_set
unfolding set_of check_count unless is_skipped labels_in is_index is_coordinate is_utf8 chars Utf8.encode digits
listed = refl

-- version 5: labels past 2^63, and a fill number of a type without a sign
abbrev wide_file : CdfFile
wide_file =
    record {
      version = 5;
      numrecs = 0;
      attrs = [];
      dims = dim (codes "x") 2 ∷ [];
      vars = record { name = codes "x"; dims = 0 ∷ []; attrs = []; kind = UInt64; raw = 255 ∷ 255 ∷ 255 ∷ 255 ∷ 255 ∷ 255 ∷ 255 ∷ 255 ∷ 0 ∷ 0 ∷ 0 ∷ 0 ∷ 0 ∷ 0 ∷ 0 ∷ 1 ∷ [] }
          ∷ record { name = codes "v"; dims = 0 ∷ []; attrs = attr (codes "_FillValue") UByte (255 ∷ []) ∷ []; kind = UByte; raw = 255 ∷ 200 ∷ [] }
          ∷ [];
    }

abbrev wide_set : Dataset
wide_set =
    record {
      axes = record { name = codes "x"; size = 2; labels = Some (record { list = Numbers kinds.UInt64 (pos 18446744073709551615 ∷ pos 1 ∷ []); attrs = [] }) } ∷ [];
      coords = [];
      attrs = [];
      skipped = [];
      vars = record { name = codes "v"; dims = codes "x" ∷ []; attrs = attr (codes "_FillValue") UByte (255 ∷ []) ∷ []; kind = kinds.UInt8; masked = true; cells = None ∷ Some (pos 200) ∷ [] } ∷ [];
    }

wide : set_of wide_file true ≡ Ok wide_set
unfolding set_of check_count unless is_skipped labels_in is_index is_coordinate times_of coding_of
wide = refl

-- ---- times: counts of 0 and 31 days

abbrev counts : List Attr → CdfFile
counts attrs =
    record {
      version = 1;
      numrecs = 0;
      attrs = [];
      dims = dim (codes "time") 2 ∷ [];
      vars = record { name = codes "time"; dims = 0 ∷ []; attrs = attrs; kind = Int; raw = 0 ∷ 0 ∷ 0 ∷ 0 ∷ 0 ∷ 0 ∷ 0 ∷ 31 ∷ [] } ∷ [];
    }

abbrev indexed : LabelList → List Attr → Dataset
indexed list attrs =
    record { axes = record { name = codes "time"; size = 2; labels = Some (record { list = list; attrs = attrs }) } ∷ []; coords = []; vars = []; attrs = []; skipped = [] }

abbrev units : List ℕ → Attr
units text = attr (codes "units") Char text

abbrev calendar : List ℕ → Attr
calendar text = attr (codes "calendar") Char text

abbrev long_name : Attr
long_name = attr (codes "long_name") Char (codes "t")

-- from 1900-01-01: without a calendar it is `standard`
abbrev since_1900 : TimeCoding
since_1900 = record { units = record { unit = Days; reference = negsuc 2208988799; calendar = Civil; early = false }; units_text = codes "days since 1900-01-01"; calendar_text = None }

civil_times : set_of (counts (units (codes "days since 1900-01-01") ∷ long_name ∷ [])) false ≡ Ok (indexed (Times since_1900 (negsuc 2208988799 ∷ negsuc 2206310399 ∷ [])) (long_name ∷ []))
unfolding set_of check_count unless is_skipped labels_in is_index is_coordinate coding_of times_counted times_of units_of unit behind_word reference date part days_of_years days_of_months
civil_times = refl

-- from 1970-01-01 of the calendar that has no leap years
abbrev since_noleap : TimeCoding
since_noleap = record { units = record { unit = Days; reference = pos 0; calendar = NoLeap; early = true }; units_text = codes "days since 1970-01-01"; calendar_text = Some (codes "noleap") }

noleap_times : set_of (counts (calendar (codes "noleap") ∷ long_name ∷ units (codes "days since 1970-01-01") ∷ [])) false ≡ Ok (indexed (Times since_noleap (pos 0 ∷ pos 2678400 ∷ [])) (long_name ∷ []))
unfolding set_of check_count unless is_skipped labels_in is_index is_coordinate coding_of times_counted times_of units_of unit behind_word reference date part days_of_years days_of_months
noleap_times = refl

abbrev whole_numbers : LabelList
whole_numbers = Numbers kinds.Int32 (pos 0 ∷ pos 31 ∷ [])

-- an unknown calendar, one that isn't named by a text, and units of another kind: whole numbers, with all attributes
julian : set_of (counts (units (codes "days since 1970-01-01") ∷ calendar (codes "julian") ∷ [])) false ≡ Ok (indexed whole_numbers (units (codes "days since 1970-01-01") ∷ calendar (codes "julian") ∷ []))
unfolding set_of check_count unless is_skipped labels_in is_index is_coordinate coding_of times_counted times_of units_of unit behind_word
julian = refl

number_calendar : set_of (counts (units (codes "days since 1970-01-01") ∷ attr (codes "calendar") Byte (1 ∷ []) ∷ [])) false ≡ Ok (indexed whole_numbers (units (codes "days since 1970-01-01") ∷ attr (codes "calendar") Byte (1 ∷ []) ∷ []))
unfolding set_of check_count unless is_skipped labels_in is_index is_coordinate coding_of times_of
number_calendar = refl

metres : set_of (counts (units (codes "m") ∷ [])) false ≡ Ok (indexed whole_numbers (units (codes "m") ∷ []))
unfolding set_of check_count unless is_skipped labels_in is_index is_coordinate coding_of times_of units_of unit
metres = refl

-- the day after 9999-12-01 by 31 days isn't one of the years that are decoded: then none is
past_years : set_of (counts (units (codes "days since 9999-12-01") ∷ [])) false ≡ Ok (indexed whole_numbers (units (codes "days since 9999-12-01") ∷ []))
unfolding set_of check_count unless is_skipped labels_in is_index is_coordinate coding_of times_counted times_of units_of unit behind_word reference date part days_of_years days_of_months
past_years = refl
