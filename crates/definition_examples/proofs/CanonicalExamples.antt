-- Worked examples of the canonical bytes, which were written out by hand from the format's text.
use Rattle.std.proofs.Common.{◌≡◌, ℕ, List, [], ◌∷◌, Ok, refl}
use Rattle.std.specs.Str.{is_utf8, chars}
use Rattle.std.specs.Prelude.{codes}
use lib.Utf8
use Rattle.xr_types.specs.declared.attr.NcType.TheVariants.{Byte, Char, Short, Int, Double}
use Rattle.xr_files.specs.declared.file.CdfFile.{CdfFile}
use Rattle.xr_files.specs.Format.{each}
use Rattle.xr_files.specs.Classic.{name, new_name, nc_type, list, dimension, values, attribute, dim_number, var_head, variable, header}
use Rattle.xr_files.specs.Files.{file_in}
use Rattle.xr_files.specs.Canonical.{canonical}

-- two ints 2 and 3 over `x`, 88 bytes
abbrev two : CdfFile
two = record {
  version = 1;
  numrecs = 0;
  dims = record { name = 120 ∷ []; len = 2 } ∷ [];
  attrs = [];
  vars = record { name = 118 ∷ []; dims = 0 ∷ []; attrs = []; kind = Int; raw = 0 ∷ 0 ∷ 0 ∷ 2 ∷ 0 ∷ 0 ∷ 0 ∷ 3 ∷ [] } ∷ [];
}

two-text : List ℕ
two-text = 67 ∷ 68 ∷ 70 ∷ 1 ∷ 0 ∷ 0 ∷ 0 ∷ 0 ∷ 0 ∷ 0 ∷ 0 ∷ 10 ∷ 0 ∷ 0 ∷ 0 ∷ 1 ∷ 0 ∷ 0 ∷ 0 ∷ 1 ∷ 120 ∷ 0 ∷ 0 ∷ 0 ∷ 0 ∷ 0 ∷ 0 ∷ 2 ∷ 0 ∷ 0 ∷ 0 ∷ 0 ∷ 0 ∷ 0 ∷ 0 ∷ 0 ∷ 0 ∷ 0 ∷ 0 ∷ 11 ∷ 0 ∷ 0 ∷ 0 ∷ 1 ∷ 0 ∷ 0 ∷ 0 ∷ 1 ∷ 118 ∷ 0 ∷ 0 ∷ 0 ∷ 0 ∷ 0 ∷ 0 ∷ 1 ∷ 0 ∷ 0 ∷ 0 ∷ 0 ∷ 0 ∷ 0 ∷ 0 ∷ 0 ∷ 0 ∷ 0 ∷ 0 ∷ 0 ∷ 0 ∷ 0 ∷ 0 ∷ 4 ∷ 0 ∷ 0 ∷ 0 ∷ 8 ∷ 0 ∷ 0 ∷ 0 ∷ 80 ∷ 0 ∷ 0 ∷ 0 ∷ 2 ∷ 0 ∷ 0 ∷ 0 ∷ 3 ∷ []

two-written : canonical two ≡ two-text
unfolding canonical two-text
two-written = refl

-- a lone short variable over the record dimension `t`: no padding in or behind its records, and the size is padded
abbrev lone : CdfFile
lone = record {
  version = 1;
  numrecs = 3;
  dims = record { name = 116 ∷ []; len = 0 } ∷ [];
  attrs = [];
  vars = record { name = 115 ∷ []; dims = 0 ∷ []; attrs = []; kind = Short; raw = 0 ∷ 1 ∷ 0 ∷ 2 ∷ 0 ∷ 3 ∷ [] } ∷ [];
}

lone-text : List ℕ
lone-text = 67 ∷ 68 ∷ 70 ∷ 1 ∷ 0 ∷ 0 ∷ 0 ∷ 3 ∷ 0 ∷ 0 ∷ 0 ∷ 10 ∷ 0 ∷ 0 ∷ 0 ∷ 1 ∷ 0 ∷ 0 ∷ 0 ∷ 1 ∷ 116 ∷ 0 ∷ 0 ∷ 0 ∷ 0 ∷ 0 ∷ 0 ∷ 0 ∷ 0 ∷ 0 ∷ 0 ∷ 0 ∷ 0 ∷ 0 ∷ 0 ∷ 0 ∷ 0 ∷ 0 ∷ 0 ∷ 11 ∷ 0 ∷ 0 ∷ 0 ∷ 1 ∷ 0 ∷ 0 ∷ 0 ∷ 1 ∷ 115 ∷ 0 ∷ 0 ∷ 0 ∷ 0 ∷ 0 ∷ 0 ∷ 1 ∷ 0 ∷ 0 ∷ 0 ∷ 0 ∷ 0 ∷ 0 ∷ 0 ∷ 0 ∷ 0 ∷ 0 ∷ 0 ∷ 0 ∷ 0 ∷ 0 ∷ 0 ∷ 3 ∷ 0 ∷ 0 ∷ 0 ∷ 4 ∷ 0 ∷ 0 ∷ 0 ∷ 80 ∷ 0 ∷ 1 ∷ 0 ∷ 2 ∷ 0 ∷ 3 ∷ []

lone-written : canonical lone ≡ lone-text
unfolding canonical lone-text
lone-written = refl

-- version 2: a byte and an int variable over the records; each byte is padded by the default fill value
abbrev pair : CdfFile
pair = record {
  version = 2;
  numrecs = 2;
  dims = record { name = 116 ∷ []; len = 0 } ∷ [];
  attrs = [];
  vars =
      record { name = 98 ∷ []; dims = 0 ∷ []; attrs = []; kind = Byte; raw = 5 ∷ 6 ∷ [] }
      ∷ record { name = 105 ∷ []; dims = 0 ∷ []; attrs = []; kind = Int; raw = 0 ∷ 0 ∷ 0 ∷ 1 ∷ 0 ∷ 0 ∷ 0 ∷ 2 ∷ [] } ∷ [];
}

pair-text : List ℕ
pair-text = 67 ∷ 68 ∷ 70 ∷ 2 ∷ 0 ∷ 0 ∷ 0 ∷ 2 ∷ 0 ∷ 0 ∷ 0 ∷ 10 ∷ 0 ∷ 0 ∷ 0 ∷ 1 ∷ 0 ∷ 0 ∷ 0 ∷ 1 ∷ 116 ∷ 0 ∷ 0 ∷ 0 ∷ 0 ∷ 0 ∷ 0 ∷ 0 ∷ 0 ∷ 0 ∷ 0 ∷ 0 ∷ 0 ∷ 0 ∷ 0 ∷ 0 ∷ 0 ∷ 0 ∷ 0 ∷ 11 ∷ 0 ∷ 0 ∷ 0 ∷ 2 ∷ 0 ∷ 0 ∷ 0 ∷ 1 ∷ 98 ∷ 0 ∷ 0 ∷ 0 ∷ 0 ∷ 0 ∷ 0 ∷ 1 ∷ 0 ∷ 0 ∷ 0 ∷ 0 ∷ 0 ∷ 0 ∷ 0 ∷ 0 ∷ 0 ∷ 0 ∷ 0 ∷ 0 ∷ 0 ∷ 0 ∷ 0 ∷ 1 ∷ 0 ∷ 0 ∷ 0 ∷ 4 ∷ 0 ∷ 0 ∷ 0 ∷ 0 ∷ 0 ∷ 0 ∷ 0 ∷ 124 ∷ 0 ∷ 0 ∷ 0 ∷ 1 ∷ 105 ∷ 0 ∷ 0 ∷ 0 ∷ 0 ∷ 0 ∷ 0 ∷ 1 ∷ 0 ∷ 0 ∷ 0 ∷ 0 ∷ 0 ∷ 0 ∷ 0 ∷ 0 ∷ 0 ∷ 0 ∷ 0 ∷ 0 ∷ 0 ∷ 0 ∷ 0 ∷ 4 ∷ 0 ∷ 0 ∷ 0 ∷ 4 ∷ 0 ∷ 0 ∷ 0 ∷ 0 ∷ 0 ∷ 0 ∷ 0 ∷ 128 ∷ 5 ∷ 129 ∷ 129 ∷ 129 ∷ 0 ∷ 0 ∷ 0 ∷ 1 ∷ 6 ∷ 129 ∷ 129 ∷ 129 ∷ 0 ∷ 0 ∷ 0 ∷ 2 ∷ []

pair-written : canonical pair ≡ pair-text
unfolding canonical pair-text
pair-written = refl

-- attributes of char, double and short, and three shorts that are padded by their own fill value
abbrev filled : CdfFile
filled = record {
  version = 1;
  numrecs = 0;
  dims = record { name = 120 ∷ []; len = 3 } ∷ [];
  attrs =
      record { name = 97 ∷ []; kind = Char; raw = 104 ∷ 105 ∷ [] }
      ∷ record { name = 100 ∷ []; kind = Double; raw = 63 ∷ 240 ∷ 0 ∷ 0 ∷ 0 ∷ 0 ∷ 0 ∷ 0 ∷ [] } ∷ [];
  vars = record {
    name = 115 ∷ [];
    dims = 0 ∷ [];
    attrs = record { name = codes "_FillValue"; kind = Short; raw = 0 ∷ 7 ∷ [] } ∷ [];
    kind = Short;
    raw = 0 ∷ 1 ∷ 0 ∷ 2 ∷ 0 ∷ 3 ∷ [];
  } ∷ [];
}

filled-text : List ℕ
filled-text = 67 ∷ 68 ∷ 70 ∷ 1 ∷ 0 ∷ 0 ∷ 0 ∷ 0 ∷ 0 ∷ 0 ∷ 0 ∷ 10 ∷ 0 ∷ 0 ∷ 0 ∷ 1 ∷ 0 ∷ 0 ∷ 0 ∷ 1 ∷ 120 ∷ 0 ∷ 0 ∷ 0 ∷ 0 ∷ 0 ∷ 0 ∷ 3 ∷ 0 ∷ 0 ∷ 0 ∷ 12 ∷ 0 ∷ 0 ∷ 0 ∷ 2 ∷ 0 ∷ 0 ∷ 0 ∷ 1 ∷ 97 ∷ 0 ∷ 0 ∷ 0 ∷ 0 ∷ 0 ∷ 0 ∷ 2 ∷ 0 ∷ 0 ∷ 0 ∷ 2 ∷ 104 ∷ 105 ∷ 0 ∷ 0 ∷ 0 ∷ 0 ∷ 0 ∷ 1 ∷ 100 ∷ 0 ∷ 0 ∷ 0 ∷ 0 ∷ 0 ∷ 0 ∷ 6 ∷ 0 ∷ 0 ∷ 0 ∷ 1 ∷ 63 ∷ 240 ∷ 0 ∷ 0 ∷ 0 ∷ 0 ∷ 0 ∷ 0 ∷ 0 ∷ 0 ∷ 0 ∷ 11 ∷ 0 ∷ 0 ∷ 0 ∷ 1 ∷ 0 ∷ 0 ∷ 0 ∷ 1 ∷ 115 ∷ 0 ∷ 0 ∷ 0 ∷ 0 ∷ 0 ∷ 0 ∷ 1 ∷ 0 ∷ 0 ∷ 0 ∷ 0 ∷ 0 ∷ 0 ∷ 0 ∷ 12 ∷ 0 ∷ 0 ∷ 0 ∷ 1 ∷ 0 ∷ 0 ∷ 0 ∷ 10 ∷ 95 ∷ 70 ∷ 105 ∷ 108 ∷ 108 ∷ 86 ∷ 97 ∷ 108 ∷ 117 ∷ 101 ∷ 0 ∷ 0 ∷ 0 ∷ 0 ∷ 0 ∷ 3 ∷ 0 ∷ 0 ∷ 0 ∷ 1 ∷ 0 ∷ 7 ∷ 0 ∷ 0 ∷ 0 ∷ 0 ∷ 0 ∷ 3 ∷ 0 ∷ 0 ∷ 0 ∷ 8 ∷ 0 ∷ 0 ∷ 0 ∷ 152 ∷ 0 ∷ 1 ∷ 0 ∷ 2 ∷ 0 ∷ 3 ∷ 0 ∷ 7 ∷ []

filled-written : canonical filled ≡ filled-text
unfolding canonical filled-text
filled-written = refl

two-read : file_in two-text ≡ Ok two
unfolding file_in header variable var_head dim_number attribute values dimension list nc_type new_name name each is_utf8 chars Utf8.encode two-text
two-read = refl

lone-read : file_in lone-text ≡ Ok lone
unfolding file_in header variable var_head dim_number attribute values dimension list nc_type new_name name each is_utf8 chars Utf8.encode lone-text
lone-read = refl

pair-read : file_in pair-text ≡ Ok pair
unfolding file_in header variable var_head dim_number attribute values dimension list nc_type new_name name each is_utf8 chars Utf8.encode pair-text
pair-read = refl

filled-read : file_in filled-text ≡ Ok filled
unfolding file_in header variable var_head dim_number attribute values dimension list nc_type new_name name each is_utf8 chars Utf8.encode filled-text
filled-read = refl
