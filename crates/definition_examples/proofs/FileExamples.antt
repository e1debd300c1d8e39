-- Worked examples of the file format: the file of one variable `v` over `x` that holds 1, 2 and 3, and files of version 5.
use Rattle.std.proofs.Common.{◌≡◌, ℕ, List, [], ◌∷◌, ◌++◌, take, drop, Ok, Err, false, refl}
use Rattle.std.specs.Str.{is_utf8, chars}
use lib.Utf8
use Rattle.xr_types.specs.declared.fault.CdfKind.TheVariants.{BadMagic, BadType, CutHeader, CutData}
use Rattle.xr_types.specs.declared.attr.NcType.TheVariants.{Int, UByte, UShort, UInt, Int64, UInt64}
use Rattle.xr_files.specs.declared.file.CdfFile.{CdfFile}
use Rattle.xr_files.specs.Format.{each}
use Rattle.xr_files.specs.Classic.{name, new_name, nc_type, list, dimension, values, attribute, dim_number, var_head, variable, header}
use Rattle.xr_files.specs.Files.{file_in}
use Rattle.xr_files.specs.Canonical.{can_hold, canonical}

abbrev example : List ℕ
example = 67 ∷ 68 ∷ 70 ∷ 1 ∷ 0 ∷ 0 ∷ 0 ∷ 0 ∷ 0 ∷ 0 ∷ 0 ∷ 10 ∷ 0 ∷ 0 ∷ 0 ∷ 1 ∷ 0 ∷ 0 ∷ 0 ∷ 1 ∷ 120 ∷ 0 ∷ 0 ∷ 0 ∷ 0 ∷ 0 ∷ 0 ∷ 3 ∷ 0 ∷ 0 ∷ 0 ∷ 0 ∷ 0 ∷ 0 ∷ 0 ∷ 0 ∷ 0 ∷ 0 ∷ 0 ∷ 11 ∷ 0 ∷ 0 ∷ 0 ∷ 1 ∷ 0 ∷ 0 ∷ 0 ∷ 1 ∷ 118 ∷ 0 ∷ 0 ∷ 0 ∷ 0 ∷ 0 ∷ 0 ∷ 1 ∷ 0 ∷ 0 ∷ 0 ∷ 0 ∷ 0 ∷ 0 ∷ 0 ∷ 0 ∷ 0 ∷ 0 ∷ 0 ∷ 0 ∷ 0 ∷ 0 ∷ 0 ∷ 4 ∷ 0 ∷ 0 ∷ 0 ∷ 12 ∷ 0 ∷ 0 ∷ 0 ∷ 80 ∷ 0 ∷ 0 ∷ 0 ∷ 1 ∷ 0 ∷ 0 ∷ 0 ∷ 2 ∷ 0 ∷ 0 ∷ 0 ∷ 3 ∷ []

abbrev file : CdfFile
file = record {
  version = 1;
  numrecs = 0;
  dims = record { name = 120 ∷ []; len = 3 } ∷ [];
  attrs = [];
  vars = record { name = 118 ∷ []; dims = 0 ∷ []; attrs = []; kind = Int; raw = 0 ∷ 0 ∷ 0 ∷ 1 ∷ 0 ∷ 0 ∷ 0 ∷ 2 ∷ 0 ∷ 0 ∷ 0 ∷ 3 ∷ [] } ∷ [];
}

written : canonical file ≡ example
unfolding canonical
written = refl

is_read : file_in example ≡ Ok file
unfolding file_in header variable var_head dim_number attribute values dimension list nc_type new_name name each is_utf8 chars Utf8.encode
is_read = refl

cut_at_91 : file_in (take 91 example) ≡ Err (CutData, 91)
unfolding file_in header variable var_head dim_number attribute values dimension list nc_type new_name name each is_utf8 chars Utf8.encode
cut_at_91 = refl

cut_at_80 : file_in (take 80 example) ≡ Err (CutData, 80)
unfolding file_in header variable var_head dim_number attribute values dimension list nc_type new_name name each is_utf8 chars Utf8.encode
cut_at_80 = refl

cut_at_79 : file_in (take 79 example) ≡ Err (CutHeader, 79)
unfolding file_in header variable var_head dim_number attribute values dimension list nc_type new_name name each is_utf8 chars Utf8.encode
cut_at_79 = refl

cut_at_50 : file_in (take 50 example) ≡ Err (CutHeader, 50)
unfolding file_in header variable var_head dim_number attribute values dimension list nc_type new_name name each is_utf8 chars Utf8.encode
cut_at_50 = refl

cut_at_3 : file_in (take 3 example) ≡ Err (BadMagic, 0)
unfolding file_in header variable var_head dim_number attribute values dimension list nc_type new_name name each is_utf8 chars Utf8.encode
cut_at_3 = refl

cut_at_0 : file_in (take 0 example) ≡ Err (BadMagic, 0)
unfolding file_in header variable var_head dim_number attribute values dimension list nc_type new_name name each is_utf8 chars Utf8.encode
cut_at_0 = refl

-- the same file in version 5
abbrev wide_example : List ℕ
wide_example = 67 ∷ 68 ∷ 70 ∷ 5 ∷ 0 ∷ 0 ∷ 0 ∷ 0 ∷ 0 ∷ 0 ∷ 0 ∷ 0 ∷ 0 ∷ 0 ∷ 0 ∷ 10 ∷ 0 ∷ 0 ∷ 0 ∷ 0 ∷ 0 ∷ 0 ∷ 0 ∷ 1 ∷ 0 ∷ 0 ∷ 0 ∷ 0 ∷ 0 ∷ 0 ∷ 0 ∷ 1 ∷ 120 ∷ 0 ∷ 0 ∷ 0 ∷ 0 ∷ 0 ∷ 0 ∷ 0 ∷ 0 ∷ 0 ∷ 0 ∷ 3 ∷ 0 ∷ 0 ∷ 0 ∷ 0 ∷ 0 ∷ 0 ∷ 0 ∷ 0 ∷ 0 ∷ 0 ∷ 0 ∷ 0 ∷ 0 ∷ 0 ∷ 0 ∷ 11 ∷ 0 ∷ 0 ∷ 0 ∷ 0 ∷ 0 ∷ 0 ∷ 0 ∷ 1 ∷ 0 ∷ 0 ∷ 0 ∷ 0 ∷ 0 ∷ 0 ∷ 0 ∷ 1 ∷ 118 ∷ 0 ∷ 0 ∷ 0 ∷ 0 ∷ 0 ∷ 0 ∷ 0 ∷ 0 ∷ 0 ∷ 0 ∷ 1 ∷ 0 ∷ 0 ∷ 0 ∷ 0 ∷ 0 ∷ 0 ∷ 0 ∷ 0 ∷ 0 ∷ 0 ∷ 0 ∷ 0 ∷ 0 ∷ 0 ∷ 0 ∷ 0 ∷ 0 ∷ 0 ∷ 0 ∷ 0 ∷ 0 ∷ 0 ∷ 0 ∷ 4 ∷ 0 ∷ 0 ∷ 0 ∷ 0 ∷ 0 ∷ 0 ∷ 0 ∷ 12 ∷ 0 ∷ 0 ∷ 0 ∷ 0 ∷ 0 ∷ 0 ∷ 0 ∷ 128 ∷ 0 ∷ 0 ∷ 0 ∷ 1 ∷ 0 ∷ 0 ∷ 0 ∷ 2 ∷ 0 ∷ 0 ∷ 0 ∷ 3 ∷ []

abbrev wide_file : CdfFile
wide_file = record { version = 5; numrecs = 0; dims = file.dims; attrs = []; vars = file.vars }

wide_written : canonical wide_file ≡ wide_example
unfolding canonical
wide_written = refl

wide_read : file_in wide_example ≡ Ok wide_file
unfolding file_in header variable var_head dim_number attribute values dimension list nc_type new_name name each is_utf8 chars Utf8.encode
wide_read = refl

wide_cut_at_139 : file_in (take 139 wide_example) ≡ Err (CutData, 139)
unfolding file_in header variable var_head dim_number attribute values dimension list nc_type new_name name each is_utf8 chars Utf8.encode
wide_cut_at_139 = refl

wide_cut_at_127 : file_in (take 127 wide_example) ≡ Err (CutHeader, 127)
unfolding file_in header variable var_head dim_number attribute values dimension list nc_type new_name name each is_utf8 chars Utf8.encode
wide_cut_at_127 = refl

-- the file of nothing in version 5
abbrev nothing : CdfFile
nothing = record { version = 5; numrecs = 0; dims = []; attrs = []; vars = [] }

abbrev nothing_text : List ℕ
nothing_text = 67 ∷ 68 ∷ 70 ∷ 5 ∷ 0 ∷ 0 ∷ 0 ∷ 0 ∷ 0 ∷ 0 ∷ 0 ∷ 0 ∷ 0 ∷ 0 ∷ 0 ∷ 0 ∷ 0 ∷ 0 ∷ 0 ∷ 0 ∷ 0 ∷ 0 ∷ 0 ∷ 0 ∷ 0 ∷ 0 ∷ 0 ∷ 0 ∷ 0 ∷ 0 ∷ 0 ∷ 0 ∷ 0 ∷ 0 ∷ 0 ∷ 0 ∷ 0 ∷ 0 ∷ 0 ∷ 0 ∷ 0 ∷ 0 ∷ 0 ∷ 0 ∷ 0 ∷ 0 ∷ 0 ∷ 0 ∷ []

nothing_written : canonical nothing ≡ nothing_text
unfolding canonical
nothing_written = refl

nothing_read : file_in nothing_text ≡ Ok nothing
unfolding file_in header variable var_head dim_number attribute values dimension list nc_type new_name name each is_utf8 chars Utf8.encode
nothing_read = refl

-- the types of version 5: ubyte and ushort are padded by their own default fill values
abbrev unsigned : CdfFile
unsigned = record {
  version = 5;
  numrecs = 0;
  dims = [];
  attrs = [];
  vars =
      record { name = 97 ∷ []; dims = []; attrs = []; kind = UByte; raw = 200 ∷ [] }
      ∷ record { name = 98 ∷ []; dims = []; attrs = []; kind = UShort; raw = 1 ∷ 0 ∷ [] }
      ∷ record { name = 99 ∷ []; dims = []; attrs = []; kind = UInt; raw = 255 ∷ 255 ∷ 255 ∷ 255 ∷ [] }
      ∷ record { name = 100 ∷ []; dims = []; attrs = []; kind = Int64; raw = 255 ∷ 255 ∷ 255 ∷ 255 ∷ 255 ∷ 255 ∷ 255 ∷ 254 ∷ [] }
      ∷ record { name = 101 ∷ []; dims = []; attrs = []; kind = UInt64; raw = 128 ∷ 0 ∷ 0 ∷ 0 ∷ 0 ∷ 0 ∷ 0 ∷ 0 ∷ [] } ∷ [];
}

unsigned_text : List ℕ
unsigned_text = 67 ∷ 68 ∷ 70 ∷ 5 ∷ 0 ∷ 0 ∷ 0 ∷ 0 ∷ 0 ∷ 0 ∷ 0 ∷ 0 ∷ 0 ∷ 0 ∷ 0 ∷ 0 ∷ 0 ∷ 0 ∷ 0 ∷ 0 ∷ 0 ∷ 0 ∷ 0 ∷ 0 ∷ 0 ∷ 0 ∷ 0 ∷ 0 ∷ 0 ∷ 0 ∷ 0 ∷ 0 ∷ 0 ∷ 0 ∷ 0 ∷ 0 ∷ 0 ∷ 0 ∷ 0 ∷ 11 ∷ 0 ∷ 0 ∷ 0 ∷ 0 ∷ 0 ∷ 0 ∷ 0 ∷ 5 ∷ 0 ∷ 0 ∷ 0 ∷ 0 ∷ 0 ∷ 0 ∷ 0 ∷ 1 ∷ 97 ∷ 0 ∷ 0 ∷ 0 ∷ 0 ∷ 0 ∷ 0 ∷ 0 ∷ 0 ∷ 0 ∷ 0 ∷ 0 ∷ 0 ∷ 0 ∷ 0 ∷ 0 ∷ 0 ∷ 0 ∷ 0 ∷ 0 ∷ 0 ∷ 0 ∷ 0 ∷ 0 ∷ 0 ∷ 0 ∷ 0 ∷ 7 ∷ 0 ∷ 0 ∷ 0 ∷ 0 ∷ 0 ∷ 0 ∷ 0 ∷ 4 ∷ 0 ∷ 0 ∷ 0 ∷ 0 ∷ 0 ∷ 0 ∷ 1 ∷ 52 ∷ 0 ∷ 0 ∷ 0 ∷ 0 ∷ 0 ∷ 0 ∷ 0 ∷ 1 ∷ 98 ∷ 0 ∷ 0 ∷ 0 ∷ 0 ∷ 0 ∷ 0 ∷ 0 ∷ 0 ∷ 0 ∷ 0 ∷ 0 ∷ 0 ∷ 0 ∷ 0 ∷ 0 ∷ 0 ∷ 0 ∷ 0 ∷ 0 ∷ 0 ∷ 0 ∷ 0 ∷ 0 ∷ 0 ∷ 0 ∷ 0 ∷ 8 ∷ 0 ∷ 0 ∷ 0 ∷ 0 ∷ 0 ∷ 0 ∷ 0 ∷ 4 ∷ 0 ∷ 0 ∷ 0 ∷ 0 ∷ 0 ∷ 0 ∷ 1 ∷ 56 ∷ 0 ∷ 0 ∷ 0 ∷ 0 ∷ 0 ∷ 0 ∷ 0 ∷ 1 ∷ 99 ∷ 0 ∷ 0 ∷ 0 ∷ 0 ∷ 0 ∷ 0 ∷ 0 ∷ 0 ∷ 0 ∷ 0 ∷ 0 ∷ 0 ∷ 0 ∷ 0 ∷ 0 ∷ 0 ∷ 0 ∷ 0 ∷ 0 ∷ 0 ∷ 0 ∷ 0 ∷ 0 ∷ 0 ∷ 0 ∷ 0 ∷ 9 ∷ 0 ∷ 0 ∷ 0 ∷ 0 ∷ 0 ∷ 0 ∷ 0 ∷ 4 ∷ 0 ∷ 0 ∷ 0 ∷ 0 ∷ 0 ∷ 0 ∷ 1 ∷ 60 ∷ 0 ∷ 0 ∷ 0 ∷ 0 ∷ 0 ∷ 0 ∷ 0 ∷ 1 ∷ 100 ∷ 0 ∷ 0 ∷ 0 ∷ 0 ∷ 0 ∷ 0 ∷ 0 ∷ 0 ∷ 0 ∷ 0 ∷ 0 ∷ 0 ∷ 0 ∷ 0 ∷ 0 ∷ 0 ∷ 0 ∷ 0 ∷ 0 ∷ 0 ∷ 0 ∷ 0 ∷ 0 ∷ 0 ∷ 0 ∷ 0 ∷ 10 ∷ 0 ∷ 0 ∷ 0 ∷ 0 ∷ 0 ∷ 0 ∷ 0 ∷ 8 ∷ 0 ∷ 0 ∷ 0 ∷ 0 ∷ 0 ∷ 0 ∷ 1 ∷ 64 ∷ 0 ∷ 0 ∷ 0 ∷ 0 ∷ 0 ∷ 0 ∷ 0 ∷ 1 ∷ 101 ∷ 0 ∷ 0 ∷ 0 ∷ 0 ∷ 0 ∷ 0 ∷ 0 ∷ 0 ∷ 0 ∷ 0 ∷ 0 ∷ 0 ∷ 0 ∷ 0 ∷ 0 ∷ 0 ∷ 0 ∷ 0 ∷ 0 ∷ 0 ∷ 0 ∷ 0 ∷ 0 ∷ 0 ∷ 0 ∷ 0 ∷ 11 ∷ 0 ∷ 0 ∷ 0 ∷ 0 ∷ 0 ∷ 0 ∷ 0 ∷ 8 ∷ 0 ∷ 0 ∷ 0 ∷ 0 ∷ 0 ∷ 0 ∷ 1 ∷ 72 ∷ 200 ∷ 255 ∷ 255 ∷ 255 ∷ 1 ∷ 0 ∷ 255 ∷ 255 ∷ 255 ∷ 255 ∷ 255 ∷ 255 ∷ 255 ∷ 255 ∷ 255 ∷ 255 ∷ 255 ∷ 255 ∷ 255 ∷ 254 ∷ 128 ∷ 0 ∷ 0 ∷ 0 ∷ 0 ∷ 0 ∷ 0 ∷ 0 ∷ []

unsigned_written : canonical unsigned ≡ unsigned_text
unfolding canonical unsigned_text
unsigned_written = refl

unsigned_read : file_in unsigned_text ≡ Ok unsigned
unfolding unsigned_text file_in header variable var_head dim_number attribute values dimension list nc_type new_name name each is_utf8 chars Utf8.encode
unsigned_read = refl

-- versions 1 and 2 don't have them
not_held : can_hold (record { version = 2; numrecs = 0; dims = []; attrs = []; vars = unsigned.vars }) ≡ false
not_held = refl

-- type 7 in place of the int of the first file
ubyte_in_version_1 : file_in (take 71 example ++ 7 ∷ drop 72 example) ≡ Err (BadType, 68)
unfolding file_in header variable var_head dim_number attribute values dimension list nc_type new_name name each is_utf8 chars Utf8.encode
ubyte_in_version_1 = refl

-- a number of records with all bits set: as many as lie in the file
streamed_text : List ℕ
streamed_text = 67 ∷ 68 ∷ 70 ∷ 5 ∷ 255 ∷ 255 ∷ 255 ∷ 255 ∷ 255 ∷ 255 ∷ 255 ∷ 255 ∷ 0 ∷ 0 ∷ 0 ∷ 10 ∷ 0 ∷ 0 ∷ 0 ∷ 0 ∷ 0 ∷ 0 ∷ 0 ∷ 1 ∷ 0 ∷ 0 ∷ 0 ∷ 0 ∷ 0 ∷ 0 ∷ 0 ∷ 1 ∷ 116 ∷ 0 ∷ 0 ∷ 0 ∷ 0 ∷ 0 ∷ 0 ∷ 0 ∷ 0 ∷ 0 ∷ 0 ∷ 0 ∷ 0 ∷ 0 ∷ 0 ∷ 0 ∷ 0 ∷ 0 ∷ 0 ∷ 0 ∷ 0 ∷ 0 ∷ 0 ∷ 0 ∷ 0 ∷ 0 ∷ 0 ∷ 11 ∷ 0 ∷ 0 ∷ 0 ∷ 0 ∷ 0 ∷ 0 ∷ 0 ∷ 1 ∷ 0 ∷ 0 ∷ 0 ∷ 0 ∷ 0 ∷ 0 ∷ 0 ∷ 1 ∷ 117 ∷ 0 ∷ 0 ∷ 0 ∷ 0 ∷ 0 ∷ 0 ∷ 0 ∷ 0 ∷ 0 ∷ 0 ∷ 1 ∷ 0 ∷ 0 ∷ 0 ∷ 0 ∷ 0 ∷ 0 ∷ 0 ∷ 0 ∷ 0 ∷ 0 ∷ 0 ∷ 0 ∷ 0 ∷ 0 ∷ 0 ∷ 0 ∷ 0 ∷ 0 ∷ 0 ∷ 0 ∷ 0 ∷ 0 ∷ 0 ∷ 7 ∷ 0 ∷ 0 ∷ 0 ∷ 0 ∷ 0 ∷ 0 ∷ 0 ∷ 4 ∷ 0 ∷ 0 ∷ 0 ∷ 0 ∷ 0 ∷ 0 ∷ 0 ∷ 128 ∷ 7 ∷ 8 ∷ 9 ∷ []

streamed : file_in streamed_text
    ≡ Ok (record {
      version = 5;
      numrecs = 3;
      dims = record { name = 116 ∷ []; len = 0 } ∷ [];
      attrs = [];
      vars = record { name = 117 ∷ []; dims = 0 ∷ []; attrs = []; kind = UByte; raw = 7 ∷ 8 ∷ 9 ∷ [] } ∷ [];
    })
unfolding streamed_text file_in header variable var_head dim_number attribute values dimension list nc_type new_name name each is_utf8 chars Utf8.encode
streamed = refl

-- a count of all bits set in a short file
long_count : file_in (67 ∷ 68 ∷ 70 ∷ 5 ∷ 0 ∷ 0 ∷ 0 ∷ 0 ∷ 0 ∷ 0 ∷ 0 ∷ 0 ∷ 0 ∷ 0 ∷ 0 ∷ 10 ∷ 255 ∷ 255 ∷ 255 ∷ 255 ∷ 255 ∷ 255 ∷ 255 ∷ 255 ∷ 0 ∷ 0 ∷ 0 ∷ 0 ∷ 0 ∷ 0 ∷ 0 ∷ 1 ∷ 120 ∷ 0 ∷ 0 ∷ 0 ∷ 0 ∷ 0 ∷ 0 ∷ 0 ∷ 0 ∷ 0 ∷ 0 ∷ 3 ∷ []) ≡ Err (CutHeader, 44)
unfolding file_in header variable var_head dim_number attribute values dimension list nc_type new_name name each is_utf8 chars Utf8.encode
long_count = refl
