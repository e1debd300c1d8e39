-- The cells of a variable as they are decoded.
use Rattle.std.specs.Prelude.{◌≡◌, ℤ, Bool, List, [], if◌then◌else◌, codes}
use Rattle.xr_types.specs.declared.attr.Attr.{Attr}
use Rattle.xr_files.specs.declared.file.CdfVar.{CdfVar}
use Rattle.xr_files.specs.declared.file.CdfFile.{CdfFile}
use Rattle.xr_arrays.specs.Arrays.{Array}
use Rattle.xr_defs.specs.Decoding.{is_masked, fill_numbers, var_shape, variable_of, is_bool, unlisted, without_text_attr}
use Rattle.xr_decode.specs.declared.decoded.Decoded.{Decoded}

-- the numbers that stand for missing cells, where masking is asked for
abbrev pub fills_used : Bool → CdfVar → List ℤ
fills_used mask v = if is_masked mask v then fill_numbers v.attrs else []

-- a variable as an array
abbrev pub array_in : CdfFile → Bool → CdfVar → Array
array_in f mask v = record { kind = (variable_of f mask v).kind; shape = var_shape f v; cells = (variable_of f mask v).cells }

-- the attributes that a variable keeps
abbrev pub attrs_as : Bool → CdfVar → List Attr
attrs_as is_bool v = if is_bool then without_text_attr (codes "dtype") (unlisted v.attrs) else unlisted v.attrs

-- what a variable and a coordinate have in common
pub record IsDecoded (f : CdfFile) (mask : Bool) (v : CdfVar) (d : Decoded) : Type 0 where
  pub array : d.array ≡ array_in f mask v
  pub masked : d.masked ≡ is_masked mask v
  pub attrs : d.attrs ≡ attrs_as (is_bool v) v
