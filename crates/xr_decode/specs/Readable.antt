-- Which files are decoded: their parts fit together. Of variables that aren't loaded, as floats, the values aren't looked at.
use Rattle.std.specs.Prelude.{◌≡◌, ◌<◌, ◌*◌, true, length, map, List, All, ℕ}
use Rattle.xr_files.specs.declared.file.CdfDim.{CdfDim}
use Rattle.xr_files.specs.declared.file.CdfVar.{CdfVar}
use Rattle.xr_files.specs.declared.file.CdfFile.{CdfFile}
use Rattle.xr_types.specs.Points.{size}
use Rattle.xr_types.specs.Widths.{width}
use Rattle.xr_files.specs.Classic.{is_name, dim_names}
use Rattle.xr_types.specs.Names.{are_distinct}
use Rattle.xr_files.specs.Files.{shape_of}
use Rattle.xr_arrays.specs.Numbers.{is_whole}
use Rattle.xr_defs.specs.WellFormed.{AreAttributes}

-- its dimensions are there, and whole numbers are as many bytes as its shape and its type say
pub record IsReadableVar (f : CdfFile) (v : CdfVar) : Type 0 where
  pub name : is_name v.name ≡ true
  pub below : All (λ i. i < length f.dims) v.dims
  pub attrs : AreAttributes v.attrs
  pub whole : is_whole v.kind ≡ true → length v.raw ≡ size (shape_of f.dims f.numrecs v.dims) * width v.kind

abbrev pub var_names : List CdfVar → List (List ℕ)
var_names vars = map (λ (v : CdfVar). v.name) vars

pub record IsReadable (f : CdfFile) : Type 0 where
  pub dims : All (λ (d : CdfDim). is_name d.name ≡ true) f.dims
  pub dims_distinct : are_distinct (dim_names f.dims) ≡ true
  pub attrs : AreAttributes f.attrs
  pub vars : All (IsReadableVar f) f.vars
  pub vars_distinct : are_distinct (var_names f.vars) ≡ true
