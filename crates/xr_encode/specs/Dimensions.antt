-- The dimensions of the file of some axes and of texts of some widths.
use Rattle.std.specs.Prelude.{ℕ, Bool, List, ◌++◌, map, filter, is_none}
use Rattle.xr_types.specs.declared.axis.Axis.{Axis}
use Rattle.xr_files.specs.declared.file.CdfDim.{CdfDim}
use Rattle.xr_defs.specs.declared.write_options.WriteOptions.{WriteOptions}
use Rattle.xr_defs.specs.Decoding.{string_name}
use Rattle.xr_defs.specs.Encoding.{axis_named, record_dim, dim_of_axis, string_dim}
use Rattle.xr_encode.specs.Checks.{over}

-- no axis is the dimension of texts of a width
abbrev pub is_axisless : List Axis → ℕ → Bool
is_axisless axes n = is_none (axis_named (string_name n) axes)

abbrev pub dims_with : List Axis → List ℕ → WriteOptions → List CdfDim
dims_with axes widths options = map (dim_of_axis (record_dim (over axes) options)) axes ++ map string_dim (filter (is_axisless axes) widths)
