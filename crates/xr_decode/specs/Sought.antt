-- The values of a file that are found when it is opened.
use Rattle.std.specs.Prelude.{ℕ, Bool, List, ◌*◌, ◌&&◌, nat_le}
use Rattle.xr_types.specs.Points.{size}
use Rattle.xr_arrays.specs.Numbers.{is_whole}
use Rattle.xr_files.specs.declared.file.VarHead.{VarHead}
use Rattle.xr_files.specs.Files.{shape_of}
use Rattle.xr_defs.specs.Limits.{most_cells}
use Rattle.cdf_reader.specs.declared.heads.FileHead.{FileHead}
use Rattle.cdf_reader.specs.Heads.{var_seen}

abbrev pub is_sought : FileHead → VarHead → Bool
is_sought h v = is_whole v.kind && (nat_le (size (shape_of h.dims h.numrecs v.dims)) most_cells && nat_le (size (shape_of h.dims h.numrecs v.dims)) (h.numrecs * 2048))

abbrev pub values_seen : List ℕ → FileHead → VarHead → List ℕ
values_seen bytes h v = (var_seen bytes h v).raw
