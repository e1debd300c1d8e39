-- Sizes as the code keeps them: numbers without limit, cut off at the greatest of 64 bits, which is far beyond a file's bytes.
use Rattle.std.specs.Prelude.{ℕ, List, map, min}
use Rattle.xr_files.specs.declared.file.CdfDim.{CdfDim}
use Rattle.xr_files.specs.declared.file.VarHead.{VarHead}
use Rattle.xr_files.specs.Files.{head_size, record_vars, sizes_together}

abbrev pub capped : ℕ → ℕ
capped n = min n 18446744073709551615

-- the sizes of the record variables, per record
abbrev pub record_sizes : List CdfDim → List VarHead → List ℕ
record_sizes dims vars = map (head_size dims) (record_vars dims vars)

-- the distance from one record to the next
abbrev pub distance : List CdfDim → List VarHead → ℕ
distance dims vars = sizes_together (record_sizes dims vars)
