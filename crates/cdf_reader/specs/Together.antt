-- The sizes of record variables as the code puts them together.
use Rattle.std.specs.Prelude.{◌≡◌, ℕ, List, length, map, sum, get_or, min}
use Rattle.xr_files.specs.Files.{padded}
use Rattle.cdf_reader.specs.Sizes.{capped}
use Rattle.cdf_reader.specs.declared.sizes.Together.{Together}

pub record Sum (t : Together) (sizes : List ℕ) : Type 0 where
  pub count : t.count ≡ min (length sizes) 2
  pub first : t.first ≡ capped (get_or sizes 0 0)
  pub total : t.total ≡ capped (sum (map padded sizes))
