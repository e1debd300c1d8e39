-- The least of some numbers as the code keeps it.
use Rattle.std.specs.Prelude.{◌≡◌, ℕ, List, [], ◌∷◌, Option, Some, None}
use Rattle.xr_files.specs.Files.{least}
use Rattle.cdf_reader.specs.declared.records.Fewest.{Fewest}

abbrev pub leasts : List ℕ → Option ℕ
leasts [] = None
leasts (n ∷ ns) = Some (least (n ∷ ns))

abbrev pub IsLeast : Fewest → List ℕ → Type 0
IsLeast f ns = f.least ≡ leasts ns
