-- What the variables of a file become.
use Rattle.std.specs.Prelude.{◌≡◌, true, false, Bool}
use Rattle.xr_files.specs.declared.file.CdfVar.{CdfVar}
use Rattle.xr_files.specs.declared.file.CdfFile.{CdfFile}
use Rattle.xr_defs.specs.Decoding.{is_skipped, is_index, is_coordinate}
use Rattle.xr_decode.specs.declared.role.Role.{Role}
use Rattle.xr_decode.specs.declared.role.Role.TheVariants.{Skipped, Index, Coordinate, Data}

abbrev pub IsRole : CdfFile → CdfVar → Role → Type 0
IsRole f v Skipped = is_skipped f v ≡ true
IsRole f v Index = (is_skipped f v ≡ false) × (is_index f v ≡ true)
IsRole f v Coordinate = (is_skipped f v ≡ false) × (is_index f v ≡ false) × (is_coordinate f v ≡ true)
IsRole f v Data = (is_skipped f v ≡ false) × (is_index f v ≡ false) × (is_coordinate f v ≡ false)

abbrev pub is_counted : Role → Bool
is_counted Skipped = false
is_counted Index = false
is_counted Coordinate = true
is_counted Data = true
