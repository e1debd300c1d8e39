-- What the fields of counts hold.
use Rattle.std.proofs.Common.{◌==◌, ◌<◌, ◌≤◌, ◌^◌, ℕ, Bool, true, false, arith, if◌then◌else◌}
use Rattle.std.specs.Int.{w32, w64, byte_len}
use Rattle.xr_files.specs.Classic.{count_width, most_count}

below-by : (long : Bool) (n : ℕ) → n ≤ (if long then 18446744073709551615 else 4294967295) → n < 256 ^ byte_len (if long then w64 else w32)
below-by true n le = omega (arith, le)
below-by false n le = omega (arith, le)

-- what is no more than the greatest count is a number of the field's width
pub count_below : (version n : ℕ) → n ≤ most_count version → n < 256 ^ byte_len (count_width version)
count_below version n le = below-by (version == 5) n le

small-by : (long : Bool) (n : ℕ) → n < 4294967296 → n ≤ (if long then 18446744073709551615 else 4294967295)
small-by true n lt = omega (arith, lt)
small-by false n lt = omega (arith, lt)

-- a number of four bytes fits each version
pub small_fits : (version n : ℕ) → n < 4294967296 → n ≤ most_count version
small_fits version n lt = small-by (version == 5) n lt
