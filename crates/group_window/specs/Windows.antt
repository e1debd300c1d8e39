-- Windows and blocks of an axis, or what refuses them.
use Rattle.std.specs.Prelude.{◌==◌, ◌%◌, ◌||◌, ◌&&◌, ℕ, Bool, not, List, Result, Ok}
use Rattle.xr_types.specs.Results.{◌>>=◌, unless}
use Rattle.xr_types.specs.declared.fault.Fault.{Fault}
use Rattle.xr_types.specs.declared.fault.Fault.TheVariants.{BadArgument, NotMultiple}
use Rattle.xr_groups.specs.Blocks.{blocks, windows}

unfoldable pub rolled : ℕ → ℕ → Bool → Result (List (List ℕ)) Fault
rolled n w center = unless (not (center && (w % 2 == 0))) BadArgument >>= λ u. Ok (windows n w center)

unfoldable pub coarsened : ℕ → ℕ → Bool → Result (List (List ℕ)) Fault
coarsened n w trim = unless (trim || (n % w == 0)) NotMultiple >>= λ u. Ok (blocks n w)
