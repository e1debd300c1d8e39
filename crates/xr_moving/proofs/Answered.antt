-- What is made of the arguments of a call is its answer.
use Rattle.xr_moving.proofs.Common.{Fault, Made, Makes, Node, None, Ok, Option, Result, Roll, Shift, false, is_none, moved_by, rolled, shifted, ℕ, ℤ, ◌≡◌}
use Rattle.std.proofs.Common.{List}
use Rattle.xr_defs.specs.Values.{DataArray}
use Rattle.xr_operations.specs.Moves.{array_moved}
use Rattle.xr_formulas.specs.Mades.{made_in, IsMade}
use Rattle.xr_formulas.proofs.Answered.{answered}

pub roll_answered : (nodes : List Node) (a : DataArray) (by : List (List ℕ × ℤ)) (m : Made) (told : Result DataArray Fault) → told ≡ Ok (array_moved rolled None false by a) → Makes nodes (moved_by (record { how = Roll; fill = None; by = by }) a) m
    → (told ≡ Ok (made_in nodes m)) × IsMade nodes m
roll_answered nodes a by m told is makes = answered nodes (array_moved rolled None false by a) m told is makes

pub shift_answered : (nodes : List Node) (a : DataArray) (fill : Option ℤ) (by : List (List ℕ × ℤ)) (m : Made) (told : Result DataArray Fault) → told ≡ Ok (array_moved shifted fill (is_none fill) by a)
    → Makes nodes (moved_by (record { how = Shift; fill = fill; by = by }) a) m → (told ≡ Ok (made_in nodes m)) × IsMade nodes m
shift_answered nodes a fill by m told is makes = answered nodes (array_moved shifted fill (is_none fill) by a) m told is makes
