-- What is checked of an array that is given.
use Rattle.xr_building.proofs.Common.{Array, Axis, BadArgument, Err, List, Ok, Value, all_of, ap, arith, check_coordinate, check_place, false, is_there, le-leb, length, nat_le, nat_tests, unless, ℕ, ◌<◌, ◌≡◌, ◌≤◌, MeantArray}

pub few_axes : (a : MeantArray) → length a.axes ≤ 1 → check_coordinate (Array a) ≡ Ok (tt {0})
unfolding check_coordinate unless
few_axes a le = ap (λ b. unless b BadArgument) (le-leb (length a.axes) 1 le)

pub many_axes : (a : MeantArray) → 1 < length a.axes → check_coordinate (Array a) ≡ Err BadArgument
unfolding check_coordinate unless
many_axes a lt = let e : nat_le (length a.axes) 1 ≡ false = grind (arith, nat_tests) in ap (λ b. unless b BadArgument) e

pub place_of_array : (axes : List Axis) (name : List ℕ) (m : Value) (a : MeantArray) → m ≡ Array a → check_place axes (name, m) ≡ all_of (is_there axes) a.axes
unfolding check_place
place_of_array axes name m a is = ap (λ v. check_place axes (name, v)) is
