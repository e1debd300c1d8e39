-- The positions that a move shows.
use Rattle.xr_moving.proofs.Common.{All, All-map, Bool, IsBelow, None, Option, Roll, Shift, Some, [], ap, arith, cond, false, get_or, get_or-range_with_len, hides, is_some, length, length-range_with_len, map, positions_by, range_with_len, refl, suc, true, ℕ, ℤ, ◌++◌, ◌+◌, ◌-◌, ◌<◌, ◌||◌, ◌∙◌, ◌∷◌, ◌≡◌}
use Rattle.std.proofs.Common.{◌%◌, pos, negsuc, nat_lt}
use Rattle.std.proofs.lemmas.Bool.{ltb-true, or_right}
use Rattle.std.proofs.lemmas.List.{map-append}
use Rattle.std.proofs.lemmas.List.FromFn.{length-map-range_with_len}
use Rattle.std.proofs.lemmas.Nat.{mod_below}
use Rattle.xr_arrays.proofs.LabelPlaces.{range_with_len-add}
use Rattle.xr_operations.specs.Moves.{roll_source, shift_source}
use Rattle.xr_moving.specs.declared.moves.Move.{Move}

pub one_more : (f : ℕ → Option ℕ) (i : ℕ) → map f (range_with_len 0 (i + 1)) ≡ map f (range_with_len 0 i) ++ f i ∷ []
one_more f i =
    let z : 0 + i ≡ i = omega arith in
    ap (map f) (range_with_len-add 0 i 1) ∙ map-append f (range_with_len 0 i) (range_with_len (0 + i) 1) ∙ ap (λ j. map f (range_with_len 0 i) ++ f j ∷ []) z

pub long_by : (m : Move) (by : ℤ) (n : ℕ) → length (positions_by m by n) ≡ n
long_by Shift by n = length-map-range_with_len (shift_source n by) 0 n
long_by Roll by n = length-map-range_with_len (roll_source n by) 0 n

-- ---- each is a position of the axis

shift_below : (n : ℕ) (by : ℤ) (i : ℕ) → i < n → IsBelow n (shift_source n by i)
shift_below n (pos k) i lt = by (nat_lt i k)
  where
    by : (b : Bool) → IsBelow n (cond b None (Some (i - k)))
    by true = tt
    by false = omega arith
shift_below n (negsuc k) i lt = by (nat_lt (i + suc k) n) refl
  where
    by : (b : Bool) → nat_lt (i + suc k) n ≡ b → IsBelow n (cond b (Some (i + suc k)) None)
    by true e = ltb-true (i + suc k) n e
    by false e = tt

roll_below : (n : ℕ) (by : ℤ) (i : ℕ) → i < n → IsBelow n (roll_source n by i)
roll_below n (pos k) i lt = mod_below (i + (n - k % n)) n (omega arith)
roll_below n (negsuc k) i lt = mod_below (i + suc k) n (omega arith)

all_below : (f : ℕ → Option ℕ) (n : ℕ) → ((i : ℕ) → i < n → IsBelow n (f i)) → All (IsBelow n) (map f (range_with_len 0 n))
all_below f n each =
    All-map (IsBelow n) f (range_with_len 0 n)
    (λ i d lt. let long = length-range_with_len 0 n in let is = get_or-range_with_len 0 n i d (omega (arith, long, lt)) in each (get_or (range_with_len 0 n) i d) (omega (arith, long, lt, is)))

pub below_by : (m : Move) (by : ℤ) (n : ℕ) → All (IsBelow n) (positions_by m by n)
below_by Shift by n = all_below (shift_source n by) n (shift_below n by)
below_by Roll by n = all_below (roll_source n by) n (roll_below n by)

-- ---- a cell is there, unless missing cells move in

roll_there : (n : ℕ) (by : ℤ) (i : ℕ) → is_some (roll_source n by i) ≡ true
roll_there n (pos k) i = refl
roll_there n (negsuc k) i = refl

all_some : (f : ℕ → Option ℕ) (n : ℕ) → ((i : ℕ) → is_some (f i) ≡ true) → All (λ o. is_some o ≡ true) (map f (range_with_len 0 n))
all_some f n each = All-map (λ o. is_some o ≡ true) f (range_with_len 0 n) (λ i d lt. each (get_or (range_with_len 0 n) i d))

pub covers_by : (m : Move) (fill : Option ℤ) (by : ℤ) (n : ℕ) → hides m fill ≡ false → (i : ℕ) → i < length (positions_by m by n) → (is_some (get_or (positions_by m by n) i None) || is_some fill) ≡ true
covers_by Shift None by n e i lt = absurd cc
covers_by Shift (Some f) by n e i lt = or_right (is_some (get_or (positions_by Shift by n) i None)) true refl
covers_by Roll fill by n e i lt = ap (λ b. b || is_some fill) (all_some (roll_source n by) n (roll_there n by) i None lt)

-- ---- positions one after the other

pub run_on : (from i : ℕ) → map Some (range_with_len from (i + 1)) ≡ map Some (range_with_len from i) ++ Some (from + i) ∷ []
run_on from i = ap (map Some) (range_with_len-add from i 1) ∙ map-append Some (range_with_len from i) ((from + i) ∷ [])
