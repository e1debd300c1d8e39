-- The number that digits write, digit by digit.
use Rattle.std.proofs.Common.{◌≡◌, ℕ, ◌+◌, ◌-◌, ◌*◌, ◌<◌, ◌≤◌, ◌^◌, true, List, Some, None, length, get_or, take, arith}
use Rattle.std.specs.Char.{is_ascii_digit, digit_value}
use Rattle.xr_syntax.specs.Tokens.{fitting}
use Rattle.std.specs.Str.Parse.{digits_value}
use Rattle.std.proofs.lemmas.Bool.Decides.{nat_tests}
use Rattle.std.proofs.lemmas.Int.Digits.{digits_value_more}

pub digit_below_ten : (c : ℕ) → is_ascii_digit c ≡ true → (48 ≤ c) × (c < 58)
digit_below_ten c h = grind (arith, nat_tests)

pub value_of_digit : (c : ℕ) → is_ascii_digit c ≡ true → digit_value c ≡ c - 48
value_of_digit c h = let d = digit_below_ten c h in grind (arith, nat_tests)

pub next_value : (ds : List ℕ) (i v : ℕ) → i < length ds → is_ascii_digit (get_or ds i 0) ≡ true → v ≡ digits_value 10 (take i ds) → v * 10 + (get_or ds i 0 - 48) ≡ digits_value 10 (take (i + 1) ds)
next_value ds i v l h e =
    let more = digits_value_more 10 ds i l in
    let d = value_of_digit (get_or ds i 0) h in
    omega (arith, more, d, e)

pub fits_from_some : (n m : ℕ) → Some m ≡ fitting n → (m ≡ n) × (n < 2 ^ 127)
fits_from_some n m e = grind (arith, nat_tests)

-- a number that is past the limit stays so with more digits
pub none_from_front : (n m : ℕ) → None ≡ fitting n → n ≤ m → None ≡ fitting m
none_from_front n m e le = grind (arith, nat_tests)
