-- What holds in each calendar.
use Rattle.std.proofs.Common.{ℕ, ℤ, ◌≡◌, ◌+◌, ◌≤◌, ◌≤ℤ◌, ◌<ℤ◌, ◌+ℤ◌, ◌-ℤ◌, pos, FitsSigned, w64, rules, ◌&&◌, Bool, true, false, refl, if◌then◌else◌, arith}
use Rattle.std.proofs.lemmas.Int.{ints}
use Rattle.std.specs.Prelude.{◌==◌, ◌||◌, int_le, int_lt}
use Rattle.xr_types.specs.declared.axis.Calendar.{Calendar}
use Rattle.xr_types.specs.declared.axis.Calendar.TheVariants.{Civil, NoLeap, Days360}
use Rattle.xr_times.specs.Times.{IsTime, is_time, epoch, epoch_days, all_days, month_days, is_leap}

pub most_days : (c : Calendar) → all_days c ≤ 3652059
most_days Civil = omega arith
most_days NoLeap = omega arith
most_days Days360 = omega arith

pub most_epoch : (c : Calendar) → epoch_days c ≤ 719162
most_epoch Civil = omega arith
most_epoch NoLeap = omega arith
most_epoch Days360 = omega arith

-- between two times, as seconds behind the first
pub between : (t end a e : ℤ) → end ≡ a -ℤ e → (pos 0 -ℤ e) ≤ℤ t → int_lt t end ≡ (int_le (pos 0) (t +ℤ e) && int_lt (t +ℤ e) a)
between t end a e h up = grind (arith, ints)

both_left : (a b : Bool) → (a && b) ≡ true → a ≡ true
both_left true b h = refl
both_left false b h = h

both_right : (a b : Bool) → (a && b) ≡ true → b ≡ true
both_right true b h = h
both_right false b h = absurd (cc)

at_most : (x y : ℤ) → int_le x y ≡ true → x ≤ℤ y
at_most x y h = grind (arith, ints)

below : (x y : ℤ) → int_lt x y ≡ true → x <ℤ y
below x y h = grind (arith, ints)

pub in_years : (c : Calendar) (t : ℤ) → is_time c t ≡ true → IsTime c t
in_years c t h = record { from = at_most _ _ (both_left (int_le (pos 0) (t +ℤ pos (epoch c))) _ h); to = below _ _ (both_right (int_le (pos 0) (t +ℤ pos (epoch c))) _ h) }

pub fits : (c : Calendar) (t : ℤ) → IsTime c t → FitsSigned w64 t
fits c t time =
    let days = most_days c in
    let first = most_epoch c in
    let low : (pos 0 -ℤ pos 62135596800) ≤ℤ t = let h = time.from in omega (arith, ints, h, first) in
    let high : t ≤ℤ pos 315537897600 = let h = time.to in omega (arith, ints, h, days) in
    search (rules, ints)

pub zero_time : (c : Calendar) → IsTime c (pos 0)
zero_time Civil = record { from = omega (arith, ints); to = omega (arith, ints) }
zero_time NoLeap = record { from = omega (arith, ints); to = omega (arith, ints) }
zero_time Days360 = record { from = omega (arith, ints); to = omega (arith, ints) }

either : (b : Bool) (m n : ℕ) → 1 ≤ m → 1 ≤ n → 1 ≤ (if b then m else n)
either true m n f g = f
either false m n f g = g

-- a month has a day
pub some_days : (c : Calendar) (y m : ℕ) → 1 ≤ month_days c y m
some_days Civil y m = either (m == 2) _ _ (either (is_leap y) 29 28 (omega arith) (omega arith)) (either ((m == 4) || (m == 6) || (m == 9) || (m == 11)) 30 31 (omega arith) (omega arith))
some_days NoLeap y m = either (m == 2) 28 _ (omega arith) (either ((m == 4) || (m == 6) || (m == 9) || (m == 11)) 30 31 (omega arith) (omega arith))
some_days Days360 y m = omega arith
