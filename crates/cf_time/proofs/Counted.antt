-- A whole count times its unit is how far the time lies from the reference.
use Rattle.std.proofs.Common.{ℕ, true, ◌≡◌, ◌%◌, ◌/◌, ℤ, pos, negsuc, neg_ℤ, ◌+ℤ◌, ◌-ℤ◌, ◌*ℤ◌, ◌≤ℤ◌, ◌<ℤ◌, ap, ◌∙◌, arith}
use Rattle.std.specs.Prelude.{unsigned_abs, ◌==◌}
use Rattle.std.proofs.lemmas.Int.{ints}
use Rattle.std.proofs.lemmas.Bool.Decides.{nat_tests}
use Rattle.xr_types.specs.declared.axis.TimeUnit.{TimeUnit}
use Rattle.xr_types.specs.declared.axis.TimeUnit.TheVariants.{Days, Hours, Minutes, Seconds}
use Rattle.xr_times.specs.Times.{unit_seconds}

behind : (u : TimeUnit) (z : ℤ) → unsigned_abs z % unit_seconds u ≡ 0 → pos 0 ≤ℤ z → pos (unsigned_abs z / unit_seconds u) *ℤ pos (unit_seconds u) ≡ z
behind Days (pos a) h up = omega (arith, ints, h)
behind Hours (pos a) h up = omega (arith, ints, h)
behind Minutes (pos a) h up = omega (arith, ints, h)
behind Seconds (pos a) h up = omega (arith, ints, h)
behind u (negsuc a) h up = absurd (omega (arith, ints, up))

before : (u : TimeUnit) (z : ℤ) → unsigned_abs z % unit_seconds u ≡ 0 → z <ℤ pos 0 → neg_ℤ (pos (unsigned_abs z / unit_seconds u)) *ℤ pos (unit_seconds u) ≡ z
before u (pos a) h down = absurd (omega (arith, ints, down))
before Days (negsuc a) h down = omega (arith, ints, h)
before Hours (negsuc a) h down = omega (arith, ints, h)
before Minutes (negsuc a) h down = omega (arith, ints, h)
before Seconds (negsuc a) h down = omega (arith, ints, h)

pub counted_behind : (u : TimeUnit) (r t : ℤ) → unsigned_abs (t -ℤ r) % unit_seconds u ≡ 0 → r ≤ℤ t → r +ℤ pos (unsigned_abs (t -ℤ r) / unit_seconds u) *ℤ pos (unit_seconds u) ≡ t
counted_behind u r t h up = ap (λ z. r +ℤ z) (behind u (t -ℤ r) h (omega (arith, ints, up))) ∙ omega (arith, ints)

pub counted_before : (u : TimeUnit) (r t : ℤ) → unsigned_abs (t -ℤ r) % unit_seconds u ≡ 0 → t <ℤ r → r +ℤ neg_ℤ (pos (unsigned_abs (t -ℤ r) / unit_seconds u)) *ℤ pos (unit_seconds u) ≡ t
counted_before u r t h down = ap (λ z. r +ℤ z) (before u (t -ℤ r) h (omega (arith, ints, down))) ∙ omega (arith, ints)

pub counted_to : (u : TimeUnit) (r t n : ℤ) (far seconds : ℕ) → far ≡ unsigned_abs (t -ℤ r) → seconds ≡ unit_seconds u → n ≡ neg_ℤ (pos (far / seconds)) → unsigned_abs (t -ℤ r) % unit_seconds u ≡ 0 → t <ℤ r → r +ℤ n *ℤ pos (unit_seconds u) ≡ t
counted_to u r t n far seconds ef es en zero down =
    ap (λ m. r +ℤ m *ℤ pos (unit_seconds u)) (en ∙ ap (λ k. neg_ℤ (pos (k / seconds))) ef ∙ ap (λ k. neg_ℤ (pos (unsigned_abs (t -ℤ r) / k))) es) ∙ counted_before u r t zero down

pub counted_on : (u : TimeUnit) (r t n : ℤ) (far seconds : ℕ) → far ≡ unsigned_abs (t -ℤ r) → seconds ≡ unit_seconds u → n ≡ pos (far / seconds) → unsigned_abs (t -ℤ r) % unit_seconds u ≡ 0 → r ≤ℤ t → r +ℤ n *ℤ pos (unit_seconds u) ≡ t
counted_on u r t n far seconds ef es en zero up =
    ap (λ m. r +ℤ m *ℤ pos (unit_seconds u)) (en ∙ ap (λ k. pos (k / seconds)) ef ∙ ap (λ k. pos (unsigned_abs (t -ℤ r) / k)) es) ∙ counted_behind u r t zero up

pub no_rest : (n : ℕ) → (n == 0) ≡ true → n ≡ 0
no_rest n h = grind (arith, nat_tests)
