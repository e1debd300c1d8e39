-- Sums and products that stop at a bound.
use Rattle.std.proofs.Common.{◌≡◌, ◌≤◌, ◌+◌, ◌*◌, ℕ, zero, suc, min, ◌⊎◌, inl, inr, refl, arith}

pub ordered : (s m : ℕ) → (s ≤ m) ⊎ (m ≤ s)
ordered zero m = inl (omega arith)
ordered (suc s) zero = inr (omega arith)
ordered (suc s) (suc m) = elim (ordered s m) [ inl le ↦ inl (omega arith) | inr le ↦ inr (omega arith) ]

below : (n s m : ℕ) → s ≤ m → min (n * min s m) m ≡ min (n * s) m
below n s m le = let e : min s m ≡ s = omega arith in rw e refl

above : (n s m : ℕ) → m ≤ s → min (n * min s m) m ≡ min (n * s) m
above zero s m le =
    let e : min s m ≡ m = omega arith in
    let a : 0 * m ≡ 0 = grind arith in
    let b : 0 * s ≡ 0 = grind arith in
    rw (e, a, b) refl
above (suc n) s m le =
    let e : min s m ≡ m = omega arith in
    let a : suc n * m ≡ m + n * m = grind arith in
    let b : suc n * s ≡ s + n * s = grind arith in
    rw e (omega arith)

-- a factor that stops at the bound gives the same product up to the bound
pub mul_right : (n s m : ℕ) → min (n * min s m) m ≡ min (n * s) m
mul_right n s m = elim (ordered s m) [ inl le ↦ below n s m le | inr le ↦ above n s m le ]

swap : (a b : ℕ) → a * b ≡ b * a
swap a b = grind arith

pub mul_left : (n s m : ℕ) → min (min n m * s) m ≡ min (n * s) m
mul_left n s m = rw (swap (min n m) s, swap n s) (mul_right s n m)

pub add_both : (a b m : ℕ) → min (min a m + min b m) m ≡ min (a + b) m
add_both a b m = omega arith
