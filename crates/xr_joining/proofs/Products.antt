-- Products that stop at a bound, and axes without positions.
use Rattle.std.proofs.Common.{◌≡◌, ◌≤◌, ◌+◌, ◌*◌, ℕ, zero, suc, min, List, [], ◌∷◌, length, ◌⊎◌, inl, inr, refl, ap, ◌∙◌, arith}
use Rattle.xr_types.specs.Names.{shape_over}
use Rattle.xr_types.specs.declared.axis.Axis.{Axis}

below : (n s m : ℕ) → s ≤ m → min (n * min s m) m ≡ min (n * s) m
below n s m le = let e : min s m ≡ s = omega arith in rw e refl

above : (n s m : ℕ) → m ≤ s → min (n * min s m) m ≡ min (n * s) m
above zero s m le =
    let e : min s m ≡ m = omega arith in
    let a : 0 * m ≡ 0 = grind arith in
    let b : 0 * s ≡ 0 = grind arith in
    rw (e, a, b) refl
above (suc n) s m le =
    let e : min s m ≡ m = omega arith in
    let a : suc n * m ≡ m + n * m = grind arith in
    let b : suc n * s ≡ s + n * s = grind arith in
    rw e (omega arith)

ordered : (s m : ℕ) → (s ≤ m) ⊎ (m ≤ s)
ordered zero m = inl (omega arith)
ordered (suc s) zero = inr (omega arith)
ordered (suc s) (suc m) = elim (ordered s m) [ inl le ↦ inl (omega arith) | inr le ↦ inr (omega arith) ]

pub saturates : (n s m : ℕ) → min (n * min s m) m ≡ min (n * s) m
saturates n s m = elim (ordered s m) [ inl le ↦ below n s m le | inr le ↦ above n s m le ]

pub shape_rank : (axes : List Axis) → length (shape_over axes) ≡ length axes
shape_rank [] = refl
shape_rank (x ∷ xs) = ap suc (shape_rank xs)

pub none_times : (n s : ℕ) → n ≡ 0 → n * s ≡ 0
none_times n s e = ap (λ k. k * s) e ∙ none s
  where
    none : (s : ℕ) → 0 * s ≡ 0
    none s = grind arith

pub times_none : (n s : ℕ) → s ≡ 0 → n * s ≡ 0
times_none n s e = ap (λ k. n * k) e ∙ none n
  where
    none : (n : ℕ) → n * 0 ≡ 0
    none n = grind arith
