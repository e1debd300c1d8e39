-- Products that stop at a bound, and places counted axis by axis.
use Rattle.std.proofs.Common.{◌≡◌, ◌<◌, ◌≤◌, ◌+◌, ◌*◌, ℕ, zero, suc, min, List, [], ◌∷◌, length, drop, get_or, ◌⊎◌, inl, inr, refl, sym, ap, ◌∙◌, arith}
use Rattle.xr_types.specs.Points.{size, place, IsPoint}
use Rattle.strided_block.proofs.Boxes.{point_drop, place_below}

below : (n s m : ℕ) → s ≤ m → min (n * min s m) m ≡ min (n * s) m
below n s m le = let e : min s m ≡ s = omega arith in rw e refl

above : (n s m : ℕ) → m ≤ s → min (n * min s m) m ≡ min (n * s) m
above zero s m le =
    let e : min s m ≡ m = omega arith in
    let a : 0 * m ≡ 0 = grind arith in
    let b : 0 * s ≡ 0 = grind arith in
    rw (e, a, b) refl
above (suc n) s m le =
    let e : min s m ≡ m = omega arith in
    let a : suc n * m ≡ m + n * m = grind arith in
    let b : suc n * s ≡ s + n * s = grind arith in
    rw e (omega arith)

ordered : (s m : ℕ) → (s ≤ m) ⊎ (m ≤ s)
ordered zero m = inl (omega arith)
ordered (suc s) zero = inr (omega arith)
ordered (suc s) (suc m) = elim (ordered s m) [ inl le ↦ inl (omega arith) | inr le ↦ inr (omega arith) ]

-- a bound on a factor may be left out under the same bound on the product
pub saturates : (n s m : ℕ) → min (n * min s m) m ≡ min (n * s) m
saturates n s m = elim (ordered s m) [ inl le ↦ below n s m le | inr le ↦ above n s m le ]

-- ---- a place counted axis by axis: what is counted so far, and what is left

step : (at n s c r : ℕ) → at * (n * s) + (c * s + r) ≡ (at * n + c) * s + r
step at n s c r = grind arith

pub place_step : (ns cs : List ℕ) (k at : ℕ) → IsPoint ns cs → k < length ns → at * size (drop k ns) + place (drop k ns) (drop k cs) ≡ (at * get_or ns k 0 + get_or cs k 0) * size (drop (k + 1) ns) + place (drop (k + 1) ns) (drop (k + 1) cs)
place_step [] cs k at i lt = absurd (omega arith)
place_step (n ∷ ns) [] k at i lt = absurd i
place_step (n ∷ ns) (c ∷ cs) zero at i lt = step at n (size ns) c (place ns cs)
place_step (n ∷ ns) (c ∷ cs) (suc k) at i lt =
    let more : suc (k + 1) ≡ suc k + 1 = omega arith in
    place_step ns cs k at i.1 (omega arith)
    ∙ ap (λ m. (at * get_or ns k 0 + get_or cs k 0) * size (drop m (n ∷ ns)) + place (drop m (n ∷ ns)) (drop m (c ∷ cs))) more

some_size : (ns cs : List ℕ) → IsPoint ns cs → 0 < size ns
some_size ns cs i = let b = place_below ns cs i in omega arith

at_most : (x s r t : ℕ) → 0 < s → x * s + r ≡ t → x ≤ t
at_most x zero r t some e = absurd (omega arith)
at_most x (suc s) r t some e = let h : x * suc s ≡ x + x * s = grind arith in omega arith

pub counted : (ns cs : List ℕ) (k at : ℕ) → IsPoint ns cs → k < length ns → at * size (drop k ns) + place (drop k ns) (drop k cs) ≡ place ns cs → at * get_or ns k 0 + get_or cs k 0 ≤ place ns cs
counted ns cs k at i lt so_far = at_most (at * get_or ns k 0 + get_or cs k 0) (size (drop (k + 1) ns)) (place (drop (k + 1) ns) (drop (k + 1) cs)) (place ns cs)
    (some_size (drop (k + 1) ns) (drop (k + 1) cs) (point_drop ns cs (k + 1) i)) (sym (place_step ns cs k at i lt) ∙ so_far)

pub all_counted : (ns cs : List ℕ) (k at : ℕ) → IsPoint ns cs → length ns ≤ k → at * size (drop k ns) + place (drop k ns) (drop k cs) ≡ at
all_counted [] [] zero at i le = omega arith
all_counted [] [] (suc k) at i le = omega arith
all_counted [] (c ∷ cs) k at i le = absurd i
all_counted (n ∷ ns) [] k at i le = absurd i
all_counted (n ∷ ns) (c ∷ cs) zero at i le = absurd (omega arith)
all_counted (n ∷ ns) (c ∷ cs) (suc k) at i le = all_counted ns cs k at i.1 (omega arith)
