-- Quotients from products.
use Rattle.std.proofs.Common.{◌≡◌, ◌/◌, ◌*◌, ◌+◌, ◌-◌, ◌^◌, ◌<◌, ◌≤◌, ℕ, zero, suc, refl, sym, ap, subst, ◌∙◌, inl, inr, arith}
use Rattle.std.proofs.lemmas.Nat.{shr-shr, le-div, div_below, mul-le, mul-lt, pow_pos, pow_below, leading_length}
use Rattle.std.proofs.lemmas.Bool.{cases_lt}
use lib.Count.{count_leading_zeros}
use Rattle.std.specs.Prelude.{ℤ, pos, negsuc, ◌≢◌, true, false, unsigned_abs}
use Rattle.elem_kernel.specs.Reciprocals.{IsReciprocal, size}

-- the high half of a product is a half
pub high_fits : (x m w : ℕ) → x < w → m < w → x * m < w * w
high_fits x m w p q = mul-lt x m w w p q

pub high_below : (x m w : ℕ) → x < w → m < w → x * m / w < w
high_below x m w p q = div_below (x * m) w w (omega arith) (mul-lt x m w w p q)

-- and no more than either factor
pub high_at_most : (x m w : ℕ) → m < w → x * m / w ≤ x
high_at_most x m w q =
    let le : x * m ≤ x * w = mul-le x m x w (omega arith) (omega arith) in
    let lt : x * m < suc x * w = omega arith in
    let below : x * m / w < suc x = div_below (x * m) w (suc x) (omega arith) lt in
    omega arith

pub ruleset high = (high_fits, high_below)

mul-lt-right : (x w l : ℕ) → x < w → 0 < l → x * l < w * l
mul-lt-right x w l p q = let f : suc x * l ≤ w * l = mul-le (suc x) l w l (omega arith) (omega arith) in omega arith

lower : (x t q d m w l : ℕ) → q * d ≤ x → w * l < (w + m) * d → x * m < w * t + w → q * l ≤ x + t
lower x t q d m w l a b c = elim (cases_lt (x + t) (q * l)) [
  | inl lt ↦
      let f : w * suc (x + t) ≤ w * (q * l) = mul-le w (suc (x + t)) w (q * l) (omega arith) (omega arith) in
      let g : q * (w * l) ≤ q * ((w + m) * d) = mul-le q (w * l) q ((w + m) * d) (omega arith) (omega arith) in
      let h : (q * d) * (w + m) ≤ x * (w + m) = mul-le (q * d) (w + m) x (w + m) (omega arith) (omega arith) in
      absurd (omega arith)
  | inr le ↦ le
]

upper : (x t q d m w l : ℕ) → x < w → 0 < l → 0 < d → x < suc q * d → (w + m) * d ≤ (w + 1) * l → w * t ≤ x * m → x + t < suc q * l
upper x t q d m w l small pl pd a b c = elim (cases_lt (x + t) (suc q * l)) [
  | inl lt ↦ lt
  | inr le ↦
      let f : d * (w * (suc q * l)) ≤ d * (w * (x + t)) = mul-le d (w * (suc q * l)) d (w * (x + t)) (omega arith) (mul-le w (suc q * l) w (x + t) (omega arith) (omega arith)) in
      let g : x * ((w + m) * d) ≤ x * ((w + 1) * l) = mul-le x ((w + m) * d) x ((w + 1) * l) (omega arith) (omega arith) in
      let h : (suc x) * (w * l) ≤ (suc q * d) * (w * l) = mul-le (suc x) (w * l) (suc q * d) (w * l) (omega arith) (omega arith) in
      let i : d * (w * t) ≤ d * (x * m) = mul-le d (w * t) d (x * m) (omega arith) (omega arith) in
      let j : x * l < w * l = mul-lt-right x w l small pl in
      absurd (omega arith)
]

factor_above : (a b d : ℕ) → a < b * d → 0 < d
factor_above a b zero h = absurd (omega arith)
factor_above a b (suc d) h = omega arith

pub quotient_is : (x m w d s : ℕ) → x < w → m < w → IsReciprocal w d m s → ((x - x * m / w) / 2 + x * m / w) / 2 ^ s ≡ x / d
quotient_is x m w d s small less is =
    let t = x * m / w in
    let pw : 0 < w = omega arith in
    let pd : 0 < d = factor_above _ _ d is.0 in
    let pl : 0 < 2 ^ suc s = pow_pos (suc s) in
    let from : w * t ≤ x * m = omega arith in
    let to : x * m < w * t + w = omega arith in
    let down : x / d * d ≤ x = omega arith in
    let up : x < suc (x / d) * d = omega arith in
    let lo : x / d * 2 ^ suc s ≤ x + t = lower x t (x / d) d m w (2 ^ suc s) down is.0 to in
    let hi : x + t < suc (x / d) * 2 ^ suc s = upper x t (x / d) d m w (2 ^ suc s) small pl pd up is.1 from in
    let least : x / d ≤ (x + t) / 2 ^ suc s = le-div (x / d) (x + t) (2 ^ suc s) pl lo in
    let most : (x + t) / 2 ^ suc s < suc (x / d) = div_below (x + t) (2 ^ suc s) (suc (x / d)) pl hi in
    let le : t ≤ x = high_at_most x m w less in
    let half : (x - t) / 2 + t ≡ (x + t) / 2 = omega arith in
    let next : 1 + s ≡ suc s = omega arith in
    ap (λ n. n / 2 ^ s) half ∙ shr-shr (x + t) 1 s ∙ ap (λ k. (x + t) / 2 ^ k) next ∙ omega arith

pub high_left : (x m w h : ℕ) → h ≡ x * m / w → m < w → h ≤ x
high_left x m w h is less = let le : x * m / w ≤ x = high_at_most x m w less in omega arith

pub quotient_from : (x m w d s h : ℕ) → h ≡ x * m / w → x < w → m < w → IsReciprocal w d m s → ((x - h) / 2 + h) / 2 ^ s ≡ x / d
quotient_from x m w d s h is small less reciprocal = ap (λ t. ((x - t) / 2 + t) / 2 ^ s) is ∙ quotient_is x m w d s small less reciprocal

pub ruleset quotients = (high_left, quotient_from)

-- a size
pub size_left : (n : ℤ) → size n true ≡ unsigned_abs n - 1
size_left n = refl

pub some_size : (n : ℤ) → n ≢ pos 0 → 0 < unsigned_abs n
some_size (pos zero) some = absurd (some refl)
some_size (pos (suc a)) some = omega arith
some_size (negsuc a) some = omega arith

pub ruleset sizes = (some_size)

-- ---- a reciprocal

pub length_above : (d : ℕ) → 2 ≤ d → d < 18446744073709551616 → d ≤ 2 ^ (64 - count_leading_zeros 64 (d - 1))
length_above d some fits =
    let l = leading_length 64 (d - 1) (omega arith) in
    let e : 64 - count_leading_zeros 64 (d - 1) ≡ l.0 = omega (arith, l.1) in
    subst (λ k. d ≤ 2 ^ k) (sym e) (omega (arith, l.2))

pub length_near : (d : ℕ) → 2 ≤ d → d < 18446744073709551616 → 2 ^ (64 - count_leading_zeros 64 (d - 1)) < d + d
length_near d some fits =
    let l = leading_length 64 (d - 1) (omega arith) in
    let e : 64 - count_leading_zeros 64 (d - 1) ≡ l.0 = omega (arith, l.1) in
    subst (λ k. 2 ^ k < d + d) (sym e) (omega (arith, l.3))

pub ruleset lengths = (length_above, length_near)

-- the factor is below whole
pub factor_fits : (w d k : ℕ) → d < w → k < d → k * w / d + 1 < w
factor_fits w d k less short =
    let q = k * w / d in
    let down : q * d ≤ k * w = omega arith in
    let most : suc k * w ≤ d * w = mul-le (suc k) w d w (omega arith) (omega arith) in
    elim (cases_lt (q + 1) w) [
      | inl lt ↦ lt
      | inr le ↦
          let f : d * w ≤ d * (q + 1) = mul-le d w d (q + 1) (omega arith) (omega arith) in
          absurd (omega arith)
    ]

pub ruleset factors = (factor_fits)

made_at : (w d k l s : ℕ) → 0 < d → k + d ≡ 2 ^ l → suc s ≡ l → IsReciprocal w d (k * w / d + 1) s
made_at w d k l s some sum next =
    let down : k * w / d * d ≤ k * w = omega arith in
    let up : k * w < k * w / d * d + d = omega arith in
    let whole : 2 ^ suc s ≡ k + d = ap (λ n. 2 ^ n) next ∙ sym sum in
    let parts : w * 2 ^ suc s ≡ w * (k + d) = ap (λ n. w * n) whole in
    (omega arith, omega arith)

pub made : (w d k l s m : ℕ) → 0 < d → k + d ≡ 2 ^ l → m ≡ k * w / d + 1 → suc s ≡ l → IsReciprocal w d m s
made w d k l s m some sum is next = subst (λ n. IsReciprocal w d n s) (sym is) (made_at w d k l s some sum next)

pub shift_fits : (w d l s : ℕ) → d < w → 2 ^ l < d + d → suc s ≡ l → 2 ^ s < w
shift_fits w d l s less near next =
    let whole : 2 ^ suc s ≡ 2 ^ l = ap (λ n. 2 ^ n) next in
    omega arith

pub ruleset reciprocals = (made, shift_fits, factor_fits)
