-- Quotients rounded towards 0, and rounded down.
use Rattle.std.proofs.Common.{◌≡◌, ◌/◌, ◌*◌, ◌+◌, ◌-◌, ◌^◌, ◌<◌, ◌≤◌, ℤ, ℕ, zero, suc, pos, negsuc, neg_ℤ, ◌+ℤ◌, ◌-ℤ◌, ◌*ℤ◌, ◌<ℤ◌, ◌≤ℤ◌, refl, sym, ap, subst, ◌∙◌, arith, to_z, of_z, div-le_self}
use Rattle.std.proofs.lemmas.Int.{ints, to_z-of_z, quot-rem, rem_below, quot_is, rem_is, quot_fits, fits_signed_from_abs, fits_signed_mul}
use Rattle.std.proofs.lemmas.Nat.{div-mul-add, div_below}
use Rattle.std.specs.Int.RustNames.{FitsSigned, int_div, int_rem, unsigned_abs}
use Rattle.std.specs.Prelude.{true, false}
use mir.Syntax.{Width}
use mir.Val.{hbits}
use lib.Signed.{lt_z, mag, mag_rem, nat_abs-le}
use Rattle.xr_arrays.specs.Elements.{floor_quotient}

-- x = q y + r, where y is above 0 and r lies from 0 up to it
up_is : (x q r : ℤ) (b : ℕ) → q *ℤ pos (suc b) +ℤ r ≡ x → pos 0 ≤ℤ r → r ≤ℤ pos b → floor_quotient x (pos (suc b)) ≡ q
up_is x q (negsuc s) b e lo hi = absurd (omega (arith, ints))
up_is (pos a) (pos k) (pos s) b e lo hi =
    let below : s < suc b = omega (arith, ints) in let is : k * suc b + s ≡ a = omega (arith, ints) in
    ap (λ m. pos (m / suc b)) (sym is) ∙ ap pos (div-mul-add k (suc b) s below)
up_is (pos a) (negsuc k) (pos s) b e lo hi = absurd (omega (arith, ints))
up_is (negsuc a) (pos k) (pos s) b e lo hi = absurd (omega (arith, ints))
up_is (negsuc a) (negsuc k) (pos s) b e lo hi =
    let most : s ≤ b = omega (arith, ints) in let below : b - s < suc b = omega arith in let is : k * suc b + (b - s) ≡ a = omega (arith, ints) in
    ap (λ m. negsuc (m / suc b)) (sym is) ∙ ap negsuc (div-mul-add k (suc b) (b - s) below)

signs_turned : (x : ℤ) (b : ℕ) → floor_quotient x (negsuc b) ≡ floor_quotient (neg_ℤ x) (pos (suc b))
signs_turned (pos zero) b = omega (arith, ints)
signs_turned (pos (suc a)) b = refl
signs_turned (negsuc a) b = refl

product_turned : (x q r : ℤ) (b : ℕ) → q *ℤ negsuc b +ℤ r ≡ x → q *ℤ pos (suc b) +ℤ neg_ℤ r ≡ neg_ℤ x
product_turned x q r b e = omega (arith, ints)

-- the same for a y below 0
down_is : (x q r : ℤ) (b : ℕ) → q *ℤ negsuc b +ℤ r ≡ x → r ≤ℤ pos 0 → neg_ℤ (pos b) ≤ℤ r → floor_quotient x (negsuc b) ≡ q
down_is x q r b e lo hi = signs_turned x b ∙ up_is (neg_ℤ x) q (neg_ℤ r) b (product_turned x q r b e) (omega (arith, ints)) (omega (arith, ints))

one_back : (k : ℕ) → pos (suc k) -ℤ pos 1 ≡ pos k
one_back k = omega (arith, ints)

product_less : (q y : ℤ) → (q -ℤ pos 1) *ℤ y ≡ q *ℤ y -ℤ y
product_less (pos zero) (pos b) = omega (arith, ints)
product_less (pos zero) (negsuc b) = omega (arith, ints)
product_less (pos (suc k)) (pos b) = ap (λ n. n *ℤ pos b) (one_back k) ∙ omega (arith, ints)
product_less (pos (suc k)) (negsuc b) = ap (λ n. n *ℤ negsuc b) (one_back k) ∙ omega (arith, ints)
product_less (negsuc k) (pos b) = omega (arith, ints)
product_less (negsuc k) (negsuc b) = omega (arith, ints)

moved_over : (p r y x : ℤ) → p +ℤ r ≡ x → (p -ℤ y) +ℤ (r +ℤ y) ≡ x
moved_over p r y x e = omega (arith, ints)

one_less : (x y q r : ℤ) → q *ℤ y +ℤ r ≡ x → (q -ℤ pos 1) *ℤ y +ℤ (r +ℤ y) ≡ x
one_less x y q r e = ap (λ p. p +ℤ (r +ℤ y)) (product_less q y) ∙ moved_over (q *ℤ y) r y x e

-- a quotient that leaves nothing, or a rest of the divisor's sign, is rounded down
pub is_floor : (x y q r : ℤ) → (y ≡ pos 0 → ⊥) → q *ℤ y +ℤ r ≡ x → unsigned_abs r < unsigned_abs y → pos 0 ≤ℤ (r *ℤ y) → q ≡ floor_quotient x y
is_floor x (pos zero) q r some e less same = absurd (some refl)
is_floor x (pos (suc b)) q (pos s) some e less same = sym (up_is x q (pos s) b e (omega (arith, ints)) (omega (arith, ints)))
is_floor x (pos (suc b)) q (negsuc s) some e less same = absurd (omega (arith, ints))
is_floor x (negsuc b) q (pos zero) some e less same = sym (down_is x q (pos zero) b e (omega (arith, ints)) (omega (arith, ints)))
is_floor x (negsuc b) q (pos (suc s)) some e less same = absurd (omega (arith, ints))
is_floor x (negsuc b) q (negsuc s) some e less same = sym (down_is x q (negsuc s) b e (omega (arith, ints)) (omega (arith, ints)))

-- and otherwise it is one too many
pub is_above_floor : (x y q r : ℤ) → q *ℤ y +ℤ r ≡ x → unsigned_abs r < unsigned_abs y → (r *ℤ y) <ℤ pos 0 → q -ℤ pos 1 ≡ floor_quotient x y
is_above_floor x (pos zero) q r e less turned = absurd (omega (arith, ints))
is_above_floor x (pos (suc b)) q (pos s) e less turned = absurd (omega (arith, ints))
is_above_floor x (pos (suc b)) q (negsuc s) e less turned = sym (up_is x (q -ℤ pos 1) (negsuc s +ℤ pos (suc b)) b (one_less x (pos (suc b)) q (negsuc s) e) (omega (arith, ints)) (omega (arith, ints)))
is_above_floor x (negsuc b) q (pos zero) e less turned = absurd (omega (arith, ints))
is_above_floor x (negsuc b) q (pos (suc s)) e less turned = sym (down_is x (q -ℤ pos 1) (pos (suc s) +ℤ negsuc b) b (one_less x (negsuc b) q (pos (suc s)) e) (omega (arith, ints)) (omega (arith, ints)))
is_above_floor x (negsuc b) q (negsuc s) e less turned = absurd (omega (arith, ints))

-- ---- what the code's `/` and `%` give

abs_neg : (n : ℕ) → unsigned_abs (neg_ℤ (pos n)) ≡ n
abs_neg zero = refl
abs_neg (suc n) = refl

wide : (a b m : ℕ) → a < m → suc a < m * suc (suc b)
wide a b m less = omega arith

-- a quotient fits its width, but for that of the least number by -1
quotient_fits : (w : Width) (a d : ℤ) → FitsSigned w a → (d ≡ pos 0 → ⊥) → (d ≡ negsuc 0 → ⊥) → FitsSigned w (int_div a d)
quotient_fits w a (pos zero) f some fits = absurd (some refl)
quotient_fits w a (pos (suc b)) f some fits = quot_fits w a (pos (suc b)) f (omega (arith, ints))
quotient_fits w a (negsuc zero) f some fits = absurd (fits refl)
quotient_fits w (pos a) (negsuc (suc b)) f some fits = fits_signed_from_abs w _ (omega (arith, abs_neg (a / suc (suc b)), div-le_self a (suc (suc b)), f.sfits))
quotient_fits w (negsuc a) (negsuc (suc b)) f some fits = record { sfits = div_below (suc a) (suc (suc b)) (2 ^ hbits w) (omega arith) (wide a b (2 ^ hbits w) f.sfits) }

some_abs : (y : ℤ) → (y ≡ pos 0 → ⊥) → 0 < unsigned_abs y
some_abs (pos zero) some = absurd (some refl)
some_abs (pos (suc b)) some = omega arith
some_abs (negsuc b) some = omega arith

left_below : (x y l : ℤ) → (y ≡ pos 0 → ⊥) → l ≡ int_rem x y → unsigned_abs l < unsigned_abs y
left_below x y l some is = subst (λ r. unsigned_abs r < unsigned_abs y) (sym is) (rem_below x y (some_abs y some))

made : (x y q l : ℤ) → q ≡ int_div x y → l ≡ int_rem x y → q *ℤ y +ℤ l ≡ x
made x y q l is_q is_l = (λ i. is_q i *ℤ y +ℤ is_l i) ∙ quot-rem x y

quotient_is : (w : Width) (x y q : ℤ) → FitsSigned w x → FitsSigned w y → (y ≡ pos 0 → ⊥) → (y ≡ negsuc 0 → ⊥) → q ≡ to_z w (of_z w (int_div (to_z w (of_z w x)) (to_z w (of_z w y)))) → q ≡ int_div x y
quotient_is w x y q fx fy some fits e = e ∙ quot_is w x y fx fy (quotient_fits w x y fx some fits)

left_is : (w : Width) (x y l : ℤ) → FitsSigned w x → FitsSigned w y → l ≡ to_z w (of_z w (int_rem (to_z w (of_z w x)) (to_z w (of_z w y)))) → l ≡ int_rem x y
left_is w x y l fx fy e = e ∙ rem_is w x y fx fy

-- q and l are what `x / y` and `x % y` give
pub floor_of : (w : Width) (x y q l : ℤ) → FitsSigned w x → FitsSigned w y → (y ≡ pos 0 → ⊥) → (y ≡ negsuc 0 → ⊥) → q ≡ to_z w (of_z w (int_div (to_z w (of_z w x)) (to_z w (of_z w y)))) → l ≡ to_z w (of_z w (int_rem (to_z w (of_z w x)) (to_z w (of_z w y)))) → pos 0 ≤ℤ (l *ℤ y) → q ≡ floor_quotient x y
floor_of w x y q l fx fy some fits eq el same =
    let is_l = left_is w x y l fx fy el in
    is_floor x y q l some (made x y q l (quotient_is w x y q fx fy some fits eq) is_l) (left_below x y l some is_l) same

pub floor_below : (w : Width) (x y q l : ℤ) → FitsSigned w x → FitsSigned w y → (y ≡ pos 0 → ⊥) → (y ≡ negsuc 0 → ⊥) → q ≡ to_z w (of_z w (int_div (to_z w (of_z w x)) (to_z w (of_z w y)))) → l ≡ to_z w (of_z w (int_rem (to_z w (of_z w x)) (to_z w (of_z w y)))) → (l *ℤ y) <ℤ pos 0 → q -ℤ pos 1 ≡ floor_quotient x y
floor_below w x y q l fx fy some fits eq el turned =
    let is_l = left_is w x y l fx fy el in
    is_above_floor x y q l (made x y q l (quotient_is w x y q fx fy some fits eq) is_l) (left_below x y l some is_l) turned

left_over : (x y q l : ℤ) → q *ℤ y +ℤ l ≡ x → l ≡ x -ℤ y *ℤ q
left_over x y q l e = omega (arith, ints)

left_over_more : (x y q l : ℤ) → q *ℤ y +ℤ l ≡ x → l +ℤ y ≡ x -ℤ y *ℤ (q -ℤ pos 1)
left_over_more x y q l e = left_over x y (q -ℤ pos 1) (l +ℤ y) (one_less x y q l e)

pub rest_of : (w : Width) (x y l : ℤ) → FitsSigned w x → FitsSigned w y → (y ≡ pos 0 → ⊥) → l ≡ to_z w (of_z w (int_rem (to_z w (of_z w x)) (to_z w (of_z w y)))) → pos 0 ≤ℤ (l *ℤ y) → l ≡ x -ℤ y *ℤ floor_quotient x y
rest_of w x y l fx fy some el same =
    let is_l = left_is w x y l fx fy el in let e = made x y (int_div x y) l refl is_l in
    left_over x y (int_div x y) l e ∙ ap (λ q. x -ℤ y *ℤ q) (is_floor x y (int_div x y) l some e (left_below x y l some is_l) same)

pub rest_above : (w : Width) (x y l : ℤ) → FitsSigned w x → FitsSigned w y → (y ≡ pos 0 → ⊥) → l ≡ to_z w (of_z w (int_rem (to_z w (of_z w x)) (to_z w (of_z w y)))) → (l *ℤ y) <ℤ pos 0 → l +ℤ y ≡ x -ℤ y *ℤ floor_quotient x y
rest_above w x y l fx fy some el turned =
    let is_l = left_is w x y l fx fy el in let e = made x y (int_div x y) l refl is_l in
    left_over_more x y (int_div x y) l e ∙ ap (λ q. x -ℤ y *ℤ q) (is_above_floor x y (int_div x y) l e (left_below x y l some is_l) turned)

-- ---- the same in the code's words: the width w is that of the division, and v that of what it is compared in

differ : true ≡ false → ⊥
differ e = cc

below_zero : (n : ℤ) → lt_z n (pos 0) ≡ true → n <ℤ pos 0
below_zero (pos zero) e = absurd (differ (sym e))
below_zero (pos (suc n)) e = let h : lt_z (pos (suc n)) (pos 0) ≡ false = grind (arith, ints) in absurd (differ (sym e ∙ h))
below_zero (negsuc n) e = omega (arith, ints)

not_below_zero : (n : ℤ) → lt_z n (pos 0) ≡ false → pos 0 ≤ℤ n
not_below_zero (pos n) e = omega (arith, ints)
not_below_zero (negsuc n) e = absurd (differ e)

product_fits : (w v : Width) (l y : ℤ) → FitsSigned w l → FitsSigned w y → 2 ^ hbits w * 2 ^ hbits w < 2 ^ hbits v → FitsSigned v (l *ℤ y)
product_fits w v l y fl fy room = fits_signed_mul v l y (2 ^ hbits w) (2 ^ hbits w) (nat_abs-le l fl.sfits) (nat_abs-le y fy.sfits) room

rest_fits : (w : Width) (x y l : ℤ) → FitsSigned w x → l ≡ int_rem x y → FitsSigned w l
rest_fits w x y l fx is = subst (FitsSigned w) (sym is) (record { sfits = omega (arith, mag_rem x y, fx.sfits) })

less_fits : (w v : Width) (q : ℤ) → FitsSigned w q → 2 ^ hbits w < 2 ^ hbits v → FitsSigned v (q -ℤ pos 1)
less_fits w v (pos zero) f room = record { sfits = omega (arith, room) }
less_fits w v (pos (suc n)) f room = subst (FitsSigned v) (sym (one_back n)) (record { sfits = omega (arith, room, f.sfits) })
less_fits w v (negsuc n) f room = record { sfits = omega (arith, room, f.sfits) }

sum_between : (h l y : ℕ) (z : ℤ) → z ≡ pos l +ℤ negsuc y → l < h → y < h → mag z < h
sum_between h l y (pos n) e less less' = let most : n ≤ l = omega (arith, ints) in omega arith
sum_between h l y (negsuc n) e less less' = let most : n ≤ y = omega (arith, ints) in omega arith

sum_turned : (l y : ℕ) → negsuc l +ℤ pos y ≡ pos y +ℤ negsuc l
sum_turned l y = omega (arith, ints)

sum_fits : (w v : Width) (l y : ℤ) → FitsSigned w l → FitsSigned w y → 2 ^ hbits w + 2 ^ hbits w ≤ 2 ^ hbits v → FitsSigned v (l +ℤ y)
sum_fits w v (pos l) (pos y) fl fy room = record { sfits = omega (arith, fl.sfits, fy.sfits) }
sum_fits w v (pos l) (negsuc y) fl fy room = record { sfits = sum_between (2 ^ hbits v) l y _ refl (omega (arith, fl.sfits)) (omega (arith, fy.sfits)) }
sum_fits w v (negsuc l) (pos y) fl fy room = record { sfits = sum_between (2 ^ hbits v) y l _ (sum_turned l y) (omega (arith, fy.sfits)) (omega (arith, fl.sfits)) }
sum_fits w v (negsuc l) (negsuc y) fl fy room = record { sfits = omega (arith, fl.sfits, fy.sfits) }

-- an operation on l and d, which is y, in the code's words
both_are : (v : Width) (f : ℤ → ℤ → ℤ) (y l d : ℤ) → d ≡ y → FitsSigned v l → FitsSigned v d → FitsSigned v (f l y) → to_z v (of_z v (f (to_z v (of_z v l)) (to_z v (of_z v d)))) ≡ f l y
both_are v f y l d is fl fd fits = (λ i. to_z v (of_z v (f (to_z-of_z v l fl i) (to_z-of_z v d fd i)))) ∙ (λ i. to_z v (of_z v (f l (is i)))) ∙ to_z-of_z v (f l y) fits

pub product_is : (w v : Width) (x y l d : ℤ) → FitsSigned w x → FitsSigned w y → l ≡ to_z w (of_z w (int_rem (to_z w (of_z w x)) (to_z w (of_z w y)))) → d ≡ to_z w (of_z w y) → FitsSigned v l → FitsSigned v d → 2 ^ hbits w * 2 ^ hbits w < 2 ^ hbits v → to_z v (of_z v (to_z v (of_z v l) *ℤ to_z v (of_z v d))) ≡ l *ℤ y
product_is w v x y l d fx fy el ed fl fd room = both_are v (λ m n. m *ℤ n) y l d (ed ∙ to_z-of_z w y fy) fl fd (product_fits w v l y (rest_fits w x y l fx (left_is w x y l fx fy el)) fy room)

-- the product of what is left and the divisor doesn't overflow
pub product_in : (w v : Width) (x y l d : ℤ) → FitsSigned w x → FitsSigned w y → l ≡ to_z w (of_z w (int_rem (to_z w (of_z w x)) (to_z w (of_z w y)))) → d ≡ to_z w (of_z w y) → FitsSigned v l → FitsSigned v d → 2 ^ hbits w * 2 ^ hbits w < 2 ^ hbits v → FitsSigned v (to_z v (of_z v l) *ℤ to_z v (of_z v d))
product_in w v x y l d fx fy el ed fl fd room =
    let fits = product_fits w v l y (rest_fits w x y l fx (left_is w x y l fx fy el)) fy room in
    subst (FitsSigned v) (sym ((λ i. to_z-of_z v l fl i *ℤ to_z-of_z v d fd i) ∙ (λ i. l *ℤ (ed ∙ to_z-of_z w y fy) i))) fits

pub floor_here : (w v : Width) (x y q l p : ℤ) → FitsSigned w x → FitsSigned w y → (y ≡ pos 0 → ⊥) → (y ≡ negsuc 0 → ⊥) → q ≡ to_z w (of_z w (int_div (to_z w (of_z w x)) (to_z w (of_z w y)))) → l ≡ to_z w (of_z w (int_rem (to_z w (of_z w x)) (to_z w (of_z w y)))) → FitsSigned v q → p ≡ l *ℤ y → lt_z p (pos 0) ≡ false → to_z v (of_z v q) ≡ floor_quotient x y
floor_here w v x y q l p fx fy some fits eq el fq is e = to_z-of_z v q fq ∙ floor_of w x y q l fx fy some fits eq el (not_below_zero _ (ap (λ n. lt_z n (pos 0)) (sym is) ∙ e))

pub floor_one_less : (w v : Width) (x y q l p : ℤ) → FitsSigned w x → FitsSigned w y → (y ≡ pos 0 → ⊥) → (y ≡ negsuc 0 → ⊥) → q ≡ to_z w (of_z w (int_div (to_z w (of_z w x)) (to_z w (of_z w y)))) → l ≡ to_z w (of_z w (int_rem (to_z w (of_z w x)) (to_z w (of_z w y)))) → FitsSigned v q → p ≡ l *ℤ y → lt_z p (pos 0) ≡ true → 2 ^ hbits w < 2 ^ hbits v → to_z v (of_z v (to_z v (of_z v q) -ℤ pos 1)) ≡ floor_quotient x y
floor_one_less w v x y q l p fx fy some fits eq el fq is e room =
    let fits_one_less = less_fits w v q (subst (FitsSigned w) (sym (quotient_is w x y q fx fy some fits eq)) (quotient_fits w x y fx some fits)) room in
    (λ i. to_z v (of_z v (to_z-of_z v q fq i -ℤ pos 1))) ∙ to_z-of_z v (q -ℤ pos 1) fits_one_less ∙ floor_below w x y q l fx fy some fits eq el (below_zero _ (ap (λ n. lt_z n (pos 0)) (sym is) ∙ e))

pub rest_here : (w v : Width) (x y l p : ℤ) → FitsSigned w x → FitsSigned w y → (y ≡ pos 0 → ⊥) → l ≡ to_z w (of_z w (int_rem (to_z w (of_z w x)) (to_z w (of_z w y)))) → FitsSigned v l → p ≡ l *ℤ y → lt_z p (pos 0) ≡ false → to_z v (of_z v l) ≡ x -ℤ y *ℤ floor_quotient x y
rest_here w v x y l p fx fy some el fl is e = to_z-of_z v l fl ∙ rest_of w x y l fx fy some el (not_below_zero _ (ap (λ n. lt_z n (pos 0)) (sym is) ∙ e))

pub rest_and_divisor : (w v : Width) (x y l d p : ℤ) → FitsSigned w x → FitsSigned w y → (y ≡ pos 0 → ⊥) → l ≡ to_z w (of_z w (int_rem (to_z w (of_z w x)) (to_z w (of_z w y)))) → d ≡ to_z w (of_z w y) → FitsSigned v l → FitsSigned v d → p ≡ l *ℤ y → lt_z p (pos 0) ≡ true → 2 ^ hbits w + 2 ^ hbits w ≤ 2 ^ hbits v → to_z v (of_z v (to_z v (of_z v l) +ℤ to_z v (of_z v d))) ≡ x -ℤ y *ℤ floor_quotient x y
rest_and_divisor w v x y l d p fx fy some el ed fl fd is e room =
    let fits = sum_fits w v l y (rest_fits w x y l fx (left_is w x y l fx fy el)) fy room in
    both_are v (λ m n. m +ℤ n) y l d (ed ∙ to_z-of_z w y fy) fl fd fits ∙ rest_above w x y l fx fy some el (below_zero _ (ap (λ n. lt_z n (pos 0)) (sym is) ∙ e))
