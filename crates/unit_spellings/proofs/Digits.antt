-- Numbers of two and of four digits, as they are read by their places.
use Rattle.std.proofs.Common.{◌≡◌, ◌&&◌, ℕ, ◌+◌, ◌-◌, ◌*◌, ◌≤◌, true, List, [], ◌∷◌, length, refl, arith, nat_le}
use Rattle.std.specs.Char.{digit_value}
use Rattle.std.proofs.lemmas.Bool.{and_parts, and_from, leb-true, lt-ltb, le-ltb}
use Rattle.xr_times.specs.Times.{is_digit}
use Rattle.unit_spellings.specs.Spellings.{AreDigits, number}

-- ---- lists of a length

pub on_two : (P : List ℕ → Type 0) → ((a b : ℕ) → P (a ∷ b ∷ [])) → (t : List ℕ) → length t ≡ 2 → P t
on_two P f [] e = absurd (omega arith)
on_two P f (a ∷ []) e = absurd (omega arith)
on_two P f (a ∷ b ∷ []) e = f a b
on_two P f (a ∷ b ∷ c ∷ t) e = absurd (omega arith)

pub on_three : (n : ℕ) (P : List ℕ → Type 0) → ((x a b : ℕ) (r : List ℕ) → length r ≡ n → P (x ∷ a ∷ b ∷ r)) → (t : List ℕ) → length t ≡ 3 + n → P t
on_three n P f [] e = absurd (omega arith)
on_three n P f (a ∷ []) e = absurd (omega arith)
on_three n P f (a ∷ b ∷ []) e = absurd (omega arith)
on_three n P f (x ∷ a ∷ b ∷ r) e = f x a b r (omega arith)

pub on_four : (n : ℕ) (P : List ℕ → Type 0) → ((a b c d : ℕ) (r : List ℕ) → length r ≡ n → P (a ∷ b ∷ c ∷ d ∷ r)) → (t : List ℕ) → length t ≡ 4 + n → P t
on_four n P f [] e = absurd (omega arith)
on_four n P f (a ∷ []) e = absurd (omega arith)
on_four n P f (a ∷ b ∷ []) e = absurd (omega arith)
on_four n P f (a ∷ b ∷ c ∷ []) e = absurd (omega arith)
on_four n P f (a ∷ b ∷ c ∷ d ∷ r) e = f a b c d r (omega arith)

pub on_none : (P : List ℕ → Type 0) → P [] → (t : List ℕ) → length t ≡ 0 → P t
on_none P f [] e = f
on_none P f (a ∷ t) e = absurd (omega arith)

pub on_seven : (P : List ℕ → Type 0) → ((a b c d x e f : ℕ) → P (a ∷ b ∷ c ∷ d ∷ x ∷ e ∷ f ∷ [])) → (t : List ℕ) → length t ≡ 7 → P t
on_seven P made t h =
    on_four 3 P (λ a b c d r k. on_three 0 (λ q. P (a ∷ b ∷ c ∷ d ∷ q)) (λ x e f r k. on_none (λ q. P (a ∷ b ∷ c ∷ d ∷ x ∷ e ∷ f ∷ q)) (made a b c d x e f) r k) r k) t h

pub on_ten : (P : List ℕ → Type 0) → ((a b c d x e f y g h : ℕ) → P (a ∷ b ∷ c ∷ d ∷ x ∷ e ∷ f ∷ y ∷ g ∷ h ∷ [])) → (t : List ℕ) → length t ≡ 10 → P t
on_ten P made t h =
    on_four 6 P (λ a b c d r k. on_three 3 (λ q. P (a ∷ b ∷ c ∷ d ∷ q)) (λ x e f r k. on_three 0 (λ q. P (a ∷ b ∷ c ∷ d ∷ x ∷ e ∷ f ∷ q)) (λ y g h r k.
    on_none (λ q. P (a ∷ b ∷ c ∷ d ∷ x ∷ e ∷ f ∷ y ∷ g ∷ h ∷ q)) (made a b c d x e f y g h) r k) r k) r k) t h

-- nine more behind ten
on_nine : (P : List ℕ → Type 0) → ((z i j u k l v m n : ℕ) → P (z ∷ i ∷ j ∷ u ∷ k ∷ l ∷ v ∷ m ∷ n ∷ [])) → (t : List ℕ) → length t ≡ 9 → P t
on_nine P made t h =
    on_three 6 P (λ z i j r k. on_three 3 (λ q. P (z ∷ i ∷ j ∷ q)) (λ u a b r k. on_three 0 (λ q. P (z ∷ i ∷ j ∷ u ∷ a ∷ b ∷ q)) (λ v m n r k.
    on_none (λ q. P (z ∷ i ∷ j ∷ u ∷ a ∷ b ∷ v ∷ m ∷ n ∷ q)) (made z i j u a b v m n) r k) r k) r k) t h

pub on_nineteen : (P : List ℕ → Type 0) → ((a b c d x e f y g h z i j u k l v m n : ℕ) → P (a ∷ b ∷ c ∷ d ∷ x ∷ e ∷ f ∷ y ∷ g ∷ h ∷ z ∷ i ∷ j ∷ u ∷ k ∷ l ∷ v ∷ m ∷ n ∷ [])) → (t : List ℕ) → length t ≡ 19 → P t
on_nineteen P made t q =
    on_four 15 P (λ a b c d r o. on_three 12 (λ s. P (a ∷ b ∷ c ∷ d ∷ s)) (λ x e f r o. on_three 9 (λ s. P (a ∷ b ∷ c ∷ d ∷ x ∷ e ∷ f ∷ s)) (λ y g h r o.
    on_nine (λ s. P (a ∷ b ∷ c ∷ d ∷ x ∷ e ∷ f ∷ y ∷ g ∷ h ∷ s)) (made a b c d x e f y g h) r o) r o) r o) t q

pub on_four_alone : (P : List ℕ → Type 0) → ((a b c d : ℕ) → P (a ∷ b ∷ c ∷ d ∷ [])) → (t : List ℕ) → length t ≡ 4 → P t
on_four_alone P made t h = on_four 0 P (λ a b c d r k. on_none (λ q. P (a ∷ b ∷ c ∷ d ∷ q)) (made a b c d) r k) t h

-- ---- digits

pub digit_is : (c : ℕ) → is_digit c ≡ true → digit_value c ≡ c - 48
digit_is c h =
    let g = and_parts (nat_le 48 c) (nat_le c 57) h in
    let low : 48 ≤ c = leb-true 48 c g.0 in
    let high : c ≤ 57 = leb-true c 57 g.1 in
    rw (le-ltb c 48 low, lt-ltb c 58 (omega arith)) refl

abbrev pub two : ℕ → ℕ → ℕ
two a b = 10 * (a - 48) + (b - 48)

pub value_two : (a b : ℕ) → (is_digit a && is_digit b) ≡ true → number (a ∷ b ∷ []) ≡ two a b
value_two a b h =
    let g = and_parts (is_digit a) (is_digit b) h in
    rw (digit_is a g.0, digit_is b g.1) (omega arith)

pub value_four : (a b c d : ℕ) → (is_digit a && is_digit b) ≡ true → (is_digit c && is_digit d) ≡ true → number (a ∷ b ∷ c ∷ d ∷ []) ≡ 100 * two a b + two c d
value_four a b c d h k =
    let g = and_parts (is_digit a) (is_digit b) h in
    let i = and_parts (is_digit c) (is_digit d) k in
    rw (digit_is a g.0, digit_is b g.1, digit_is c i.0, digit_is d i.1) (omega arith)

pub digits_two : (a b : ℕ) → (is_digit a && is_digit b) ≡ true → AreDigits 2 2 (a ∷ b ∷ [])
digits_two a b h =
    let g = and_parts (is_digit a) (is_digit b) h in
    record { from = omega arith; to = omega arith; digits = rw (g.0, g.1) refl }

pub digits_four : (a b c d : ℕ) → (is_digit a && is_digit b) ≡ true → (is_digit c && is_digit d) ≡ true → AreDigits 4 4 (a ∷ b ∷ c ∷ d ∷ [])
digits_four a b c d h k =
    let g = and_parts (is_digit a) (is_digit b) h in
    let i = and_parts (is_digit c) (is_digit d) k in
    record { from = omega arith; to = omega arith; digits = rw (g.0, g.1, i.0, i.1) refl }

pub two_digits : (a b : ℕ) → AreDigits 2 2 (a ∷ b ∷ []) → (is_digit a && is_digit b) ≡ true
two_digits a b h =
    let g = and_parts (is_digit a) (is_digit b && true) h.digits in
    let i = and_parts (is_digit b) true g.1 in
    and_from (is_digit a) (is_digit b) g.0 i.0

pub first_digits : (a b c d : ℕ) → AreDigits 4 4 (a ∷ b ∷ c ∷ d ∷ []) → (is_digit a && is_digit b) ≡ true
first_digits a b c d h =
    let g = and_parts (is_digit a) (is_digit b && (is_digit c && (is_digit d && true))) h.digits in
    let i = and_parts (is_digit b) (is_digit c && (is_digit d && true)) g.1 in
    and_from (is_digit a) (is_digit b) g.0 i.0

pub last_digits : (a b c d : ℕ) → AreDigits 4 4 (a ∷ b ∷ c ∷ d ∷ []) → (is_digit c && is_digit d) ≡ true
last_digits a b c d h =
    let g = and_parts (is_digit a) (is_digit b && (is_digit c && (is_digit d && true))) h.digits in
    let i = and_parts (is_digit b) (is_digit c && (is_digit d && true)) g.1 in
    let j = and_parts (is_digit c) (is_digit d && true) i.1 in
    let k = and_parts (is_digit d) true j.1 in
    and_from (is_digit c) (is_digit d) j.0 k.0
