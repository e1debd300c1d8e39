-- Folds of a row of cells, one cell after the other.
use Rattle.std.proofs.Common.{◌≡◌, ◌+◌, ℕ, ℤ, ◌+ℤ◌, ◌*ℤ◌, List, [], ◌∷◌, map, drop, zip, Option, Some, None, refl, sym, ap, ◌∙◌}
use Rattle.std.specs.Int.{int_wrap, w64}
use Rattle.std.proofs.lemmas.Int.{int_wrap-add_left, int_wrap-add_right, int_wrap-mul_left, int_wrap-mul_right}
use Rattle.xr_arrays.specs.Arrays.{cell}
use Rattle.xr_arrays.specs.Folds.{numbers, present, numbered, sum_of}
use Rattle.xr_arrays.proofs.Folds.{add_assoc_ℤ, mul_assoc_ℤ}
use Rattle.plan_core.specs.Rows.{those}

pub those_pairs : (cells : List (ℕ × Option ℤ)) → numbers (present cells) ≡ those (map (λ c. c.1) cells)
those_pairs [] = refl
those_pairs ((p, None) ∷ cells) = those_pairs cells
those_pairs ((p, Some x) ∷ cells) = ap (λ xs. x ∷ xs) (those_pairs cells)

pub sum_step : (s n r : ℤ) → int_wrap w64 (int_wrap w64 (s +ℤ int_wrap w64 n) +ℤ r) ≡ int_wrap w64 (s +ℤ (n +ℤ r))
sum_step s n r =
    let m = int_wrap w64 n in
    int_wrap-add_left w64 (s +ℤ m) r ∙ ap (int_wrap w64) (sym (add_assoc_ℤ s m r)) ∙ sym (int_wrap-add_right w64 s (m +ℤ r)) ∙ ap (λ k. int_wrap w64 (s +ℤ k)) (int_wrap-add_left w64 n r) ∙ int_wrap-add_right w64 s (n +ℤ r)

-- the sum with one element more
pub sum_more : {X : Type 0} (number : X → ℤ) (xs : List X) (i : ℕ) (x : X) (before now base : ℤ) → drop i xs ≡ x ∷ drop (i + 1) xs → ((rest : ℤ) → int_wrap w64 (now +ℤ rest) ≡ int_wrap w64 (before +ℤ (number x +ℤ rest)))
    → int_wrap w64 (before +ℤ sum_of (map number (drop i xs))) ≡ base → int_wrap w64 (now +ℤ sum_of (map number (drop (i + 1) xs))) ≡ base
sum_more number xs i x before now base first more so_far = more (sum_of (map number (drop (i + 1) xs))) ∙ ap (λ ys. int_wrap w64 (before +ℤ sum_of (map number ys))) (sym first) ∙ so_far

pub masked_more : {X : Type 0} (number : X → ℤ) (xs : List X) (bytes : List ℕ) (i : ℕ) (x : X) (byte : ℕ) (before now base : ℤ) → drop i xs ≡ x ∷ drop (i + 1) xs → drop i bytes ≡ byte ∷ drop (i + 1) bytes
    → ((rest : List (Option ℤ)) → int_wrap w64 (now +ℤ sum_of (those rest)) ≡ int_wrap w64 (before +ℤ sum_of (those (cell (number x, byte) ∷ rest)))) → int_wrap w64 (before +ℤ sum_of (those (map cell (zip (map number (drop i xs)) (drop i bytes))))) ≡ base
    → int_wrap w64 (now +ℤ sum_of (those (map cell (zip (map number (drop (i + 1) xs)) (drop (i + 1) bytes))))) ≡ base
masked_more number xs bytes i x byte before now base first first_byte more so_far =
    more (map cell (zip (map number (drop (i + 1) xs)) (drop (i + 1) bytes))) ∙ ap (λ ys. int_wrap w64 (before +ℤ sum_of (those (map cell (zip (map number ys) (byte ∷ drop (i + 1) bytes)))))) (sym first)
    ∙ ap (λ bs. int_wrap w64 (before +ℤ sum_of (those (map cell (zip (map number (drop i xs)) bs))))) (sym first_byte) ∙ so_far

pub those_bare : (xs : List ℤ) → those (map Some xs) ≡ xs
those_bare [] = refl
those_bare (x ∷ xs) = ap (λ t. x ∷ t) (those_bare xs)
