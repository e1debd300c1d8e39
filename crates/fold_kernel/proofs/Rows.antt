-- The cells of a masked run.
use Rattle.std.proofs.Common.{◌≡◌, ◌==◌, ◌≢◌, ◌<◌, ◌+◌, ℕ, ℤ, suc, zero, min, Bool, true, false, List, [], ◌∷◌, map, length, take, get_or, Option, Some, None, option_map, if◌then◌else◌, arith, ap, refl, sym, ◌∙◌}
use Rattle.std.proofs.Math.Dec.{eqb-suc-zero}
use Rattle.xr_arrays.specs.Arrays.{hidden}
use Rattle.fold_kernel.specs.Rows.{shown, filled, placed, count_shown, zeros}

pub length_shown : {T : Type 0} (xs : List T) (mask : List ℕ) → length (shown xs mask) ≡ min (length xs) (length mask)
length_shown [] mask = omega arith
length_shown (x ∷ xs) [] = omega arith
length_shown (x ∷ xs) (m ∷ mask) = omega (arith, length_shown xs mask)

pub get_or_shown : {T : Type 0} (xs : List T) (mask : List ℕ) (i : ℕ) (d : Option T) (e : T) (n : ℕ) → i < length xs → i < length mask → get_or (shown xs mask) i d ≡ (if get_or mask i n == 0 then Some (get_or xs i e) else None)
get_or_shown [] mask i d e n h k = absurd (omega arith)
get_or_shown (x ∷ xs) [] i d e n h k = absurd (omega arith)
get_or_shown (x ∷ xs) (m ∷ mask) zero d e n h k = refl
get_or_shown (x ∷ xs) (m ∷ mask) (suc i) d e n h k = get_or_shown xs mask i d e n (omega arith) (omega arith)

pub shown_there : {T : Type 0} (xs : List T) (mask : List ℕ) (i : ℕ) (e : T) (n : ℕ) (h : i < length (shown xs mask)) → get_or mask i n ≡ 0 → Some (get_or xs i e) ≡ get_or (shown xs mask) i (Some (get_or xs i e))
shown_there xs mask i e n h z = sym (get_or_shown xs mask i (Some (get_or xs i e)) e n (omega (arith, length_shown xs mask)) (omega (arith, length_shown xs mask)) ∙ rw z refl)

pub shown_missing : {T : Type 0} (xs : List T) (mask : List ℕ) (i : ℕ) → i < length (shown xs mask) → get_or mask i 0 ≢ 0 → None ≡ get_or (shown xs mask) i None
shown_missing [] mask i h z = absurd (omega arith)
shown_missing (x ∷ xs) [] i h z = absurd (omega arith)
shown_missing (x ∷ xs) (zero ∷ mask) zero h z = absurd (z refl)
shown_missing (x ∷ xs) (suc m ∷ mask) zero h z = let e : (suc m == 0) ≡ false = eqb-suc-zero m in rw e refl
shown_missing (x ∷ xs) (m ∷ mask) (suc i) h z = shown_missing xs mask i (omega arith) z

pub length_placed : {T : Type 0} (number : T → ℤ) (first : ℕ) (items : List (Option T)) → length (placed number first items) ≡ length items
length_placed number first [] = refl
length_placed number first (c ∷ items) = ap suc (length_placed number (first + 1) items)

-- the numbers of a run, without a mask and with one
pub whole_run : {T : Type 0} (number : T → ℤ) (xs : List T) → map (option_map number) (map Some xs) ≡ hidden (map number xs) None
whole_run number [] = refl
whole_run number (x ∷ xs) = ap (λ cs. Some (number x) ∷ cs) (whole_run number xs)

number_if : {T : Type 0} (number : T → ℤ) (b : Bool) (x : T) → option_map number (if b then Some x else None) ≡ (if b then Some (number x) else None)
number_if number true x = refl
number_if number false x = refl

cons_both : (c d : Option ℤ) (cs ds : List (Option ℤ)) → c ≡ d → cs ≡ ds → c ∷ cs ≡ d ∷ ds
cons_both c d cs ds e f = ap (λ v. v ∷ cs) e ∙ ap (λ v. d ∷ v) f

pub masked_run : {T : Type 0} (number : T → ℤ) (xs : List T) (mask : List ℕ) → map (option_map number) (shown xs mask) ≡ hidden (map number xs) (Some mask)
masked_run number [] mask = refl
masked_run number (x ∷ xs) [] = refl
masked_run number (x ∷ xs) (m ∷ mask) = cons_both _ _ _ _ (number_if number (m == 0) x) (masked_run number xs mask)

-- ---- runs with another cell in the place of each missing one

pub length_filled : {T : Type 0} (o : T) (items : List (Option T)) → length (filled o items) ≡ length items
length_filled o [] = refl
length_filled o (None ∷ items) = ap suc (length_filled o items)
length_filled o (Some x ∷ items) = ap suc (length_filled o items)

pub filled_again : {T : Type 0} (p o : T) (items : List (Option T)) → filled p (filled o items) ≡ filled o items
filled_again p o [] = refl
filled_again p o (None ∷ items) = ap (λ c. Some o ∷ c) (filled_again p o items)
filled_again p o (Some x ∷ items) = ap (λ c. Some x ∷ c) (filled_again p o items)

pub filled_at : {T : Type 0} (o : T) (xs : List T) (mask : List ℕ) (i : ℕ) (e : T) (n : ℕ) → i < length (shown xs mask)
    → Some (if get_or mask i n == 0 then get_or xs i e else o) ≡ get_or (filled o (shown xs mask)) i (Some (if get_or mask i n == 0 then get_or xs i e else o))
filled_at o [] mask i e n h = absurd (omega arith)
filled_at o (x ∷ xs) [] i e n h = absurd (omega arith)
filled_at o (x ∷ xs) (zero ∷ mask) zero e n h = refl
filled_at o (x ∷ xs) (suc m ∷ mask) zero e n h = let b : (suc m == 0) ≡ false = eqb-suc-zero m in rw b refl
filled_at o (x ∷ xs) (zero ∷ mask) (suc i) e n h = filled_at o xs mask i e n (omega arith)
filled_at o (x ∷ xs) (suc m ∷ mask) (suc i) e n h = let b : (suc m == 0) ≡ false = eqb-suc-zero m in rw b (filled_at o xs mask i e n (omega arith))

pub whole_there : {T : Type 0} (o : T) (xs : List T) (i : ℕ) (e : T) → i < length (map Some xs) → Some (get_or xs i e) ≡ get_or (filled o (map Some xs)) i (Some (get_or xs i e))
whole_there o [] i e h = absurd (omega arith)
whole_there o (x ∷ xs) zero e h = refl
whole_there o (x ∷ xs) (suc i) e h = whole_there o xs i e (omega arith)

-- ---- how many cells are present

pub count_filled : {T : Type 0} (o : T) (items : List (Option T)) → count_shown (filled o items) ≡ length items
count_filled o [] = refl
count_filled o (None ∷ items) = ap suc (count_filled o items)
count_filled o (Some x ∷ items) = ap suc (count_filled o items)

pub count_whole : {T : Type 0} (xs : List T) → count_shown (map Some xs) ≡ length xs
count_whole [] = refl
count_whole (x ∷ xs) = ap suc (count_whole xs)

count_if : {T : Type 0} (b : Bool) (x : T) (cells : List (Option T)) → count_shown ((if b then Some x else None) ∷ cells) ≡ (if b then 1 else 0) + count_shown cells
count_if true x cells = omega arith
count_if false x cells = omega arith

pub count_masked : {T : Type 0} (xs : List T) (mask : List ℕ) (n : ℕ) → n ≡ length (shown xs mask) → count_shown (shown xs mask) ≡ zeros (take n mask)
count_masked [] mask zero e = refl
count_masked [] mask (suc n) e = absurd (omega arith)
count_masked (x ∷ xs) [] zero e = refl
count_masked (x ∷ xs) [] (suc n) e = absurd (omega arith)
count_masked (x ∷ xs) (m ∷ mask) zero e = absurd (omega arith)
count_masked (x ∷ xs) (m ∷ mask) (suc n) e = count_if (m == 0) x (shown xs mask) ∙ ap (λ k. (if m == 0 then 1 else 0) + k) (count_masked xs mask n (omega arith))
