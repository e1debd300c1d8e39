-- Numbers in the range of a kind.
use Rattle.xr_building.proofs.Common.{All, All-cons, All-head, All-nil, All-tail, All-weaker, AllPass-from_list_all, DType, InRange, IsCell, List, None, Option, Some, [], and_parts, arith, high, in_range, int_le, ints, list_all, low, present, true, ℤ, ◌∷◌, ◌≡◌, ◌≤ℤ◌, Int64, Axis, Bool, DoesNotFit, Int, IsDataArray, MatchOption, Number, Numbers, Value, ap, cell, check_numbers, false, fits_whole, get_or, hidden, if◌then◌else◌, is_some, label_total, length, length-map, map, refl, shape_over, size, subst, suc, sym, unless, ℕ, ◌*◌, ◌==◌, ◌∙◌, MeantArray}

pub present_in : (k : DType) (cells : List (Option ℤ)) → All (IsCell k) cells → All (InRange k) (present cells)
present_in k [] all = All-nil (InRange k)
present_in k (None ∷ cells) all = present_in k cells (All-tail (IsCell k) None cells all)
present_in k (Some n ∷ cells) all = All-cons (InRange k) n (present cells) (All-head (IsCell k) (Some n) cells all) (present_in k cells (All-tail (IsCell k) (Some n) cells all))

up_to : (x y : ℤ) → int_le x y ≡ true → x ≤ℤ y
up_to x y is = grind (arith, ints)

pub fits_in_range : (k : DType) (n : ℤ) → in_range k n ≡ true → InRange k n
fits_in_range k n is = let p = and_parts (int_le (low k) n) (int_le n (high k)) is in (up_to (low k) n p.0, up_to n (high k) p.1)

pub fit_in_range : (k : DType) (ns : List ℤ) → list_all (in_range k) ns ≡ true → All (InRange k) ns
fit_in_range k ns all = All-weaker (λ n. in_range k n ≡ true) (InRange k) (fits_in_range k) ns (AllPass-from_list_all (in_range k) ns all)

pub one_in_range : (n : ℤ) → in_range Int64 n ≡ true → All (IsCell Int64) (Some n ∷ [])
one_in_range n is = All-cons (IsCell Int64) (Some n) [] (fits_in_range Int64 n is) (All-nil (IsCell Int64))

-- ---- how many labels arrays give, and numbers that 64 bits hold

-- ---- an array along its dimension

present_whole : (cells : List (Option ℤ)) → All (λ c. is_some c ≡ true) cells → length (present cells) ≡ length cells
present_whole [] all = refl
present_whole (Some n ∷ cells) all = ap suc (present_whole cells (All-tail (λ c. is_some c ≡ true) (Some n) cells all))
present_whole (None ∷ cells) all = absurd (let e = All-head (λ c. is_some c ≡ true) None cells all in cc)

pub along_total : (a : MeantArray) (x : Axis) → IsDataArray a → a.masked ≡ false → length a.axes ≡ 1 → x ≡ get_or a.axes 0 x → x.size ≡ label_total (Numbers a.kind (present a.cells))
along_total a x is bare alone at =
    let whole : length a.cells ≡ x.size = is.cells.whole ∙ one a.axes alone at in
    sym whole ∙ sym (present_whole a.cells (is.cells.seen bare)) ∙ sym (length-map (present a.cells) Int)
  where
    one : (axes : List Axis) → length axes ≡ 1 → x ≡ get_or axes 0 x → size (shape_over axes) ≡ x.size
    one (y ∷ []) long at = ap (λ (z : Axis). z.size * 1) (sym at) ∙ times x.size
      where
        times : (n : ℕ) → n * 1 ≡ n
        times n = omega arith
    one axes long at = absurd (omega arith)

-- ---- the numbers of an array that isn't masked

present_all : (xs : List ℤ) → present (map Some xs) ≡ xs
present_all [] = refl
present_all (x ∷ xs) = ap (λ ys. x ∷ ys) (present_all xs)

masked_all : (xs : List ℤ) (m : List ℕ) → length m ≡ length xs → All (λ c. is_some c ≡ true) (hidden xs (Some m)) → present (hidden xs (Some m)) ≡ xs
masked_all [] m long all = refl
masked_all (x ∷ xs) [] long all = absurd (omega arith)
masked_all (x ∷ xs) (b ∷ m) long all = by (b == 0) (All-head (λ c. is_some c ≡ true) (cell (x, b)) (hidden xs (Some m)) all) (masked_all xs m (omega arith) (All-tail (λ c. is_some c ≡ true) (cell (x, b)) (hidden xs (Some m)) all))
  where
    by : (t : Bool) → is_some (if t then Some x else None) ≡ true → present (hidden xs (Some m)) ≡ xs → present ((if t then Some x else None) ∷ hidden xs (Some m)) ≡ x ∷ xs
    by true e rest = ap (λ ys. x ∷ ys) rest
    by false e rest = absurd cc

pub seen_numbers : {X : Type 0} (view : X → List ℕ) (xs : List ℤ) (cells : List (Option ℤ)) (n : ℕ) (o : Option X) → MatchOption o (cells ≡ hidden xs None) (λ m. cells ≡ hidden xs (Some (view m))) → MatchOption o (length xs ≡ n) (λ m. length (view m) ≡ n) → length xs ≡ n
    → All (λ c. is_some c ≡ true) cells → present cells ≡ xs
seen_numbers view xs cells n None is long whole all = ap present is ∙ present_all xs
seen_numbers view xs cells n (Some m) is long whole all = ap present is ∙ masked_all xs (view m) (long ∙ sym whole) (subst (All (λ c. is_some c ≡ true)) is all)

-- ---- numbers

pub numbers_checked : (kv : List ℕ × Value) → check_numbers kv ≡ unless (fits_whole kv.1) DoesNotFit
unfolding check_numbers unless
numbers_checked (name, Number n) = refl
numbers_checked (name, v) = refl
