-- Bins that aren't empty.
use Rattle.std.proofs.Common.{◌≡◌, ◌<◌, ◌≤◌, ◌+◌, ◌-◌, ◌==◌, ◌||◌, ℕ, zero, suc, Bool, false, List, [], ◌∷◌, length, drop, take, get_or, All, refl, sym, ap, subst, ◌∙◌, arith}
use Rattle.std.specs.List.{list_any, range_with_len}
use Rattle.std.proofs.lemmas.Bool.{or_parts}
use Rattle.xr_grouping.specs.Mades.{is_empty}

range_long : (from n : ℕ) → length (range_with_len from n) ≡ n
range_long from zero = refl
range_long from (suc n) = ap suc (range_long (from + 1) n)

pub range_empty : (from to : ℕ) → (length (range_with_len from (to - from)) == 0) ≡ (to - from == 0)
range_empty from to = ap (λ n. n == 0) (range_long from (to - from))

-- the lists from a place on
module _ (test : List ℕ → Bool) where
  pub next_where : (lists : List (List ℕ)) (at : ℕ) → at < length lists → list_any test (drop at lists) ≡ (test (get_or lists at []) || list_any test (drop (at + 1) lists))
  next_where [] at here = absurd (omega (arith, here))
  next_where (ps ∷ lists) zero here = refl
  next_where (ps ∷ lists) (suc at) here =
      let next : suc at + 1 ≡ suc (at + 1) = omega arith in next_where lists at (omega (arith, here)) ∙ ap (λ n. test (get_or lists at []) || list_any test (drop n (ps ∷ lists))) (sym next)

  pub last_where : (lists : List (List ℕ)) (at : ℕ) → length lists ≤ at → list_any test (drop at lists) ≡ false
  last_where [] zero le = refl
  last_where [] (suc at) le = refl
  last_where (ps ∷ lists) zero le = absurd (omega (arith, le))
  last_where (ps ∷ lists) (suc at) le = last_where lists at (omega (arith, le))

pub next_list : (lists : List (List ℕ)) (at : ℕ) → at < length lists → list_any (λ ps. is_empty ps) (drop at lists) ≡ (is_empty (get_or lists at []) || list_any (λ ps. is_empty ps) (drop (at + 1) lists))
next_list lists at here = next_where (λ ps. is_empty ps) lists at here

pub last_list : (lists : List (List ℕ)) (at : ℕ) → length lists ≤ at → list_any (λ ps. is_empty ps) (drop at lists) ≡ false
last_list lists at le = last_where (λ ps. is_empty ps) lists at le

some_position : (ps : List ℕ) → is_empty ps ≡ false → 0 < length ps
some_position [] e = absurd cc
some_position (p ∷ ps) e = omega arith

pub all_full : (lists : List (List ℕ)) → list_any (λ ps. is_empty ps) lists ≡ false → All (λ ps. 0 < length ps) lists
all_full [] none i y lt = absurd (omega arith)
all_full (ps ∷ lists) none zero y lt = some_position ps (or_parts (is_empty ps) (list_any (λ qs. is_empty qs) lists) none).0
all_full (ps ∷ lists) none (suc i) y lt = all_full lists (or_parts (is_empty ps) (list_any (λ qs. is_empty qs) lists) none).1 i y (omega (arith, lt))

-- ---- what holds of all up to a place

any_default : {X : Type 0} (xs : List X) (i : ℕ) (d e : X) → i < length xs → get_or xs i d ≡ get_or xs i e
any_default [] i d e lt = absurd (omega (arith, lt))
any_default (x ∷ xs) zero d e lt = refl
any_default (x ∷ xs) (suc i) d e lt = any_default xs i d e (omega (arith, lt))

all_suc : {X : Type 0} (P : X → Type 0) (xs : List X) (i : ℕ) (e : X) → i < length xs → All P (take i xs) → P (get_or xs i e) → All P (take (suc i) xs)
all_suc P [] i e lt all one k d h = absurd (omega (arith, lt))
all_suc P (x ∷ xs) zero e lt all one zero d h = one
all_suc P (x ∷ xs) zero e lt all one (suc k) d h = absurd (omega (arith, h))
all_suc P (x ∷ xs) (suc i) e lt all one zero d h = all zero d (omega arith)
all_suc P (x ∷ xs) (suc i) e lt all one (suc k) d h = all_suc P xs i e (omega (arith, lt)) (λ m f l. all (suc m) f (omega (arith, l))) one k d (omega (arith, h))

pub all_next : {X : Type 0} (P : X → Type 0) (xs : List X) (i : ℕ) (e : X) → i < length xs → All P (take i xs) → P (get_or xs i e) → All P (take (i + 1) xs)
all_next P xs i e lt all one = let next : suc i ≡ i + 1 = omega arith in subst (λ n. All P (take n xs)) next (all_suc P xs i e lt all one)

taken : {X : Type 0} (xs : List X) (i : ℕ) → length xs ≤ i → take i xs ≡ xs
taken [] zero le = refl
taken [] (suc i) le = refl
taken (x ∷ xs) zero le = absurd (omega (arith, le))
taken (x ∷ xs) (suc i) le = ap (λ ys. x ∷ ys) (taken xs i (omega (arith, le)))

pub all_taken : {X : Type 0} (P : X → Type 0) (xs : List X) (i : ℕ) → length xs ≤ i → All P (take i xs) → All P xs
all_taken P xs i le all = subst (All P) (taken xs i le) all
