-- Positions of lists, where those with too few leave a gap.
use Rattle.std.proofs.Common.{◌≡◌, ◌<◌, ◌≤◌, ◌+◌, ◌||◌, ℕ, zero, suc, Bool, true, false, cond, List, [], ◌∷◌, ◌++◌, length, drop, take, get_or, Some, None, All, refl, sym, ap, ◌∙◌, arith}
use Rattle.std.specs.List.{list_any}
use Rattle.std.proofs.lemmas.Bool.{or_parts}
use Rattle.xr_arrays.specs.Nodes.{IsBelow}
use Rattle.xr_grouping.specs.Fills.{gaps, is_long, is_short, shown}
use Rattle.xr_grouping.proofs.Binned.{last_where, next_where}

take_all : {X : Type 0} (xs : List X) (n : ℕ) → length xs ≤ n → take n xs ≡ xs
take_all [] zero le = refl
take_all [] (suc n) le = refl
take_all (x ∷ xs) zero le = absurd (omega (arith, le))
take_all (x ∷ xs) (suc n) le = ap (λ ys. x ∷ ys) (take_all xs n (omega (arith, le)))

none_where : (test : List ℕ → Bool) (lists : List (List ℕ)) (i : ℕ) → list_any test lists ≡ false → i < length lists → test (get_or lists i []) ≡ false
none_where test [] i none lt = absurd (omega (arith, lt))
none_where test (ps ∷ lists) zero none lt = (or_parts (test ps) (list_any test lists) none).0
none_where test (ps ∷ lists) (suc i) none lt = none_where test lists i (or_parts (test ps) (list_any test lists) none).1 (omega (arith, lt))

module _ (m : ℕ) where
  -- the gaps up to a place, and one more
  gaps_push : (j : ℕ) (lists : List (List ℕ)) (at : ℕ) → at < length lists → gaps m j (take (at + 1) lists) ≡ gaps m j (take at lists) ++ shown m (get_or lists at []) (j + at) ∷ []
  gaps_push j [] at here = absurd (omega (arith, here))
  gaps_push j (ps ∷ lists) zero here = let same : j + 0 ≡ j = omega arith in ap (λ n. shown m ps n ∷ []) (sym same)
  gaps_push j (ps ∷ lists) (suc at) here =
      let next : suc at + 1 ≡ suc (at + 1) = omega arith in
      let same : j + 1 + at ≡ j + suc at = omega arith in
      ap (λ n. gaps m j (take n (ps ∷ lists))) next
      ∙ ap (λ xs. shown m ps j ∷ xs) (gaps_push (j + 1) lists at (omega (arith, here)) ∙ ap (λ n. gaps m (j + 1) (take at lists) ++ shown m (get_or lists at []) n ∷ []) same)

  pub next_gap : (lists : List (List ℕ)) (at : ℕ) → at < length lists → gaps m 0 (take (at + 1) lists) ≡ gaps m 0 (take at lists) ++ shown m (get_or lists at []) at ∷ []
  next_gap lists at here = let same : 0 + at ≡ at = omega arith in gaps_push 0 lists at here ∙ ap (λ n. gaps m 0 (take at lists) ++ shown m (get_or lists at []) n ∷ []) same

  pub last_gap : (lists : List (List ℕ)) (at : ℕ) → length lists ≤ at → gaps m 0 (take at lists) ≡ gaps m 0 lists
  last_gap lists at le = ap (gaps m 0) (take_all lists at le)

  -- ---- what stands at a place

  pub gaps_length : (j : ℕ) (lists : List (List ℕ)) → length (gaps m j lists) ≡ length lists
  gaps_length j [] = refl
  gaps_length j (ps ∷ lists) = ap suc (gaps_length (j + 1) lists)

  gap_from : (j : ℕ) (lists : List (List ℕ)) (i : ℕ) → i < length lists → get_or (gaps m j lists) i None ≡ shown m (get_or lists i []) (j + i)
  gap_from j [] i here = absurd (omega (arith, here))
  gap_from j (ps ∷ lists) zero here = let same : j + 0 ≡ j = omega arith in ap (shown m ps) (sym same)
  gap_from j (ps ∷ lists) (suc i) here = let same : j + 1 + i ≡ j + suc i = omega arith in gap_from (j + 1) lists i (omega (arith, here)) ∙ ap (shown m (get_or lists i [])) same

  pub gap_at : (lists : List (List ℕ)) (i : ℕ) → i < length lists → get_or (gaps m 0 lists) i None ≡ shown m (get_or lists i []) i
  gap_at lists i here = let same : 0 + i ≡ i = omega arith in gap_from 0 lists i here ∙ ap (shown m (get_or lists i [])) same

  below_from : (j n : ℕ) (lists : List (List ℕ)) → j + length lists ≤ n → All (IsBelow n) (gaps m j lists)
  below_from j n [] le i d lt = absurd (omega (arith, lt))
  below_from j n (ps ∷ lists) le zero d lt = by (is_short m ps)
    where
      by : (b : Bool) → IsBelow n (cond b None (Some j))
      by true = tt
      by false = omega (arith, le)
  below_from j n (ps ∷ lists) le (suc i) d lt = below_from (j + 1) n lists (omega (arith, le)) i d (omega (arith, lt))

  pub gaps_below : (lists : List (List ℕ)) (n : ℕ) → length lists ≡ n → All (IsBelow n) (gaps m 0 lists)
  gaps_below lists n long = below_from 0 n lists (omega (arith, long))

  -- ---- where no list is short

  pub next_short : (lists : List (List ℕ)) (at : ℕ) → at < length lists → list_any (λ ps. is_short m ps) (drop at lists) ≡ (is_short m (get_or lists at []) || list_any (λ ps. is_short m ps) (drop (at + 1) lists))
  next_short lists at here = next_where (λ ps. is_short m ps) lists at here

  pub last_short : (lists : List (List ℕ)) (at : ℕ) → length lists ≤ at → list_any (λ ps. is_short m ps) (drop at lists) ≡ false
  last_short lists at le = last_where (λ ps. is_short m ps) lists at le

  pub none_short : (lists : List (List ℕ)) (i : ℕ) → list_any (λ ps. is_short m ps) lists ≡ false → i < length lists → is_short m (get_or lists i []) ≡ false
  none_short lists i none lt = none_where (λ ps. is_short m ps) lists i none lt

  -- ---- where no list is long

  pub next_long : (lists : List (List ℕ)) (at : ℕ) → at < length lists → list_any (λ ps. is_long m ps) (drop at lists) ≡ (is_long m (get_or lists at []) || list_any (λ ps. is_long m ps) (drop (at + 1) lists))
  next_long lists at here = next_where (λ ps. is_long m ps) lists at here

  pub last_long : (lists : List (List ℕ)) (at : ℕ) → length lists ≤ at → list_any (λ ps. is_long m ps) (drop at lists) ≡ false
  last_long lists at le = last_where (λ ps. is_long m ps) lists at le

  pub none_long : (lists : List (List ℕ)) (i : ℕ) → list_any (λ ps. is_long m ps) lists ≡ false → i < length lists → is_long m (get_or lists i []) ≡ false
  none_long lists i none lt = none_where (λ ps. is_long m ps) lists i none lt
