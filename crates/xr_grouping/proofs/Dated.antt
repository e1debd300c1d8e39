-- How dates group a dimension.
use Rattle.std.proofs.Common.{◌≡◌, ◌<◌, ◌≤◌, ◌+◌, ◌||◌, ℕ, zero, suc, Bool, true, false, cond, ◌⊎◌, inl, inr, List, [], ◌∷◌, length, map, fold, filter, get_or, Option, Some, None, All, refl, sym, ap, subst, ◌∙◌, arith}
use Rattle.std.specs.List.{AllByRecursion, list_any, range_with_len}
use Rattle.std.specs.Option.{IfSome}
use Rattle.std.specs.Cmp.{IsTotalOrder}
use Rattle.std.specs.declared.cmp.Ordering.{Ordering}
use Rattle.std.specs.declared.cmp.Ordering.TheVariants.{Less, Equal, Greater}
use Rattle.std.specs.Ordering.{is_eq, match_ordering}
use Rattle.std.proofs.lemmas.Cmp.{tied_itself}
use Rattle.xr_arrays.specs.Nodes.{ArePositions}
use Rattle.xr_groups.specs.Groups.{distinct, group_lists, holders, is_key, put, put_key}
use Rattle.xr_grouping.proofs.OneList.{all_mapped, filtered_positions}

-- ---- what holds of all keys holds of the distinct ones

module _ {K : Type 0} (R : K → K → Ordering) (P : K → Type 0) where
  put_all : (ks : List K) (k : K) → AllByRecursion P ks → P k → AllByRecursion P (put R ks k)
  put_all [] k all one = (one, tt)
  put_all (x ∷ xs) k all one = by (R k x) (put_all xs k all.1 one)
    where
      by : (r : Ordering) → AllByRecursion P (put R xs k) → AllByRecursion P (match_ordering r (k ∷ x ∷ xs) (x ∷ xs) (x ∷ put R xs k))
      by Less rest = (one, all)
      by Equal rest = all
      by Greater rest = (all.0, rest)

  put_key_all : (ks : List K) (key : Option K) → AllByRecursion P ks → IfSome key P → AllByRecursion P (put_key R ks key)
  put_key_all ks None all one = all
  put_key_all ks (Some k) all one = put_all ks k all one

  fold_all : (ks : List K) (keys : List (Option K)) → AllByRecursion P ks → AllByRecursion (λ key. IfSome key P) keys → AllByRecursion P (fold (put_key R) ks keys)
  fold_all ks [] all each = all
  fold_all ks (key ∷ keys) all each = fold_all (put_key R ks key) keys (put_key_all ks key all each.0) each.1

  pub distinct_all : (keys : List (Option K)) → AllByRecursion (λ key. IfSome key P) keys → AllByRecursion P (distinct R keys)
  unfolding distinct
  distinct_all keys each = fold_all [] keys tt each

module _ {K : Type 0} (R : K → K → Ordering) where
  put_length : (ks : List K) (k : K) → length (put R ks k) ≤ suc (length ks)
  put_length [] k = omega arith
  put_length (x ∷ xs) k = by (R k x) (put_length xs k)
    where
      by : (r : Ordering) → length (put R xs k) ≤ suc (length xs) → length (match_ordering r (k ∷ x ∷ xs) (x ∷ xs) (x ∷ put R xs k)) ≤ suc (suc (length xs))
      by Less rest = omega arith
      by Equal rest = omega arith
      by Greater rest = omega (arith, rest)

  put_key_length : (ks : List K) (key : Option K) → length (put_key R ks key) ≤ suc (length ks)
  put_key_length ks None = omega arith
  put_key_length ks (Some k) = put_length ks k

  fold_length : (ks : List K) (keys : List (Option K)) → length (fold (put_key R) ks keys) ≤ length ks + length keys
  fold_length ks [] = omega arith
  fold_length ks (key ∷ keys) = let rest = fold_length (put_key R ks key) keys in let one = put_key_length ks key in omega (arith, rest, one)

  pub distinct_length : (keys : List (Option K)) → length (distinct R keys) ≤ length keys
  unfolding distinct
  distinct_length keys = let le = fold_length [] keys in omega (arith, le)

  -- ---- each distinct key is that of some position

  abbrev HasKey : List (Option K) → K → Type 0
  HasKey keys k = list_any (is_key R k) keys ≡ true

  right_true : (a b : Bool) → b ≡ true → (a || b) ≡ true
  right_true true b e = refl
  right_true false b e = e

  each_has : (o : IsTotalOrder R) (keys rest : List (Option K)) → ((k : K) → list_any (is_key R k) rest ≡ true → HasKey keys k) → AllByRecursion (λ key. IfSome key (HasKey keys)) rest
  each_has o keys [] up = tt
  each_has o keys (key ∷ rest) up = (one key (λ k e. up k (ap (λ b. b || list_any (is_key R k) rest) e)), each_has o keys rest (λ k e. up k (right_true (is_key R k key) (list_any (is_key R k) rest) e)))
    where
      one : (key : Option K) → ((k : K) → is_key R k key ≡ true → HasKey keys k) → IfSome key (HasKey keys)
      one None up = tt
      one (Some x) up = up x (ap is_eq (tied_itself o x))

  kept_some : (test : ℕ → Bool) (from n : ℕ) (i : ℕ) → from ≤ i → i < from + n → test i ≡ true → 0 < length (filter test (range_with_len from n))
  kept_some test from zero i lo hi e = absurd (omega (arith, lo, hi))
  kept_some test from (suc n) i lo hi e = by (test from) refl (ordered from i lo) (λ up. kept_some test (from + 1) n i up (omega (arith, hi)) e)
    where
      ordered : (a b : ℕ) → a ≤ b → (a ≡ b) ⊎ (a + 1 ≤ b)
      ordered zero zero le = inl refl
      ordered zero (suc b) le = inr (omega arith)
      ordered (suc a) zero le = absurd (omega arith)
      ordered (suc a) (suc b) le = elim (ordered a b (omega arith)) [ inl e ↦ inl (ap suc e) | inr lt ↦ inr (omega arith) ]

      by : (b : Bool) → test from ≡ b → (from ≡ i) ⊎ (from + 1 ≤ i) → (from + 1 ≤ i → 0 < length (filter test (range_with_len (from + 1) n))) → 0 < length (cond b (from ∷ filter test (range_with_len (from + 1) n)) (filter test (range_with_len (from + 1) n)))
      by true t at rest = omega arith
      by false t (inl at) rest = absurd (never (test i) e (ap test (sym at) ∙ t))
        where
          never : (b : Bool) → b ≡ true → b ≡ false → ⊥
          never b s t = cc
      by false t (inr up) rest = rest up

  at_some : (test : Option K → Bool) (keys : List (Option K)) → list_any test keys ≡ true → (i : ℕ) × (i < length keys) × (test (get_or keys i None) ≡ true)
  at_some test [] e = absurd cc
  at_some test (key ∷ keys) e = by (test key) refl e (at_some test keys)
    where
      by : (b : Bool) → test key ≡ b → (b || list_any test keys) ≡ true → (list_any test keys ≡ true → (i : ℕ) × (i < length keys) × (test (get_or keys i None) ≡ true)) → (i : ℕ) × (i < length (key ∷ keys)) × (test (get_or (key ∷ keys) i None) ≡ true)
      by true t e rest = (0, omega arith, t)
      by false t e rest = let r = rest e in (suc r.0, (let lt = r.1 in omega (arith, lt)), r.2)

  held : (keys : List (Option K)) (k : K) → HasKey keys k → 0 < length (holders R keys k)
  unfolding holders
  held keys k e = let r = at_some (is_key R k) keys e in let lt = r.1 in kept_some (λ p. is_key R k (get_or keys p None)) 0 (length keys) r.0 (omega arith) (omega (arith, lt)) r.2

  mapped_held : (keys : List (Option K)) (ks : List K) → AllByRecursion (HasKey keys) ks → All (λ ps. 0 < length ps) (map (holders R keys) ks)
  mapped_held keys [] all i y lt = absurd (omega arith)
  mapped_held keys (k ∷ ks) all zero y lt = held keys k all.0
  mapped_held keys (k ∷ ks) all (suc i) y lt = mapped_held keys ks all.1 i y (omega arith)

  pub groups_full : (o : IsTotalOrder R) (keys : List (Option K)) → All (λ ps. 0 < length ps) (group_lists R keys)
  groups_full o keys = mapped_held keys (distinct R keys) (distinct_all R (HasKey keys) keys (each_has o keys keys (λ k e. e)))

  holders_fed : (keys : List (Option K)) (n : ℕ) → length keys ≡ n → (k : K) → ArePositions n 0 (holders R keys k)
  unfolding holders
  holders_fed keys n long k = subst (λ m. ArePositions n 0 (filter (λ p. is_key R k (get_or keys p None)) (range_with_len 0 m))) (sym long) (filtered_positions (λ p. is_key R k (get_or keys p None)) n)

  pub groups_fed : (keys : List (Option K)) (n : ℕ) → length keys ≡ n → All (ArePositions n 0) (group_lists R keys)
  groups_fed keys n long = all_mapped (ArePositions n 0) (holders R keys) (distinct R keys) (holders_fed keys n long)
