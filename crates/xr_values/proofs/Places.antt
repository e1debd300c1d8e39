-- Items by their places: those from a place on, and items that are put in the place of the first one that a test takes, or behind all.
use Rattle.xr_values.proofs.Common.{Bool, List, None, Option, Some, [], add-one, ap, arith, cond, drop, drop_more, false, get_or, if◌then◌else◌, length, nat_lt, nat_tests, option_map, position, position_or_len, refl, set, suc, sym, take, take_more, true, ℕ, ◌++◌, ◌+◌, ◌<◌, ◌∙◌, ◌∷◌, ◌≡◌}
use Rattle.std.specs.Prelude.{not}

pub from_place : {X : Type 0} (xs : List X) (i : ℕ) (x : X) → i < length xs → x ≡ get_or xs i x → drop i xs ≡ x ∷ drop (i + 1) xs
from_place xs i x inside is = drop_more xs i x inside ∙ ap (λ y. y ∷ drop (i + 1) xs) (sym is)

pub take_one : {X : Type 0} (xs : List X) (i : ℕ) (x : X) → i < length xs → x ≡ get_or xs i x → take (i + 1) xs ≡ take i xs ++ x ∷ []
take_one xs i x inside is = take_more xs i x inside ∙ ap (λ y. take i xs ++ y ∷ []) (sym is)

abbrev pub put_over : {X : Type 0} → (X → Bool) → List X → X → List X
put_over test [] d = d ∷ []
put_over test (x ∷ rest) d = if test x then d ∷ rest else (x ∷ put_over test rest d)

position_cons : {X : Type 0} (test : X → Bool) (x : X) (rest : List X)
    → position test (x ∷ rest) ≡ (if test x then Some 0 else option_map (λ n. n + 1) (position test rest))
position_cons test x rest = by (test x) (nat_lt (position_or_len test rest) (length rest)) (position_or_len test rest)
  where
    by : (t u : Bool) (n : ℕ) → cond (nat_lt (cond (not t) (1 + n) 0) (suc (length rest))) (Some (cond (not t) (1 + n) 0)) None
        ≡ (if t then Some 0 else option_map (λ n. n + 1) (cond (nat_lt n (length rest)) (Some n) None))
    by true u n = grind (arith, nat_tests)
    by false u n = grind (arith, nat_tests)

abbrev put_at : {X : Type 0} → List X → X → Option ℕ → List X
put_at {X} xs d o = elim o as (λ o. List X) [ None ↦ xs ++ d ∷ [] | Some k ↦ set xs k d ]

by_place : {X : Type 0} (test : X → Bool) (xs : List X) (d : X) → put_over test xs d ≡ put_at xs d (position test xs)
by_place test [] d = refl
by_place {X} test (x ∷ rest) d = by (test x) (position test rest) (by_place test rest d) ∙ ap (put_at (x ∷ rest) d) (sym (position_cons test x rest))
  where
    by : (t : Bool) (o : Option ℕ) → put_over test rest d ≡ put_at rest d o → (if t then d ∷ rest else (x ∷ put_over test rest d)) ≡ put_at (x ∷ rest) d (if t then Some 0 else option_map (λ n. n + 1) o)
    by true o e = refl
    by false None e = ap (λ t. x ∷ t) e
    by false (Some k) e = ap (λ t. x ∷ t) e ∙ ap (λ n. set (x ∷ rest) n d) (sym (add-one k))

pub put_there : {X : Type 0} (test : X → Bool) (xs : List X) (d : X) (k : ℕ) → position test xs ≡ Some k → put_over test xs d ≡ set xs k d
put_there test xs d k e = by_place test xs d ∙ ap (put_at xs d) e

pub put_behind : {X : Type 0} (test : X → Bool) (xs : List X) (d : X) → position test xs ≡ None → put_over test xs d ≡ xs ++ d ∷ []
put_behind test xs d e = by_place test xs d ∙ ap (put_at xs d) e
