-- Cells of several arrays of one shape, by their places.
use Rattle.std.proofs.Common.{◌≡◌, ◌<◌, ◌+◌, ◌∙◌, ℕ, ℤ, zero, suc, Bool, true, false, List, [], ◌∷◌, ◌++◌, length, map, get_or, Option, None, ◌&&◌, refl, sym, ap, subst, arith, add-one}
use Rattle.std.proofs.lemmas.Bool.{and_parts}
use Rattle.std.proofs.lemmas.List.FromFn.{get_or-range_with_len, length-range_with_len}
use Rattle.std.proofs.lemmas.List.Folds.{list_all_at, list_all-append, list_all-map}
use Rattle.std.specs.Prelude.{nat_eq}
use Rattle.std.specs.List.{list_all, range_with_len}
use Rattle.std.specs.Cmp.Lexicographic.{pointwise}
use Rattle.xr_types.specs.Points.{size, tab, place}
use Rattle.xr_arrays.specs.Arrays.{Array}
use Rattle.plan_core.proofs.Tabs.{place_below, tab-map, tab_read, tab_same}
use Rattle.xr_defs.specs.Values.{present}
use Rattle.xr_combination.specs.Concat.{first_array}
use Rattle.xr_combination.specs.Merge.{agree, are_one, cells_at}
use Rattle.xr_merging.specs.Columns.{column, have_shape, AreWithin, Reach}

-- ---- places

pub reach : (n k : ℕ) (arrays : List Array) → k < n → AreWithin n arrays → Reach k arrays
reach n k [] lt all = tt
reach n k (a ∷ more) lt all = let here : length a.cells ≡ n = all.0 in (omega arith, reach n k more lt all.1)

range_more : (a n : ℕ) → range_with_len a (suc n) ≡ range_with_len a n ++ (a + n) ∷ []
range_more a zero = ap (λ k. k ∷ []) (omega arith)
range_more a (suc n) = ap (λ ks. a ∷ ks) (range_more (a + 1) n ∙ ap (λ k. range_with_len (a + 1) n ++ k ∷ []) (omega arith))

zero_plus : (k : ℕ) → 0 + k ≡ k
zero_plus k = omega arith

-- what a function of the place gives, point by point
pub by_place : {X : Type 0} (s : List ℕ) (f : ℕ → X) → tab s (λ p. f (place s p)) ≡ map f (range_with_len 0 (size s))
by_place s f =
    tab_same s (λ p. f (place s p)) (λ p. f (get_or (range_with_len 0 (size s)) (place s p) 0)) (λ p inside. ap f (sym (zero_plus (place s p)) ∙ sym (get_or-range_with_len 0 (size s) (place s p) 0 (place_below s p inside))))
    ∙ sym (tab-map f s (λ p. get_or (range_with_len 0 (size s)) (place s p) 0)) ∙ ap (map f) (tab_read s (range_with_len 0 (size s)) 0 (length-range_with_len 0 (size s)))

-- ---- one shape

nat_same : (m n : ℕ) → nat_eq m n ≡ true → m ≡ n
nat_same m n is = grind arith

pub same_sizes : (ms ns : List ℕ) → pointwise nat_eq ms ns ≡ true → ms ≡ ns
same_sizes [] [] is = refl
same_sizes [] (n ∷ ns) is = absurd cc
same_sizes (m ∷ ms) [] is = absurd cc
same_sizes (m ∷ ms) (n ∷ ns) is =
    let both = and_parts (nat_eq m n) (pointwise nat_eq ms ns) is in ap (λ k. k ∷ ms) (nat_same m n both.0) ∙ ap (λ ks. n ∷ ks) (same_sizes ms ns both.1)

pub cells_are : (s : List ℕ) (arrays : List Array) (p : List ℕ) → have_shape s arrays ≡ true → cells_at arrays p ≡ column arrays (place s p)
cells_are s [] p is = refl
cells_are s (a ∷ more) p is =
    let both = and_parts (pointwise nat_eq s a.shape) (have_shape s more) is in
    ap (λ (t : List ℕ). get_or a.cells (place t p) None ∷ cells_at more p) (sym (same_sizes s a.shape both.0)) ∙ ap (λ cs. get_or a.cells (place s p) None ∷ cs) (cells_are s more p both.1)

-- a function of the cells at each point, place by place
pub columns_are : {X : Type 0} (s : List ℕ) (arrays : List Array) (f : List (Option ℤ) → X) → have_shape s arrays ≡ true → tab s (λ p. f (cells_at arrays p)) ≡ map (λ k. f (column arrays k)) (range_with_len 0 (size s))
columns_are s arrays f is =
    tab_same s (λ p. f (cells_at arrays p)) (λ p. f (column arrays (place s p))) (λ p inside. ap f (cells_are s arrays p is)) ∙ by_place s (λ k. f (column arrays k))

pub agree_is : (arrays : List Array) → have_shape (first_array arrays).shape arrays ≡ true → list_all (λ k. are_one (present (column arrays k))) (range_with_len 0 (size (first_array arrays).shape)) ≡ agree arrays
agree_is arrays is =
    sym (list_all-map are_one (λ k. present (column arrays k)) (range_with_len 0 (size (first_array arrays).shape)))
    ∙ ap (list_all are_one) (sym (columns_are (first_array arrays).shape arrays present is))

-- ---- loops over places

pub passes_more : (test : ℕ → Bool) (n : ℕ) → list_all test (range_with_len 0 n) ≡ true → test n ≡ true → list_all test (range_with_len 0 (n + 1)) ≡ true
passes_more test n before here =
    ap (λ k. list_all test (range_with_len 0 k)) (add-one n) ∙ ap (list_all test) (range_more 0 n) ∙ list_all-append test (range_with_len 0 n) ((0 + n) ∷ [])
    ∙ ap (λ b. b && list_all test ((0 + n) ∷ [])) before ∙ ap (λ k. true && (test k && true)) (zero_plus n) ∙ ap (λ b. true && (b && true)) here

pub fails_here : (test : ℕ → Bool) (n k : ℕ) → k < n → test k ≡ false → list_all test (range_with_len 0 n) ≡ false
fails_here test n k lt here =
    list_all_at test (range_with_len 0 n) k 0 (subst (λ m. k < m) (sym (length-range_with_len 0 n)) lt) (ap test (get_or-range_with_len 0 n k 0 lt ∙ zero_plus k) ∙ here)
