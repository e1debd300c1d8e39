-- The cells that a fold takes are cells of the input at positions of it, and no more than the input has.
use Rattle.std.proofs.Common.{◌≡◌, ◌<◌, ◌≤◌, ◌+◌, ◌-◌, ◌*◌, ◌^◌, ℕ, zero, suc, ℤ, List, [], ◌∷◌, ◌++◌, length, map, flat_map, get_or, Option, None, inl, inr, sym, subst, arith, length-append, mul-le-mul_right}
use Rattle.std.specs.List.{All, range_with_len}
use Rattle.std.proofs.lemmas.Bool.{cases_lt}
use Rattle.std.proofs.Math.ListN.{get_or-eq_default}
use Rattle.std.proofs.lemmas.List.FromFn.{length-map-range_with_len}
use Rattle.xr_types.specs.Points.{size, place, IsPoint}
use Rattle.xr_types.specs.declared.kind.DType.{DType}
use Rattle.xr_types.specs.declared.operation.FoldKind.{FoldKind}
use Rattle.xr_arrays.specs.declared.node.Feed.{Feed}
use Rattle.xr_arrays.specs.declared.node.Feed.TheVariants as feed
use Rattle.xr_arrays.specs.Arrays.{Array, at, IsArray, IsCell}
use Rattle.xr_arrays.specs.Folds.{folded_kind, fold_of}
use Rattle.xr_arrays.specs.Nodes.{along, gathered, kept, up_to, ArePositions, AreFed}
use Rattle.xr_arrays.proofs.FoldRanges.{AreCells, fold_in_kind}

-- each cell of an array is one of its kind
pub cell_in : (a : Array) → IsArray a → (p : List ℕ) → IsCell a.kind (at a p)
cell_in a is p =
    let i : ℕ = place a.shape p in
    elim (cases_lt i (length a.cells)) [
      | inl lt ↦ is.range i None lt
      | inr le ↦ subst (IsCell a.kind) (sym (get_or-eq_default a.cells None le)) tt
    ]

-- ---- lists of positions

pub range_positions : (n a m : ℕ) → a + m ≤ n → ArePositions n a (range_with_len a m)
range_positions n a zero h = tt
range_positions n a (suc m) h = (omega arith, omega arith, subst (λ b. ArePositions n (suc a) (range_with_len b m)) (omega arith) (range_positions n (suc a) m (omega arith)))

are_cells-append : (t : DType) (xs ys : List (ℕ × Option ℤ)) → AreCells t xs → AreCells t ys → AreCells t (xs ++ ys)
are_cells-append t [] ys h i = i
are_cells-append t (x ∷ xs) ys h i = (h.0, h.1, are_cells-append t xs ys h.2 i)

flat_cells : (t : DType) (g : ℕ → List (ℕ × Option ℤ)) (n from : ℕ) (ks : List ℕ) → ArePositions n from ks → ((k : ℕ) → k < n → AreCells t (g k)) → AreCells t (flat_map g ks)
flat_cells t g n from [] h each = tt
flat_cells t g n from (k ∷ ks) h each = are_cells-append t (g k) (flat_map g ks) (each k h.1) (flat_cells t g n (suc k) ks h.2 each)

few_from : (g : ℕ → List (ℕ × Option ℤ)) (s n from : ℕ) (ks : List ℕ) → ArePositions n from ks → ((k : ℕ) → k < n → length (g k) ≤ s) → length (flat_map g ks) ≤ (n - from) * s
few_from g s n from [] h each = omega arith
few_from g s n from (k ∷ ks) h each =
    let rest : length (flat_map g ks) ≤ (n - suc k) * s = few_from g s n (suc k) ks h.2 each in
    let here : length (g k) ≤ s = each k h.1 in
    let one : suc (n - suc k) * s ≡ s + (n - suc k) * s = grind arith in
    let wide : suc (n - suc k) * s ≤ (n - from) * s = mul-le-mul_right s (omega (arith, h.0, h.1)) in
    let both = length-append (g k) (flat_map g ks) in
    omega (arith, rest, here, one, wide, both)

flat_few : (g : ℕ → List (ℕ × Option ℤ)) (s n : ℕ) (ks : List ℕ) → ArePositions n 0 ks → ((k : ℕ) → k < n → length (g k) ≤ s) → length (flat_map g ks) ≤ n * s
flat_few g s n ks h each = let e : n - 0 ≡ n = omega arith in subst (λ m. length (flat_map g ks) ≤ m * s) e (few_from g s n 0 ks h each)

-- the positions listed for one position of the result
listed_positions : (n : ℕ) (lists : List (List ℕ)) (i : ℕ) → All (ArePositions n 0) lists → i < length lists → ArePositions n 0 (get_or lists i [])
listed_positions n lists i h lt = h i [] lt

-- ---- what is gathered

-- one axis more
larger : (n s : ℕ) → 0 < n → s ≤ n * s
larger zero s h = absurd (omega arith)
larger (suc n) s h = let e : suc n * s ≡ s + n * s = grind arith in omega (arith, e)

inner : (n s i : ℕ) → i < n → n * s ≤ 2 ^ 62 → 0 < s → i < 2 ^ 62
inner n zero i lt few some = absurd (omega arith)
inner n (suc s) i lt few some = let e : n * suc s ≡ n + n * s = grind arith in omega (arith, e, lt, few)

pub gathered_cells : (t : DType) (fs : List Feed) (ns p : List ℕ) (f : List ℕ → Option ℤ) (j : ℕ) → length fs ≡ length ns → AreFed fs ns → IsPoint (kept fs ns) p → size ns ≤ 2 ^ 62 → (0 < size ns → j < 2 ^ 62) → ((q : List ℕ) → IsCell t (f q))
    → AreCells t (gathered j fs ns p f)
gathered_cells t [] [] p f j long fed here few small cells = (small (omega arith), cells [], tt)
gathered_cells t [] (n ∷ ns) p f j long fed here few small cells = absurd (omega arith)
gathered_cells t (x ∷ fs) [] p f j long fed here few small cells = absurd (omega arith)
gathered_cells t (feed.Keep ∷ fs) (n ∷ ns) [] f j long fed here few small cells = absurd here
gathered_cells t (feed.Keep ∷ fs) (n ∷ ns) (i ∷ p) f j long fed here few small cells =
    let more = larger n (size ns) (omega (arith, here.0)) in
    gathered_cells t fs ns p (λ q. f (i ∷ q)) j (omega arith) fed.1 here.1 (omega (arith, more, few)) (λ some. small (omega (arith, more, some))) (λ q. cells (i ∷ q))
gathered_cells t (feed.All ∷ fs) (n ∷ ns) p f j long fed here few small cells =
    flat_cells t (λ i. gathered i fs ns p (λ q. f (i ∷ q))) n 0 (range_with_len 0 n) (range_positions n 0 n (omega arith))
    (λ i lt.
    let more = larger n (size ns) (omega (arith, lt)) in
    gathered_cells t fs ns p (λ q. f (i ∷ q)) i (omega arith) fed.1 here (omega (arith, more, few)) (inner n (size ns) i lt few) (λ q. cells (i ∷ q)))
gathered_cells t (feed.By lists ∷ fs) (n ∷ ns) [] f j long fed here few small cells = absurd here
gathered_cells t (feed.By lists ∷ fs) (n ∷ ns) (i ∷ p) f j long fed here few small cells =
    flat_cells t (λ k. gathered k fs ns p (λ q. f (k ∷ q))) n 0 (get_or lists i []) (listed_positions n lists i fed.0 here.0)
    (λ k lt.
    let more = larger n (size ns) (omega (arith, lt)) in
    gathered_cells t fs ns p (λ q. f (k ∷ q)) k (omega arith) fed.1 here.1 (omega (arith, more, few)) (inner n (size ns) k lt few) (λ q. cells (k ∷ q)))

pub gathered_few : (fs : List Feed) (ns p : List ℕ) (f : List ℕ → Option ℤ) (j : ℕ) → length fs ≡ length ns → AreFed fs ns → IsPoint (kept fs ns) p → length (gathered j fs ns p f) ≤ size ns
gathered_few [] [] p f j long fed here = omega arith
gathered_few [] (n ∷ ns) p f j long fed here = absurd (omega arith)
gathered_few (x ∷ fs) [] p f j long fed here = absurd (omega arith)
gathered_few (feed.Keep ∷ fs) (n ∷ ns) [] f j long fed here = absurd here
gathered_few (feed.Keep ∷ fs) (n ∷ ns) (i ∷ p) f j long fed here =
    let more = larger n (size ns) (omega (arith, here.0)) in
    let less = gathered_few fs ns p (λ q. f (i ∷ q)) j (omega arith) fed.1 here.1 in
    omega (arith, more, less)
gathered_few (feed.All ∷ fs) (n ∷ ns) p f j long fed here =
    flat_few (λ i. gathered i fs ns p (λ q. f (i ∷ q))) (size ns) n (range_with_len 0 n) (range_positions n 0 n (omega arith)) (λ i lt. gathered_few fs ns p (λ q. f (i ∷ q)) i (omega arith) fed.1 here)
gathered_few (feed.By lists ∷ fs) (n ∷ ns) [] f j long fed here = absurd here
gathered_few (feed.By lists ∷ fs) (n ∷ ns) (i ∷ p) f j long fed here =
    flat_few (λ k. gathered k fs ns p (λ q. f (k ∷ q))) (size ns) n (get_or lists i []) (listed_positions n lists i fed.0 here.0) (λ k lt. gathered_few fs ns p (λ q. f (k ∷ q)) k (omega arith) fed.1 here.1)

-- a fold of an array gives a cell of its kind at each point of the result
pub folded_cell : (k : FoldKind) (fs : List Feed) (a : Array) (p : List ℕ) → IsArray a → length fs ≡ length a.shape → AreFed fs a.shape → IsPoint (kept fs a.shape) p → size a.shape ≤ 2 ^ 62 → IsCell (folded_kind k a.kind) (fold_of k a.kind (gathered 0 fs a.shape p (at a)))
folded_cell k fs a p is long fed here few =
    let less = gathered_few fs a.shape p (at a) 0 long fed here in
    fold_in_kind k a.kind (gathered 0 fs a.shape p (at a)) (gathered_cells a.kind fs a.shape p (at a) 0 long fed here few (λ some. omega arith) (cell_in a is)) (omega (arith, less, few))

-- ---- the cells up to a position

up_to_cells : (t : DType) (f : ℕ → Option ℤ) (from n : ℕ) → from + n ≤ 2 ^ 62 → ((i : ℕ) → IsCell t (f i)) → AreCells t (map (λ i. (i, f i)) (range_with_len from n))
up_to_cells t f from zero h cells = tt
up_to_cells t f from (suc n) h cells = (omega arith, cells from, up_to_cells t f (from + 1) n (omega arith) cells)

pub scanned_cell : (k : FoldKind) (a : Array) (axis : ℕ) (p : List ℕ) → IsArray a → get_or p axis 0 < 2 ^ 62 → IsCell (folded_kind k a.kind) (fold_of k a.kind (up_to a axis p))
scanned_cell k a axis p is below =
    let f : ℕ → Option ℤ = λ i. at a (along axis i p) in
    let count = length-map-range_with_len {X = ℕ × Option ℤ} (λ i. (i, f i)) 0 (get_or p axis 0 + 1) in
    fold_in_kind k a.kind (up_to a axis p) (up_to_cells a.kind f 0 (get_or p axis 0 + 1) (omega (arith, below)) (λ i. cell_in a is (along axis i p))) (omega (arith, count, below))

-- a position of a point lies below the size of its shape
pub point_below : (s p : List ℕ) (axis : ℕ) → IsPoint s p → size s ≤ 2 ^ 62 → get_or p axis 0 < 2 ^ 62
point_below s p axis here few = let lt = below s p axis here in omega (arith, lt, few)
  where
    some : (s p : List ℕ) → IsPoint s p → 0 < size s
    some [] [] h = omega arith
    some [] (i ∷ p) h = absurd h
    some (n ∷ ns) [] h = absurd h
    some (n ∷ ns) (i ∷ p) h = let rest = some ns p h.1 in let more = larger n (size ns) (omega (arith, h.0)) in omega (arith, rest, more)

    below : (s p : List ℕ) (axis : ℕ) → IsPoint s p → get_or p axis 0 < size s
    below [] [] axis h = omega arith
    below [] (i ∷ p) axis h = absurd h
    below (n ∷ ns) [] axis h = absurd h
    below (n ∷ ns) (i ∷ p) zero h = wide n (size ns) i h.0 (some ns p h.1)
      where
        wide : (n s i : ℕ) → i < n → 0 < s → i < n * s
        wide n zero i lt e = absurd (omega arith)
        wide n (suc s) i lt e = let g : n * suc s ≡ n + n * s = grind arith in omega (arith, g, lt)
    below (n ∷ ns) (i ∷ p) (suc axis) h = let rest = below ns p axis h.1 in let more = larger n (size ns) (omega (arith, h.0)) in omega (arith, rest, more)
