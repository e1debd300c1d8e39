-- Windows, blocks and runs are ascending positions of their axis, and windows are those near enough.
use Rattle.std.proofs.Common.{◌≡◌, ◌<◌, ◌≤◌, ◌+◌, ◌-◌, ◌*◌, ℕ, Bool, true, false, ◌&&◌, nat_le, List, [], ◌∷◌, ◌++◌, map, min, sym, ap, subst, ◌∙◌, arith, append-nil}
use Rattle.std.specs.List.{All, filter, range_with_len}
use Rattle.std.proofs.lemmas.Bool.Decides.{nat_tests}
use Rattle.std.proofs.lemmas.List.Elements.{filter-append, All-cons, All-nil}
use Rattle.std.proofs.lemmas.List.FromFn.{length-map-range_with_len, get_or-map-range_with_len}
use Rattle.xr_arrays.specs.FeedPositions.{window, block, runs, AreEnds}
use Rattle.xr_arrays.specs.Nodes.{ArePositions}
use Rattle.xr_arrays.proofs.FeedPositions.{block_ends}
use Rattle.xr_arrays.proofs.FeedRanges.{range_positions}
use Rattle.xr_arrays.proofs.LabelPlaces.{filter_none, filter_all, range_with_len-add}

from_lower : (n a b : ℕ) (ks : List ℕ) → b ≤ a → ArePositions n a ks → ArePositions n b ks
from_lower n a b [] low h = tt
from_lower n a b (k ∷ ks) low h = (omega (arith, low, h.0), h.1, h.2)

each_of : (P : List ℕ → Type 0) (f : ℕ → List ℕ) (n : ℕ) → ((i : ℕ) → i < n → P (f i)) → All P (map f (range_with_len 0 n))
each_of P f n h k d lt =
    let count = length-map-range_with_len f 0 n in
    let below : k < n = omega (arith, lt, count) in
    subst P (sym (get_or-map-range_with_len f 0 n k k d below (omega arith))) (h k below)

pub windows_inside : (size before after : ℕ) → All (ArePositions size 0) (map (window size before after) (range_with_len 0 size))
windows_inside size before after =
    each_of (ArePositions size 0) (window size before after) size (λ i lt. from_lower size (i - before) 0 (window size before after i) (omega arith) (range_positions size (i - before) (min (i + after + 1) size - (i - before)) (omega (arith, lt))))

pub blocks_inside : (size count width : ℕ) → count * width ≤ size → All (ArePositions size 0) (map (block width) (range_with_len 0 count))
blocks_inside size count width fits =
    each_of (ArePositions size 0) (block width) count (λ i lt. from_lower size (i * width) 0 (block width i) (omega arith) (range_positions size (i * width) width (let e = block_ends count width i lt in omega (arith, e, fits))))

pub runs_inside : (size from : ℕ) (ends : List ℕ) → AreEnds size from ends → All (ArePositions size 0) (runs from ends)
runs_inside size from [] h = All-nil (ArePositions size 0)
runs_inside size from (to ∷ ends) h =
    All-cons (ArePositions size 0) (range_with_len from (to - from)) (runs to ends) (from_lower size from 0 (range_with_len from (to - from)) (omega arith) (range_positions size from (to - from) (omega (arith, h.0, h.1)))) (runs_inside size to ends h.2)

-- a position near enough to another one
abbrev pub is_near_by : ℕ → ℕ → ℕ → ℕ → Bool
is_near_by before after i j = nat_le i (j + before) && nat_le j (i + after)

-- the positions of a run among those of an axis
run_of : (p : ℕ → Bool) (lo hi n : ℕ) → lo ≤ hi → hi ≤ n → ((k : ℕ) → k < lo → p k ≡ false) → ((k : ℕ) → lo ≤ k → k < hi → p k ≡ true) → ((k : ℕ) → hi ≤ k → k < n → p k ≡ false) → filter p (range_with_len 0 n) ≡ range_with_len lo (hi - lo)
run_of p lo hi n up within before inside behind =
    let low : filter p (range_with_len 0 lo) ≡ [] = filter_none p 0 lo (λ k a b. before k (omega arith)) in
    let mid : filter p (range_with_len lo (hi - lo)) ≡ range_with_len lo (hi - lo) = filter_all p lo (hi - lo) (λ k a b. inside k a (omega arith)) in
    let top : filter p (range_with_len hi (n - hi)) ≡ [] = filter_none p hi (n - hi) (λ k a b. behind k a (omega arith)) in
    let whole : n ≡ lo + ((hi - lo) + (n - hi)) = omega arith in
    let zero_lo : 0 + lo ≡ lo = omega arith in
    let middle : lo + (hi - lo) ≡ hi = omega arith in
    let rest : range_with_len (0 + lo) ((hi - lo) + (n - hi)) ≡ range_with_len lo (hi - lo) ++ range_with_len hi (n - hi) =
    ap (λ b. range_with_len b ((hi - lo) + (n - hi))) zero_lo ∙ range_with_len-add lo (hi - lo) (n - hi) ∙ ap (λ b. range_with_len lo (hi - lo) ++ range_with_len b (n - hi)) middle in
    let cut : range_with_len 0 n ≡ range_with_len 0 lo ++ (range_with_len lo (hi - lo) ++ range_with_len hi (n - hi)) =
    ap (range_with_len 0) whole ∙ range_with_len-add 0 lo ((hi - lo) + (n - hi)) ∙ ap (λ l. range_with_len 0 lo ++ l) rest in
    ap (filter p) cut ∙ filter-append p (range_with_len 0 lo) _ ∙ ap (λ l. l ++ filter p (range_with_len lo (hi - lo) ++ range_with_len hi (n - hi))) low
    ∙ filter-append p (range_with_len lo (hi - lo)) _ ∙ ap (λ l. l ++ filter p (range_with_len hi (n - hi))) mid ∙ ap (λ l. range_with_len lo (hi - lo) ++ l) top ∙ append-nil _

pub window_is : (size before after i : ℕ) → i < size → filter (is_near_by before after i) (range_with_len 0 size) ≡ window size before after i
window_is size before after i lt =
    run_of (is_near_by before after i) (i - before) (min (i + after + 1) size) size (omega (arith, lt)) (omega arith)
    (λ k h. let far : k + before < i = omega (arith, h) in grind (arith, nat_tests))
    (λ k a b. let x : i ≤ k + before = omega (arith, a) in let y : k ≤ i + after = omega (arith, b) in grind (arith, nat_tests))
    (λ k a b. let far : i + after < k = omega (arith, a, b) in grind (arith, nat_tests))
