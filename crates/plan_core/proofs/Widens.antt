-- Rows that are repeated are what shows along an axis that is added.
use Rattle.std.proofs.Common.{◌≡◌, ◌<◌, ◌≤◌, ◌+◌, ◌-◌, ◌*◌, ◌^◌, ℕ, zero, suc, List, [], ◌∷◌, ◌++◌, length, take, drop, insert, get_or, min, refl, sym, ap, subst, ◌∙◌, arith, append_assoc}
use Rattle.std.specs.List.{flat_map, range_with_len}
use Rattle.std.proofs.lemmas.List.{nil_from_length}
use Rattle.xr_types.specs.Points.{size, tab, place, IsPoint}
use Rattle.xr_arrays.specs.Nodes.{without}
use Rattle.plan_core.specs.Arrangements.{shown, arranged, LieInside, ShowsAll}
use Rattle.plan_core.specs.Takes.{each_block}
use Rattle.plan_core.specs.Widens.{repeated, widened_point, IsWidening}
use Rattle.plan_core.proofs.Tabs.{tab-length, tab_read, flat_same}
use Rattle.plan_core.proofs.Takes.{each_flat, one_block, factor, positive, regroup, one_times}

repeated_flat : {X : Type 0} (n a : ℕ) (row : List X) → repeated n row ≡ flat_map (λ i. row) (range_with_len a n)
repeated_flat zero a row = refl
repeated_flat (suc n) a row = ap (λ t. row ++ t) (repeated_flat n (a + 1) row)

size_at : (s : List ℕ) (axis : ℕ) → axis ≤ length s → size s ≡ size (take axis s) * size (drop axis s)
size_at s zero le = one_times (size s)
size_at [] (suc k) le = absurd (omega arith)
size_at (n ∷ ns) (suc k) le = ap (λ x. n * x) (size_at ns k (omega arith)) ∙ regroup n (size (take k ns)) (size (drop k ns))

widened_tab : {X : Type 0} (s : List ℕ) (axis n : ℕ) (f : List ℕ → X) → axis ≤ length s → each_block (repeated n) (size (drop axis s)) (size (take axis s)) (tab s f) ≡ tab (insert s axis n) (λ p. f (without axis p))
widened_tab s zero n f le = one_block (repeated n) (size s) (tab s f) (tab-length s f) ∙ repeated_flat n 0 (tab s f)
widened_tab [] (suc k) n f le = absurd (omega arith)
widened_tab (m ∷ ns) (suc k) n f le =
    let below : k ≤ length ns = omega arith in
    each_flat (repeated n) (λ i. tab ns (λ p. f (i ∷ p))) (size (drop k ns)) (size (take k ns)) 0 m (λ i. tab-length ns (λ p. f (i ∷ p)) ∙ size_at ns k below)
    ∙ flat_same (λ i. each_block (repeated n) (size (drop k ns)) (size (take k ns)) (tab ns (λ p. f (i ∷ p)))) (λ i. tab (insert ns k n) (λ p. f (i ∷ without k p))) 0 m (λ i lo hi. widened_tab ns k n (λ p. f (i ∷ p)) below)

pub without_inside : (s : List ℕ) (axis n : ℕ) (p : List ℕ) → axis ≤ length s → IsPoint (insert s axis n) p → IsPoint s (without axis p)
without_inside s zero n [] le inside = absurd inside
without_inside s zero n (i ∷ p) le inside = inside.1
without_inside [] (suc k) n p le inside = absurd (omega arith)
without_inside (m ∷ ns) (suc k) n [] le inside = absurd inside
without_inside (m ∷ ns) (suc k) n (i ∷ p) le inside = (inside.0, without_inside ns k n p (omega arith) inside.1)

pub widening_inside : (s : List ℕ) (axis n : ℕ) → axis ≤ length s → LieInside s (insert s axis n) (widened_point axis)
widening_inside s axis n le p here = without_inside s axis n p le here

pub widening_shows_all : (s : List ℕ) (axis n : ℕ) → ShowsAll (insert s axis n) (widened_point axis)
widening_shows_all s axis n p here = refl

size_insert : (s : List ℕ) (axis n : ℕ) → axis ≤ length s → size (insert s axis n) ≡ size (take axis s) * (n * size (drop axis s))
size_insert s zero n le = one_times (n * size s)
size_insert [] (suc k) n le = absurd (omega arith)
size_insert (m ∷ ns) (suc k) n le = ap (λ x. m * x) (size_insert ns k n (omega arith)) ∙ regroup m (size (take k ns)) (n * size (drop k ns))

pub record AreRows (s : List ℕ) (axis outer row : ℕ) : Type 0 where
  pub outer_is : outer ≡ size (take axis s)
  pub row_is : row ≡ size (drop axis s)
  pub whole : size s ≡ outer * row

pub rows : (s front behind sizes : List ℕ) (axis n outer row count : ℕ) → IsWidening s axis n → front ≡ take axis s → behind ≡ drop axis s → sizes ≡ insert s axis n
    → outer ≡ min (size front) (2 ^ 64 - 1) → row ≡ min (size behind) (2 ^ 64 - 1) → count ≡ min (size sizes) (2 ^ 64 - 1) → 0 < count → AreRows s axis outer row
rows s front behind sizes axis n outer row count w is_front is_behind is_sizes is_outer is_row is_count some =
    let a = size (take axis s) in
    let b = size (drop axis s) in
    let all : size (insert s axis n) ≡ a * (n * b) = size_insert s axis n w.axis_is in
    let small : a * (n * b) ≤ 2 ^ 50 = subst (λ x. x ≤ 2 ^ 50) all w.small in
    let more : 0 < a * (n * b) = let e = is_count ∙ ap (λ x. min (size x) (2 ^ 64 - 1)) is_sizes ∙ ap (λ x. min x (2 ^ 64 - 1)) all in omega arith in
    let first = factor a (n * b) more in
    let second = factor n b (positive a (n * b) more).1 in
    let e1 : outer ≡ min a (2 ^ 64 - 1) = is_outer ∙ ap (λ x. min (size x) (2 ^ 64 - 1)) is_front in
    let e2 : row ≡ min b (2 ^ 64 - 1) = is_row ∙ ap (λ x. min (size x) (2 ^ 64 - 1)) is_behind in
    let o : outer ≡ a = omega (arith, e1, first, small) in
    let r : row ≡ b = omega (arith, e2, first, second, small) in
    record { outer_is = o; row_is = r; whole = size_at s axis w.axis_is ∙ sym (ap (λ x. x * row) o ∙ ap (λ x. a * x) r) }

pub none_widened : {X : Type 0} (s sizes : List ℕ) (axis n count : ℕ) (hole : X) (xs : List X) → sizes ≡ insert s axis n → count ≡ min (size sizes) (2 ^ 64 - 1) → count ≡ 0 → arranged s (insert s axis n) (widened_point axis) hole xs ≡ []
none_widened s sizes axis n count hole xs is_sizes is_count none =
    let t = insert s axis n in
    let e = is_count ∙ ap (λ x. min (size x) (2 ^ 64 - 1)) is_sizes in
    let z : size t ≡ 0 = omega arith in
    nil_from_length (arranged s t (widened_point axis) hole xs) (tab-length t (λ p. shown s xs hole (widened_point axis p)) ∙ z)

pub widened_by : {X : Type 0} (s : List ℕ) (axis n outer row : ℕ) (hole : X) (xs : List X) → axis ≤ length s → AreRows s axis outer row → length xs ≡ size s → each_block (repeated n) row outer xs ≡ arranged s (insert s axis n) (widened_point axis) hole xs
widened_by s axis n outer row hole xs le are long =
    ap (λ k. each_block (repeated n) k outer xs) are.row_is ∙ ap (λ k. each_block (repeated n) (size (drop axis s)) k xs) are.outer_is
    ∙ ap (each_block (repeated n) (size (drop axis s)) (size (take axis s))) (sym (tab_read s xs hole long)) ∙ widened_tab s axis n (λ p. get_or xs (place s p) hole) le

pub repeated_more : {X : Type 0} (out more whole row : List X) (n i : ℕ) → i < n → more ≡ out ++ row → out ++ repeated (n - i) row ≡ whole → more ++ repeated (n - (i + 1)) row ≡ whole
repeated_more out more whole row n i lt is so_far =
    let k : n - i ≡ suc (n - (i + 1)) = omega arith in
    let one : repeated (n - i) row ≡ row ++ repeated (n - (i + 1)) row = rw k refl in
    ap (λ m. m ++ repeated (n - (i + 1)) row) is ∙ append_assoc out row (repeated (n - (i + 1)) row) ∙ ap (λ t. out ++ t) (sym one) ∙ so_far
