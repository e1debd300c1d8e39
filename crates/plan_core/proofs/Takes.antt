-- What is taken from a list in row order is what shows at the positions.
use Rattle.std.proofs.Common.{◌≡◌, ◌<◌, ◌≤◌, ◌+◌, ◌-◌, ◌*◌, ℕ, zero, suc, Bool, true, false, List, [], ◌∷◌, ◌++◌, length, take, drop, set, get_or, replicate, Option, Some, None, option_map, refl, sym, ap, subst, ◌∙◌, arith, append_assoc, length-drop, ◌^◌, min, add-one, cond, Result, Ok, Err, OnOk, IfOk, is_ok}
use Rattle.std.specs.List.{All, flat_map, range_with_len, list_any}
use Rattle.std.specs.Prelude.{IfSome, is_none, is_some}
use Rattle.std.proofs.lemmas.List.{take-append-le, drop-append-le, take_all, append-nil, nil_from_length}
use Rattle.std.proofs.lemmas.List.Elements.{All-weaker}
use Rattle.xr_types.specs.Points.{size, tab, place, IsPoint}
use Rattle.xr_arrays.specs.Nodes.{IsBelow, along, with_axis, without}
use Rattle.plan_core.specs.Arrangements.{shown, arranged, LieInside, ShowsAll}
use Rattle.plan_core.specs.Takes.{part, parts, each_block, taken_point, picked_point, taking_sizes, taking_point, IsRun, IsTaking}
use Rattle.plan_core.proofs.Tabs.{tab_row, tab-length, tab_same, tab_read, flat_same, flat_agree, flat_by_index, blocks, within}

-- the cell at a source position, or the hole
abbrev source : {X : Type 0} → (List ℕ → X) → (ℕ → List ℕ) → X → Option ℕ → X
source f point hole None = hole
source f point hole (Some q) = f (point q)

source_shown : {X : Type 0} (s : List ℕ) (xs : List X) (point : ℕ → List ℕ) (hole : X) (o : Option ℕ) → source (λ p. get_or xs (place s p) hole) point hole o ≡ shown s xs hole (option_map point o)
source_shown s xs point hole None = refl
source_shown s xs point hole (Some q) = refl

-- ---- holes

replicate-append : {X : Type 0} (x : X) (m n : ℕ) → replicate m x ++ replicate n x ≡ replicate (m + n) x
replicate-append x zero n = ap (λ k. replicate k x) (omega arith)
replicate-append x (suc m) n = let k : suc m + n ≡ suc (m + n) = omega arith in rw k (ap (λ t. x ∷ t) (replicate-append x m n))

flat_holes : {X : Type 0} (hole : X) (s a n : ℕ) → flat_map (λ i. replicate s hole) (range_with_len a n) ≡ replicate (n * s) hole
flat_holes hole s a zero = let z : 0 * s ≡ 0 = grind arith in rw z refl
flat_holes hole s a (suc n) =
    let k : suc n * s ≡ s + n * s = grind arith in
    ap (λ t. replicate s hole ++ t) (flat_holes hole s (a + 1) n) ∙ replicate-append hole s (n * s) ∙ ap (λ m. replicate m hole) (sym k)

tab_holes : {X : Type 0} (s : List ℕ) (hole : X) → tab s (λ p. hole) ≡ replicate (size s) hole
tab_holes [] hole = refl
tab_holes (n ∷ ns) hole = flat_same (λ i. tab ns (λ p. hole)) (λ i. replicate (size ns) hole) 0 n (λ i lo hi. tab_holes ns hole) ∙ flat_holes hole (size ns) 0 n

-- ---- blocks

each_append : {X : Type 0} (f : List X → List X) (w o r : ℕ) (xs ys : List X) → length xs ≡ o * w → each_block f w (o + r) (xs ++ ys) ≡ each_block f w o xs ++ each_block f w r ys
each_append f w zero r [] ys long = ap (λ k. each_block f w k ys) (omega arith)
each_append f w zero r (x ∷ xs) ys long = let z : 0 * w ≡ 0 = grind arith in absurd (omega arith)
each_append f w (suc o) r xs ys long =
    let k : suc o + r ≡ suc (o + r) = omega arith in
    let rows : suc o * w ≡ w + o * w = grind arith in
    let fits : w ≤ length xs = omega arith in
    let left : length (drop w xs) ≡ o * w = length-drop w xs ∙ omega arith in
    ap (λ n. each_block f w n (xs ++ ys)) k ∙ ap (λ t. f t ++ each_block f w (o + r) (drop w (xs ++ ys))) (take-append-le w xs ys fits)
    ∙ ap (λ t. f (take w xs) ++ each_block f w (o + r) t) (drop-append-le w xs ys fits) ∙ ap (λ t. f (take w xs) ++ t) (each_append f w o r (drop w xs) ys left)
    ∙ sym (append_assoc (f (take w xs)) (each_block f w o (drop w xs)) (each_block f w r ys))

pub each_flat : {X : Type 0} (f : List X → List X) (h : ℕ → List X) (w o a m : ℕ) → ((i : ℕ) → length (h i) ≡ o * w) → each_block f w (m * o) (flat_map h (range_with_len a m)) ≡ flat_map (λ i. each_block f w o (h i)) (range_with_len a m)
each_flat f h w o a zero long = let z : 0 * o ≡ 0 = grind arith in rw z refl
each_flat f h w o a (suc m) long =
    let k : suc m * o ≡ o + m * o = grind arith in
    ap (λ n. each_block f w n (flat_map h (range_with_len a (suc m)))) k ∙ each_append f w o (m * o) (h a) (flat_map h (range_with_len (a + 1) m)) (long a) ∙ ap (λ t. each_block f w o (h a) ++ t) (each_flat f h w o (a + 1) m long)

pub regroup : (m o w : ℕ) → m * (o * w) ≡ (m * o) * w
regroup m o w = grind arith

pub one_times : (w : ℕ) → w ≡ 1 * w
one_times w = grind arith

pub size_split : (s : List ℕ) (k : ℕ) → k < length s → size s ≡ size (take k s) * (get_or s k 0 * size (drop (suc k) s))
size_split [] k lt = absurd (omega arith)
size_split (n ∷ ns) zero lt = one_times (n * size ns)
size_split (n ∷ ns) (suc k) lt = ap (λ x. n * x) (size_split ns k (omega arith)) ∙ regroup n (size (take k ns)) (get_or ns k 0 * size (drop (suc k) ns))

pub one_block : {X : Type 0} (f : List X → List X) (w : ℕ) (xs : List X) → length xs ≡ w → each_block f w 1 xs ≡ f xs
one_block f w xs long = append-nil (f (take w xs)) ∙ ap f (take_all w xs (omega arith))

-- ---- along an axis

first_axis : {X : Type 0} (n : ℕ) (ns : List ℕ) (f : List ℕ → X) (from : List (Option ℕ)) (hole : X) → All (IsBelow n) from
    → parts (size ns) from hole (tab (n ∷ ns) f) ≡ tab (length from ∷ ns) (λ p. source f (λ q. along 0 q p) hole (get_or from (get_or p 0 0) None))
first_axis n ns f from hole inside =
    let g = λ (s : Option ℕ). tab ns (λ p. source f (λ q. q ∷ p) hole s) in
    flat_agree (IsBelow n) (part (size ns) (tab (n ∷ ns) f) hole) g from inside (λ s. elim s as (λ s. IsBelow n s → part (size ns) (tab (n ∷ ns) f) hole s ≡ g s) [ None ↦ λ h. sym (tab_holes ns hole) | Some q ↦ λ h. tab_row n ns f q h ])
    ∙ flat_by_index g from None

taken_tab : {X : Type 0} (s : List ℕ) (axis : ℕ) (f : List ℕ → X) (from : List (Option ℕ)) (hole : X) → axis < length s → All (IsBelow (get_or s axis 0)) from
    → each_block (parts (size (drop (suc axis) s)) from hole) (get_or s axis 0 * size (drop (suc axis) s)) (size (take axis s)) (tab s f) ≡ tab (set s axis (length from)) (λ p. source f (λ q. along axis q p) hole (get_or from (get_or p axis 0) None))
taken_tab [] axis f from hole lt inside = absurd (omega arith)
taken_tab (n ∷ ns) zero f from hole lt inside = one_block (parts (size ns) from hole) (n * size ns) (tab (n ∷ ns) f) (tab-length (n ∷ ns) f) ∙ first_axis n ns f from hole inside
taken_tab (m ∷ ns) (suc k) f from hole lt inside =
    let below : k < length ns = omega arith in
    let row = size (drop (suc k) ns) in
    let n = get_or ns k 0 in
    let g = parts row from hole in
    each_flat g (λ i. tab ns (λ p. f (i ∷ p))) (n * row) (size (take k ns)) 0 m (λ i. tab-length ns (λ p. f (i ∷ p)) ∙ size_split ns k below)
    ∙ flat_same (λ i. each_block g (n * row) (size (take k ns)) (tab ns (λ p. f (i ∷ p)))) (λ i. tab (set ns k (length from)) (λ p. source (λ q. f (i ∷ q)) (λ q. along k q p) hole (get_or from (get_or p k 0) None))) 0 m (λ i lo hi. taken_tab ns k (λ p. f (i ∷ p)) from hole below inside)

-- one position, with the axis of size 1 and without it
picked_tab : {X : Type 0} (s : List ℕ) (axis q : ℕ) (f : List ℕ → X) → axis < length s → tab (set s axis 1) (λ p. f (along axis q p)) ≡ tab (without axis s) (λ p. f (with_axis axis q p))
picked_tab [] axis q f lt = absurd (omega arith)
picked_tab (n ∷ ns) zero q f lt = append-nil (tab ns (λ p. f (q ∷ p)))
picked_tab (n ∷ ns) (suc k) q f lt = flat_same (λ i. tab (set ns k 1) (λ p. f (i ∷ along k q p))) (λ i. tab (without k ns) (λ p. f (i ∷ with_axis k q p))) 0 n (λ i lo hi. picked_tab ns k q (λ p. f (i ∷ p)) (omega arith))

picked_source : {X : Type 0} (s : List ℕ) (axis : ℕ) (f : List ℕ → X) (hole : X) (o : Option ℕ) → axis < length s → tab (set s axis 1) (λ p. source f (λ q. along axis q p) hole o) ≡ tab (without axis s) (λ p. source f (λ q. with_axis axis q p) hole o)
picked_source s axis f hole None lt = picked_tab s axis 0 (λ p. hole) lt
picked_source s axis f hole (Some q) lt = picked_tab s axis q f lt

axis_below : (s : List ℕ) (axis n : ℕ) (p : List ℕ) → axis < length s → IsPoint (set s axis n) p → get_or p axis 0 < n
axis_below [] axis n p lt inside = absurd (omega arith)
axis_below (m ∷ ns) zero n [] lt inside = absurd inside
axis_below (m ∷ ns) zero n (i ∷ p) lt inside = inside.0
axis_below (m ∷ ns) (suc k) n [] lt inside = absurd inside
axis_below (m ∷ ns) (suc k) n (i ∷ p) lt inside = axis_below ns k n p (omega arith) inside.1

only : (from : List (Option ℕ)) (i : ℕ) → length from ≡ 1 → i < 1 → get_or from i None ≡ get_or from 0 None
only from i one lt = let z : i ≡ 0 = omega arith in ap (λ k. get_or from k None) z

-- ---- what is taken, with the axis or without it

numbers_taken : {X : Type 0} (s : List ℕ) (axis : ℕ) (from : List (Option ℕ)) (hole : X) (xs : List X) → axis < length s → All (IsBelow (get_or s axis 0)) from → length xs ≡ size s
    → each_block (parts (size (drop (suc axis) s)) from hole) (get_or s axis 0 * size (drop (suc axis) s)) (size (take axis s)) xs ≡ tab (set s axis (length from)) (λ p. source (λ q. get_or xs (place s q) hole) (λ q. along axis q p) hole (get_or from (get_or p axis 0) None))
numbers_taken s axis from hole xs lt inside long =
    ap (each_block (parts (size (drop (suc axis) s)) from hole) (get_or s axis 0 * size (drop (suc axis) s)) (size (take axis s))) (sym (tab_read s xs hole long)) ∙ taken_tab s axis (λ p. get_or xs (place s p) hole) from hole lt inside

pub taking_is : {X : Type 0} (drops : Bool) (s : List ℕ) (axis : ℕ) (from : List (Option ℕ)) (hole : X) (xs : List X) → axis < length s → All (IsBelow (get_or s axis 0)) from → (drops ≡ true → length from ≡ 1) → length xs ≡ size s
    → each_block (parts (size (drop (suc axis) s)) from hole) (get_or s axis 0 * size (drop (suc axis) s)) (size (take axis s)) xs ≡ arranged s (taking_sizes drops s axis from) (taking_point drops axis from) hole xs
taking_is false s axis from hole xs lt inside one long =
    let f = λ (q : List ℕ). get_or xs (place s q) hole in
    numbers_taken s axis from hole xs lt inside long
    ∙ tab_same (set s axis (length from)) (λ p. source f (λ q. along axis q p) hole (get_or from (get_or p axis 0) None)) (λ p. shown s xs hole (taken_point axis from p)) (λ p here. source_shown s xs (λ q. along axis q p) hole (get_or from (get_or p axis 0) None))
taking_is true s axis from hole xs lt inside one long =
    let f = λ (q : List ℕ). get_or xs (place s q) hole in
    let o = get_or from 0 None in
    numbers_taken s axis from hole xs lt inside long
    ∙ tab_same (set s axis (length from)) (λ p. source f (λ q. along axis q p) hole (get_or from (get_or p axis 0) None)) (λ p. source f (λ q. along axis q p) hole o)
    (λ p here. let below : get_or p axis 0 < length from = axis_below s axis (length from) p lt here in let l : length from ≡ 1 = one refl in ap (source f (λ q. along axis q p) hole) (only from (get_or p axis 0) l (omega arith)))
    ∙ ap (λ k. tab (set s axis k) (λ p. source f (λ q. along axis q p) hole o)) (one refl) ∙ picked_source s axis f hole o lt
    ∙ tab_same (without axis s) (λ p. source f (λ q. with_axis axis q p) hole o) (λ p. shown s xs hole (picked_point axis o p)) (λ p here. source_shown s xs (λ q. with_axis axis q p) hole o)

-- ---- the points that are shown

along_inside : (s : List ℕ) (axis n q : ℕ) (p : List ℕ) → axis < length s → q < get_or s axis 0 → IsPoint (set s axis n) p → IsPoint s (along axis q p)
along_inside [] axis n q p lt below inside = absurd (omega arith)
along_inside (m ∷ ns) zero n q [] lt below inside = absurd inside
along_inside (m ∷ ns) zero n q (i ∷ p) lt below inside = (below, inside.1)
along_inside (m ∷ ns) (suc k) n q [] lt below inside = absurd inside
along_inside (m ∷ ns) (suc k) n q (i ∷ p) lt below inside = (inside.0, along_inside ns k n q p (omega arith) below inside.1)

with_inside : (s : List ℕ) (axis q : ℕ) (p : List ℕ) → axis < length s → q < get_or s axis 0 → IsPoint (without axis s) p → IsPoint s (with_axis axis q p)
with_inside [] axis q p lt below inside = absurd (omega arith)
with_inside (m ∷ ns) zero q p lt below inside = (below, inside)
with_inside (m ∷ ns) (suc k) q [] lt below inside = absurd inside
with_inside (m ∷ ns) (suc k) q (i ∷ p) lt below inside = (inside.0, with_inside ns k q p (omega arith) below inside.1)

if_taken : (s : List ℕ) (axis n : ℕ) (p : List ℕ) (o : Option ℕ) → axis < length s → IsBelow (get_or s axis 0) o → IsPoint (set s axis n) p → IfSome (option_map (λ i. along axis i p) o) (IsPoint s)
if_taken s axis n p None lt below inside = tt
if_taken s axis n p (Some q) lt below inside = along_inside s axis n q p lt below inside

if_picked : (s : List ℕ) (axis : ℕ) (p : List ℕ) (o : Option ℕ) → axis < length s → IsBelow (get_or s axis 0) o → IsPoint (without axis s) p → IfSome (option_map (λ i. with_axis axis i p) o) (IsPoint s)
if_picked s axis p None lt below inside = tt
if_picked s axis p (Some q) lt below inside = with_inside s axis q p lt below inside

pub taking_inside : (drops : Bool) (s : List ℕ) (axis : ℕ) (from : List (Option ℕ)) → axis < length s → All (IsBelow (get_or s axis 0)) from → (drops ≡ true → length from ≡ 1) → LieInside s (taking_sizes drops s axis from) (taking_point drops axis from)
taking_inside true s axis from lt inside one p here = let l : length from ≡ 1 = one refl in if_picked s axis p (get_or from 0 None) lt (inside 0 None (omega arith)) here
taking_inside false s axis from lt inside one p here = if_taken s axis (length from) p (get_or from (get_or p axis 0) None) lt (inside (get_or p axis 0) None (axis_below s axis (length from) p lt here)) here

no_holes : (from : List (Option ℕ)) (j : ℕ) → list_any is_none from ≡ false → j < length from → is_none (get_or from j None) ≡ false
no_holes [] j none lt = absurd (omega arith)
no_holes (None ∷ from) j none lt = absurd cc
no_holes (Some q ∷ from) zero none lt = refl
no_holes (Some q ∷ from) (suc j) none lt = no_holes from j none (omega arith)

mapped : {X Y : Type 0} (f : X → Y) (o : Option X) → is_none o ≡ false → is_some (option_map f o) ≡ true
mapped f None e = absurd cc
mapped f (Some x) e = refl

pub taking_shows_all : (drops : Bool) (s : List ℕ) (axis : ℕ) (from : List (Option ℕ)) → axis < length s → (drops ≡ true → length from ≡ 1) → list_any is_none from ≡ false → ShowsAll (taking_sizes drops s axis from) (taking_point drops axis from)
taking_shows_all true s axis from lt one none p here = let l : length from ≡ 1 = one refl in mapped (λ i. with_axis axis i p) (get_or from 0 None) (no_holes from 0 none (omega arith))
taking_shows_all false s axis from lt one none p here = mapped (λ i. along axis i p) (get_or from (get_or p axis 0) None) (no_holes from (get_or p axis 0) none (axis_below s axis (length from) p lt here))

-- ---- neighbouring positions

-- parts at neighbouring positions are one run
pub run_is : {X : Type 0} (row q : ℕ) (from : List (Option ℕ)) (hole : X) (xs : List X) → ((j : ℕ) → j < length from → get_or from j None ≡ Some (q + j)) → parts row from hole xs ≡ take (length from * row) (drop (q * row) xs)
run_is row q from hole xs are =
    let places = λ (j : ℕ) (lo : 0 ≤ j) (hi : j < 0 + length from). let e : (q + j) * row ≡ q * row + j * row = grind arith in ap (part row xs hole) (are j (omega arith)) ∙ ap (λ k. take row (drop k xs)) e in
    let first : q * row + 0 * row ≡ q * row = grind arith in
    flat_by_index (part row xs hole) from None ∙ flat_same (λ j. part row xs hole (get_or from j None)) (λ j. take row (drop (q * row + j * row) xs)) 0 (length from) places
    ∙ blocks row (q * row) 0 (length from) xs ∙ ap (λ k. take (length from * row) (drop k xs)) first

pub run_of : (o : Option ℕ) (q : ℕ) (from : List (Option ℕ)) → o ≡ Some q → IfSome o (λ q. IsRun q from) → IsRun q from
run_of o q from is run = subst (λ o. IfSome o (λ q. IsRun q from)) is run

times_le : (a b r : ℕ) → a ≤ b → a * r ≤ b * r
times_le a b r le = grind arith

pub run_inside : (q n row : ℕ) (from : List (Option ℕ)) → IsRun q from → All (IsBelow n) from → q * row + length from * row ≤ n * row
run_inside q n row from run inside =
    let last = length from - 1 in
    let here : get_or from last None ≡ Some (q + last) = run.1 last (let some = run.0 in omega arith) in
    let below : q + last < n = subst (IsBelow n) here (inside last None (let some = run.0 in omega arith)) in
    let whole : (q + length from) * row ≤ n * row = times_le (q + length from) n row (let some = run.0 in omega arith) in
    let e : (q + length from) * row ≡ q * row + length from * row = grind arith in
    omega arith

one_inside : (n row len : ℕ) → len ≡ n * row → (s : Option ℕ) → IsBelow n s → IfSome s (λ q. q * row + row ≤ len)
one_inside n row len long None inside = tt
one_inside n row len long (Some q) inside = let near : q * row + row ≤ n * row = within q n row inside in omega arith

-- the parts of a list that are taken lie inside
pub parts_inside : {X : Type 0} (n row : ℕ) (cells : List X) (from : List (Option ℕ)) → length cells ≡ n * row → All (IsBelow n) from → All (λ s. IfSome s (λ q. q * row + row ≤ length cells)) from
parts_inside n row cells from long inside = All-weaker (IsBelow n) (λ s. IfSome s (λ q. q * row + row ≤ length cells)) (one_inside n row (length cells) long) from inside

-- what a call has appended
pub appended : {A E X : Type 0} (r : Result A E) (new out here whole : List X) → new ≡ cond (is_ok r) (out ++ here) out → here ≡ whole → OnOk r (new ≡ out ++ whole)
appended (Ok a) new out here whole is same = is ∙ ap (λ t. out ++ t) same
appended (Err e) new out here whole is same = tt

pub if_ok : {A E : Type 0} (r : Result A E) (P Q : A → Type 0) → ((a : A) → P a → Q a) → IfOk r P → IfOk r Q
if_ok (Ok a) P Q f h = f a h
if_ok (Err e) P Q f h = tt

-- ---- the loop over the blocks

pub blocks_more : {X : Type 0} (f : List X → List X) (out more whole here rest behind : List X) (width n i : ℕ) → i < n → here ≡ take width rest → behind ≡ drop width rest → more ≡ out ++ f here → out ++ each_block f width (n - i) rest ≡ whole → more ++ each_block f width (n - (i + 1)) behind ≡ whole
blocks_more f out more whole here rest behind width n i lt is_here is_behind is_more so_far =
    let k : n - i ≡ suc (n - (i + 1)) = omega arith in
    let one : each_block f width (n - i) rest ≡ f (take width rest) ++ each_block f width (n - (i + 1)) (drop width rest) = rw k refl in
    ap (λ b. more ++ each_block f width (n - (i + 1)) b) is_behind ∙ ap (λ m. m ++ each_block f width (n - (i + 1)) (drop width rest)) (is_more ∙ ap (λ h. out ++ f h) is_here)
    ∙ append_assoc out (f (take width rest)) (each_block f width (n - (i + 1)) (drop width rest)) ∙ ap (λ t. out ++ t) (sym one) ∙ so_far

pub blocks_end : {X : Type 0} (f : List X → List X) (out whole rest : List X) (width n i : ℕ) → n ≤ i → out ++ each_block f width (n - i) rest ≡ whole → out ≡ whole
blocks_end f out whole rest width n i le so_far = let k : n - i ≡ 0 = omega arith in sym (append-nil out) ∙ ap (λ m. out ++ each_block f width m rest) (sym k) ∙ so_far

-- a block more lies in what is left
pub block_left : (n i width len : ℕ) → i < n → len ≡ (n - i) * width → (width ≤ len) × (len - width ≡ (n - (i + 1)) * width)
block_left n i width len lt is =
    let k : n - i ≡ suc (n - (i + 1)) = omega arith in
    let rows : suc (n - (i + 1)) * width ≡ width + (n - (i + 1)) * width = grind arith in
    let both : len ≡ width + (n - (i + 1)) * width = is ∙ ap (λ m. m * width) k ∙ rows in
    (omega arith, omega arith)

-- ---- sizes

pub size_set : (s : List ℕ) (axis k : ℕ) → axis < length s → size (set s axis k) ≡ size (take axis s) * (k * size (drop (suc axis) s))
size_set [] axis k lt = absurd (omega arith)
size_set (n ∷ ns) zero k lt = one_times (k * size ns)
size_set (n ∷ ns) (suc axis) k lt = ap (λ x. n * x) (size_set ns axis k (omega arith)) ∙ regroup n (size (take axis ns)) (k * size (drop (suc axis) ns))

size_without : (s : List ℕ) (axis : ℕ) → axis < length s → size (without axis s) ≡ size (take axis s) * (1 * size (drop (suc axis) s))
size_without [] axis lt = absurd (omega arith)
size_without (n ∷ ns) zero lt = one_times (size ns) ∙ one_times (1 * size ns)
size_without (n ∷ ns) (suc axis) lt = ap (λ x. n * x) (size_without ns axis (omega arith)) ∙ regroup n (size (take axis ns)) (1 * size (drop (suc axis) ns))

pub taking_size : (drops : Bool) (s : List ℕ) (axis : ℕ) (from : List (Option ℕ)) → axis < length s → (drops ≡ true → length from ≡ 1) → size (taking_sizes drops s axis from) ≡ size (take axis s) * (length from * size (drop (suc axis) s))
taking_size true s axis from lt one = size_without s axis lt ∙ ap (λ k. size (take axis s) * (k * size (drop (suc axis) s))) (sym (one refl))
taking_size false s axis from lt one = size_set s axis (length from) lt

pub chosen_sizes : (drops : Bool) (s : List ℕ) (axis : ℕ) (from : List (Option ℕ)) → cond drops (without axis s) (set s axis (length from)) ≡ taking_sizes drops s axis from
chosen_sizes true s axis from = refl
chosen_sizes false s axis from = refl

pub factor : (a c : ℕ) → 0 < a * c → (a ≤ a * c) × (c ≤ a * c)
factor zero c lt = let z : zero * c ≡ 0 = grind arith in absurd (omega arith)
factor (suc a) zero lt = let z : suc a * zero ≡ 0 = grind arith in absurd (omega arith)
factor (suc a) (suc c) lt = let z : suc a * suc c ≡ suc a + (c + a * c) = grind arith in (omega arith, omega arith)

pub positive : (a c : ℕ) → 0 < a * c → (0 < a) × (0 < c)
positive zero c lt = let z : zero * c ≡ 0 = grind arith in absurd (omega arith)
positive (suc a) zero lt = let z : suc a * zero ≡ 0 = grind arith in absurd (omega arith)
positive (suc a) (suc c) lt = (omega arith, omega arith)

-- how many blocks of how many rows there are, where something is taken
pub record AreCounts (s : List ℕ) (axis outer row : ℕ) : Type 0 where
  pub outer_is : outer ≡ size (take axis s)
  pub row_is : row ≡ size (drop (suc axis) s)
  pub whole : size s ≡ outer * (get_or s axis 0 * row)
  pub few : get_or s axis 0 * row ≤ 2 ^ 50

pub counts : (drops : Bool) (s front behind sizes : List ℕ) (axis outer row count : ℕ) (from : List (Option ℕ)) → IsTaking drops s axis from → front ≡ take axis s → behind ≡ drop (axis + 1) s → sizes ≡ taking_sizes drops s axis from
    → outer ≡ min (size front) (2 ^ 64 - 1) → row ≡ min (size behind) (2 ^ 64 - 1) → count ≡ min (size sizes) (2 ^ 64 - 1) → 0 < count → AreCounts s axis outer row
counts drops s front behind sizes axis outer row count from t is_front is_behind is_sizes is_outer is_row is_count some =
    let a = size (take axis s) in
    let b = size (drop (suc axis) s) in
    let k = length from in
    let all : size (taking_sizes drops s axis from) ≡ a * (k * b) = taking_size drops s axis from t.axis_is t.one in
    let small : a * (k * b) ≤ 2 ^ 50 = subst (λ x. x ≤ 2 ^ 50) all t.small in
    let more : 0 < a * (k * b) = let e = is_count ∙ ap (λ x. min (size x) (2 ^ 64 - 1)) is_sizes ∙ ap (λ x. min x (2 ^ 64 - 1)) all in omega arith in
    let first = factor a (k * b) more in
    let second = factor k b (positive a (k * b) more).1 in
    let e1 : outer ≡ min a (2 ^ 64 - 1) = is_outer ∙ ap (λ x. min (size x) (2 ^ 64 - 1)) is_front in
    let e2 : row ≡ min b (2 ^ 64 - 1) = is_row ∙ ap (λ x. min (size x) (2 ^ 64 - 1)) (is_behind ∙ ap (λ j. drop j s) (add-one axis)) in
    let o : outer ≡ a = omega (arith, e1, first, small) in
    let r : row ≡ b = omega (arith, e2, first, second, small) in
    let whole : size s ≡ outer * (get_or s axis 0 * row) = size_split s axis t.axis_is ∙ sym (ap (λ x. x * (get_or s axis 0 * row)) o ∙ ap (λ x. a * (get_or s axis 0 * x)) r) in
    record {
      outer_is = o;
      row_is = r;
      whole = whole;
      few =
          let one : 1 * (get_or s axis 0 * row) ≤ outer * (get_or s axis 0 * row) = times_le 1 outer (get_or s axis 0 * row) (let p = positive a (k * b) more in omega (arith, o, p)) in
          let few = t.few in
          omega (arith, whole, one, few);
    }

-- nothing is taken
pub none_taken : {X : Type 0} (drops : Bool) (s sizes : List ℕ) (axis count : ℕ) (from : List (Option ℕ)) (hole : X) (xs : List X) → sizes ≡ taking_sizes drops s axis from → count ≡ min (size sizes) (2 ^ 64 - 1) → count ≡ 0 → arranged s (taking_sizes drops s axis from) (taking_point drops axis from) hole xs ≡ []
none_taken drops s sizes axis count from hole xs is_sizes is_count none =
    let t = taking_sizes drops s axis from in
    let e = is_count ∙ ap (λ x. min (size x) (2 ^ 64 - 1)) is_sizes in
    let z : size t ≡ 0 = omega arith in
    nil_from_length (arranged s t (taking_point drops axis from) hole xs) (tab-length t (λ p. shown s xs hole (taking_point drops axis from p)) ∙ z)

-- what is taken by these counts
pub taken_by : {X : Type 0} (drops : Bool) (s : List ℕ) (axis outer n row : ℕ) (from : List (Option ℕ)) (hole : X) (xs : List X) → IsTaking drops s axis from → AreCounts s axis outer row → n ≡ get_or s axis 0 → length xs ≡ size s
    → each_block (parts row from hole) (n * row) outer xs ≡ arranged s (taking_sizes drops s axis from) (taking_point drops axis from) hole xs
taken_by drops s axis outer n row from hole xs t are is_n long =
    ap (λ k. each_block (parts row from hole) (k * row) outer xs) is_n ∙ ap (λ k. each_block (parts k from hole) (get_or s axis 0 * k) outer xs) are.row_is
    ∙ ap (λ k. each_block (parts (size (drop (suc axis) s)) from hole) (get_or s axis 0 * size (drop (suc axis) s)) k xs) are.outer_is ∙ taking_is drops s axis from hole xs t.axis_is t.inside t.one long
