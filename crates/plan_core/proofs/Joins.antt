-- Lists one after the other, read as one along an axis.
use Rattle.std.proofs.Common.{◌≡◌, ◌<◌, ◌≤◌, ◌+◌, ◌-◌, ◌*◌, ◌^◌, ℕ, zero, suc, cond, List, [], ◌∷◌, ◌++◌, length, min, take, drop, set, sum, fold, get_or, refl, sym, ap, subst, ◌∙◌, arith, append_assoc, add-one, ltb, Fits, w64}
use Rattle.std.specs.List.{flat_map, range_with_len}
use Rattle.std.proofs.lemmas.Bool.{lt-ltb, le-ltb}
use Rattle.std.proofs.lemmas.Grind.{flat_map-append}
use Rattle.std.proofs.lemmas.List.{append-nil, drop_all, nil_from_length}
use Rattle.xr_types.specs.Points.{size, tab, place}
use Rattle.xr_arrays.specs.Nodes.{along}
use Rattle.plan_core.specs.Arrangements.{shown, arranged}
use Rattle.plan_core.specs.Joins.{joined_place, joined_point, joined_sizes, joined_row, joined_total, IsJoining}
use Rattle.plan_core.proofs.Tabs.{flat_same, tab_same, tab_part, blocks, within, suc_times, tab-length}
use Rattle.plan_core.proofs.Takes.{size_set, factor, positive}
use Rattle.plan_core.proofs.Strides.{at_axis, flat_more}

-- ---- ranges

range_join : (a m n : ℕ) → range_with_len a (m + n) ≡ range_with_len a m ++ range_with_len (a + m) n
range_join a zero n = let k : 0 + n ≡ n = omega arith in let z : a ≡ a + 0 = omega arith in ap (range_with_len a) k ∙ ap (λ b. range_with_len b n) z
range_join a (suc m) n =
    let k : suc m + n ≡ suc (m + n) = omega arith in
    let z : (a + 1) + m ≡ a + suc m = omega arith in
    ap (range_with_len a) k ∙ ap (λ t. a ∷ t) (range_join (a + 1) m n) ∙ ap (λ b. a ∷ (range_with_len (a + 1) m ++ range_with_len b n)) z

flat_shift : {X : Type 0} (g : ℕ → List X) (d a n : ℕ) → flat_map (λ i. g (i - d)) (range_with_len (d + a) n) ≡ flat_map g (range_with_len a n)
flat_shift g d a zero = refl
flat_shift g d a (suc n) =
    let here : (d + a) - d ≡ a = omega arith in
    let next : (d + a) + 1 ≡ d + (a + 1) = omega arith in
    ap (λ k. g k ++ flat_map (λ i. g (i - d)) (range_with_len ((d + a) + 1) n)) here ∙ ap (λ k. g a ++ flat_map (λ i. g (i - d)) (range_with_len k n)) next ∙ ap (λ t. g a ++ t) (flat_shift g d (a + 1) n)

-- rows of a grid, one after the other
grid : {X : Type 0} (h : ℕ → List X) (w a m : ℕ) → flat_map (λ i. flat_map (λ j. h (i * w + j)) (range_with_len 0 w)) (range_with_len a m) ≡ flat_map h (range_with_len (a * w) (m * w))
grid h w a zero = let z : 0 * w ≡ 0 = grind arith in rw z refl
grid h w a (suc m) =
    let rows : suc m * w ≡ w + m * w = suc_times m w in
    let next : (a + 1) * w ≡ a * w + w = grind arith in
    let first : flat_map (λ j. h (a * w + j)) (range_with_len 0 w) ≡ flat_map h (range_with_len (a * w) w) = sym (unshift h (a * w) 0 w) ∙ ap (λ k. flat_map h (range_with_len k w)) (omega arith) in
    ap (λ t. flat_map (λ j. h (a * w + j)) (range_with_len 0 w) ++ t) (grid h w (a + 1) m ∙ ap (λ k. flat_map h (range_with_len k (m * w))) next) ∙ ap (λ t. t ++ flat_map h (range_with_len (a * w + w) (m * w))) first
    ∙ sym (flat_map-append h (range_with_len (a * w) w) (range_with_len (a * w + w) (m * w))) ∙ ap (flat_map h) (sym (range_join (a * w) w (m * w))) ∙ ap (λ k. flat_map h (range_with_len (a * w) k)) (sym rows)
  where
    unshift : {X : Type 0} (h : ℕ → List X) (c a n : ℕ) → flat_map h (range_with_len (c + a) n) ≡ flat_map (λ j. h (c + j)) (range_with_len a n)
    unshift h c a zero = refl
    unshift h c a (suc n) = let next : (c + a) + 1 ≡ c + (a + 1) = omega arith in ap (λ k. h (c + a) ++ flat_map h (range_with_len k n)) next ∙ ap (λ t. h (c + a) ++ t) (unshift h c (a + 1) n)

-- ---- at the first axis

sum_from : (a : ℕ) (ns : List ℕ) → fold ◌+◌ a ns ≡ a + joined_total ns
sum_from a [] = omega arith
sum_from a (n ∷ ns) = sum_from (a + n) ns ∙ omega arith

pub sum_total : (ns : List ℕ) → sum ns ≡ joined_total ns
sum_total ns = sum_from 0 ns ∙ omega arith

-- all lists lie in what is there
abbrev pub LieIn : ℕ → ℕ → ℕ → List ℕ → ℕ → Type 0
LieIn row outer start counts len = start + outer * (joined_total counts * row) ≤ len

pub both_counts : (outer n rest row : ℕ) → outer * ((n + rest) * row) ≡ outer * (n * row) + outer * (rest * row)
both_counts outer n rest row = grind arith

pub rest_lies : (row outer start n len : ℕ) (ns : List ℕ) → LieIn row outer start (n ∷ ns) len → LieIn row outer (start + outer * (n * row)) ns len
rest_lies row outer start n len ns lies = let e = both_counts outer n (joined_total ns) row in omega (arith, lies, e)

pub first_lies : (row outer before start n i len : ℕ) (ns : List ℕ) → LieIn row outer start (n ∷ ns) len → before < outer → i < n → ((start + before * (n * row)) + i * row) + row ≤ len
first_lies row outer before start n i len ns lies lt here =
    let e = both_counts outer n (joined_total ns) row in
    let a : before * (n * row) + n * row ≤ outer * (n * row) = within before outer (n * row) lt in
    let b : i * row + row ≤ n * row = within i n row here in
    omega (arith, lies, e, a, b)

-- which list a position falls in
pub when_below : {X : Type 0} (i n : ℕ) (a b : X) → i < n → cond (ltb i n) a b ≡ a
when_below i n a b lt = ap (λ t. cond t a b) (lt-ltb i n lt)

pub when_above : {X : Type 0} (i n : ℕ) (a b : X) → n ≤ i → cond (ltb i n) a b ≡ b
when_above i n a b le = ap (λ t. cond t a b) (le-ltb i n le)

first_free : (m : ℕ) (ns : List ℕ) (outer before start : ℕ) (counts p : List ℕ) (a b i : ℕ) → joined_place (m ∷ ns) 0 outer before start counts (a ∷ p) i ≡ joined_place (m ∷ ns) 0 outer before start counts (b ∷ p) i
first_free m ns outer before start [] p a b i = refl
first_free m ns outer before start (n ∷ counts) p a b i = ap (λ r. cond (ltb i n) (start + (before * size (n ∷ ns) + place (n ∷ ns) (i ∷ p))) r) (first_free m ns outer before (start + outer * (n * size ns)) counts p a b (i - n))

at_first : {X : Type 0} (m : ℕ) (ns : List ℕ) (outer before start : ℕ) (counts : List ℕ) (hole : X) (xs : List X) → before < outer → LieIn (size ns) outer start counts (length xs)
    → flat_map (λ i. tab ns (λ p. get_or xs (joined_place (m ∷ ns) 0 outer before start counts (i ∷ p) i) hole)) (range_with_len 0 (joined_total counts)) ≡ joined_row (size ns) outer before start counts xs
at_first m ns outer before start [] hole xs lt lies = refl
at_first m ns outer before start (n ∷ counts) hole xs lt lies =
    let row = size ns in
    let here = start + before * (n * row) in
    let next = start + outer * (n * row) in
    let f = λ (i : ℕ). tab ns (λ p. get_or xs (joined_place (m ∷ ns) 0 outer before start (n ∷ counts) (i ∷ p) i) hole) in
    let g = λ (i : ℕ). tab ns (λ p. get_or xs (joined_place (m ∷ ns) 0 outer before next counts (i ∷ p) i) hole) in
    let one : (i : ℕ) → 0 ≤ i → i < 0 + n → f i ≡ take row (drop (here + i * row) xs) = λ i lo hi.
    tab_same ns (λ p. get_or xs (joined_place (m ∷ ns) 0 outer before start (n ∷ counts) (i ∷ p) i) hole) (λ p. get_or xs ((here + i * row) + place ns p) hole)
    (λ p inside. ap (λ k. get_or xs k hole) (when_below i n (start + (before * size (n ∷ ns) + place (n ∷ ns) (i ∷ p))) (joined_place (m ∷ ns) 0 outer before next counts (i ∷ p) (i - n)) (omega (arith, hi)) ∙ omega arith))
    ∙ tab_part ns (here + i * row) xs hole (first_lies row outer before start n i (length xs) counts lies lt (omega (arith, hi))) in
    let other : (i : ℕ) → 0 + n ≤ i → i < (0 + n) + joined_total counts → f i ≡ g (i - n) = λ i lo hi.
    tab_same ns (λ p. get_or xs (joined_place (m ∷ ns) 0 outer before start (n ∷ counts) (i ∷ p) i) hole) (λ p. get_or xs (joined_place (m ∷ ns) 0 outer before next counts ((i - n) ∷ p) (i - n)) hole)
    (λ p inside. ap (λ k. get_or xs k hole) (when_above i n (start + (before * size (n ∷ ns) + place (n ∷ ns) (i ∷ p))) (joined_place (m ∷ ns) 0 outer before next counts (i ∷ p) (i - n)) (omega (arith, lo)) ∙ first_free m ns outer before next counts p i (i - n) (i - n))) in
    let zero_on : here + 0 * row ≡ here = omega arith in
    let moved : range_with_len (0 + n) (joined_total counts) ≡ range_with_len (n + 0) (joined_total counts) = ap (λ k. range_with_len k (joined_total counts)) (omega arith) in
    ap (flat_map f) (range_join 0 n (joined_total counts)) ∙ flat_map-append f (range_with_len 0 n) (range_with_len (0 + n) (joined_total counts))
    ∙ ap (λ t. t ++ flat_map f (range_with_len (0 + n) (joined_total counts))) (flat_same f (λ i. take row (drop (here + i * row) xs)) 0 n one ∙ blocks row here 0 n xs ∙ ap (λ k. take (n * row) (drop k xs)) zero_on)
    ∙ ap (λ t. take (n * row) (drop here xs) ++ t) (flat_same f (λ i. g (i - n)) (0 + n) (joined_total counts) other ∙ ap (flat_map (λ i. g (i - n))) moved ∙ flat_shift g n 0 (joined_total counts) ∙ at_first m ns outer before next counts hole xs lt (rest_lies row outer start n (length xs) counts lies))

-- ---- along any axis

deeper : (m : ℕ) (ns : List ℕ) (k outer before start : ℕ) (counts p : List ℕ) (a i : ℕ) → joined_place (m ∷ ns) (suc k) outer before start counts (a ∷ p) i ≡ joined_place ns k outer (before * m + a) start counts p i
deeper m ns k outer before start [] p a i = refl
deeper m ns k outer before start (n ∷ counts) p a i =
    let s = size (set ns k n) in
    let q = place (set ns k n) (along k i p) in
    let e : before * (m * s) + (a * s + q) ≡ (before * m + a) * s + q = grind arith in
    ap (λ v. cond (ltb i n) (start + v) (joined_place (m ∷ ns) (suc k) outer before (start + outer * (n * size (drop (suc k) ns))) counts (a ∷ p) (i - n))) e
    ∙ ap (λ r. cond (ltb i n) (start + ((before * m + a) * s + q)) r) (deeper m ns k outer before (start + outer * (n * size (drop (suc k) ns))) counts p a (i - n))

fits_deeper : (before m outer a part : ℕ) → (before + 1) * (m * part) ≤ outer → a < m → ((before * m + a) + 1) * part ≤ outer
fits_deeper before m outer a part fits lt =
    let w : a * part + part ≤ m * part = within a m part lt in
    let e : (before + 1) * (m * part) ≡ (before * m) * part + m * part = grind arith in
    let f : ((before * m + a) + 1) * part ≡ (before * m) * part + (a * part + part) = grind arith in
    omega (arith, fits, w, e, f)

joined_tab : {X : Type 0} (s : List ℕ) (axis outer before start : ℕ) (counts : List ℕ) (hole : X) (xs : List X) → axis < length s → (before + 1) * size (take axis s) ≤ outer → LieIn (size (drop (suc axis) s)) outer start counts (length xs)
    → tab (set s axis (joined_total counts)) (λ p. get_or xs (joined_place s axis outer before start counts p (get_or p axis 0)) hole) ≡ flat_map (λ o. joined_row (size (drop (suc axis) s)) outer (before * size (take axis s) + o) start counts xs) (range_with_len 0 (size (take axis s)))
joined_tab [] axis outer before start counts hole xs lt fits lies = absurd (omega arith)
joined_tab (m ∷ ns) zero outer before start counts hole xs lt fits lies =
    let b : before ≡ before * 1 + 0 = omega arith in
    at_first m ns outer before start counts hole xs (omega (arith, fits)) lies ∙ ap (λ o. joined_row (size ns) outer o start counts xs) b ∙ sym (append-nil (joined_row (size ns) outer (before * 1 + 0) start counts xs))
joined_tab (m ∷ ns) (suc k) outer before start counts hole xs lt fits lies =
    let part = size (take k ns) in
    let row = size (drop (suc k) ns) in
    let h = λ (o : ℕ). joined_row row outer o start counts xs in
    let c = before * (m * part) in
    let below : k < length ns = omega arith in
    let each : (a : ℕ) → 0 ≤ a → a < 0 + m → tab (set ns k (joined_total counts)) (λ p. get_or xs (joined_place (m ∷ ns) (suc k) outer before start counts (a ∷ p) (get_or p k 0)) hole) ≡ flat_map (λ j. h (c + (a * part + j))) (range_with_len 0 part) = λ a lo hi.
    let lta : a < m = omega (arith, hi) in
    tab_same (set ns k (joined_total counts)) (λ p. get_or xs (joined_place (m ∷ ns) (suc k) outer before start counts (a ∷ p) (get_or p k 0)) hole) (λ p. get_or xs (joined_place ns k outer (before * m + a) start counts p (get_or p k 0)) hole) (λ p inside. ap (λ i. get_or xs i hole) (deeper m ns k outer before start counts p a (get_or p k 0)))
    ∙ joined_tab ns k outer (before * m + a) start counts hole xs below (fits_deeper before m outer a part fits lta) lies
    ∙ flat_same (λ j. h ((before * m + a) * part + j)) (λ j. h (c + (a * part + j))) 0 part (λ j lo hi. let e : (before * m + a) * part + j ≡ before * (m * part) + (a * part + j) = grind arith in ap h e) in
    let z : 0 * part ≡ 0 = omega arith in
    flat_same (λ a. tab (set ns k (joined_total counts)) (λ p. get_or xs (joined_place (m ∷ ns) (suc k) outer before start counts (a ∷ p) (get_or p k 0)) hole)) (λ a. flat_map (λ j. h (c + (a * part + j))) (range_with_len 0 part)) 0 m each
    ∙ grid (λ o. h (c + o)) part 0 m ∙ ap (λ k. flat_map (λ o. h (c + o)) (range_with_len k (m * part))) z

-- ---- what the code has at hand

pub row_fits : (row outer before start n len : ℕ) (ns : List ℕ) → LieIn row outer start (n ∷ ns) len → before < outer → (start + before * (n * row)) + n * row ≤ len
row_fits row outer before start n len ns lies lt =
    let e = both_counts outer n (joined_total ns) row in
    let a : before * (n * row) + n * row ≤ outer * (n * row) = within before outer (n * row) lt in
    omega (arith, lies, e, a)

pub lies_more : (row outer start i len : ℕ) (counts : List ℕ) → i < length counts → LieIn row outer start (drop i counts) len → LieIn row outer start (get_or counts i 0 ∷ drop (i + 1) counts) len
lies_more row outer start i len counts lt lies = subst (λ (ns : List ℕ). LieIn row outer start ns len) (at_axis counts i lt) lies

-- each number on the way to a block is within what is there
pub record StepsFit (row outer before start n len : ℕ) : Type 0 where
  pub of_block : n * row ≤ len
  pub blocks_before : before * (n * row) ≤ len
  pub block_start : start + before * (n * row) ≤ len
  pub all_blocks : outer * (n * row) ≤ len
  pub next_start : start + outer * (n * row) ≤ len

steps_fit : (row outer before start n len : ℕ) (ns : List ℕ) → LieIn row outer start (n ∷ ns) len → before < outer → StepsFit row outer before start n len
steps_fit row outer before start n len ns lies lt =
    let e = both_counts outer n (joined_total ns) row in
    let a : before * (n * row) + n * row ≤ outer * (n * row) = within before outer (n * row) lt in
    record { of_block = omega (arith, lies, e, a); blocks_before = omega (arith, lies, e, a); block_start = omega (arith, lies, e, a); all_blocks = omega (arith, lies, e); next_start = omega (arith, lies, e) }

pub steps_more : (row outer before start i len : ℕ) (counts : List ℕ) → i < length counts → LieIn row outer start (drop i counts) len → before < outer → StepsFit row outer before start (get_or counts i 0) len
steps_more row outer before start i len counts lt lies below = steps_fit row outer before start (get_or counts i 0) len (drop (i + 1) counts) (lies_more row outer start i len counts lt lies) below

pub below_64 : (n len : ℕ) → n ≤ len → len < 2 ^ 63 → Fits w64 n
below_64 n len le small = omega (arith, le, small)

-- one list more
pub row_more : {X : Type 0} (row outer o start i : ℕ) (counts : List ℕ) (xs out more here base : List X) → i < length counts → more ≡ out ++ here → here ≡ take (get_or counts i 0 * row) (drop (start + o * (get_or counts i 0 * row)) xs)
    → out ++ joined_row row outer o start (drop i counts) xs ≡ base → more ++ joined_row row outer o (start + outer * (get_or counts i 0 * row)) (drop (i + 1) counts) xs ≡ base
row_more row outer o start i counts xs out more here base lt is_more is_here so_far =
    let n = get_or counts i 0 in
    let rest = joined_row row outer o (start + outer * (n * row)) (drop (i + 1) counts) xs in
    ap (λ t. t ++ rest) is_more ∙ append_assoc out here rest ∙ ap (λ t. out ++ (t ++ rest)) is_here ∙ ap (λ k. out ++ joined_row row outer o start k xs) (sym (at_axis counts i lt)) ∙ so_far

pub row_done : {X : Type 0} (row outer o start i : ℕ) (counts : List ℕ) (xs out base : List X) → length counts ≤ i → out ++ joined_row row outer o start (drop i counts) xs ≡ base → out ≡ base
row_done row outer o start i counts xs out base le so_far = sym (append-nil out) ∙ ap (λ k. out ++ joined_row row outer o start k xs) (sym (drop_all i counts le)) ∙ so_far

-- how the lists are cut
pub record AreCut (shape : List ℕ) (axis : ℕ) (counts : List ℕ) (count outer row : ℕ) : Type 0 where
  pub outer_is : outer ≡ size (take axis shape)
  pub row_is : row ≡ size (drop (suc axis) shape)
  pub inside : outer * (joined_total counts * row) ≤ count

pub cut_is : (shape front behind : List ℕ) (axis : ℕ) (counts : List ℕ) (count outer row : ℕ) → IsJoining shape axis counts count → front ≡ take axis shape → behind ≡ drop (axis + 1) shape → outer ≡ min (size front) (2 ^ 64 - 1) → row ≡ min (size behind) (2 ^ 64 - 1) → 0 < count → AreCut shape axis counts count outer row
cut_is shape front behind axis counts count outer row j is_front is_behind is_outer is_row some =
    let a = size (take axis shape) in
    let b = size (drop (suc axis) shape) in
    let k = joined_total counts in
    let all : count ≡ a * (k * b) = j.whole ∙ size_set shape axis (sum counts) j.axis_is ∙ ap (λ n. a * (n * b)) (sum_total counts) in
    let small = j.small in
    let more : 0 < a * (k * b) = omega (arith, some, all) in
    let first = factor a (k * b) more in
    let second = factor k b (positive a (k * b) more).1 in
    let e1 : outer ≡ min a (2 ^ 64 - 1) = is_outer ∙ ap (λ x. min (size x) (2 ^ 64 - 1)) is_front in
    let e2 : row ≡ min b (2 ^ 64 - 1) = is_row ∙ ap (λ x. min (size x) (2 ^ 64 - 1)) (is_behind ∙ ap (λ j. drop j shape) (add-one axis)) in
    let o : outer ≡ a = omega (arith, e1, first, small, all) in
    let r : row ≡ b = omega (arith, e2, first, second, small, all) in
    record { outer_is = o; row_is = r; inside = let e : outer * (k * row) ≡ count = ap (λ x. x * (k * row)) o ∙ ap (λ x. a * (k * x)) r ∙ sym all in omega (arith, e) }

pub joined_by : {X : Type 0} (shape : List ℕ) (axis : ℕ) (counts : List ℕ) (outer row : ℕ) (other : X) (xs : List X) → IsJoining shape axis counts (length xs) → AreCut shape axis counts (length xs) outer row
    → flat_map (λ o. joined_row row outer o 0 counts xs) (range_with_len 0 outer) ≡ arranged (length xs ∷ []) (joined_sizes shape axis counts) (joined_point shape axis counts) other xs
joined_by shape axis counts outer row other xs j cut =
    let a = size (take axis shape) in
    let b = size (drop (suc axis) shape) in
    let e : a * (joined_total counts * b) ≡ length xs = ap (λ n. a * (n * b)) (sym (sum_total counts)) ∙ sym (j.whole ∙ size_set shape axis (sum counts) j.axis_is) in
    let t = joined_tab shape axis a 0 0 counts other xs j.axis_is (omega arith) (omega (arith, e)) in
    let zeros = λ (o : ℕ) (lo : 0 ≤ o) (hi : o < 0 + a). let z : 0 * a + o ≡ o = omega arith in ap (λ k. joined_row b a k 0 counts xs) z in
    ap (λ r. flat_map (λ o. joined_row r outer o 0 counts xs) (range_with_len 0 outer)) cut.row_is ∙ ap (λ r. flat_map (λ o. joined_row b r o 0 counts xs) (range_with_len 0 r)) cut.outer_is
    ∙ sym (flat_same (λ o. joined_row b a (0 * a + o) 0 counts xs) (λ o. joined_row b a o 0 counts xs) 0 a zeros) ∙ sym t ∙ ap (λ n. tab (set shape axis n) (λ p. get_or xs (joined_place shape axis a 0 0 counts p (get_or p axis 0)) other)) (sym (sum_total counts))
    ∙ tab_same (joined_sizes shape axis counts) (λ p. get_or xs (joined_place shape axis a 0 0 counts p (get_or p axis 0)) other) (λ p. shown (length xs ∷ []) xs other (joined_point shape axis counts p)) (λ p here. ap (λ k. get_or xs k other) (omega arith))

pub none_joined : {X : Type 0} (shape : List ℕ) (axis : ℕ) (counts : List ℕ) (other : X) (xs : List X) → IsJoining shape axis counts (length xs) → length xs ≡ 0 → arranged (length xs ∷ []) (joined_sizes shape axis counts) (joined_point shape axis counts) other xs ≡ []
none_joined shape axis counts other xs j none =
    let t = joined_sizes shape axis counts in
    nil_from_length (arranged (length xs ∷ []) t (joined_point shape axis counts) other xs) (tab-length t (λ p. shown (length xs ∷ []) xs other (joined_point shape axis counts p)) ∙ sym j.whole ∙ none)

pub rows_more : {X : Type 0} (f : ℕ → List X) (i : ℕ) (out more base : List X) → more ≡ out ++ f i → out ≡ base ++ flat_map f (range_with_len 0 i) → more ≡ base ++ flat_map f (range_with_len 0 (i + 1))
rows_more f i out more base is so_far = is ∙ ap (λ t. t ++ f i) so_far ∙ append_assoc base (flat_map f (range_with_len 0 i)) (f i) ∙ ap (λ t. base ++ t) (sym (flat_more f i))
