-- Cells of several arrays, one after the other.
use Rattle.std.proofs.Common.{◌≡◌, ◌<◌, ◌≤◌, ◌+◌, ◌-◌, ◌*◌, ℕ, ℤ, zero, suc, List, [], ◌∷◌, ◌++◌, length, map, take, drop, set, sum, get_or, replicate, Option, Some, None, refl, sym, ap, subst, ◌∙◌, arith, append_assoc, length-append, drop-cons, add-one, inl, inr}
use Rattle.std.specs.Prelude.{IfSome}
use Rattle.std.specs.List.{All, flat_map, zip}
use Rattle.std.proofs.lemmas.Bool.{cases_lt}
use Rattle.std.proofs.lemmas.List.Elements.{All-head, All-tail, All-cons, All-append}
use Rattle.std.proofs.lemmas.Slice.Zip.{length-zip}
use Rattle.std.proofs.Math.ListN.{get_or-append}
use Rattle.std.proofs.lemmas.List.{append-nil, drop_all, take_all, take_more, map-append, length-map, length-replicate}
use Rattle.xr_types.specs.Points.{size, place, IsPoint}
use Rattle.xr_arrays.specs.Arrays.{Array, at, cell, hidden, wide}
use Rattle.xr_arrays.specs.declared.typed.Cells.{Cells}
use Rattle.xr_types.specs.declared.kind.DType.{DType}
use Rattle.xr_arrays.specs.Nodes.{along, end_to_end, Continues, concatenated, first_array, most_node_cells}
use Rattle.plan_core.specs.Concats.{joined_mask, row_of}
use Rattle.plan_core.specs.Arrangements.{rearranged, LieInside}
use Rattle.plan_core.specs.Joins.{joined_place, joined_total, joined_sizes, joined_point, IsJoining}
use Rattle.plan_core.proofs.Tabs.{zip-append, place_below, tab_same}
use Rattle.plan_core.proofs.Takes.{size_set}
use Rattle.plan_core.proofs.Joins.{when_below, when_above, both_counts, sum_total}
use Rattle.plan_core.proofs.Arrangements.{no_gaps, AreParts}

-- ---- masks

joined_hidden : (xs ys : List ℤ) (m n : Option (List ℕ)) → IfSome m (λ b. length b ≡ length xs) → hidden (xs ++ ys) (joined_mask m (length xs) (length ys) n) ≡ hidden xs m ++ hidden ys n
joined_hidden xs ys None None h = map-append Some xs ys
joined_hidden xs ys None (Some n) h =
    ap (map cell) (zip-append xs (replicate (length xs) 0) ys n (sym (length-replicate (length xs) 0))) ∙ map-append cell (zip xs (replicate (length xs) 0)) (zip ys n) ∙ ap (λ t. t ++ map cell (zip ys n)) (sym (no_gaps xs))
joined_hidden xs ys (Some m) None h =
    ap (map cell) (zip-append xs m ys (replicate (length ys) 0) (sym h)) ∙ map-append cell (zip xs m) (zip ys (replicate (length ys) 0)) ∙ ap (λ t. map cell (zip xs m) ++ t) (sym (no_gaps ys))
joined_hidden xs ys (Some m) (Some n) h = ap (map cell) (zip-append xs m ys n (sym h)) ∙ map-append cell (zip xs m) (zip ys n)

zeros-length : (n : ℕ) (m : List ℕ) → m ≡ replicate n 0 → length m ≡ n
zeros-length n m is = ap length is ∙ length-replicate n 0

pub joined_covers : (m n : Option (List ℕ)) (before count whole : ℕ) → whole ≡ before + count → IfSome m (λ b. length b ≡ before) → IfSome n (λ b. length b ≡ count) → IfSome (joined_mask m before count n) (λ b. length b ≡ whole)
joined_covers None None before count whole is h k = tt
joined_covers None (Some n) before count whole is h k = let z : List ℕ = replicate before 0 in let e = zeros-length before z refl in length-append z n ∙ omega (arith, e, k, is)
joined_covers (Some m) None before count whole is h k = let z : List ℕ = replicate count 0 in let e = zeros-length count z refl in length-append m z ∙ omega (arith, e, h, is)
joined_covers (Some m) (Some n) before count whole is h k = length-append m n ∙ omega (arith, h, k, is)

-- the cells with those of one array more
pub with_cells : {T : Type 0} (number : T → ℤ) (old new more : List T) (om nm n : Option (List ℕ)) (cells : List (Option ℤ)) (before count : ℕ) → new ≡ old ++ more → before ≡ length old → count ≡ length more → nm ≡ joined_mask om before count n
    → IfSome om (λ b. length b ≡ length old) → cells ≡ hidden (map number more) n → hidden (map number new) nm ≡ hidden (map number old) om ++ cells
with_cells number old new more om nm n cells before count is_new is_before is_count is_mask covers is_cells =
    let xs = map number old in
    let ys = map number more in
    let lx : length xs ≡ length old = length-map old number in
    let ly : length ys ≡ length more = length-map more number in
    ap (λ v. hidden (map number v) nm) is_new ∙ ap (λ v. hidden v nm) (map-append number old more) ∙ ap (hidden (xs ++ ys)) (is_mask ∙ ap (λ k. joined_mask om k count n) (is_before ∙ sym lx) ∙ ap (λ k. joined_mask om (length xs) k n) (is_count ∙ sym ly))
    ∙ joined_hidden xs ys om n (subst (λ k. IfSome om (λ b. length b ≡ k)) (sym lx) covers) ∙ ap (λ t. hidden xs om ++ t) (sym is_cells)

pub hidden-length : (xs : List ℤ) (m : Option (List ℕ)) (n : ℕ) → n ≡ length xs → IfSome m (λ b. length b ≡ n) → length (hidden xs m) ≡ n
hidden-length xs None n is h = length-map xs Some ∙ sym is
hidden-length xs (Some m) n is h = length-map (zip xs m) cell ∙ length-zip xs m ∙ omega (arith, is, h)

pub row_made : (kind : DType) (shape : List ℕ) (cells : List (Option ℤ)) (n : ℕ) → shape ≡ n ∷ [] → length cells ≡ n → record { kind = kind; shape = shape; cells = cells } ≡ row_of kind cells
row_made kind shape cells n is_shape long = ap (λ (s : List ℕ). record { kind = kind; shape = s; cells = cells }) (is_shape ∙ ap (λ k. k ∷ []) (sym long))

-- ---- one array more

pub parts_mask : {T : Type 0} (number : T → ℤ) (a : Array) (x : Cells) (m : Option (List ℕ)) (more : List T) → AreParts a x m → wide x ≡ map number more → IfSome m (λ b. length b ≡ length more)
parts_mask number a x None more parts is = tt
parts_mask number a x (Some m) more parts is = parts.mask ∙ sym parts.whole ∙ ap length is ∙ length-map more number

pub parts_length : (a : Array) (x : Cells) (m : Option (List ℕ)) → AreParts a x m → length a.cells ≡ size a.shape
parts_length a x m parts = ap length parts.cells ∙ hidden-length (wide x) m (size a.shape) (sym parts.whole) parts.mask

-- ---- the definition

-- an array has the sizes of the first one but for the axis, and a cell for each point
abbrev pub IsPart : List ℕ → ℕ → Array → Type 0
IsPart s axis b = (b.shape ≡ set s axis (get_or b.shape axis 0)) × (length b.cells ≡ size b.shape)

set_again : (s : List ℕ) (axis m n : ℕ) → set (set s axis m) axis n ≡ set s axis n
set_again [] axis m n = refl
set_again (x ∷ s) zero m n = refl
set_again (x ∷ s) (suc k) m n = ap (λ t. x ∷ t) (set_again s k m n)

set_same : (s : List ℕ) (axis : ℕ) → set s axis (get_or s axis 0) ≡ s
set_same [] axis = refl
set_same (x ∷ s) zero = refl
set_same (x ∷ s) (suc k) = ap (λ t. x ∷ t) (set_same s k)

pub part_is : (axis : ℕ) (a b : Array) → Continues axis a b → length b.cells ≡ size b.shape → IsPart a.shape axis b
part_is axis a b continues long =
    let n = get_or b.shape axis 0 in
    (sym (set_same b.shape axis) ∙ sym (set_again b.shape axis 0 n) ∙ ap (λ (s : List ℕ). set s axis n) continues.1 ∙ set_again a.shape axis 0 n, long)

part_size : (s : List ℕ) (axis : ℕ) (b : Array) → axis < length s → IsPart s axis b → length b.cells ≡ size (take axis s) * (get_or b.shape axis 0 * size (drop (suc axis) s))
part_size s axis b lt part = part.1 ∙ ap size part.0 ∙ size_set s axis (get_or b.shape axis 0) lt

along_set : (s : List ℕ) (axis m n i : ℕ) (p : List ℕ) → axis < length s → i < n → IsPoint (set s axis m) p → IsPoint (set s axis n) (along axis i p)
along_set [] axis m n i p lt below inside = absurd (omega arith)
along_set (x ∷ s) zero m n i [] lt below inside = absurd inside
along_set (x ∷ s) zero m n i (j ∷ p) lt below inside = (below, inside.1)
along_set (x ∷ s) (suc k) m n i [] lt below inside = absurd inside
along_set (x ∷ s) (suc k) m n i (j ∷ p) lt below inside = (inside.0, along_set s k m n i p (omega arith) below inside.1)

at_prefix : {X : Type 0} (xs ys : List X) (k n : ℕ) (d : X) → length xs ≡ n → get_or (xs ++ ys) (n + k) d ≡ get_or ys k d
at_prefix [] ys k n d e = let z : n + k ≡ k = omega arith in ap (λ j. get_or ys j d) z
at_prefix (x ∷ xs) ys k zero d e = absurd (omega arith)
at_prefix (x ∷ xs) ys k (suc n) d e = let z : suc n + k ≡ suc (n + k) = omega arith in ap (λ j. get_or (x ∷ (xs ++ ys)) j d) z ∙ at_prefix xs ys k n d (omega arith)

abbrev pub counts_of : ℕ → List Array → List ℕ
counts_of axis bs = map (λ (b : Array). get_or b.shape axis 0) bs

abbrev pub cells_of : List Array → List (Option ℤ)
cells_of bs = flat_map (λ (b : Array). b.cells) bs

joined_is : (s : List ℕ) (axis start m : ℕ) (prefix : List (Option ℤ)) (bs : List Array) (p : List ℕ) (i : ℕ) → axis < length s → All (IsPart s axis) bs → length prefix ≡ start → i < joined_total (counts_of axis bs) → IsPoint (set s axis m) p
    → end_to_end bs axis p i ≡ get_or (prefix ++ cells_of bs) (joined_place s axis (size (take axis s)) 0 start (counts_of axis bs) p i) None
joined_is s axis start m prefix [] p i lt parts long below inside = absurd (omega arith)
joined_is s axis start m prefix (b ∷ bs) p i lt parts long below inside =
    let n = get_or b.shape axis 0 in
    let outer = size (take axis s) in
    let row = size (drop (suc axis) s) in
    let part = All-head (IsPart s axis) b bs parts in
    let next = start + outer * (n * row) in
    let whole = prefix ++ (b.cells ++ cells_of bs) in
    let here = start + (0 * size (set s axis n) + place (set s axis n) (along axis i p)) in
    let there = joined_place s axis outer 0 next (counts_of axis bs) p (i - n) in
    elim (cases_lt i n) [
      | inl lower ↦
          let q = place (set s axis n) (along axis i p) in
          let same : place b.shape (along axis i p) ≡ q = ap (λ (t : List ℕ). place t (along axis i p)) part.0 in
          let under : place b.shape (along axis i p) < length b.cells = let e = place_below (set s axis n) (along axis i p) (along_set s axis m n i p lt lower inside) in let f = part.1 in let g = ap size part.0 in omega (arith, e, f, g, same) in
          let z : here ≡ start + place b.shape (along axis i p) = omega (arith, same) in
          when_below i n (at b (along axis i p)) (end_to_end bs axis p (i - n)) lower
          ∙ sym (get_or-append b.cells (cells_of bs) None (place b.shape (along axis i p)) under) ∙ sym (at_prefix prefix (b.cells ++ cells_of bs) (place b.shape (along axis i p)) start None long)
          ∙ ap (λ k. get_or whole k None) (sym z) ∙ ap (λ k. get_or whole k None) (sym (when_below i n here there lower))
      | inr upper ↦
          let longer : length (prefix ++ b.cells) ≡ next = length-append prefix b.cells ∙ (let e = part_size s axis b lt part in omega (arith, e, long)) in
          when_above i n (at b (along axis i p)) (end_to_end bs axis p (i - n)) upper
          ∙ joined_is s axis next m (prefix ++ b.cells) bs p (i - n) lt (All-tail (IsPart s axis) b bs parts) longer (omega (arith, below, upper)) inside
          ∙ ap (λ (t : List (Option ℤ)). get_or t there None) (append_assoc prefix b.cells (cells_of bs)) ∙ ap (λ k. get_or whole k None) (sym (when_above i n here there upper))
    ]

place_inside : (s : List ℕ) (axis start m : ℕ) (counts p : List ℕ) (i : ℕ) → axis < length s → i < joined_total counts → IsPoint (set s axis m) p → joined_place s axis (size (take axis s)) 0 start counts p i < start + size (take axis s) * (joined_total counts * size (drop (suc axis) s))
place_inside s axis start m [] p i lt below inside = absurd (omega arith)
place_inside s axis start m (n ∷ counts) p i lt below inside =
    let outer = size (take axis s) in
    let row = size (drop (suc axis) s) in
    let here = start + (0 * size (set s axis n) + place (set s axis n) (along axis i p)) in
    let there = joined_place s axis outer 0 (start + outer * (n * row)) counts p (i - n) in
    let both = both_counts outer n (joined_total counts) row in
    elim (cases_lt i n) [
      | inl lower ↦
          let e = place_below (set s axis n) (along axis i p) (along_set s axis m n i p lt lower inside) in
          let f = size_set s axis n lt in
          let w = when_below i n here there lower in
          omega (arith, e, f, w, both)
      | inr upper ↦
          let more = place_inside s axis (start + outer * (n * row)) m counts p (i - n) lt (omega (arith, below, upper)) inside in
          let w = when_above i n here there upper in
          omega (arith, more, w, both)
    ]

cells_of-length : (s : List ℕ) (axis : ℕ) (bs : List Array) → axis < length s → All (IsPart s axis) bs → length (cells_of bs) ≡ size (take axis s) * (joined_total (counts_of axis bs) * size (drop (suc axis) s))
cells_of-length s axis [] lt parts = grind arith
cells_of-length s axis (b ∷ bs) lt parts =
    let e = part_size s axis b lt (All-head (IsPart s axis) b bs parts) in
    let f = cells_of-length s axis bs lt (All-tail (IsPart s axis) b bs parts) in
    let both = both_counts (size (take axis s)) (get_or b.shape axis 0) (joined_total (counts_of axis bs)) (size (drop (suc axis) s)) in
    length-append b.cells (cells_of bs) ∙ omega (arith, e, f, both)

-- the arrays in a row, joined along the axis
pub record IsJoined (bs : List Array) (axis : ℕ) (counts : List ℕ) : Type 0 where
  pub joining : IsJoining (first_array bs).shape axis counts (length (cells_of bs))
  pub inside : LieInside (length (cells_of bs) ∷ []) (joined_sizes (first_array bs).shape axis counts) (joined_point (first_array bs).shape axis counts)
  pub is : rearranged (row_of (first_array bs).kind (cells_of bs)) (joined_sizes (first_array bs).shape axis counts) (joined_point (first_array bs).shape axis counts) None ≡ concatenated bs axis

axis_in : (s : List ℕ) (axis m : ℕ) (p : List ℕ) → axis < length s → IsPoint (set s axis m) p → get_or p axis 0 < m
axis_in [] axis m p lt inside = absurd (omega arith)
axis_in (x ∷ s) zero m [] lt inside = absurd inside
axis_in (x ∷ s) zero m (i ∷ p) lt inside = inside.0
axis_in (x ∷ s) (suc k) m [] lt inside = absurd inside
axis_in (x ∷ s) (suc k) m (i ∷ p) lt inside = axis_in s k m p (omega arith) inside.1

pub concat_is : (bs : List Array) (axis : ℕ) → axis < length (first_array bs).shape → All (IsPart (first_array bs).shape axis) bs → size (concatenated bs axis).shape ≤ most_node_cells → IsJoined bs axis (counts_of axis bs)
concat_is bs axis lt parts small =
    let a : Array = first_array bs in
    let s : List ℕ = a.shape in
    let counts = counts_of axis bs in
    let t : List ℕ = joined_sizes s axis counts in
    let all = cells_of bs in
    let long = cells_of-length s axis bs lt parts in
    let sums = sum_total counts in
    let whole : length all ≡ size t = long ∙ sym (size_set s axis (sum counts) lt ∙ ap (λ n. size (take axis s) * (n * size (drop (suc axis) s))) sums) in
    let point = λ (p : List ℕ). joined_place s axis (size (take axis s)) 0 0 counts p (get_or p axis 0) in
    record {
      joining = record { axis_is = lt; whole = whole; small = subst (λ n. n ≤ most_node_cells) (sym whole) small };
      inside = λ p here. (let below = axis_in s axis (sum counts) p lt here in let e = place_inside s axis 0 (sum counts) counts p (get_or p axis 0) lt (omega (arith, below, sums)) here in omega (arith, e, long), tt);
      is = ap (λ (cs : List (Option ℤ)). record { kind = a.kind; shape = t; cells = cs })
          (tab_same t (λ p. get_or all (point p * 1 + 0) None) (λ p. end_to_end bs axis p (get_or p axis 0))
          (λ p here. let below = axis_in s axis (sum counts) p lt here in let z : point p * 1 + 0 ≡ point p = omega arith in ap (λ k. get_or all k None) z ∙ sym (joined_is s axis 0 (sum counts) [] bs p (get_or p axis 0) lt parts refl (omega (arith, below, sums)) here)));
    }

-- ---- a loop over arrays

pub gather_more : {B X : Type 0} (f : B → List X) (xs : List B) (i : ℕ) (x : B) (out more whole : List X) → i < length xs → x ≡ get_or xs i x → more ≡ out ++ f x → out ++ flat_map f (drop i xs) ≡ whole → more ++ flat_map f (drop (i + 1) xs) ≡ whole
gather_more f xs i x out more whole lt is is_more so_far =
    let e : drop i xs ≡ x ∷ drop (i + 1) xs = drop-cons xs i x lt ∙ ap (λ k. k ∷ drop (suc i) xs) (sym is) ∙ ap (λ k. x ∷ drop k xs) (sym (add-one i)) in
    ap (λ t. t ++ flat_map f (drop (i + 1) xs)) is_more ∙ append_assoc out (f x) (flat_map f (drop (i + 1) xs)) ∙ ap (λ t. out ++ flat_map f t) (sym e) ∙ so_far

pub gather_done : {B X : Type 0} (f : B → List X) (xs : List B) (i : ℕ) (out whole : List X) → length xs ≤ i → out ++ flat_map f (drop i xs) ≡ whole → out ≡ whole
gather_done f xs i out whole le so_far = sym (append-nil out) ∙ ap (λ t. out ++ flat_map f t) (sym (drop_all i xs le)) ∙ so_far

pub all_more : {B : Type 0} (P : B → Type 0) (xs : List B) (i : ℕ) (x : B) → i < length xs → x ≡ get_or xs i x → P x → All P (take i xs) → All P (take (i + 1) xs)
all_more P xs i x lt is here so_far = subst (All P) (sym (take_more xs i x lt)) (All-append P (take i xs) (get_or xs i x ∷ []) so_far (All-cons P (get_or xs i x) [] (subst P is here) (λ k d none. absurd (omega arith))))

pub all_done : {B : Type 0} (P : B → Type 0) (xs : List B) (i : ℕ) → length xs ≤ i → All P (take i xs) → All P xs
all_done P xs i le h = subst (All P) (take_all i xs le) h

-- what holds of each array that a list refers to
pub all_mapped : {A B : Type 0} (P : A → Type 0) (now : B → A) (xs : List B) → All (λ b. P (now b)) xs → All P (map now xs)
all_mapped P now [] h = λ k d lt. absurd (omega arith)
all_mapped P now (x ∷ xs) h = All-cons P (now x) (map now xs) (All-head (λ b. P (now b)) x xs h) (all_mapped P now xs (All-tail (λ b. P (now b)) x xs h))

pub all_both : {B : Type 0} (P Q R : B → Type 0) (xs : List B) → ((b : B) → P b → Q b → R b) → All P xs → All Q xs → All R xs
all_both P Q R xs f h k i d lt = f (get_or xs i d) (h i d lt) (k i d lt)

-- ---- from what the code has at hand: the arrays that a list refers to

first_is : {B : Type 0} (now : B → Array) (xs : List B) (x : B) → 0 < length xs → x ≡ get_or xs 0 x → now x ≡ first_array (map now xs)
first_is now [] x some is = absurd (omega arith)
first_is now (y ∷ xs) x some is = ap now is

cells_mapped : {B : Type 0} (now : B → Array) (xs : List B) → flat_map (λ b. (now b).cells) xs ≡ cells_of (map now xs)
cells_mapped now [] = refl
cells_mapped now (x ∷ xs) = ap (λ t. (now x).cells ++ t) (cells_mapped now xs)

counts_mapped : {B : Type 0} (now : B → Array) (axis : ℕ) (xs : List B) → map (λ b. get_or (now b).shape axis 0) xs ≡ counts_of axis (map now xs)
counts_mapped now axis [] = refl
counts_mapped now axis (x ∷ xs) = ap (λ t. get_or (now x).shape axis 0 ∷ t) (counts_mapped now axis xs)

-- what is asked of the row of cells, the counts and the sizes
pub record IsJoinedHere (bs : List Array) (axis : ℕ) (all : Array) (shape counts : List ℕ) (count : ℕ) : Type 0 where
  pub joining : IsJoining shape axis counts count
  pub inside : LieInside (count ∷ []) (joined_sizes shape axis counts) (joined_point shape axis counts)
  pub is : rearranged all (joined_sizes shape axis counts) (joined_point shape axis counts) None ≡ concatenated bs axis

pub joined_here : {B : Type 0} (now : B → Array) (xs : List B) (x : B) (axis : ℕ) (all : Array) (shape sizes counts : List ℕ) → 0 < length xs → x ≡ get_or xs 0 x → axis < length (first_array (map now xs)).shape → All (λ b. Continues axis (first_array (map now xs)) (now b)) xs
    → All (λ b. length (now b).cells ≡ size (now b).shape) xs → size (concatenated (map now xs) axis).shape ≤ most_node_cells
    → all ≡ row_of (now x).kind (flat_map (λ b. (now b).cells) xs) → shape ≡ (now x).shape → sizes ≡ all.shape → counts ≡ map (λ b. get_or (now b).shape axis 0) xs
    → IsJoinedHere (map now xs) axis all shape counts (get_or sizes 0 0)
joined_here now xs x axis all shape sizes counts some is_x lt each whole small is_all is_shape is_sizes is_counts =
    let bs : List Array = map now xs in
    let a : Array = first_array bs in
    let parts = all_mapped (IsPart a.shape axis) now xs (all_both (λ b. Continues axis a (now b)) (λ b. length (now b).cells ≡ size (now b).shape) (λ b. IsPart a.shape axis (now b)) xs (λ b h k. part_is axis a (now b) h k) each whole) in
    let made = concat_is bs axis lt parts small in
    let first : now x ≡ a = first_is now xs x some is_x in
    let row : all ≡ row_of a.kind (cells_of bs) = is_all ∙ ap (λ (b : Array). row_of b.kind (flat_map (λ b. (now b).cells) xs)) first ∙ ap (row_of a.kind) (cells_mapped now xs) in
    let s : shape ≡ a.shape = is_shape ∙ ap (λ (b : Array). b.shape) first in
    let n : get_or sizes 0 0 ≡ length (cells_of bs) = ap (λ (k : List ℕ). get_or k 0 0) (is_sizes ∙ ap (λ (b : Array). b.shape) row) in
    let k : counts ≡ counts_of axis bs = is_counts ∙ counts_mapped now axis xs in
    let here : IsJoinedHere bs axis (row_of a.kind (cells_of bs)) a.shape (counts_of axis bs) (length (cells_of bs)) = record { joining = made.joining; inside = made.inside; is = made.is } in
    subst (λ (b : Array). IsJoinedHere bs axis b shape counts (get_or sizes 0 0)) (sym row) (subst (λ (t : List ℕ). IsJoinedHere bs axis (row_of a.kind (cells_of bs)) t counts (get_or sizes 0 0)) (sym s)
    (subst (λ (t : List ℕ). IsJoinedHere bs axis (row_of a.kind (cells_of bs)) a.shape t (get_or sizes 0 0)) (sym k) (subst (λ (m : ℕ). IsJoinedHere bs axis (row_of a.kind (cells_of bs)) a.shape (counts_of axis bs) m) (sym n) here)))
