-- Running sums along an axis of cells in row order.
use Rattle.std.proofs.Common.{◌≡◌, ◌<◌, ◌≤◌, ◌+◌, ◌-◌, ◌*◌, ◌/◌, ◌%◌, ℕ, zero, suc, ℤ, pos, ◌+ℤ◌, Bool, true, false, cond, eqb, nat_lt, ◌⊎◌, List, [], ◌∷◌, ◌++◌, length, map, take, drop, set, get_or, Option, Some, None, refl, sym, ap, subst, ◌∙◌, arith, inl, inr, add-one, min, ◌^◌}
use Rattle.std.specs.Int.{int_wrap, w64}
use Rattle.std.specs.List.{range_with_len}
use Rattle.std.proofs.lemmas.Bool.{cases_lt, le-ltb, lt-ltb}
use Rattle.std.proofs.lemmas.Bool.Decides.{Decides-eqb}
use Rattle.std.proofs.lemmas.Int.{ints, int_wrap-add_left, int_wrap-add_right}
use Rattle.std.proofs.lemmas.List.FromFn.{map-range_with_len_more}
use Rattle.std.proofs.lemmas.Nat.{div-mul-add, mod-mul-add, div_below, mul-le}
use Rattle.std.proofs.Math.Seq.{get_or-append_seam}
use Rattle.std.proofs.Math.ListN.{get_or-append}
use Rattle.xr_types.specs.Kinds.{wrap_to}
use Rattle.xr_types.specs.declared.kind.DType.{DType}
use Rattle.xr_types.specs.declared.kind.DType.TheVariants.{Int64, UInt64}
use Rattle.xr_types.specs.declared.operation.FoldKind.TheVariants.{Sum}
use Rattle.xr_types.specs.Points.{size, place, IsPoint}
use Rattle.xr_arrays.specs.Arrays.{Array, at}
use Rattle.xr_arrays.specs.Folds.{fold_of, numbers, present, sum_of, total_kind}
use Rattle.xr_arrays.specs.Nodes.{along, scanned, up_to}
use Rattle.xr_arrays.proofs.Folds.{sum_of-append}
use Rattle.plan_core.specs.Rows.{those}
use Rattle.plan_core.proofs.FoldRows.{those_pairs}
use Rattle.plan_core.proofs.Tabs.{place_below, tab-map, tab_read, tab_same}
use Rattle.plan_core.proofs.Boxes.{behind_small}
use Rattle.plan_core.proofs.Takes.{positive, size_split}
use Rattle.row_folds.specs.SumsTo.{line_to, sum_to}
use Rattle.row_folds.specs.Rows.{array_of, or_number}
use Rattle.row_folds.proofs.Totals.{wrapped_again}

-- ---- a position of a point

set_same : (p : List ℕ) (axis i : ℕ) → axis < length p → get_or (set p axis i) axis 0 ≡ i
set_same [] axis i lt = absurd (omega arith)
set_same (x ∷ p) zero i lt = refl
set_same (x ∷ p) (suc k) i lt = set_same p k i (omega arith)

set_twice : (p : List ℕ) (axis i j : ℕ) → set (set p axis i) axis j ≡ set p axis j
set_twice [] axis i j = refl
set_twice (x ∷ p) zero i j = refl
set_twice (x ∷ p) (suc k) i j = ap (λ q. x ∷ q) (set_twice p k i j)

set_self : (p : List ℕ) (axis : ℕ) → set p axis (get_or p axis 0) ≡ p
set_self [] axis = refl
set_self (x ∷ p) zero = refl
set_self (x ∷ p) (suc k) = ap (λ q. x ∷ q) (set_self p k)

along_inside : (s p : List ℕ) (axis i : ℕ) → IsPoint s p → i < get_or s axis 0 → IsPoint s (set p axis i)
along_inside [] [] axis i here lt = absurd (omega arith)
along_inside [] (x ∷ p) axis i here lt = absurd here
along_inside (n ∷ ns) [] axis i here lt = absurd here
along_inside (n ∷ ns) (x ∷ p) zero i here lt = (lt, here.1)
along_inside (n ∷ ns) (x ∷ p) (suc k) i here lt = (here.0, along_inside ns p k i here.1 lt)

point_rank : (s p : List ℕ) → IsPoint s p → length p ≡ length s
point_rank [] [] h = refl
point_rank [] (i ∷ p) h = absurd h
point_rank (n ∷ ns) [] h = absurd h
point_rank (n ∷ ns) (i ∷ p) h = ap suc (point_rank ns p h.1)

-- ---- the place of a point is so many rows and a rest

abbrev inner : List ℕ → ℕ → ℕ
inner s axis = size (drop (suc axis) s)

record Line (s : List ℕ) (axis : ℕ) (p : List ℕ) : Type 0 where
  outer : ℕ
  rest : ℕ
  small : rest < inner s axis
  is : place s p ≡ (outer * get_or s axis 0 + get_or p axis 0) * inner s axis + rest
  below : get_or p axis 0 < get_or s axis 0

line_first : (i n s r : ℕ) → i * s + r ≡ (0 * n + i) * s + r
line_first i n s r = grind arith

line_next : (i m o n x r I S P : ℕ) → S ≡ m * (n * I) → P ≡ (o * n + x) * I + r → i * S + P ≡ ((i * m + o) * n + x) * I + r
line_next i m o n x r I S P is_size is_place = ap (λ k. i * k + P) is_size ∙ ap (λ k. i * (m * (n * I)) + k) is_place ∙ grind arith

line : (s : List ℕ) (axis : ℕ) (p : List ℕ) → IsPoint s p → axis < length s → Line s axis p
line [] axis p h lt = absurd (omega arith)
line (n ∷ ns) axis [] h lt = absurd h
line (n ∷ ns) zero (i ∷ p) h lt = record { outer = 0; rest = place ns p; small = place_below ns p h.1; is = line_first i n (size ns) (place ns p); below = h.0 }
line (n ∷ ns) (suc k) (i ∷ p) h lt =
    let l = line ns k p h.1 (omega arith) in
    let m = size (take k ns) in
    record { outer = i * m + l.outer; rest = l.rest; small = l.small; is = line_next i m l.outer (get_or ns k 0) (get_or p k 0) l.rest (inner ns k) (size ns) (place ns p) (size_split ns k (omega arith)) l.is; below = l.below }

position_is : (s : List ℕ) (axis : ℕ) (p : List ℕ) → IsPoint s p → axis < length s → (place s p / inner s axis) % get_or s axis 0 ≡ get_or p axis 0
position_is s axis p here lt =
    let l = line s axis p here lt in
    ap (λ k. (k / inner s axis) % get_or s axis 0) l.is ∙ ap (λ k. k % get_or s axis 0) (div-mul-add (l.outer * get_or s axis 0 + get_or p axis 0) (inner s axis) l.rest l.small) ∙ mod-mul-add l.outer (get_or s axis 0) (get_or p axis 0) l.below

moved_place : (s : List ℕ) (axis i : ℕ) (p : List ℕ) → IsPoint s p → axis < length s → place s (set p axis i) + get_or p axis 0 * inner s axis ≡ place s p + i * inner s axis
moved_place [] axis i p h lt = absurd (omega arith)
moved_place (n ∷ ns) axis i [] h lt = absurd h
moved_place (n ∷ ns) zero i (x ∷ p) h lt = omega arith
moved_place (n ∷ ns) (suc k) i (x ∷ p) h lt = let rest = moved_place ns k i p h.1 (omega arith) in omega arith

-- ---- sums up to a point

those-append : (xs ys : List (Option ℤ)) → those (xs ++ ys) ≡ those xs ++ those ys
those-append [] ys = refl
those-append (None ∷ xs) ys = those-append xs ys
those-append (Some x ∷ xs) ys = ap (λ t. x ∷ t) (those-append xs ys)

-- the line up to a point is that up to the one before it, and its cell
line_more : (s : List ℕ) (axis : ℕ) (cells : List (Option ℤ)) (p : List ℕ) (y : ℕ) → IsPoint s p → axis < length s → get_or p axis 0 ≡ suc y → line_to s axis cells p ≡ line_to s axis cells (set p axis y) ++ get_or cells (place s p) None ∷ []
line_more s axis cells p y here lt is =
    let g = λ (i : ℕ). get_or cells (place s (along axis i p)) None in
    let x = get_or p axis 0 in
    let rank = point_rank s p here in
    let front : (λ (i : ℕ). get_or cells (place s (along axis i (set p axis y))) None) ≡ g = λ k i. get_or cells (place s (set_twice p axis y i k)) None in
    let count : get_or (set p axis y) axis 0 + 1 ≡ x = ap (λ n. n + 1) (set_same p axis y (omega arith)) ∙ omega arith in
    map-range_with_len_more g 0 x x (omega arith)
    ∙ ap (λ (q : List ℕ). map g (range_with_len 0 x) ++ get_or cells (place s q) None ∷ []) (set_self p axis)
    ∙ ap (λ n. map g (range_with_len 0 n) ++ get_or cells (place s p) None ∷ []) (sym count)
    ∙ ap (λ (f : ℕ → Option ℤ). map f (range_with_len 0 (get_or (set p axis y) axis 0 + 1)) ++ get_or cells (place s p) None ∷ []) (sym front)

line_none : (s : List ℕ) (axis : ℕ) (cells : List (Option ℤ)) (p : List ℕ) → get_or p axis 0 ≡ 0 → line_to s axis cells p ≡ get_or cells (place s p) None ∷ []
line_none s axis cells p is =
    let g = λ (i : ℕ). get_or cells (place s (along axis i p)) None in
    ap (λ n. map g (range_with_len 0 (n + 1))) is ∙ ap (λ (q : List ℕ). get_or cells (place s q) None ∷ []) (ap (set p axis) (sym is) ∙ set_self p axis)

not_zero : (y : ℕ) → eqb (suc y) 0 ≡ false
not_zero y = by (eqb (suc y) 0) refl
  where
    by : (b : Bool) → eqb (suc y) 0 ≡ b → eqb (suc y) 0 ≡ false
    by true e = let f : suc y ≡ 0 = (Decides-eqb (suc y) 0).0 e in absurd (omega arith)
    by false e = e

zero_first : (n : ℤ) → pos 0 +ℤ n ≡ n
zero_first n = omega (arith, ints)

abbrev pub IsSum : List ℕ → ℕ → List (Option ℤ) → List ℤ → List ℕ → Type 0
IsSum s axis cells totals p = get_or totals (place s p) (pos 0) ≡ int_wrap w64 (sum_to s axis cells p)

-- one more sum
sum_here : (s : List ℕ) (axis : ℕ) (cells : List (Option ℤ)) (totals : List ℤ) (i n row : ℕ) (before total : ℤ) (p : List ℕ) → axis < length s → n ≡ get_or s axis 0 → row ≡ inner s axis → IsPoint s p → place s p ≡ i
    → before ≡ cond (eqb ((i / row) % n) 0) (pos 0) (get_or totals (i - row) (pos 0)) → total ≡ int_wrap w64 (before +ℤ sum_of (those (get_or cells i None ∷ []))) → ((q : List ℕ) → IsPoint s q → place s q < i → IsSum s axis cells totals q) → total ≡ int_wrap w64 (sum_to s axis cells p)
sum_here s axis cells totals i n row before total p lt is_n is_row here at_i is_before is_total done = by (get_or p axis 0) refl
  where
    place_is : (i / row) % n ≡ get_or p axis 0
    place_is = ap (λ k. (k / row) % n) (sym at_i) ∙ ap (λ k. (place s p / k) % n) is_row ∙ ap (λ k. (place s p / inner s axis) % k) is_n ∙ position_is s axis p here lt

    cell : get_or cells i None ≡ get_or cells (place s p) None
    cell = ap (λ k. get_or cells k None) (sym at_i)

    by : (x : ℕ) → get_or p axis 0 ≡ x → total ≡ int_wrap w64 (sum_to s axis cells p)
    by zero e =
        let none : before ≡ pos 0 = is_before ∙ ap (λ k. cond (eqb k 0) (pos 0) (get_or totals (i - row) (pos 0))) (place_is ∙ e) in
        is_total ∙ ap (λ b. int_wrap w64 (b +ℤ sum_of (those (get_or cells i None ∷ [])))) none ∙ ap (int_wrap w64) (zero_first (sum_of (those (get_or cells i None ∷ []))))
        ∙ ap (λ c. int_wrap w64 (sum_of (those (c ∷ [])))) cell ∙ ap (λ cs. int_wrap w64 (sum_of (those cs))) (sym (line_none s axis cells p e))
    by (suc y) e =
        let q : List ℕ = set p axis y in
        let l = line s axis p here lt in
        let below = l.below in
        let small = l.small in
        let there : IsPoint s q = along_inside s p axis y here (omega arith) in
        let moved = moved_place s axis y p here lt in
        let times : get_or p axis 0 * inner s axis ≡ inner s axis + y * inner s axis = ap (λ k. k * inner s axis) e ∙ grind arith in
        let left : place s q ≡ i - row = omega arith in
        let earlier : place s q < i = omega arith in
        let one : before ≡ int_wrap w64 (sum_to s axis cells q) = is_before ∙ ap (λ k. cond (eqb k 0) (pos 0) (get_or totals (i - row) (pos 0))) (place_is ∙ e) ∙ ap (λ b. cond b (pos 0) (get_or totals (i - row) (pos 0))) (not_zero y) ∙ ap (λ k. get_or totals k (pos 0)) (sym left) ∙ done q there earlier in
        let more = those-append (line_to s axis cells q) (get_or cells (place s p) None ∷ []) in
        is_total ∙ ap (λ b. int_wrap w64 (b +ℤ sum_of (those (get_or cells i None ∷ [])))) one ∙ int_wrap-add_left w64 (sum_to s axis cells q) (sum_of (those (get_or cells i None ∷ [])))
        ∙ ap (λ c. int_wrap w64 (sum_to s axis cells q +ℤ sum_of (those (c ∷ [])))) cell ∙ ap (int_wrap w64) (sym (ap sum_of more ∙ sum_of-append (those (line_to s axis cells q)) (those (get_or cells (place s p) None ∷ []))))
        ∙ ap (λ cs. int_wrap w64 (sum_of (those cs))) (sym (line_more s axis cells p y here lt e))

pub sums_more : (s : List ℕ) (axis : ℕ) (cells : List (Option ℤ)) (totals more : List ℤ) (i n row : ℕ) (before total : ℤ) → axis < length s → n ≡ get_or s axis 0 → row ≡ inner s axis → length totals ≡ i → more ≡ totals ++ total ∷ []
    → before ≡ cond (eqb ((i / row) % n) 0) (pos 0) (get_or totals (i - row) (pos 0)) → total ≡ int_wrap w64 (before +ℤ sum_of (those (get_or cells i None ∷ []))) → ((q : List ℕ) → IsPoint s q → place s q < i → IsSum s axis cells totals q)
    → (q : List ℕ) → IsPoint s q → place s q < i + 1 → IsSum s axis cells more q
sums_more s axis cells totals more i n row before total lt is_n is_row long is_more is_before is_total done q here under = elim (cases_lt (place s q) i) [
  | inl earlier ↦ ap (λ ts. get_or ts (place s q) (pos 0)) is_more ∙ get_or-append totals (total ∷ []) (pos 0) (place s q) (omega arith) ∙ done q here earlier
  | inr later ↦
      let at_i : place s q ≡ i = omega arith in
      ap (λ ts. get_or ts (place s q) (pos 0)) is_more ∙ ap (λ k. get_or (totals ++ total ∷ []) k (pos 0)) (at_i ∙ sym long) ∙ get_or-append_seam totals total [] (pos 0) ∙ sum_here s axis cells totals i n row before total q lt is_n is_row here at_i is_before is_total done
]

-- ---- the array

map_both : {X Y Z : Type 0} (g : Y → Z) (f : X → Y) (xs : List X) → map g (map f xs) ≡ map (λ x. g (f x)) xs
map_both g f [] = refl
map_both g f (x ∷ xs) = ap (λ t. g (f x) ∷ t) (map_both g f xs)

up_to_is : (a : Array) (axis : ℕ) (p : List ℕ) → numbers (present (up_to a axis p)) ≡ those (line_to a.shape axis a.cells p)
up_to_is a axis p = those_pairs (up_to a axis p) ∙ ap those (map_both (λ (c : ℕ × Option ℤ). c.1) (λ i. (i, at a (along axis i p))) (range_with_len 0 (get_or p axis 0 + 1)))

scanned_cells : (a : Array) (axis : ℕ) (totals : List ℤ) (g : ℤ → ℤ) → ((n : ℤ) → g (int_wrap w64 n) ≡ wrap_to (total_kind a.kind) n) → length totals ≡ size a.shape → ((p : List ℕ) → IsPoint a.shape p → IsSum a.shape axis a.cells totals p) → map (λ n. Some (g n)) totals ≡ (scanned Sum a axis).cells
scanned_cells a axis totals g wraps long sums =
    let s : List ℕ = a.shape in
    let k = total_kind a.kind in
    let h = λ (n : ℤ). Some (g n) in
    ap (map h) (sym (tab_read s totals (pos 0) long))
    ∙ tab-map h s (λ p. get_or totals (place s p) (pos 0))
    ∙ tab_same s (λ p. h (get_or totals (place s p) (pos 0))) (λ p. fold_of Sum a.kind (up_to a axis p))
    (λ p inside. ap h (sums p inside) ∙ ap Some (wraps (sum_to s axis a.cells p) ∙ ap (λ ns. wrap_to k (sum_of ns)) (sym (up_to_is a axis p))))

pub signed_scan : (t : DType) (shape : List ℕ) (cells : List (Option ℤ)) (axis : ℕ) (totals : List ℤ) → total_kind t ≡ Int64 → length totals ≡ size shape → ((p : List ℕ) → IsPoint shape p → IsSum shape axis cells totals p) → array_of Int64 shape (map Some totals) ≡ scanned Sum (array_of t shape cells) axis
signed_scan t shape cells axis totals e long sums =
    (λ i. array_of (sym e i) shape (scanned_cells (array_of t shape cells) axis totals (λ n. n) (λ n. ap (λ u. wrap_to u n) (sym e)) long sums i))

pub unsigned_scan : (t : DType) (shape : List ℕ) (cells : List (Option ℤ)) (axis : ℕ) (totals ns : List ℤ) → total_kind t ≡ UInt64 → length totals ≡ size shape → ((p : List ℕ) → IsPoint shape p → IsSum shape axis cells totals p) → ns ≡ map (wrap_to UInt64) totals
    → array_of UInt64 shape (map Some ns) ≡ scanned Sum (array_of t shape cells) axis
unsigned_scan t shape cells axis totals ns e long sums is =
    (λ i. array_of (sym e i) shape ((ap (map Some) is ∙ map_both Some (wrap_to UInt64) totals ∙ scanned_cells (array_of t shape cells) axis totals (wrap_to UInt64) (λ n. wrapped_again UInt64 n ∙ ap (λ u. wrap_to u n) (sym e)) long sums) i))

-- ---- what the code has at hand

pub axis_some : (s : List ℕ) (axis : ℕ) → axis < length s → 0 < size s → (0 < get_or s axis 0) × (0 < inner s axis)
axis_some s axis lt some =
    let whole = size_split s axis lt in
    let both = positive (size (take axis s)) (get_or s axis 0 * inner s axis) (omega arith) in
    positive (get_or s axis 0) (inner s axis) both.1

pub row_here : (s behind : List ℕ) (axis row : ℕ) → 0 < size s → size s ≤ 2 ^ 50 → behind ≡ drop (axis + 1) s → row ≡ min (size behind) (2 ^ 64 - 1) → row ≡ size (drop (suc axis) s)
row_here s behind axis row some few is_behind is_row =
    let e : size behind ≡ size (drop (suc axis) s) = ap size (is_behind ∙ ap (λ k. drop k s) (add-one axis)) in
    let small = behind_small s (suc axis) (2 ^ 50) some few in
    omega arith

-- whether a place lies in the first row of its block
pub before_is : (i size row inside : ℕ) (before x : ℤ) → 0 < size → 0 < row → inside ≡ i % (size * row) → before ≡ cond (nat_lt inside row) (pos 0) x → before ≡ cond (eqb ((i / row) % size) 0) (pos 0) x
before_is i size row inside before x some_size some_row is_inside is_before =
    let block : ℕ = size * row in
    let o : ℕ = i / block in
    let k : ℕ = inside / row in
    let some : 0 < block = mul_positive size row some_size some_row in
    let below : inside < block = omega arith in
    let rest : inside % row < row = omega arith in
    let k_below : k < size = div_below inside row size some_row below in
    let split : i ≡ o * block + inside = omega arith in
    let inner : inside ≡ k * row + inside % row = grind arith in
    let whole : i ≡ (o * size + k) * row + inside % row = split ∙ ap (λ m. o * block + m) inner ∙ grind arith in
    let first : i / row ≡ o * size + k = ap (λ m. m / row) whole ∙ div-mul-add (o * size + k) row (inside % row) rest in
    let place : (i / row) % size ≡ k = ap (λ m. m % size) first ∙ mod-mul-add o size k k_below in
    is_before ∙ by (cases_lt inside row) ∙ ap (λ m. cond (eqb m 0) (pos 0) x) (sym place)
  where
    mul_positive : (a b : ℕ) → 0 < a → 0 < b → 0 < a * b
    mul_positive a b ha hb = let up = mul-le 1 1 a b (omega arith) (omega arith) in omega arith

    one_row : (a b : ℕ) → 0 < b → b ≤ a → 0 < a / b
    one_row a b some le = elim (cases_lt 0 (a / b)) [ inl more ↦ more | inr none ↦ absurd (let z : a / b ≡ 0 = omega arith in let w : b * (a / b) ≡ 0 = ap (λ m. b * m) z ∙ grind arith in let r : a % b < b = omega arith in omega arith) ]

    positive_differs : (n : ℕ) → 0 < n → eqb n 0 ≡ false
    positive_differs zero some = absurd (omega arith)
    positive_differs (suc n) some = not_zero n

    by : (inside < row) ⊎ (row ≤ inside) → cond (nat_lt inside row) (pos 0) x ≡ cond (eqb (inside / row) 0) (pos 0) x
    by (inl low) = let front : inside ≡ 0 * row + inside = grind arith in let none : inside / row ≡ 0 = ap (λ m. m / row) front ∙ div-mul-add 0 row inside low in let t : nat_lt inside row ≡ true = lt-ltb inside row low in ap (λ b. cond b (pos 0) x) t ∙ ap (λ m. cond (eqb m 0) (pos 0) x) (sym none)
    by (inr high) = let some : 0 < inside / row = one_row inside row some_row high in let t : nat_lt inside row ≡ false = le-ltb inside row high in let z : eqb (inside / row) 0 ≡ false = positive_differs (inside / row) some in ap (λ b. cond b (pos 0) x) t ∙ ap (λ b. cond b (pos 0) x) (sym z)

pub next_inside : (i inside block : ℕ) → inside < block → inside ≡ i % block → (suc inside ≡ block → (i + 1) % block ≡ 0) × (suc inside < block → (i + 1) % block ≡ inside + 1)
next_inside i inside block below is = (
  λ e. let q = i / block in let split : i ≡ q * block + inside = omega arith in let whole : i + 1 ≡ (q + 1) * block + 0 = grind arith in ap (λ m. m % block) whole ∙ mod-mul-add (q + 1) block 0 (omega arith),
  λ lt. let q = i / block in let split : i ≡ q * block + inside = omega arith in let whole : i + 1 ≡ q * block + (inside + 1) = omega arith in ap (λ m. m % block) whole ∙ mod-mul-add q block (inside + 1) (omega arith),
)

size_drop : (s : List ℕ) (axis : ℕ) → axis < length s → size (drop axis s) ≡ get_or s axis 0 * size (drop (suc axis) s)
size_drop [] axis lt = absurd (omega arith)
size_drop (n ∷ ns) zero lt = refl
size_drop (n ∷ ns) (suc k) lt = size_drop ns k (omega arith)

pub block_here : (s from : List ℕ) (axis block row : ℕ) → axis < length s → 0 < size s → size s ≤ 2 ^ 50 → from ≡ drop axis s → block ≡ min (size from) (2 ^ 64 - 1) → row ≡ size (drop (suc axis) s) → (block ≡ get_or s axis 0 * row) × (0 < block)
block_here s from axis block row lt some few is_from is_block is_row =
    let e : size from ≡ get_or s axis 0 * row = ap size is_from ∙ size_drop s axis lt ∙ ap (λ k. get_or s axis 0 * k) (sym is_row) in
    let small = behind_small s axis (2 ^ 50) some few in
    let same = ap size is_from in
    let both = positive (size (take axis s)) (get_or s axis 0 * inner s axis) (let whole = size_split s axis lt in omega arith) in
    let more : 0 < get_or s axis 0 * row = subst (λ k. 0 < get_or s axis 0 * k) (sym is_row) both.1 in
    (omega arith, omega arith)

one_number : (n : ℤ) → sum_of (n ∷ []) ≡ n
one_number n = omega (arith, ints)

-- a sum with the number of one more cell
pub counted : (c : Option ℤ) (before m total : ℤ) → m ≡ int_wrap w64 (or_number (pos 0) c) → total ≡ int_wrap w64 (before +ℤ m) → total ≡ int_wrap w64 (before +ℤ sum_of (those (c ∷ [])))
counted None before m total is_m is = is ∙ ap (λ k. int_wrap w64 (before +ℤ k)) is_m ∙ int_wrap-add_right w64 before (pos 0)
counted (Some x) before m total is_m is = is ∙ ap (λ k. int_wrap w64 (before +ℤ k)) is_m ∙ int_wrap-add_right w64 before x ∙ ap (λ k. int_wrap w64 (before +ℤ k)) (sym (one_number x))
