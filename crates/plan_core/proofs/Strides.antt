-- Lists that are read by strides.
use Rattle.std.proofs.Common.{◌≡◌, ◌<◌, ◌≤◌, ◌+◌, ◌-◌, ◌*◌, ℕ, zero, suc, List, [], ◌∷◌, ◌++◌, length, take, drop, get_or, refl, sym, ap, subst, ◌∙◌, arith, append_assoc, add-one, drop-cons}
use Rattle.std.specs.List.{flat_map, range_with_len}
use Rattle.std.proofs.lemmas.Grind.{flat_map-append}
use Rattle.std.proofs.lemmas.List.{append-nil, drop_all}
use Rattle.xr_types.specs.Points.{size, place, IsPoint}
use Rattle.plan_core.specs.Strides.{reached, strided, Reaches, IsBox}
use Rattle.plan_core.proofs.Tabs.{tab_part, flat_same}
use Rattle.plan_core.proofs.Takes.{positive}

pub same_default : {X : Type 0} (xs : List X) (i : ℕ) (d e : X) → i < length xs → get_or xs i d ≡ get_or xs i e
same_default [] i d e lt = absurd (omega arith)
same_default (x ∷ xs) zero d e lt = refl
same_default (x ∷ xs) (suc i) d e lt = same_default xs i d e (omega arith)

pub range_more : (a n : ℕ) → range_with_len a (suc n) ≡ range_with_len a n ++ (a + n) ∷ []
range_more a zero = let z : a + 0 ≡ a = omega arith in rw z refl
range_more a (suc n) = ap (λ t. a ∷ t) (range_more (a + 1) n) ∙ ap (λ k. a ∷ (range_with_len (a + 1) n ++ k ∷ [])) (omega arith)

pub flat_more : {X : Type 0} (f : ℕ → List X) (n : ℕ) → flat_map f (range_with_len 0 (n + 1)) ≡ flat_map f (range_with_len 0 n) ++ f n
flat_more f n =
    let z : 0 + n ≡ n = omega arith in
    ap (λ k. flat_map f (range_with_len 0 k)) (add-one n) ∙ ap (flat_map f) (range_more 0 n) ∙ flat_map-append f (range_with_len 0 n) ((0 + n) ∷ []) ∙ ap (λ t. flat_map f (range_with_len 0 n) ++ t) (append-nil (f (0 + n)) ∙ ap f z)

-- one more position of the first axis
pub strided_more : {X : Type 0} (ns ss : List ℕ) (s start i : ℕ) (other : X) (cells out more base here : List X) → more ≡ out ++ here → here ≡ strided ns ss (start + i * s) other cells → out ≡ base ++ strided (i ∷ ns) (s ∷ ss) start other cells
    → more ≡ base ++ strided ((i + 1) ∷ ns) (s ∷ ss) start other cells
strided_more ns ss s start i other cells out more base here is_more is_here so_far =
    let f = λ (k : ℕ). strided ns ss (start + k * s) other cells in
    is_more ∙ ap (λ t. out ++ t) is_here ∙ ap (λ t. t ++ f i) so_far ∙ append_assoc base (flat_map f (range_with_len 0 i)) (f i) ∙ ap (λ t. base ++ t) (sym (flat_more f i))

-- no position yet, and all of them
pub strided_none : {X : Type 0} (ns ss : List ℕ) (s start : ℕ) (other : X) (cells out : List X) → out ≡ out ++ strided (0 ∷ ns) (s ∷ ss) start other cells
strided_none ns ss s start other cells out = sym (append-nil out)

pub strided_all : {X : Type 0} (ns ss : List ℕ) (s start i n : ℕ) (other : X) (cells out base : List X) → n ≤ i → i ≤ n → out ≡ base ++ strided (i ∷ ns) (s ∷ ss) start other cells → out ≡ base ++ strided (n ∷ ns) (s ∷ ss) start other cells
strided_all ns ss s start i n other cells out base le ge so_far = let e : i ≡ n = omega arith in so_far ∙ ap (λ k. base ++ strided (k ∷ ns) (s ∷ ss) start other cells) e

-- the cell at a position along one axis
pub line_inside : (n s start i len : ℕ) → Reaches (n ∷ []) (s ∷ []) start len → i < n → start + i * s < len
line_inside n s start i len inside lt = inside (i ∷ []) (lt, tt)

pub line_cell : {X : Type 0} (cells : List X) (k : ℕ) (x other : X) → k < length cells → x ≡ get_or cells k x → x ∷ [] ≡ get_or cells k other ∷ []
line_cell cells k x other lt is = ap (λ y. y ∷ []) (is ∙ same_default cells k x other lt)

pub run_fits : (n start len : ℕ) → 0 < n → Reaches (n ∷ []) (1 ∷ []) start len → start + n ≤ len
run_fits n start len some inside =
    let last = inside ((n - 1) ∷ []) (omega arith, tt) in
    let e : start + (n - 1) * 1 < len = last in
    omega arith

pub run_cells : {X : Type 0} (n start : ℕ) (other : X) (cells : List X) → start + n ≤ length cells → take n (drop start cells) ≡ strided (n ∷ []) (1 ∷ []) start other cells
run_cells n start other cells fits =
    let one : n * 1 ≡ n = omega arith in
    sym (ap (λ k. take k (drop start cells)) one) ∙ sym (tab_part (n ∷ []) start cells other (omega (arith, one)))
    ∙ flat_same (λ i. get_or cells (start + place (n ∷ []) (i ∷ [])) other ∷ []) (λ i. get_or cells (reached start (i ∷ []) (1 ∷ [])) other ∷ []) 0 n (λ i lo hi. ap (λ k. get_or cells k other ∷ []) (omega arith))

abbrev pub first_point : List ℕ → List ℕ
first_point [] = []
first_point (n ∷ ns) = 0 ∷ first_point ns

pub is_first : (ns : List ℕ) → 0 < size ns → IsPoint ns (first_point ns)
is_first [] some = tt
is_first (n ∷ ns) some = let both = positive n (size ns) some in (both.0, is_first ns both.1)

first_reached : (ns ss : List ℕ) (start : ℕ) → reached start (first_point ns) ss ≡ start
first_reached [] ss start = refl
first_reached (n ∷ ns) [] start = refl
first_reached (n ∷ ns) (s ∷ ss) start = let z : start + 0 * s ≡ start = omega arith in ap (λ k. reached k (first_point ns) ss) z ∙ first_reached ns ss start

-- the first cell of a box is there
pub start_inside : (ns ss : List ℕ) (start len : ℕ) → 0 < size ns → Reaches ns ss start len → start < len
start_inside ns ss start len some inside = subst (λ k. k < len) (first_reached ns ss start) (inside (first_point ns) (is_first ns some))

pub row_inside : (n s i start len : ℕ) (ns ss : List ℕ) → i < n → Reaches (n ∷ ns) (s ∷ ss) start len → Reaches ns ss (start + i * s) len
row_inside n s i start len ns ss lt inside p here = inside (i ∷ p) (lt, here)

pub rows_some : (n : ℕ) (ns : List ℕ) → 0 < size (n ∷ ns) → 0 < size ns
rows_some n ns some = (positive n (size ns) some).1

-- ---- the axes from one on

pub at_axis : (xs : List ℕ) (axis : ℕ) → axis < length xs → drop axis xs ≡ get_or xs axis 0 ∷ drop (axis + 1) xs
at_axis xs axis lt = drop-cons xs axis 0 lt ∙ ap (λ k. get_or xs axis 0 ∷ drop k xs) (sym (add-one axis))

-- the sizes and the strides from an axis on, its own before the others
pub record Splits (ns ss : List ℕ) (axis start len : ℕ) : Type 0 where
  pub sizes : drop axis ns ≡ get_or ns axis 0 ∷ drop (axis + 1) ns
  pub strides : drop axis ss ≡ get_or ss axis 0 ∷ drop (axis + 1) ss
  pub some : 0 < size (drop (axis + 1) ns)
  pub inside : Reaches (get_or ns axis 0 ∷ drop (axis + 1) ns) (get_or ss axis 0 ∷ drop (axis + 1) ss) start len

pub splits : (ns ss : List ℕ) (axis start len : ℕ) → IsBox ns ss axis start len → axis < length ns → Splits ns ss axis start len
splits ns ss axis start len box lt =
    let long = box.lengths in
    let a = at_axis ns axis lt in
    let b = at_axis ss axis (omega (arith, long)) in
    record {
      sizes = a;
      strides = b;
      some = rows_some (get_or ns axis 0) (drop (axis + 1) ns) (subst (λ (xs : List ℕ). 0 < size xs) a box.some);
      inside = subst (λ (xs : List ℕ). Reaches (get_or ns axis 0 ∷ drop (axis + 1) ns) xs start len) b (subst (λ (xs : List ℕ). Reaches xs (drop axis ss) start len) a box.inside);
    }

-- a position of the axis
pub row_below : (ns ss : List ℕ) (axis i start len : ℕ) → IsBox ns ss axis start len → axis < length ns → i < get_or ns axis 0 → start + i * get_or ss axis 0 < len
row_below ns ss axis i start len box lt here =
    let is = splits ns ss axis start len box lt in
    start_inside (drop (axis + 1) ns) (drop (axis + 1) ss) (start + i * get_or ss axis 0) len is.some (row_inside (get_or ns axis 0) (get_or ss axis 0) i start len (drop (axis + 1) ns) (drop (axis + 1) ss) here is.inside)

pub next_box : (ns ss : List ℕ) (axis i start len : ℕ) → IsBox ns ss axis start len → axis < length ns → i < get_or ns axis 0 → IsBox ns ss (axis + 1) (start + i * get_or ss axis 0) len
next_box ns ss axis i start len box lt here =
    let is = splits ns ss axis start len box lt in
    record {
      lengths = box.lengths;
      axis_is = omega (arith, lt);
      some = is.some;
      inside = row_inside (get_or ns axis 0) (get_or ss axis 0) i start len (drop (axis + 1) ns) (drop (axis + 1) ss) here is.inside;
      small = box.small;
    }

pub strided_axis : {X : Type 0} (ns ss : List ℕ) (axis start len : ℕ) (other : X) (cells : List X) → IsBox ns ss axis start len → axis < length ns
    → strided (get_or ns axis 0 ∷ drop (axis + 1) ns) (get_or ss axis 0 ∷ drop (axis + 1) ss) start other cells ≡ strided (drop axis ns) (drop axis ss) start other cells
strided_axis ns ss axis start len other cells box lt =
    let is = splits ns ss axis start len box lt in
    ap (λ (xs : List ℕ). strided xs (get_or ss axis 0 ∷ drop (axis + 1) ss) start other cells) (sym is.sizes) ∙ ap (λ (xs : List ℕ). strided (drop axis ns) xs start other cells) (sym is.strides)

-- behind the last axis
none_left : (ns ss : List ℕ) (axis : ℕ) → length ss ≡ length ns → axis ≡ length ns → (drop axis ns ≡ []) × (drop axis ss ≡ [])
none_left ns ss axis long is = (drop_all axis ns (omega (arith, is)), drop_all axis ss (omega (arith, is, long)))

pub start_below : (ns ss : List ℕ) (axis start len : ℕ) → IsBox ns ss axis start len → axis ≡ length ns → start < len
start_below ns ss axis start len box is =
    let none = none_left ns ss axis box.lengths is in
    subst (λ (xs : List ℕ). Reaches [] xs start len) none.1 (subst (λ (xs : List ℕ). Reaches xs (drop axis ss) start len) none.0 box.inside) [] tt

pub one_cell : {X : Type 0} (ns ss : List ℕ) (axis start : ℕ) (x other : X) (cells : List X) → IsBox ns ss axis start (length cells) → axis ≡ length ns → x ≡ get_or cells start x → x ∷ [] ≡ strided (drop axis ns) (drop axis ss) start other cells
one_cell ns ss axis start x other cells box is cell =
    let none = none_left ns ss axis box.lengths is in
    line_cell cells start x other (start_below ns ss axis start (length cells) box is) cell ∙ ap (λ (xs : List ℕ). strided xs [] start other cells) (sym none.0) ∙ ap (λ (xs : List ℕ). strided (drop axis ns) xs start other cells) (sym none.1)

-- the last axis
pub last_inside : (ns ss : List ℕ) (axis start len : ℕ) → IsBox ns ss axis start len → axis + 1 ≡ length ns → Reaches (get_or ns axis 0 ∷ []) (get_or ss axis 0 ∷ []) start len
last_inside ns ss axis start len box is =
    let none = none_left ns ss (axis + 1) box.lengths is in
    let a = splits ns ss axis start len box (omega (arith, is)) in
    subst (λ (xs : List ℕ). Reaches (get_or ns axis 0 ∷ []) (get_or ss axis 0 ∷ xs) start len) none.1 (subst (λ (xs : List ℕ). Reaches (get_or ns axis 0 ∷ xs) (get_or ss axis 0 ∷ drop (axis + 1) ss) start len) none.0 a.inside)

pub strided_last : {X : Type 0} (ns ss : List ℕ) (axis start len : ℕ) (other : X) (cells : List X) → IsBox ns ss axis start len → axis + 1 ≡ length ns → strided (get_or ns axis 0 ∷ []) (get_or ss axis 0 ∷ []) start other cells ≡ strided (drop axis ns) (drop axis ss) start other cells
strided_last ns ss axis start len other cells box is =
    let none = none_left ns ss (axis + 1) box.lengths is in
    ap (λ (xs : List ℕ). strided (get_or ns axis 0 ∷ xs) (get_or ss axis 0 ∷ []) start other cells) (sym none.0) ∙ ap (λ (xs : List ℕ). strided (get_or ns axis 0 ∷ drop (axis + 1) ns) (get_or ss axis 0 ∷ xs) start other cells) (sym none.1) ∙ strided_axis ns ss axis start len other cells box (omega (arith, is))
