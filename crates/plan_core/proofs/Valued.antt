-- The value of a node that fits is an array: it has a cell for each point, and each is missing or in the range of its kind.
use Rattle.std.specs.Prelude.{⊤}
use Rattle.std.proofs.Common.{◌≡◌, ◌<◌, ◌≤◌, ◌+◌, ◌-◌, ◌*◌, ◌^◌, ℕ, ℤ, pos, negsuc, zero, suc, Bool, true, false, cond, List, [], ◌∷◌, ◌++◌, length, map, get_or, Option, Some, None, sym, subst, arith, length-append}
use Rattle.std.specs.List.{All, flat_map, range_with_len}
use Rattle.std.proofs.lemmas.List.Elements.{All-head, All-tail, All-cons, All-append}
use Rattle.std.proofs.lemmas.Nat.{mul-le}
use Rattle.xr_types.specs.declared.kind.DType.{DType}
use Rattle.xr_types.specs.declared.operation.OpKind.{OpKind}
use Rattle.xr_types.specs.declared.operation.OpKind.TheVariants as ops
use Rattle.xr_types.specs.declared.operation.FoldKind.{FoldKind}
use Rattle.xr_types.specs.declared.operation.FoldKind.TheVariants as folds
use Rattle.xr_types.specs.Points.{size, place, IsPoint}
use Rattle.xr_arrays.specs.declared.node.Feed.{Feed}
use Rattle.xr_arrays.specs.declared.node.Feed.TheVariants as feed
use Rattle.xr_arrays.specs.declared.node.Node.{Node}
use Rattle.xr_arrays.specs.declared.node.Node.TheVariants.{Source, Take, Reorder, Widen, Unary, Binary, Choose, Fold, Scan, Concat, Chunk}
use Rattle.xr_arrays.specs.Arrays.{Array, at, made, IsArray, IsCell}
use Rattle.xr_arrays.specs.Elements.{binary_of, choose, choose_of, elem, result_kind, takes_one, takes_two, unary_of, Gives}
use Rattle.xr_arrays.specs.Folds.{folded_kind}
use Rattle.xr_arrays.specs.Nodes.{along, concatenated, end_to_end, first_array, folded, from_source, gathered, input_of, kept, node_of, node_value, nothing, scanned, taken_or_picked, value, values, values_from, with_axis, AllFit, AreFed, ArePositions, FitsBy, IsNode, most_node_cells}
use Rattle.xr_arrays.proofs.FoldRanges.{AreCells, fold_in_kind}
use Rattle.plan_core.proofs.ElementRanges.{cast_in, flag_in, inverted_in, negated_in, two_in, wrap_in}
use Rattle.plan_core.proofs.Concats.{all_mapped}
use Rattle.plan_core.proofs.Plans.{values-length}
use Rattle.plan_core.proofs.Tabs.{place_below, tab-length, All-tab}

-- ---- cells at points

get_in : (t : DType) (xs : List (Option ℤ)) (i : ℕ) → All (IsCell t) xs → IsCell t (get_or xs i None)
get_in t [] i h = tt
get_in t (x ∷ xs) zero h = All-head (IsCell t) x xs h
get_in t (x ∷ xs) (suc i) h = get_in t xs i (All-tail (IsCell t) x xs h)

pub at_in : (a : Array) → IsArray a → (p : List ℕ) → IsCell a.kind (at a p)
at_in a is p = get_in a.kind a.cells (place a.shape p) is.range

-- an array that is made of cells of a kind
pub made_is : (t : DType) (s : List ℕ) (f : List ℕ → Option ℤ) → ((p : List ℕ) → IsPoint s p → IsCell t (f p)) → IsArray (made t s f)
made_is t s f h = record { whole = tab-length s f; range = All-tab (IsCell t) s f h }

source_in : (a : Array) (fill : Option ℤ) (point : ℕ → List ℕ) (o : Option ℕ) → IsArray a → IsCell a.kind fill → IsCell a.kind (from_source a fill point o)
source_in a fill point None is h = h
source_in a fill point (Some i) is h = at_in a is (point i)

pub taken_is : (drops : Bool) (a : Array) (axis : ℕ) (from : List (Option ℕ)) (fill : Option ℤ) → IsArray a → IsCell a.kind fill → IsArray (taken_or_picked drops a axis from fill)
taken_is true a axis from fill is h = made_is a.kind _ _ (λ p here. source_in a fill (λ i. with_axis axis i p) (get_or from 0 None) is h)
taken_is false a axis from fill is h = made_is a.kind _ _ (λ p here. source_in a fill (λ i. along axis i p) (get_or from (get_or p axis 0) None) is h)

-- ---- operations on cells

pub unary_is : (op : OpKind) (kind : DType) (a : Array) → takes_one op ≡ true → Gives op kind a.kind → IsArray a → IsArray (unary_of op kind a)
unary_is ops.Cast kind a e g is = made_is kind _ _ (λ p here. cast_in kind (at a p))
unary_is ops.Negate kind a e g is = made_is kind _ _ (λ p here. subst (λ t. IsCell t (elem ops.Negate a.kind (at a p) None)) (sym g) (negated_in a.kind (at a p)))
unary_is ops.Invert kind a e g is = made_is kind _ _ (λ p here. subst (λ t. IsCell t (elem ops.Invert a.kind (at a p) None)) (sym g) (inverted_in a.kind (at a p)))
unary_is ops.IsNull kind a e g is = made_is kind _ _ (λ p here. subst (λ t. IsCell t (elem ops.IsNull a.kind (at a p) None)) (sym g) (flag_in _))
unary_is ops.NotNull kind a e g is = made_is kind _ _ (λ p here. subst (λ t. IsCell t (elem ops.NotNull a.kind (at a p) None)) (sym g) (flag_in _))
unary_is ops.Add kind a e g is = absurd cc
unary_is ops.Subtract kind a e g is = absurd cc
unary_is ops.Multiply kind a e g is = absurd cc
unary_is ops.FloorDivide kind a e g is = absurd cc
unary_is ops.Remainder kind a e g is = absurd cc
unary_is ops.Divide kind a e g is = absurd cc
unary_is ops.And kind a e g is = absurd cc
unary_is ops.Or kind a e g is = absurd cc
unary_is ops.Xor kind a e g is = absurd cc
unary_is ops.Equal kind a e g is = absurd cc
unary_is ops.NotEqual kind a e g is = absurd cc
unary_is ops.Less kind a e g is = absurd cc
unary_is ops.LessEqual kind a e g is = absurd cc
unary_is ops.Greater kind a e g is = absurd cc
unary_is ops.GreaterEqual kind a e g is = absurd cc
unary_is ops.FillNa kind a e g is = absurd cc

pub binary_is : (op : OpKind) (a b : Array) → takes_two op ≡ true → b.kind ≡ a.kind → IsArray a → IsArray b → IsArray (binary_of op (result_kind op a.kind) a b)
binary_is op a b e same is also = made_is (result_kind op a.kind) _ _ (λ p here. two_in op a.kind (at a p) (at b p) e (at_in a is p) (subst (λ t. IsCell t (at b p)) same (at_in b also p)))

chosen_in : (t : DType) (c x y : Option ℤ) → IsCell t x → IsCell t y → IsCell t (choose c x y)
chosen_in t None x y i j = tt
chosen_in t (Some (pos zero)) x y i j = j
chosen_in t (Some (pos (suc n))) x y i j = i
chosen_in t (Some (negsuc n)) x y i j = i

pub chosen_is : (c a b : Array) → b.kind ≡ a.kind → IsArray a → IsArray b → IsArray (choose_of c a b)
chosen_is c a b same is also = made_is a.kind _ _ (λ p here. chosen_in a.kind (at c p) (at a p) (at b p) (at_in a is p) (subst (λ t. IsCell t (at b p)) same (at_in b also p)))

-- ---- folds

cells_both : (t : DType) (xs ys : List (ℕ × Option ℤ)) → AreCells t xs → AreCells t ys → AreCells t (xs ++ ys)
cells_both t [] ys h k = k
cells_both t (x ∷ xs) ys h k = (h.0, h.1, cells_both t xs ys h.2 k)

cells_range : (t : DType) (f : ℕ → List (ℕ × Option ℤ)) (a n : ℕ) → ((i : ℕ) → i < a + n → AreCells t (f i)) → AreCells t (flat_map f (range_with_len a n))
cells_range t f a zero h = tt
cells_range t f a (suc n) h = cells_both t (f a) (flat_map f (range_with_len (a + 1) n)) (h a (omega arith)) (cells_range t f (a + 1) n (λ i lt. h i (omega arith)))

cells_list : (t : DType) (f : ℕ → List (ℕ × Option ℤ)) (n from : ℕ) (ps : List ℕ) → ArePositions n from ps → ((i : ℕ) → i < n → AreCells t (f i)) → AreCells t (flat_map f ps)
cells_list t f n from [] is h = tt
cells_list t f n from (i ∷ ps) is h = cells_both t (f i) (flat_map f ps) (h i is.1) (cells_list t f n (suc i) ps is.2 h)

positions_of : (n i : ℕ) (lists : List (List ℕ)) → All (ArePositions n 0) lists → ArePositions n 0 (get_or lists i [])
positions_of n i [] all = tt
positions_of n zero (ps ∷ lists) all = All-head (ArePositions n 0) ps lists all
positions_of n (suc i) (ps ∷ lists) all = positions_of n i lists (All-tail (ArePositions n 0) ps lists all)

-- no position of a point is as large as this
abbrev AreSmall : List ℕ → Type 0
AreSmall [] = ⊤
AreSmall (i ∷ p) = (i < 2 ^ 62) × AreSmall p

times_up : (n s : ℕ) → 0 < n → 0 < s → (n ≤ n * s) × (s ≤ n * s)
times_up n s i j =
    let one = mul-le n 1 n s (omega arith) (omega arith) in
    let other = mul-le 1 s n s (omega arith) (omega arith) in
    let e : n * 1 ≡ n = omega arith in
    let d : 1 * s ≡ s = omega arith in
    (omega arith, omega arith)

small_point : (s p : List ℕ) → IsPoint s p → size s ≤ 2 ^ 50 → AreSmall p
small_point [] [] here few = tt
small_point [] (i ∷ p) here few = absurd here
small_point (n ∷ ns) [] here few = absurd here
small_point (n ∷ ns) (i ∷ p) here few =
    let below = place_below ns p here.1 in
    let parts = times_up n (size ns) (let lt = here.0 in omega arith) (omega arith) in
    let wide = parts.0 in
    let tall = parts.1 in
    (let lt = here.0 in omega arith, small_point ns p here.1 (omega arith))

-- the cells that a point of the result folds are cells of the kind at positions that aren't too large
pub fed_cells : (t : DType) (j : ℕ) (fs : List Feed) (s p : List ℕ) (f : List ℕ → Option ℤ) → length fs ≡ length s → AreFed fs s → IsPoint (kept fs s) p → ((q : List ℕ) → IsPoint s q → (j < 2 ^ 62) × AreSmall q × IsCell t (f q)) → AreCells t (gathered j fs s p f)
fed_cells t j [] [] p f e fed here h = let x = h [] tt in (x.0, x.2, tt)
fed_cells t j [] (n ∷ ns) p f e fed here h = absurd (omega arith)
fed_cells t j (x ∷ fs) [] p f e fed here h = absurd (omega arith)
fed_cells t j (feed.Keep ∷ fs) (n ∷ ns) [] f e fed here h = absurd here
fed_cells t j (feed.Keep ∷ fs) (n ∷ ns) (i ∷ p) f e fed here h =
    fed_cells t j fs ns p (λ q. f (i ∷ q)) (omega arith) fed.1 here.1 (λ q there. let x = h (i ∷ q) (here.0, there) in (x.0, x.1.1, x.2))
fed_cells t j (feed.All ∷ fs) (n ∷ ns) p f e fed here h =
    cells_range t (λ i. gathered i fs ns p (λ q. f (i ∷ q))) 0 n (λ i lt. fed_cells t i fs ns p (λ q. f (i ∷ q)) (omega arith) fed.1 here (λ q there. let x = h (i ∷ q) (omega (arith, lt), there) in (x.1.0, x.1.1, x.2)))
fed_cells t j (feed.By lists ∷ fs) (n ∷ ns) [] f e fed here h = absurd here
fed_cells t j (feed.By lists ∷ fs) (n ∷ ns) (i ∷ p) f e fed here h =
    cells_list t (λ k. gathered k fs ns p (λ q. f (k ∷ q))) n 0 (get_or lists i []) (positions_of n i lists fed.0)
    (λ k lt. fed_cells t k fs ns p (λ q. f (k ∷ q)) (omega arith) fed.1 here.1 (λ q there. let x = h (k ∷ q) (lt, there) in (x.1.0, x.1.1, x.2)))

flat_most : {X : Type 0} (f : ℕ → List X) (a n m : ℕ) → ((i : ℕ) → i < a + n → length (f i) ≤ m) → length (flat_map f (range_with_len a n)) ≤ n * m
flat_most f a zero m h = omega arith
flat_most f a (suc n) m h =
    let here = h a (omega arith) in
    let rest = flat_most f (a + 1) n m (λ i lt. h i (omega arith)) in
    let both = length-append (f a) (flat_map f (range_with_len (a + 1) n)) in
    let e : suc n * m ≡ m + n * m = grind arith in
    omega arith

few_positions : (n from : ℕ) (ps : List ℕ) → ArePositions n from ps → from ≤ n → length ps + from ≤ n
few_positions n from [] is le = omega arith
few_positions n from (i ∷ ps) is le = let lo = is.0 in let hi = is.1 in let rest = few_positions n (suc i) ps is.2 (omega arith) in omega arith

list_most : {X : Type 0} (f : ℕ → List X) (n from m : ℕ) (ps : List ℕ) → ArePositions n from ps → ((i : ℕ) → i < n → length (f i) ≤ m) → length (flat_map f ps) ≤ length ps * m
list_most f n from m [] is h = omega arith
list_most f n from m (i ∷ ps) is h =
    let here = h i is.1 in
    let rest = list_most f n (suc i) m ps is.2 h in
    let both = length-append (f i) (flat_map f ps) in
    let e : suc (length ps) * m ≡ m + length ps * m = grind arith in
    omega arith

-- no more cells than the input has
pub fed_most : (j : ℕ) (fs : List Feed) (s p : List ℕ) (f : List ℕ → Option ℤ) → length fs ≡ length s → AreFed fs s → IsPoint (kept fs s) p → length (gathered j fs s p f) ≤ size s
fed_most j [] [] p f e fed here = omega arith
fed_most j [] (n ∷ ns) p f e fed here = absurd (omega arith)
fed_most j (x ∷ fs) [] p f e fed here = absurd (omega arith)
fed_most j (feed.Keep ∷ fs) (n ∷ ns) [] f e fed here = absurd here
fed_most j (feed.Keep ∷ fs) (n ∷ ns) (i ∷ p) f e fed here =
    let rest = fed_most j fs ns p (λ q. f (i ∷ q)) (omega arith) fed.1 here.1 in
    let some = here.0 in
    let up = mul-le 1 (size ns) n (size ns) (omega arith) (omega arith) in
    let d : 1 * size ns ≡ size ns = omega arith in
    omega arith
fed_most j (feed.All ∷ fs) (n ∷ ns) p f e fed here =
    flat_most (λ i. gathered i fs ns p (λ q. f (i ∷ q))) 0 n (size ns) (λ i lt. fed_most i fs ns p (λ q. f (i ∷ q)) (omega arith) fed.1 here)
fed_most j (feed.By lists ∷ fs) (n ∷ ns) [] f e fed here = absurd here
fed_most j (feed.By lists ∷ fs) (n ∷ ns) (i ∷ p) f e fed here =
    let ps = get_or lists i [] in
    let good = positions_of n i lists fed.0 in
    let all = list_most (λ k. gathered k fs ns p (λ q. f (k ∷ q))) n 0 (size ns) ps good (λ k lt. fed_most k fs ns p (λ q. f (k ∷ q)) (omega arith) fed.1 here.1) in
    let few = few_positions n 0 ps good (omega arith) in
    let up = mul-le (length ps) (size ns) n (size ns) (omega arith) (omega arith) in
    omega arith

pub folded_is : (k : FoldKind) (fs : List Feed) (a : Array) → length fs ≡ length a.shape → AreFed fs a.shape → size a.shape ≤ most_node_cells → IsArray a → IsArray (folded k fs a)
folded_is k fs a e fed few is =
    made_is (folded_kind k a.kind) (kept fs a.shape) _
    (λ p here. let most = fed_most 0 fs a.shape p (at a) e fed here in fold_in_kind k a.kind (gathered 0 fs a.shape p (at a)) (fed_cells a.kind 0 fs a.shape p (at a) e fed here (λ q there. (omega arith, small_point a.shape q there few, at_in a is q))) (omega (arith, most, few)))

pub scanned_is : (k : FoldKind) (a : Array) (axis : ℕ) → k ≡ folds.Sum → IsArray (scanned k a axis)
scanned_is k a axis e = subst (λ j. IsArray (scanned j a axis)) (sym e) (made_is (folded_kind folds.Sum a.kind) a.shape _ (λ p here. wrap_in (folded_kind folds.Sum a.kind) _))

-- ---- one after the other

either_in : (t : DType) (b : Bool) (x y : Option ℤ) → IsCell t x → IsCell t y → IsCell t (cond b x y)
either_in t true x y i j = i
either_in t false x y i j = j

end_in : (t : DType) (bs : List Array) (axis : ℕ) (p : List ℕ) (i : ℕ) → All IsArray bs → All (λ (b : Array). b.kind ≡ t) bs → IsCell t (end_to_end bs axis p i)
end_in t [] axis p i all same = tt
end_in t (b ∷ bs) axis p i all same =
    either_in t _ _ _ (subst (λ k. IsCell k (at b (along axis i p))) (All-head (λ (b : Array). b.kind ≡ t) b bs same) (at_in b (All-head IsArray b bs all) (along axis i p)))
    (end_in t bs axis p (i - get_or b.shape axis 0) (All-tail IsArray b bs all) (All-tail (λ (b : Array). b.kind ≡ t) b bs same))

pub concat_is : (bs : List Array) (axis : ℕ) → All IsArray bs → All (λ (b : Array). b.kind ≡ (first_array bs).kind) bs → IsArray (concatenated bs axis)
concat_is bs axis all same = made_is (first_array bs).kind _ _ (λ p here. end_in (first_array bs).kind bs axis p (get_or p axis 0) all same)

-- ---- nodes

abbrev pub IsValue : Array → Type 0
IsValue a = IsArray a × (size a.shape ≤ most_node_cells)

pub node_is_array : (count : ℕ) (f : ℕ → Array) (node : Node) → ((m : ℕ) → m < count → IsValue (f m)) → FitsBy count f node → IsArray (node_of f node)
node_is_array count f (Source a) h fits = fits
node_is_array count f (Take n axis from fill drops) h fits = taken_is drops (f n) axis from fill (h n fits.0).0 fits.3
node_is_array count f (Reorder n order) h fits = made_is (f n).kind _ _ (λ p here. at_in (f n) (h n fits.0).0 _)
node_is_array count f (Widen n axis size) h fits = made_is (f n).kind _ _ (λ p here. at_in (f n) (h n fits.0).0 _)
node_is_array count f (Unary op kind n) h fits = unary_is op kind (f n) fits.1 fits.2 (h n fits.0).0
node_is_array count f (Binary op m n) h fits = binary_is op (f m) (f n) fits.2 fits.4 (h m fits.0).0 (h n fits.1).0
node_is_array count f (Choose c m n) h fits = chosen_is (f c) (f m) (f n) fits.6 (h m fits.1).0 (h n fits.2).0
node_is_array count f (Fold k n feeds) h fits = folded_is k feeds (f n) fits.1 fits.2 (h n fits.0).1 (h n fits.0).0
node_is_array count f (Scan k n axis) h fits = scanned_is k (f n) axis fits.1
node_is_array count f (Concat ns axis) h fits =
    concat_is (map f ns) axis (all_mapped IsArray f ns (λ k d lt. (h (get_or ns k d) (fits.1 k d lt)).0)) (all_mapped (λ (b : Array). b.kind ≡ (first_array (map f ns)).kind) f ns (λ k d lt. (fits.3 k d lt).0))
node_is_array count f (Chunk n sizes) h fits = (h n fits.0).0

values_all : (done : List Array) (nodes : List Node) → All IsValue done → AllFit done nodes → All IsValue (values_from done nodes)
unfolding node_value
values_all done [] h fit = h
values_all done (node ∷ nodes) h fit =
    let here : IsValue (node_value done node) = (node_is_array (length done) (input_of done) node (λ m lt. h m nothing lt) fit.0.fits, fit.0.small) in
    values_all (done ++ node_value done node ∷ []) nodes (All-append IsValue done (node_value done node ∷ []) h (All-cons IsValue (node_value done node) [] here (λ k d none. absurd (omega arith)))) fit.1

pub value_is_array : (nodes : List Node) (i : ℕ) → AllFit [] nodes → i < length nodes → IsArray (value nodes i)
value_is_array nodes i fit lt = let long = values-length nodes in (values_all [] nodes (λ k d none. absurd (omega arith)) fit i nothing (omega arith)).0

-- one more node
pub next_is_array : (nodes : List Node) (node : Node) → AllFit [] nodes → IsNode (values nodes) node → IsArray (node_value (values nodes) node)
unfolding node_value
next_is_array nodes node fit fits = node_is_array (length (values nodes)) (input_of (values nodes)) node (λ m lt. values_all [] nodes (λ k d none. absurd (omega arith)) fit m nothing lt) fits.fits
