-- A fold of cells in row order is the value of a node that folds.
use Rattle.std.proofs.Common.{◌≡◌, ◌<◌, ◌≤◌, ◌+◌, ℕ, ℤ, zero, suc, List, [], ◌∷◌, ◌++◌, length, map, drop, get_or, Option, Some, None, refl, sym, ap, subst, ◌∙◌, arith, append_assoc, append-nil}
use Rattle.std.specs.Int.{int_wrap, w64}
use Rattle.std.specs.List.{range_with_len, All}
use Rattle.std.proofs.lemmas.List.{drop_all}
use Rattle.xr_types.specs.Kinds.{wrap_to}
use Rattle.xr_types.specs.declared.kind.DType.{DType}
use Rattle.xr_types.specs.declared.operation.FoldKind.TheVariants.{Sum}
use Rattle.xr_types.specs.Points.{size, tab}
use Rattle.xr_arrays.specs.declared.node.Feed.{Feed}
use Rattle.xr_arrays.specs.declared.node.Feed.TheVariants as feed
use Rattle.xr_arrays.specs.Arrays.{Array, at, made, IsCell}
use Rattle.xr_arrays.specs.Folds.{fold_of, sum_of, total_kind}
use Rattle.xr_arrays.specs.Nodes.{folded, gathered, kept}
use Rattle.plan_core.specs.Rows.{those}
use Rattle.plan_core.proofs.FoldRows.{those_pairs}
use Rattle.plan_core.proofs.Steps.{first_at}
use Rattle.plan_core.proofs.Tabs.{flat_same, map-flat, tab_read}
use Rattle.plan_core.proofs.Valued.{made_is}
use Rattle.plan_core.proofs.ElementRanges.{wrap_in}
use Rattle.plan_whole.specs.Folded.{kept_one}
use Rattle.plan_whole.proofs.EachCell.{are_those, AreThose}
use Rattle.plan_whole.proofs.Totals.{wrapped_again}

-- ---- the sizes that stay

kept_first : (f : Feed) (fs : List Feed) (n : ℕ) (ns : List ℕ) → kept (f ∷ fs) (n ∷ ns) ≡ kept_one f n ++ kept fs ns
kept_first feed.Keep fs n ns = refl
kept_first feed.All fs n ns = refl
kept_first (feed.By lists) fs n ns = refl

pub kept_more : (feeds : List Feed) (shape out more base : List ℕ) (i : ℕ) (f : Feed) → i < length feeds → i < length shape → f ≡ get_or feeds i f → more ≡ out ++ kept_one f (get_or shape i 0) → out ++ kept (drop i feeds) (drop i shape) ≡ base
    → more ++ kept (drop (i + 1) feeds) (drop (i + 1) shape) ≡ base
kept_more feeds shape out more base i f lf ls is_f is_more so_far =
    let n = get_or shape i 0 in
    let rest = kept (drop (i + 1) feeds) (drop (i + 1) shape) in
    let e : drop i feeds ≡ f ∷ drop (i + 1) feeds = first_at feeds i f lf ∙ ap (λ g. g ∷ drop (i + 1) feeds) (sym is_f) in
    ap (λ t. t ++ rest) is_more ∙ append_assoc out (kept_one f n) rest ∙ ap (λ t. out ++ t) (sym (kept_first f (drop (i + 1) feeds) n (drop (i + 1) shape)) ∙ ap (λ t. kept (f ∷ drop (i + 1) feeds) t) (sym (first_at shape i 0 ls)) ∙ ap (λ t. kept t (drop i shape)) (sym e)) ∙ so_far

pub kept_done : (feeds : List Feed) (shape out base : List ℕ) (i : ℕ) → length feeds ≤ i → out ++ kept (drop i feeds) (drop i shape) ≡ base → out ≡ base
kept_done feeds shape out base i le so_far = sym (append-nil out) ∙ ap (λ t. out ++ t) (sym (ap (λ fs. kept fs (drop i shape)) (drop_all i feeds le))) ∙ so_far

-- ---- all axes folded

all_gathered : (j : ℕ) (fs : List Feed) (s : List ℕ) (f : List ℕ → Option ℤ) → length fs ≡ length s → kept fs s ≡ [] → map (λ c. c.1) (gathered j fs s [] f) ≡ tab s f
all_gathered j [] [] f e none = refl
all_gathered j [] (n ∷ ns) f e none = absurd (omega arith)
all_gathered j (x ∷ fs) [] f e none = absurd (omega arith)
all_gathered j (feed.Keep ∷ fs) (n ∷ ns) f e none = let l = ap length none in absurd (omega arith)
all_gathered j (feed.By lists ∷ fs) (n ∷ ns) f e none = let l = ap length none in absurd (omega arith)
all_gathered j (feed.All ∷ fs) (n ∷ ns) f e none =
    map-flat (λ (c : ℕ × Option ℤ). c.1) (λ i. gathered i fs ns [] (λ q. f (i ∷ q))) (range_with_len 0 n)
    ∙ flat_same (λ i. map (λ c. c.1) (gathered i fs ns [] (λ q. f (i ∷ q)))) (λ i. tab ns (λ q. f (i ∷ q))) 0 n (λ i lo hi. all_gathered i fs ns (λ q. f (i ∷ q)) (omega arith) none)

abbrev pub summed : DType → List (Option ℤ) → Array
summed t cells = made (total_kind t) [] (λ p. Some (wrap_to (total_kind t) (sum_of (those cells))))

pub sum_is : (fs : List Feed) (a : Array) → length fs ≡ length a.shape → kept fs a.shape ≡ [] → length a.cells ≡ size a.shape → summed a.kind a.cells ≡ folded Sum fs a
sum_is fs a e none long =
    let t = total_kind a.kind in
    let all = gathered 0 fs a.shape [] (at a) in
    let cells : those (map (λ c. c.1) all) ≡ those a.cells = ap those (all_gathered 0 fs a.shape (at a) e none ∙ tab_read a.shape a.cells None long) in
    let one : Some (wrap_to t (sum_of (those a.cells))) ≡ fold_of Sum a.kind all = ap (λ xs. Some (wrap_to t (sum_of xs))) (sym cells ∙ sym (those_pairs all)) in
    ap (λ c. made t [] (λ p. c)) one ∙ ap (λ (u : List ℕ). made t u (λ p. fold_of Sum a.kind (gathered 0 fs a.shape p (at a)))) (sym none)

pub total_here : (kind t u : DType) (a : Array) (x total : ℤ) (shape : List ℕ) (cells : List (Option ℤ)) → kind ≡ total_kind t → t ≡ a.kind → x ≡ wrap_to (total_kind u) total → u ≡ a.kind → total ≡ int_wrap w64 (sum_of (those a.cells)) → shape ≡ [] → cells ≡ Some x ∷ [] → AreThose (summed a.kind a.cells) kind shape cells
total_here kind t u a x total shape cells is_kind is_t is_x is_u is_total is_shape is_cells =
    are_those (summed a.kind a.cells) kind shape cells (made_is (total_kind a.kind) [] (λ p. Some (wrap_to (total_kind a.kind) (sum_of (those a.cells)))) (λ p here. wrap_in (total_kind a.kind) (sum_of (those a.cells)))) (is_kind ∙ ap total_kind is_t) is_shape
    (is_cells ∙ ap (λ n. Some n ∷ []) (is_x ∙ (λ i. wrap_to (total_kind (is_u i)) (is_total i)) ∙ wrapped_again a.kind (sum_of (those a.cells))))

one_in : (t : DType) (n : ℤ) → IsCell t (Some n) → All (IsCell t) (Some n ∷ [])
one_in t n h zero d lt = h
one_in t n h (suc k) d lt = absurd (omega (arith, lt))

-- a sum is in the range of its kind
pub total_in : (kind t : DType) (x y total : ℤ) → kind ≡ total_kind t → x ≡ wrap_to (total_kind t) total → y ≡ x → All (IsCell kind) (Some y ∷ [])
total_in kind t x y total is_kind is_x is_y =
    subst (λ k. All (IsCell k) (Some y ∷ [])) (sym is_kind) (subst (λ n. All (IsCell (total_kind t)) (Some n ∷ [])) (sym (is_y ∙ is_x)) (one_in (total_kind t) (wrap_to (total_kind t) total) (wrap_in (total_kind t) total)))
