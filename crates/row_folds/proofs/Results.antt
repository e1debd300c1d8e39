-- The cells of results, and the arrays of them.
use Rattle.std.proofs.Common.{◌≡◌, ◌<◌, ◌≤◌, ◌+◌, ◌*◌, ◌%◌, ◌++◌, ℕ, ℤ, pos, suc, zero, Bool, true, false, List, [], ◌∷◌, length, map, min, take, drop, get_or, replicate, Option, Some, None, refl, sym, ap, subst, ◌∙◌, arith}
use Rattle.std.specs.List.{All, zip}
use Rattle.std.proofs.lemmas.Int.{ints}
use Rattle.std.proofs.lemmas.List.{get_or-replicate, take_at}
use Rattle.std.proofs.lemmas.Nat.{div-mul-add, mod-mul-add}
use Rattle.std.proofs.lemmas.List.Elements.{All-head, All-tail, All-cons}
use Rattle.xr_types.specs.Kinds.{InRange}
use Rattle.xr_types.specs.declared.kind.DType.{DType}
use Rattle.xr_types.specs.declared.kind.DType.TheVariants as kinds
use Rattle.xr_types.specs.declared.operation.FoldKind.{FoldKind}
use Rattle.xr_types.specs.Points.{size, tab, place, IsPoint}
use Rattle.xr_arrays.specs.declared.node.Feed.{Feed}
use Rattle.xr_arrays.specs.Arrays.{IsCell}
use Rattle.xr_arrays.specs.Folds.{fold_of, folded_kind}
use Rattle.xr_arrays.specs.Nodes.{folded, gathered, kept, most_node_cells}
use Rattle.plan_core.specs.Arrangements.{filling, gap}
use Rattle.plan_core.proofs.Arrangements.{zero_in}
use Rattle.plan_core.proofs.Tabs.{tab_same, tab_read, place_below}
use Rattle.plan_core.proofs.Valued.{fed_most, folded_is}
use Rattle.row_folds.specs.declared.accumulator.Present.{Present}
use Rattle.row_folds.specs.Rows.{has_some, point_at, read_from, row_cells, array_of, shown, Absorbs, IsFolding, AreFolds}
use Rattle.row_folds.proofs.Absorbed.{absorbs_none, absorbs_that, point_inside}

-- ---- rows

none_of : (cs : List (ℕ × Option ℤ)) → length cs ≤ 0 → [] ≡ cs
none_of [] le = refl
none_of (c ∷ cs) le = absurd (omega arith)

-- an array of no cells gives none to absorb
pub nothing_absorbed : {A : Type 0} (Is : A → List (ℕ × Option ℤ) → Type 0) (rows : List A) (feeds : List Feed) (shape sizes : List ℕ) (count : ℕ) (cells : List (Option ℤ)) → IsFolding feeds shape sizes count → size shape ≡ 0
    → Absorbs Is rows rows 0 sizes (λ p. gathered 0 feeds shape p (read_from cells 0 shape))
nothing_absorbed Is rows feeds shape sizes count cells r none =
    absorbs_that Is rows rows 0 sizes (λ p. []) (λ p. gathered 0 feeds shape p (read_from cells 0 shape))
    (λ p here. none_of (gathered 0 feeds shape p (read_from cells 0 shape)) (let most = fed_most 0 feeds shape p (read_from cells 0 shape) r.long r.fed (subst (λ s. IsPoint s p) r.sizes_are here) in omega arith)) (absorbs_none Is rows 0 sizes)

pub all_absorbed : {A : Type 0} (Is : A → List (ℕ × Option ℤ) → Type 0) (start : A) (old new : List A) (feeds : List Feed) (shape sizes : List ℕ) (n : ℕ) (cells : List (Option ℤ)) → Is start [] → old ≡ replicate n start → n ≡ size sizes
    → Absorbs Is old new 0 sizes (λ p. gathered 0 feeds shape p (read_from cells 0 shape)) → AreFolds Is new feeds shape sizes cells
all_absorbed Is start old new feeds shape sizes n cells is is_old is_n h = record {
  long = h.long ∙ ap length is_old ∙ length-replicated n start ∙ is_n;
  folds = λ r z lt.
      let front : 0 + r ≡ r = omega arith in
      let first : get_or old (0 + r) z ≡ start = ap (λ m. get_or old m z) front ∙ ap (λ xs. get_or xs r z) is_old ∙ get_or-replicate n r start z (omega arith) in
      subst (λ m. Is (get_or new m z) (row_cells feeds shape sizes cells r)) front (h.inside r z [] lt (subst (λ x. Is x []) (sym first) is));
}
  where
    length-replicated : {A : Type 0} (n : ℕ) (x : A) → length (replicate n x) ≡ n
    length-replicated zero x = refl
    length-replicated (suc n) x = ap suc (length-replicated n x)

pub all_written : {X : Type 0} (new old : List X) (n : ℕ) → length new ≡ n → length old ≡ n → take n (new ++ drop (length new) old) ≡ new
all_written new old n e f = take_at new (drop (length new) old) n e

-- the folds of all rows, one after the other, are the cells of a folded array
pub cells_folded : (cells results : List (Option ℤ)) (k : FoldKind) (t : DType) (feeds : List Feed) (shape sizes : List ℕ) → sizes ≡ kept feeds shape → length results ≡ size sizes → ((r : ℕ) → r < size sizes → get_or results r None ≡ fold_of k t (row_cells feeds shape sizes cells r))
    → results ≡ (folded k feeds (array_of t shape cells)).cells
cells_folded cells results k t feeds shape sizes is long each =
    let f = λ (p : List ℕ). fold_of k t (gathered 0 feeds shape p (read_from cells 0 shape)) in
    sym (tab_read sizes results None long)
    ∙ tab_same sizes (λ p. get_or results (place sizes p) None) f (λ p here. each (place sizes p) (place_below sizes p here) ∙ ap f (point_of_place sizes p here))
    ∙ ap (λ s. tab s f) is ∙ ap (λ (g : List ℕ → Option ℤ). tab (kept feeds shape) (λ p. fold_of k t (gathered 0 feeds shape p g))) (from_start cells shape)
  where
    point_of_place : (s p : List ℕ) → IsPoint s p → point_at s (place s p) ≡ p
    point_of_place [] [] h = refl
    point_of_place [] (i ∷ p) h = absurd h
    point_of_place (n ∷ ns) [] h = absurd h
    point_of_place (n ∷ ns) (i ∷ p) h =
        let below = place_below ns p h.1 in
        let first = div-mul-add i (size ns) (place ns p) below in
        let rest = mod-mul-add i (size ns) (place ns p) below in
        ap (λ k. k ∷ point_at ns ((i * size ns + place ns p) % size ns)) first ∙ ap (λ k. i ∷ point_at ns k) rest ∙ ap (λ q. i ∷ q) (point_of_place ns p h.1)

    from_start : (cells : List (Option ℤ)) (shape : List ℕ) → read_from cells 0 shape ≡ (λ q. get_or cells (place shape q) None)
    from_start cells shape = λ k q. ap (λ m. get_or cells m None) (front (place shape q)) k
      where
        front : (n : ℕ) → 0 + n ≡ n
        front n = omega arith

-- ---- cells

pub filling_in : (t : DType) (cells : List (Option ℤ)) → All (IsCell t) cells → All (InRange t) (map filling cells)
filling_in t [] all = λ k d lt. absurd (omega arith)
filling_in t (c ∷ cells) all = All-cons (InRange t) (filling c) (map filling cells) (one c (All-head (IsCell t) c cells all)) (filling_in t cells (All-tail (IsCell t) c cells all))
  where
    one : (c : Option ℤ) → IsCell t c → InRange t (filling c)
    one None h = zero_in t
    one (Some n) h = h

pub truths_small : (v : List ℕ) → All (InRange kinds.Bool) (map pos v) → All (λ x. x < 2) v
truths_small [] all = λ k d lt. absurd (omega arith)
truths_small (x ∷ v) all = All-cons (λ x. x < 2) x v (let h = (All-head (InRange kinds.Bool) (pos x) (map pos v) all).1 in omega (arith, ints)) (truths_small v (All-tail (InRange kinds.Bool) (pos x) (map pos v) all))

pub mapped_at : {X : Type 0} (f : X → Option ℤ) (xs : List X) (i : ℕ) (d : X) → i < length (map f xs) → get_or (map f xs) i None ≡ f (get_or xs i d)
mapped_at f [] i d lt = absurd (omega arith)
mapped_at f (x ∷ xs) zero d lt = refl
mapped_at f (x ∷ xs) (suc i) d lt = mapped_at f xs i d (omega arith)

pub mapped_long : {X : Type 0} (f : X → Option ℤ) (xs : List X) → length (map f xs) ≡ length xs
mapped_long f [] = refl
mapped_long f (x ∷ xs) = ap suc (mapped_long f xs)

pub zipped_long : {X Y : Type 0} (f : X × Y → Option ℤ) (xs : List X) (ys : List Y) → length (map f (zip xs ys)) ≡ min (length xs) (length ys)
zipped_long f [] ys = omega arith
zipped_long f (x ∷ xs) [] = omega arith
zipped_long f (x ∷ xs) (y ∷ ys) = omega (arith, zipped_long f xs ys)

pub zipped_at : {X Y : Type 0} (f : X × Y → Option ℤ) (xs : List X) (ys : List Y) (i : ℕ) (d : X) (e : Y) → i < length (map f (zip xs ys)) → get_or (map f (zip xs ys)) i None ≡ f (get_or xs i d, get_or ys i e)
zipped_at f [] ys i d e lt = absurd (omega arith)
zipped_at f (x ∷ xs) [] i d e lt = absurd (omega arith)
zipped_at f (x ∷ xs) (y ∷ ys) zero d e lt = refl
zipped_at f (x ∷ xs) (y ∷ ys) (suc i) d e lt = zipped_at f xs ys i d e (omega arith)

gap_shown : (b : Bool) (m n : ℤ) → gap (shown b m) ≡ gap (shown b n)
gap_shown true m n = refl
gap_shown false m n = refl

pub zipped_gap : {X : Type 0} (number : X → ℤ) (xs : List X) (ys : List Present) (i : ℕ) (e : Present) → i < length (map (λ (c : X × Present). shown c.1.some (number c.0)) (zip xs ys)) → gap (shown (get_or ys i e).some (pos 0)) ≡ gap (get_or (map (λ (c : X × Present). shown c.1.some (number c.0)) (zip xs ys)) i None)
zipped_gap number [] ys i e lt = absurd (omega arith)
zipped_gap number (x ∷ xs) [] i e lt = absurd (omega arith)
zipped_gap number (x ∷ xs) (y ∷ ys) zero e lt = gap_shown y.some (pos 0) (number x)
zipped_gap number (x ∷ xs) (y ∷ ys) (suc i) e lt = zipped_gap number xs ys i e (omega arith)

-- ---- folded arrays

row_short : (feeds : List Feed) (shape sizes : List ℕ) (count r : ℕ) (cells : List (Option ℤ)) → IsFolding feeds shape sizes count → r < size sizes → length (row_cells feeds shape sizes cells r) ≤ most_node_cells
row_short feeds shape sizes count r cells f lt =
    let most = fed_most 0 feeds shape (point_at sizes r) (read_from cells 0 shape) f.long f.fed (subst (λ s. IsPoint s (point_at sizes r)) f.sizes_are (point_inside sizes r lt)) in
    let few = f.few in
    omega arith

pub finished_cells : {A : Type 0} (Is : A → List (ℕ × Option ℤ) → Type 0) (cell : A → Option ℤ) (rows : List A) (k : FoldKind) (t : DType) (feeds : List Feed) (shape sizes : List ℕ) (count : ℕ) (cells : List (Option ℤ)) → IsFolding feeds shape sizes count → AreFolds Is rows feeds shape sizes cells
    → ((a : A) (cs : List (ℕ × Option ℤ)) → length cs ≤ most_node_cells → Is a cs → cell a ≡ fold_of k t cs) → map cell rows ≡ (folded k feeds (array_of t shape cells)).cells
finished_cells {A = A} Is cell rows k t feeds shape sizes count cells f h meaning = cells_folded cells (map cell rows) k t feeds shape sizes f.sizes_are (mapped_long cell rows ∙ h.long) (λ r lt. each rows h r lt)
  where
    each : (rows : List A) → AreFolds Is rows feeds shape sizes cells → (r : ℕ) → r < size sizes → get_or (map cell rows) r None ≡ fold_of k t (row_cells feeds shape sizes cells r)
    each [] h r lt = let long = h.long in absurd (omega arith)
    each (x ∷ xs) h r lt =
        let long = h.long in
        let n = mapped_long cell (x ∷ xs) in
        mapped_at cell (x ∷ xs) r x (omega arith) ∙ meaning (get_or (x ∷ xs) r x) (row_cells feeds shape sizes cells r) (row_short feeds shape sizes count r cells f lt) (h.folds r x lt)

pub chosen_cells : {A : Type 0} (Is : A → List (ℕ × Option ℤ) → Type 0) (number : A → ℤ) (rows : List A) (some : List Present) (k : FoldKind) (t : DType) (feeds : List Feed) (shape sizes : List ℕ) (count : ℕ) (cells : List (Option ℤ)) → IsFolding feeds shape sizes count → AreFolds Is rows feeds shape sizes cells
    → AreFolds (λ (a : Present) cs. has_some cs ≡ a.some) some feeds shape sizes cells → ((a : A) (b : Bool) (cs : List (ℕ × Option ℤ)) → Is a cs → has_some cs ≡ b → shown b (number a) ≡ fold_of k t cs) → map (λ c. shown c.1.some (number c.0)) (zip rows some) ≡ (folded k feeds (array_of t shape cells)).cells
chosen_cells {A = A} Is number rows some k t feeds shape sizes count cells f h i meaning =
    cells_folded cells (map (λ c. shown c.1.some (number c.0)) (zip rows some)) k t feeds shape sizes f.sizes_are (let n = zipped_long (λ (c : A × Present). shown c.1.some (number c.0)) rows some in let l = h.long in let m = i.long in omega arith) (λ r lt. each rows some h i r lt)
  where
    each : (rows : List A) (some : List Present) → AreFolds Is rows feeds shape sizes cells → AreFolds (λ (a : Present) cs. has_some cs ≡ a.some) some feeds shape sizes cells → (r : ℕ) → r < size sizes → get_or (map (λ c. shown c.1.some (number c.0)) (zip rows some)) r None ≡ fold_of k t (row_cells feeds shape sizes cells r)
    each [] some h i r lt = let long = h.long in absurd (omega arith)
    each (x ∷ xs) [] h i r lt = let long = i.long in absurd (omega arith)
    each (x ∷ xs) (y ∷ ys) h i r lt =
        let long = h.long in
        let many = i.long in
        let n = zipped_long (λ (c : A × Present). shown c.1.some (number c.0)) (x ∷ xs) (y ∷ ys) in
        zipped_at (λ c. shown c.1.some (number c.0)) (x ∷ xs) (y ∷ ys) r x y (omega arith) ∙ meaning (get_or (x ∷ xs) r x) (get_or (y ∷ ys) r y).some (row_cells feeds shape sizes cells r) (h.folds r x lt) (i.folds r y lt)

-- what the code has made is the folded array
pub record IsFolded (k : FoldKind) (t out : DType) (feeds : List Feed) (shape sizes : List ℕ) (cells results : List (Option ℤ)) : Type 0 where
  pub whole : length results ≡ size sizes
  pub range : All (IsCell out) results
  pub is : array_of out sizes results ≡ folded k feeds (array_of t shape cells)

pub is_folded : (k : FoldKind) (t out : DType) (feeds : List Feed) (shape sizes : List ℕ) (cells results : List (Option ℤ)) → IsFolding feeds shape sizes (length cells) → All (IsCell t) cells → out ≡ folded_kind k t → results ≡ (folded k feeds (array_of t shape cells)).cells → IsFolded k t out feeds shape sizes cells results
is_folded k t out feeds shape sizes cells results f range is_out is =
    let array = folded_is k feeds (array_of t shape cells) f.long f.fed f.few (record { whole = f.whole; range = range }) in
    record {
      whole = ap length is ∙ array.whole ∙ ap size (sym f.sizes_are);
      range = subst (λ xs. All (IsCell out) xs) (sym is) (subst (λ u. All (IsCell u) (folded k feeds (array_of t shape cells)).cells) (sym is_out) array.range);
      is = (λ i. array_of (is_out i) (f.sizes_are i) (is i));
    }
