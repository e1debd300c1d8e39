-- When the positions of gathered cells don't matter, and when they are counted from 0.
use Rattle.std.proofs.Common.{◌≡◌, ◌+◌, ℕ, zero, suc, ℤ, Bool, true, false, List, [], ◌∷◌, ◌++◌, length, map, flat_map, Option, Some, None, refl, sym, ap, ◌∙◌, arith}
use Rattle.std.specs.List.{range_with_len}
use Rattle.xr_types.specs.Points.{IsPoint}
use Rattle.xr_types.specs.declared.kind.DType.{DType}
use Rattle.xr_types.specs.declared.operation.FoldKind.{FoldKind}
use Rattle.xr_types.specs.declared.operation.FoldKind.TheVariants.{Sum, Prod, Min, Max, First, Last, ArgMin, ArgMax, Count, Any, All}
use Rattle.xr_arrays.specs.declared.node.Feed.{Feed}
use Rattle.xr_arrays.specs.declared.node.Feed.TheVariants as feed
use Rattle.xr_arrays.specs.Folds.{present, numbers, fold_of, numbered}
use Rattle.xr_arrays.specs.Nodes.{gathered, kept, folded_axes, is_positional}

-- the cells without their positions
abbrev pub cells_in : List (ℕ × Option ℤ) → List (Option ℤ)
cells_in cs = map (λ c. c.1) cs

-- the numbers of the cells that are present
abbrev pub numbers_in : List (Option ℤ) → List ℤ
numbers_in [] = []
numbers_in (None ∷ cs) = numbers_in cs
numbers_in (Some x ∷ cs) = x ∷ numbers_in cs

numbers_are : (cs : List (ℕ × Option ℤ)) → numbers (present cs) ≡ numbers_in (cells_in cs)
numbers_are [] = refl
numbers_are ((p, None) ∷ cs) = numbers_are cs
numbers_are ((p, Some x) ∷ cs) = ap (λ xs. x ∷ xs) (numbers_are cs)

count_is : (cs : List (ℕ × Option ℤ)) → length (present cs) ≡ length (numbers_in (cells_in cs))
count_is [] = refl
count_is ((p, None) ∷ cs) = count_is cs
count_is ((p, Some x) ∷ cs) = ap suc (count_is cs)

-- a fold that doesn't look at positions goes by the cells alone
pub fold_of_cells : (k : FoldKind) (t : DType) (cs ds : List (ℕ × Option ℤ)) → is_positional k ≡ false → cells_in cs ≡ cells_in ds → fold_of k t cs ≡ fold_of k t ds
fold_of_cells k t cs ds plain e =
    let same : numbers (present cs) ≡ numbers (present ds) = numbers_are cs ∙ ap numbers_in e ∙ sym (numbers_are ds) in
    let count : length (present cs) ≡ length (present ds) = count_is cs ∙ ap (λ xs. length (numbers_in xs)) e ∙ sym (count_is ds) in
    by_cells k plain same count
  where
    by_cells : (k : FoldKind) → is_positional k ≡ false → numbers (present cs) ≡ numbers (present ds) → length (present cs) ≡ length (present ds) → fold_of k t cs ≡ fold_of k t ds
    by_cells Sum plain same count = rw same refl
    by_cells Prod plain same count = rw same refl
    by_cells Min plain same count = rw same refl
    by_cells Max plain same count = rw same refl
    by_cells First plain same count = rw same refl
    by_cells Last plain same count = rw same refl
    by_cells ArgMin plain same count = absurd cc
    by_cells ArgMax plain same count = absurd cc
    by_cells Count plain same count = rw count refl
    by_cells Any plain same count = rw same refl
    by_cells All plain same count = rw same refl

-- ---- one axis folded whole

-- no axis is folded by lists
abbrev pub is_whole_axes : List Feed → Bool
is_whole_axes [] = true
is_whole_axes (feed.Keep ∷ fs) = is_whole_axes fs
is_whole_axes (feed.All ∷ fs) = is_whole_axes fs
is_whole_axes (feed.By lists ∷ fs) = false

-- without a folded axis one cell is gathered
one_cell : (fs : List Feed) (ns p : List ℕ) → length fs ≡ length ns → IsPoint (kept fs ns) p → folded_axes fs ≡ 0 → (q : List ℕ) × ((j : ℕ) (f : List ℕ → Option ℤ) → gathered j fs ns p f ≡ (j, f q) ∷ [])
one_cell [] [] p long here none = ([], λ j f. refl)
one_cell [] (n ∷ ns) p long here none = absurd (omega arith)
one_cell (x ∷ fs) [] p long here none = absurd (omega arith)
one_cell (feed.Keep ∷ fs) (n ∷ ns) [] long here none = absurd here
one_cell (feed.Keep ∷ fs) (n ∷ ns) (i ∷ p) long here none =
    let rest = one_cell fs ns p (omega arith) here.1 none in
    (i ∷ rest.0, λ j f. rest.1 j (λ q. f (i ∷ q)))
one_cell (feed.All ∷ fs) (n ∷ ns) p long here none = absurd (omega (arith, none))
one_cell (feed.By lists ∷ fs) (n ∷ ns) p long here none = absurd (omega (arith, none))

in_order : (g : ℕ → List (ℕ × Option ℤ)) (c : ℕ → Option ℤ) → ((i : ℕ) → g i ≡ (i, c i) ∷ []) → (a n : ℕ) → flat_map g (range_with_len a n) ≡ numbered a (cells_in (flat_map g (range_with_len a n)))
in_order g c each a zero = refl
in_order g c each a (suc n) =
    let rest = in_order g c each (a + 1) n in
    let here : flat_map g (range_with_len a (suc n)) ≡ (a, c a) ∷ flat_map g (range_with_len (a + 1) n) = ap (λ xs. xs ++ flat_map g (range_with_len (a + 1) n)) (each a) in
    here ∙ ap (λ xs. (a, c a) ∷ xs) rest ∙ sym (ap (λ xs. numbered a (cells_in xs)) here)

-- where one axis is folded, and whole, its positions count from 0
pub gathered_numbered : (fs : List Feed) (ns p : List ℕ) (j : ℕ) (f : List ℕ → Option ℤ) → length fs ≡ length ns → IsPoint (kept fs ns) p → is_whole_axes fs ≡ true → folded_axes fs ≡ 1 → gathered j fs ns p f ≡ numbered 0 (cells_in (gathered j fs ns p f))
gathered_numbered [] ns p j f long here whole one = absurd (omega (arith, one))
gathered_numbered (x ∷ fs) [] p j f long here whole one = absurd (omega arith)
gathered_numbered (feed.Keep ∷ fs) (n ∷ ns) [] j f long here whole one = absurd here
gathered_numbered (feed.Keep ∷ fs) (n ∷ ns) (i ∷ p) j f long here whole one = gathered_numbered fs ns p j (λ q. f (i ∷ q)) (omega arith) here.1 whole one
gathered_numbered (feed.All ∷ fs) (n ∷ ns) p j f long here whole one =
    let single = one_cell fs ns p (omega arith) here (omega (arith, one)) in
    in_order (λ i. gathered i fs ns p (λ q. f (i ∷ q))) (λ i. f (i ∷ single.0)) (λ i. single.1 i (λ q. f (i ∷ q))) 0 n
gathered_numbered (feed.By lists ∷ fs) (n ∷ ns) p j f long here whole one = absurd cc
