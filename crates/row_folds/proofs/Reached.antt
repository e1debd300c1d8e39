-- Least and greatest numbers each of which is there, and lists of numbers none of which is missing.
use Rattle.std.proofs.Common.{◌≡◌, ◌<◌, ◌≤◌, ◌+◌, ◌&&◌, ℕ, ℤ, zero, suc, Bool, true, false, List, [], ◌∷◌, length, map, get_or, Option, Some, None, refl, ap, subst, ◌∙◌, ◌⊎◌, inl, inr, arith}
use Rattle.std.specs.Prelude.{is_none}
use Rattle.std.proofs.lemmas.Bool.{cases_lt}
use Rattle.std.specs.List.{list_any}
use Rattle.xr_arrays.specs.declared.node.Feed.{Feed}
use Rattle.xr_types.specs.declared.kind.DType.{DType}
use Rattle.xr_types.specs.declared.operation.FoldKind.{FoldKind}
use Rattle.xr_types.specs.Points.{size}
use Rattle.xr_arrays.specs.Folds.{fold_of}
use Rattle.xr_arrays.specs.Nodes.{folded}
use Rattle.plan_core.specs.Arrangements.{filling, gap}
use Rattle.row_folds.specs.Rows.{array_of, has_some, row_cells, shown, IsFolding, AreFolds}
use Rattle.row_folds.proofs.Results.{cells_folded, mapped_at, mapped_long}

-- one more row that differs
pub differs_more : (all one both : Bool) → both ≡ (all && one) → both ≡ true → (all ≡ true) × (one ≡ true)
differs_more true true both is e = (refl, refl)
differs_more true false both is e = absurd cc
differs_more false one both is e = absurd cc

-- the rows up to the next one differ
pub differs_next : {A : Type 0} (number : A → ℤ) (none : ℤ) (rows : List A) (i : ℕ) (all one both : Bool) → both ≡ (all && one) → both ≡ true → (all ≡ true → (r : ℕ) (a : A) → r < i → ¬ (number (get_or rows r a) ≡ none)) → (one ≡ true → (a : A) → ¬ (number (get_or rows i a) ≡ none)) → (r : ℕ) (a : A) → r < i + 1
    → ¬ (number (get_or rows r a) ≡ none)
differs_next number none rows i all one both is e before here r a lt = by (cases_lt r i)
  where
    both_true : (all ≡ true) × (one ≡ true)
    both_true = differs_more all one both is e

    by : (r < i) ⊎ (i ≤ r) → ¬ (number (get_or rows r a) ≡ none)
    by (inl below) = before both_true.0 r a below
    by (inr above) = let same : i ≡ r = omega arith in subst (λ m. ¬ (number (get_or rows m a) ≡ none)) same (here both_true.1 a)

pub gap_there : {X : Type 0} (f : X → ℤ) (xs : List X) (i : ℕ) → i < length (map (λ x. Some (f x)) xs) → 0 ≡ gap (get_or (map (λ x. Some (f x)) xs) i None)
gap_there f [] i lt = absurd (omega arith)
gap_there f (x ∷ xs) zero lt = refl
gap_there f (x ∷ xs) (suc i) lt = gap_there f xs i (omega arith)

pub no_gap : {X : Type 0} (f : X → ℤ) (xs : List X) → list_any is_none (map (λ x. Some (f x)) xs) ≡ false
no_gap f [] = refl
no_gap f (x ∷ xs) = no_gap f xs

pub numbers_back : {X : Type 0} (f : X → ℤ) (xs : List X) → map f xs ≡ map filling (map (λ x. Some (f x)) xs)
numbers_back f [] = refl
numbers_back f (x ∷ xs) = ap (λ ns. f x ∷ ns) (numbers_back f xs)

-- numbers that differ from that of no cell are the folds
pub reached_cells : {A : Type 0} (Is : A → List (ℕ × Option ℤ) → Type 0) (number : A → ℤ) (none : ℤ) (rows : List A) (k : FoldKind) (t : DType) (feeds : List Feed) (shape sizes : List ℕ) (count : ℕ) (cells : List (Option ℤ)) → IsFolding feeds shape sizes count → AreFolds Is rows feeds shape sizes cells
    → ((a : A) (b : Bool) (cs : List (ℕ × Option ℤ)) → Is a cs → has_some cs ≡ b → shown b (number a) ≡ fold_of k t cs) → ((a : A) (cs : List (ℕ × Option ℤ)) → Is a cs → has_some cs ≡ false → number a ≡ none) → ((r : ℕ) (a : A) → r < length rows → ¬ (number (get_or rows r a) ≡ none))
    → map (λ a. Some (number a)) rows ≡ (folded k feeds (array_of t shape cells)).cells
reached_cells {A = A} Is number none rows k t feeds shape sizes count cells f h meaning empty differ = cells_folded cells (map (λ a. Some (number a)) rows) k t feeds shape sizes f.sizes_are (mapped_long (λ a. Some (number a)) rows ∙ h.long) (λ r lt. each rows h differ r lt)
  where
    one : (a : A) (cs : List (ℕ × Option ℤ)) → Is a cs → ¬ (number a ≡ none) → (b : Bool) → has_some cs ≡ b → Some (number a) ≡ fold_of k t cs
    one a cs is other true e = meaning a true cs is e
    one a cs is other false e = absurd (other (empty a cs is e))

    each : (rows : List A) → AreFolds Is rows feeds shape sizes cells → ((r : ℕ) (a : A) → r < length rows → ¬ (number (get_or rows r a) ≡ none)) → (r : ℕ) → r < size sizes → get_or (map (λ a. Some (number a)) rows) r None ≡ fold_of k t (row_cells feeds shape sizes cells r)
    each [] h differ r lt = let long = h.long in absurd (omega arith)
    each (x ∷ xs) h differ r lt =
        let long = h.long in
        let n = mapped_long (λ a. Some (number a)) (x ∷ xs) in
        mapped_at (λ a. Some (number a)) (x ∷ xs) r x (omega arith) ∙ one (get_or (x ∷ xs) r x) (row_cells feeds shape sizes cells r) (h.folds r x lt) (differ r x (omega arith)) (has_some (row_cells feeds shape sizes cells r)) refl
