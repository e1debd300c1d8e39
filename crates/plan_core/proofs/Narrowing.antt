-- Cells as numbers, and numbers as cells of a kind.
use Rattle.std.proofs.Common.{◌≡◌, ◌<◌, ℕ, ℤ, pos, Bool, true, false, cond, List, [], ◌∷◌, length, map, drop, get_or, eqb, Option, Some, None, is_none, refl, sym, ap, subst, ◌∙◌, arith}
use Rattle.std.specs.List.{All, zip, list_any}
use Rattle.std.proofs.lemmas.Int.{ints}
use Rattle.std.proofs.lemmas.List.Elements.{All-head, All-tail, All-cons}
use Rattle.xr_types.specs.declared.kind.DType.{DType}
use Rattle.xr_types.specs.declared.kind.DType.TheVariants as kinds
use Rattle.xr_arrays.specs.Arrays.{Array, cell, hidden, kind_of, IsCell, InKind}
use Rattle.xr_arrays.specs.declared.typed.Cells.{Cells}
use Rattle.xr_arrays.specs.declared.typed.Cells.TheVariants.{Bool as Truths}
use Rattle.plan_core.specs.Arrangements.{filling, gap}
use Rattle.plan_core.proofs.Arrangements.{masked_hole}

-- ---- truth values

shown_truth : (x b : ℕ) → x < 2 → IsCell kinds.Bool (cell (pos x, b))
shown_truth x b small = elim (eqb b 0) as (λ t. IsCell kinds.Bool (cond t (Some (pos x)) None)) [ true ↦ (omega (arith, ints), omega (arith, ints, small)) | false ↦ tt ]

pub hidden_truths : (v : List ℕ) (m : Option (List ℕ)) → All (λ x. x < 2) v → All (IsCell kinds.Bool) (hidden (map pos v) m)
hidden_truths [] None small = λ k d lt. absurd (omega arith)
hidden_truths (x ∷ v) None small =
    let lt = All-head (λ x. x < 2) x v small in
    All-cons (IsCell kinds.Bool) (Some (pos x)) (map Some (map pos v)) (omega (arith, ints), omega (arith, ints, lt)) (hidden_truths v None (All-tail (λ x. x < 2) x v small))
hidden_truths [] (Some m) small = λ k d lt. absurd (omega arith)
hidden_truths (x ∷ v) (Some []) small = λ k d lt. absurd (omega arith)
hidden_truths (x ∷ v) (Some (b ∷ m)) small =
    All-cons (IsCell kinds.Bool) (cell (pos x, b)) (map cell (zip (map pos v) m)) (shown_truth x b (All-head (λ x. x < 2) x v small)) (hidden_truths v (Some m) (All-tail (λ x. x < 2) x v small))

filled_truth : (x : ℕ) (c : Option ℤ) → pos x ≡ filling c → IsCell kinds.Bool c → x < 2
filled_truth x None e h = omega (arith, ints, e)
filled_truth x (Some n) e h = omega (arith, ints, e, h)

same_head : (x y : ℤ) (xs ys : List ℤ) → x ∷ xs ≡ y ∷ ys → x ≡ y
same_head x y xs ys e = ap (λ l. get_or l 0 x) e

same_tail : (x y : ℤ) (xs ys : List ℤ) → x ∷ xs ≡ y ∷ ys → xs ≡ ys
same_tail x y xs ys e = ap (drop 1) e

pub small_truths : (v : List ℕ) (cells : List (Option ℤ)) → map pos v ≡ map filling cells → All (IsCell kinds.Bool) cells → All (λ x. x < 2) v
small_truths [] cells e h = λ k d lt. absurd (omega arith)
small_truths (x ∷ v) [] e h = let l = ap length e in absurd (omega arith)
small_truths (x ∷ v) (c ∷ cells) e h =
    All-cons (λ x. x < 2) x v (filled_truth x c (same_head (pos x) (filling c) (map pos v) (map filling cells) e) (All-head (IsCell kinds.Bool) c cells h)) (small_truths v cells (same_tail (pos x) (filling c) (map pos v) (map filling cells) e) (All-tail (IsCell kinds.Bool) c cells h))

-- ---- numbers and a mask are the cells again

masked_back : (cells : List (Option ℤ)) → map cell (zip (map filling cells) (map gap cells)) ≡ cells
masked_back [] = refl
masked_back (c ∷ cells) = ap (λ x. x ∷ map cell (zip (map filling cells) (map gap cells))) (masked_hole c) ∙ ap (λ t. c ∷ t) (masked_back cells)

full_back : (cells : List (Option ℤ)) → list_any is_none cells ≡ false → map Some (map filling cells) ≡ cells
full_back [] none = refl
full_back (None ∷ cells) none = absurd cc
full_back (Some x ∷ cells) none = ap (λ t. Some x ∷ t) (full_back cells none)

by_missing : (b : Bool) (cells : List (Option ℤ)) → list_any is_none cells ≡ b → hidden (map filling cells) (cond b (Some (map gap cells)) None) ≡ cells
by_missing true cells is = masked_back cells
by_missing false cells is = full_back cells is

pub hidden_back : (cells : List (Option ℤ)) → hidden (map filling cells) (cond (list_any is_none cells) (Some (map gap cells)) None) ≡ cells
hidden_back cells = by_missing (list_any is_none cells) cells refl

abbrev pub array : DType → List ℕ → List (Option ℤ) → Array
array kind shape cells = record { kind = kind; shape = shape; cells = cells }

pub made_back : (kind k : DType) (shape : List ℕ) (numbers : List ℤ) (cells : List (Option ℤ)) (mask : Option (List ℕ)) → k ≡ kind → numbers ≡ map filling cells → mask ≡ cond (list_any is_none cells) (Some (map gap cells)) None
    → array k shape (hidden numbers mask) ≡ array kind shape cells
made_back kind k shape numbers cells mask is_kind is_numbers is_mask =
    ap (λ t. array t shape (hidden numbers mask)) is_kind ∙ ap (array kind shape) (ap (λ ns. hidden ns mask) is_numbers ∙ ap (hidden (map filling cells)) is_mask ∙ hidden_back cells)

pub truths_here : (x : Cells) (v w : List ℕ) (m : Option (List ℕ)) (kind : DType) (cells : List (Option ℤ)) → x ≡ Truths v → InKind x → w ≡ v → kind_of x ≡ kind → cells ≡ hidden (map pos w) m → All (IsCell kind) cells
truths_here x v w m kind cells is small same is_kind is_cells =
    let truths : All (λ y. y < 2) w = subst (λ u. All (λ y. y < 2) u) (sym same) (subst InKind is small) in
    subst (λ k. All (IsCell k) cells) (sym (ap kind_of is) ∙ is_kind) (subst (All (IsCell kinds.Bool)) (sym is_cells) (hidden_truths w m truths))
