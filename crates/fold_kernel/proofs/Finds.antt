-- The last present cell of a run, found from its end.
use Rattle.std.proofs.Common.{◌≡◌, ◌<◌, ◌≤◌, ◌+◌, ◌-◌, ℕ, ℤ, suc, List, [], ◌∷◌, ◌++◌, map, length, take, get_or, Option, Some, None, length-take, arith, ap, refl, ◌∙◌}
use Rattle.std.proofs.Math.Seq.{take-suc}
use Rattle.std.specs.List.{last_or}
use Rattle.xr_arrays.specs.Folds.{present}
use Rattle.fold_kernel.specs.declared.found.Found.{Found}
use Rattle.fold_kernel.specs.Partials.{found, last_found}
use Rattle.fold_kernel.specs.Rows.{placed}

last_some : {T : Type 0} (number : T → ℤ) (o : Option Found) (first : ℕ) (xs : List (Option T)) (x : T) → last_or o (map found (present (placed number first (xs ++ Some x ∷ [])))) ≡ Some (found (first + length xs, number x))
last_some number o first [] x = ap (λ p. Some (found (p, number x))) (omega arith)
last_some number o first (None ∷ xs) x = last_some number o (first + 1) xs x ∙ ap (λ p. Some (found (p, number x))) (omega arith)
last_some number o first (Some y ∷ xs) x = last_some number (Some (found (first, number y))) (first + 1) xs x ∙ ap (λ p. Some (found (p, number x))) (omega arith)

last_none : {T : Type 0} (number : T → ℤ) (o : Option Found) (first : ℕ) (xs : List (Option T)) → last_or o (map found (present (placed number first (xs ++ None ∷ [])))) ≡ last_or o (map found (present (placed number first xs)))
last_none number o first [] = refl
last_none number o first (None ∷ xs) = last_none number o (first + 1) xs
last_none number o first (Some y ∷ xs) = last_none number (Some (found (first, number y))) (first + 1) xs

-- a list up to one place more
snoc : {T : Type 0} (left : ℕ) (items : List (Option T)) (d : Option T) → 0 < left → left ≤ length items → take left items ≡ take (left - 1) items ++ get_or items (left - 1) d ∷ []
snoc left items d h k =
    let more : left ≡ suc (left - 1) = omega arith in
    ap (λ n. take n items) more ∙ take-suc items (left - 1) d (omega arith)

pub found_last : {T : Type 0} (number : T → ℤ) (first left : ℕ) (items : List (Option T)) (cell : T) (n : ℤ) → 0 < left → left ≤ length items → Some cell ≡ get_or items (left - 1) (Some cell) → n ≡ number cell → Some (found (first + (left - 1), n)) ≡ last_found (present (placed number first (take left items)))
found_last number first left items cell n h k is e =
    let long : length (take (left - 1) items) ≡ left - 1 = omega (arith, length-take (left - 1) items) in
    rw (snoc left items (Some cell) h k, ← is, last_some number None first (take (left - 1) items) cell, long, e) refl

pub none_last : {T : Type 0} (number : T → ℤ) (first left : ℕ) (items : List (Option T)) → 0 < left → left ≤ length items → None ≡ get_or items (left - 1) None → last_found (present (placed number first (take (left - 1) items))) ≡ last_found (present (placed number first (take left items)))
none_last number first left items h k is = rw (snoc left items None h k, ← is, last_none number None first (take (left - 1) items)) refl
