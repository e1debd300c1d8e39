-- Truth values of hidden cells.
use Rattle.std.proofs.Common.{◌≡◌, ◌<◌, ℕ, ℤ, pos, suc, Bool, true, false, cond, List, [], ◌∷◌, length, map, zip, get_or, Option, Some, None, option_map, refl, ap, ◌∙◌, arith}
use Rattle.xr_arrays.specs.Arrays.{cell, hidden}
use Rattle.xr_defs.specs.Decoding.{truth}

-- truth values that are right at each place are right
pub truths_same : (ns : List ℤ) (ts : List ℕ) → length ts ≡ length ns → ((i : ℕ) → i < length ns → pos (get_or ts i 0) ≡ truth (get_or ns i (pos 0))) → map pos ts ≡ map truth ns
truths_same [] [] long h = refl
truths_same [] (t ∷ ts) long h = absurd (omega arith)
truths_same (n ∷ ns) [] long h = absurd (omega arith)
truths_same (n ∷ ns) (t ∷ ts) long h = ap (λ x. x ∷ map pos ts) (h 0 (omega arith)) ∙ ap (λ xs. truth n ∷ xs) (truths_same ns ts (omega arith) (λ i lt. h (suc i) (omega arith)))

map_truths : (ns : List ℤ) → map Some (map truth ns) ≡ map (λ c. option_map truth c) (map Some ns)
map_truths [] = refl
map_truths (n ∷ ns) = ap (λ cs. Some (truth n) ∷ cs) (map_truths ns)

one_truth : (n : ℤ) (m : ℕ) (b : Bool) → cond b (Some (truth n)) None ≡ option_map truth (cond b (Some n) None)
one_truth n m true = refl
one_truth n m false = refl

zip_truths : (ns : List ℤ) (ms : List ℕ) → map cell (zip (map truth ns) ms) ≡ map (λ c. option_map truth c) (map cell (zip ns ms))
zip_truths [] ms = refl
zip_truths (n ∷ ns) [] = refl
zip_truths (n ∷ ns) (m ∷ ms) = ap (λ c. c ∷ map cell (zip (map truth ns) ms)) (one_truth n m _) ∙ ap (λ cs. option_map truth (cell (n, m)) ∷ cs) (zip_truths ns ms)

pub hidden_truths : (ns : List ℤ) (m : Option (List ℕ)) → hidden (map truth ns) m ≡ map (λ c. option_map truth c) (hidden ns m)
hidden_truths ns None = map_truths ns
hidden_truths ns (Some m) = zip_truths ns m
