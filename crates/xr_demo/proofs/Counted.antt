-- Lists of what a function gives at 0, 1, 2 and so on.
use Rattle.std.proofs.Common.{◌≡◌, ◌+◌, ℕ, [], ◌∷◌, ◌++◌, map, ap, ◌∙◌, arith}
use Rattle.std.specs.List.{range_with_len}
use Rattle.std.proofs.lemmas.List.{map-append}
use Rattle.xr_arrays.proofs.LabelPlaces.{range_with_len-add}

pub one_more : {X : Type 0} (f : ℕ → X) (i : ℕ) → map f (range_with_len 0 (i + 1)) ≡ map f (range_with_len 0 i) ++ f i ∷ []
one_more f i =
    let z : 0 + i ≡ i = omega arith in
    ap (map f) (range_with_len-add 0 i 1) ∙ map-append f (range_with_len 0 i) (range_with_len (0 + i) 1) ∙ ap (λ j. map f (range_with_len 0 i) ++ f j ∷ []) z
