-- Pieces with a comma and a blank between them.
use Rattle.std.proofs.Common.{◌≡◌, List, [], ◌∷◌, ◌++◌, ℕ, true, false, refl, sym, ap, ◌∙◌}
use Rattle.std.specs.Prelude.{codes, flat_map}
use Rattle.xr_defs.specs.Text.{joined}
use Rattle.xr_print.specs.Pieces.{listed}
use Rattle.xr_print.proofs.Pushed.{joined_is}

behind_commas : (ts : List (List ℕ)) → listed false ts ≡ flat_map (λ t. codes ", " ++ t) ts
behind_commas [] = refl
behind_commas (t ∷ ts) = ap (λ rest. codes ", " ++ (t ++ rest)) (behind_commas ts)

pub listed_is : (ts : List (List ℕ)) → listed true ts ≡ joined (codes ", ") ts
listed_is [] = refl
listed_is (t ∷ ts) = ap (λ rest. t ++ rest) (behind_commas ts) ∙ sym (joined_is (codes ", ") t ts)
