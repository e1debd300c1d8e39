-- The cell at a point of what is tabulated.
use Rattle.xr_formulas.proofs.Common.{DType, IsPoint, List, None, Option, [], ap, at, drop, get_or, get_or-drop, get_or-take, made, place, place_below, refl, size, sym, tab, tab_row, ℕ, ℤ, ◌*◌, ◌∙◌, ◌∷◌, ◌≡◌}

pub tab_at : {X : Type 0} (s : List ℕ) (f : List ℕ → X) (p : List ℕ) (d : X) → IsPoint s p → get_or (tab s f) (place s p) d ≡ f p
tab_at [] f [] d here = refl
tab_at [] f (i ∷ p) d here = absurd here
tab_at (n ∷ ns) f [] d here = absurd here
tab_at (n ∷ ns) f (i ∷ p) d here =
    let below = place_below ns p here.1 in
    sym (get_or-drop (i * size ns) (tab (n ∷ ns) f) (place ns p) d) ∙ sym (get_or-take (size ns) (drop (i * size ns) (tab (n ∷ ns) f)) (place ns p) d below)
    ∙ ap (λ xs. get_or xs (place ns p) d) (tab_row n ns f i here.0) ∙ tab_at ns (λ q. f (i ∷ q)) p d here.1

pub made_at : (kind : DType) (s : List ℕ) (f : List ℕ → Option ℤ) (p : List ℕ) → IsPoint s p → at (made kind s f) p ≡ f p
made_at kind s f p here = tab_at s f p None here
