-- A list that is made from another, item by item.
use Rattle.std.proofs.Common.{◌≡◌, ◌<◌, ◌+◌, ◌++◌, ◌∷◌, ℕ, List, [], length, get_or, map, drop, append_assoc, sym, ap, ◌∙◌}
use Rattle.std.proofs.lemmas.List.{at_drop_more}

pub one_more : {X Y : Type 0} (f : X → Y) (xs : List X) (old : List Y) (i : ℕ) (y : Y) (x : X) → i < length xs → y ≡ f (get_or xs i x) → old ++ map f (drop i xs) ≡ map f xs → (old ++ y ∷ []) ++ map f (drop (i + 1) xs) ≡ map f xs
one_more f xs old i y x lt is whole =
    append_assoc old (y ∷ []) (map f (drop (i + 1) xs))
    ∙ ap (λ z. old ++ z ∷ map f (drop (i + 1) xs)) is
    ∙ ap (λ l. old ++ l) (sym (at_drop_more (map f) xs i x lt))
    ∙ whole
