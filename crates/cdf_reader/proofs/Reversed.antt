-- A list taken from its end, and built in reverse.
use Rattle.std.proofs.Common.{◌≡◌, List, [], ◌∷◌, ◌++◌, map, reverse, ap, sym, ◌∙◌, append_assoc}
use Rattle.std.proofs.lemmas.List.{map-append, reverse-append}

pub moved : {A B : Type 0} (f : A → B) (front : List A) (x : A) (v : B) (made : List B) (all : List B) → v ≡ f x → map f (front ++ x ∷ []) ++ reverse made ≡ all → map f front ++ reverse (made ++ v ∷ []) ≡ all
moved {A} {B} f front x v made all e h =
    ap (λ (l : List B). map f front ++ l) (reverse-append made (v ∷ []))
    ∙ sym (append_assoc (map f front) (v ∷ []) (reverse made))
    ∙ ap (λ (y : B). (map f front ++ y ∷ []) ++ reverse made) e
    ∙ sym (ap (λ (l : List B). l ++ reverse made) (map-append f front (x ∷ [])))
    ∙ h
