-- The arguments of parameters, one after the other.
use Rattle.xr_arguments.proofs.Common.{Err, List, Ok, OnOk, Option, Result, Some, [], ap, append_assoc, arith, drop, drop-map, get_or, length, length-map, map, map-append, nat_le, sym, take, take_all, true, unless, ℕ, ◌++◌, ◌-◌, ◌∙◌, ◌∷◌, ◌≡◌, ◌≤◌}
use Rattle.std.proofs.lemmas.Bool.{le-leb}
use Rattle.std.specs.List.{list_all}
use Rattle.xr_defs.specs.Meanings.{Value}
use Rattle.xr_defs.specs.Building.{bound, keyword, is_keyword_of}

pub bound_is : {N : Type 0} (now : N → List ℕ) (names others : List N) (plain : List Value) (keyed : List (List ℕ × Value)) (values : List (Option Value)) → length plain ≤ length names → others ≡ drop (length plain) names
    → list_all (is_keyword_of (map now others)) keyed ≡ true → values ≡ map Some plain ++ map (λ n. keyword n keyed) (map now others) → bound (map now names) (record { plain = plain; keyed = keyed }) ≡ Ok values
unfolding bound unless
bound_is now names others plain keyed values few is keywords are =
    let long : length (map now names) ≡ length names = length-map names now in
    let enough : nat_le (length plain) (length (map now names)) ≡ true = le-leb (length plain) (length (map now names)) (omega arith) in
    rw (drop-map now (length plain) names, ← is, enough, keywords) (ap Ok (sym are))

-- a list by its first item and the others
pub first_and_rest : {Z W : Type 0} (now : Z → W) (zs : List Z) (d : Z) → 1 ≤ length zs → map now zs ≡ now (get_or zs 0 d) ∷ map now (take (length zs - 1) (drop 1 zs))
first_and_rest now [] d long = absurd (omega arith)
first_and_rest now (z ∷ zs) d long = ap (λ t. now z ∷ map now t) (sym (take_all (length (z ∷ zs) - 1) zs (omega arith)))

-- one at the end, and then the others
pub put_first : {X Y Z E : Type 0} (g : X → Y) (h : Z → Y) (old mid new : List X) (x : X) (zs : List Z) (z : Z) (rest : List Z) (r : Result (Unit {0}) E) → mid ≡ old ++ x ∷ [] → g x ≡ h z → OnOk r (map g new ≡ map g mid ++ map h rest) → zs ≡ z ∷ rest
    → OnOk r (map g new ≡ map g old ++ map h zs)
put_first g h old mid new x zs z rest (Ok u) pushed same so_far is =
    so_far ∙ ap (λ xs. map g xs ++ map h rest) pushed ∙ ap (λ ys. ys ++ map h rest) (map-append g old (x ∷ [])) ∙ append_assoc (map g old) (g x ∷ []) (map h rest) ∙ ap (λ y. map g old ++ (y ∷ map h rest)) same ∙ ap (λ t. map g old ++ map h t) (sym is)
put_first g h old mid new x zs z rest (Err e) pushed same so_far is = so_far
