-- Coordinates that are put in the order of their names, one after the other.
use Rattle.std.proofs.Common.{◌≡◌, ◌+◌, ◌-◌, ◌<◌, ℕ, suc, List, ◌∷◌, length, map, take, drop, sym, ap, ◌∙◌, arith, drop-cons}
use Rattle.std.specs.List.{All, insert}
use Rattle.std.proofs.lemmas.List.Elements.{All-append, All-take, All-drop, All-cons, All-same}
use Rattle.xr_defs.specs.declared.value.Coord.{Coord}
use Rattle.xr_defs.specs.Printing.{put_coord, by_name}
use Rattle.xr_print.specs.ByName.{no_coord, coord_at}

All-insert : {X : Type 0} (P : X → Type 0) (xs : List X) (i : ℕ) (x : X) → All P xs → P x → All P (insert xs i x)
All-insert P xs i x all here = All-append P (take i xs) (x ∷ drop i xs) (All-take P i xs all) (All-cons P x (drop i xs) here (All-drop P i xs all))

pub all_inside : (n i k : ℕ) (order more : List ℕ) → i < n → more ≡ insert order k i → All (λ p. p < n) order → All (λ p. p < n) more
all_inside n i k order more lt is_more all = All-same (λ p. p < n) more (insert order k i) is_more (All-insert (λ p. p < n) order k i all lt)

pub one_more_placed : (cs : List Coord) (order more : List ℕ) (done i : ℕ) → done < length cs → i ≡ length cs - 1 - done → map (coord_at cs) more ≡ put_coord (coord_at cs i) (map (coord_at cs) order)
    → map (coord_at cs) order ≡ by_name (drop (length cs - done) cs) → map (coord_at cs) more ≡ by_name (drop (length cs - (done + 1)) cs)
one_more_placed cs order more done i lt is_i is_more so_far =
    let next : suc i ≡ length cs - done = omega (arith, is_i) in
    let here : length cs - (done + 1) ≡ i = omega (arith, is_i) in
    let inside : i < length cs = omega (arith, is_i) in
    is_more ∙ ap (put_coord (coord_at cs i)) (so_far ∙ ap (λ n. by_name (drop n cs)) (sym next)) ∙ sym (ap (λ n. by_name (drop n cs)) here ∙ ap by_name (drop-cons cs i no_coord inside))
