-- Coordinates put one by one into their order.
use Rattle.std.proofs.Common.{◌≡◌, ◌<◌, ◌-◌, ◌+◌, ℕ, suc, Bool, true, false, cond, List, [], ◌∷◌, length, map, drop, get_or, refl, sym, ap, ◌∙◌, arith}
use Rattle.std.specs.List.{prefix_len, insert}
use Rattle.std.proofs.lemmas.List.{drop_more, drop_all}
use Rattle.xr_defs.specs.declared.value.Coord.{Coord}
use Rattle.xr_defs.specs.Printing.{is_below, by_name, put_coord}
use Rattle.xr_defs.specs.Encoding.{all_among, coords_over}
use Rattle.xr_types.specs.Names.{axis_names}

put_here : {R : Type 0} (see : R → Coord) (r d : R) (ds : List R) (b : Bool) → map see (insert ds (prefix_len (λ e. is_below (see e).name (see r).name) ds) r) ≡ put_coord (see r) (map see ds)
    → map see (insert (d ∷ ds) (cond b (1 + prefix_len (λ e. is_below (see e).name (see r).name) ds) 0) r) ≡ cond b (see d ∷ put_coord (see r) (map see ds)) (see r ∷ see d ∷ map see ds)
put_here see r d ds true e =
    let n : ℕ = prefix_len (λ e. is_below (see e).name (see r).name) ds in
    let z : 1 + n ≡ suc n = omega arith in
    ap (λ k. map see (insert (d ∷ ds) k r)) z ∙ ap (λ t. see d ∷ t) e
put_here see r d ds false e = refl

-- one that is put behind those that are below it
pub put_is : {R : Type 0} (see : R → Coord) (r : R) (ds : List R) → map see (insert ds (prefix_len (λ e. is_below (see e).name (see r).name) ds) r) ≡ put_coord (see r) (map see ds)
put_is see r [] = refl
put_is see r (d ∷ ds) = put_here see r d ds (is_below (see d).name (see r).name) (put_is see r ds)

-- the last but i of a list
pub last_but : {X : Type 0} (xs : List X) (i : ℕ) (d : X) → i < length xs → drop (length xs - (i + 1)) xs ≡ get_or xs (length xs - 1 - i) d ∷ drop (length xs - i) xs
last_but xs i d lt =
    let a : length xs - (i + 1) ≡ length xs - 1 - i = omega arith in
    let b : length xs - 1 - i + 1 ≡ length xs - i = omega arith in
    ap (λ n. drop n xs) a ∙ drop_more xs (length xs - 1 - i) d (omega arith) ∙ ap (λ n. get_or xs (length xs - 1 - i) d ∷ drop n xs) b

pub names_more : (coords sorted more : List Coord) (i : ℕ) (c : Coord) → i < length coords → c ≡ get_or coords (length coords - 1 - i) c → more ≡ put_coord c sorted → sorted ≡ by_name (drop (length coords - i) coords) → more ≡ by_name (drop (length coords - (i + 1)) coords)
names_more coords sorted more i c lt is put so_far = put ∙ ap (put_coord c) so_far ∙ ap (λ d. put_coord d (by_name (drop (length coords - i) coords))) is ∙ sym (ap by_name (last_but coords i c lt))

kept_or_not : (dims : List (List ℕ)) (c : Coord) (rest : List Coord) (b : Bool) → all_among dims (axis_names c.axes) ≡ b → by_name (coords_over dims (c ∷ rest)) ≡ cond b (put_coord c (by_name (coords_over dims rest))) (by_name (coords_over dims rest))
kept_or_not dims c rest true e = ap (λ b. by_name (cond b (c ∷ coords_over dims rest) (coords_over dims rest))) e
kept_or_not dims c rest false e = ap (λ b. by_name (cond b (c ∷ coords_over dims rest) (coords_over dims rest))) e

pub over_more : (dims : List (List ℕ)) (coords sorted : List Coord) (i : ℕ) (c : Coord) (b : Bool) → i < length coords → c ≡ get_or coords (length coords - 1 - i) c → all_among dims (axis_names c.axes) ≡ b → sorted ≡ by_name (coords_over dims (drop (length coords - i) coords))
    → cond b (put_coord c sorted) sorted ≡ by_name (coords_over dims (drop (length coords - (i + 1)) coords))
over_more dims coords sorted i c b lt is e so_far =
    let rest : List Coord = drop (length coords - i) coords in
    ap (λ s. cond b (put_coord c s) s) so_far ∙ sym (kept_or_not dims c rest b e) ∙ ap (λ d. by_name (coords_over dims (d ∷ rest))) is ∙ sym (ap (λ cs. by_name (coords_over dims cs)) (last_but coords i c lt))

-- nothing is left behind the last
pub none_behind : {X : Type 0} (xs : List X) → drop (length xs - 0) xs ≡ []
none_behind xs = let z : length xs - 0 ≡ length xs = omega arith in ap (λ n. drop n xs) z ∙ drop_all (length xs) xs (omega arith)
