-- Blocks of arrays in turn are the arrays one after the other.
use Rattle.std.proofs.Common.{◌≡◌, ◌<◌, ◌≤◌, ◌+◌, ◌-◌, ◌*◌, ◌/◌, ℕ, ℤ, suc, List, [], ◌∷◌, ◌++◌, length, map, take, drop, sum, get_or, Option, None, refl, sym, ap, ◌∙◌, arith, append_assoc, length-append, length-drop}
use Rattle.std.specs.List.{All, flat_map}
use Rattle.std.proofs.lemmas.Nat.{div-mul-add}
use Rattle.std.proofs.lemmas.List.Elements.{All-head, All-tail}
use Rattle.std.proofs.lemmas.List.{drop_at, drop-drop, drop-append-le, take-append-le}
use Rattle.xr_types.specs.Points.{size}
use Rattle.xr_arrays.specs.Arrays.{Array}
use Rattle.xr_arrays.specs.Nodes.{concatenated, first_array, most_node_cells}
use Rattle.plan_core.specs.Joins.{joined_row, joined_total}
use Rattle.plan_core.proofs.Tabs.{flat_same, within}
use Rattle.plan_core.proofs.Takes.{size_set}
use Rattle.plan_core.proofs.Joins.{joined_by, sum_total}
use Rattle.plan_core.proofs.Concats.{IsPart, counts_of, cells_of, concat_is}
use Rattle.row_concat.specs.Blocks.{block, rows}

-- how long a block is
pub quotient : (n outer w : ℕ) → 0 < outer → n ≡ outer * w → n / outer ≡ w
quotient n outer w some is =
    let e : n ≡ w * outer + 0 = is ∙ grind arith in
    ap (λ k. k / outer) e ∙ div-mul-add w outer 0 some

-- the cells of an array, by the blocks in front of the axis
pub part_size : (s : List ℕ) (axis : ℕ) (b : Array) → axis < length s → IsPart s axis b → length b.cells ≡ size (take axis s) * (get_or b.shape axis 0 * size (drop (suc axis) s))
part_size s axis b lt part = part.1 ∙ ap size part.0 ∙ size_set s axis (get_or b.shape axis 0) lt

abbrev pub cells_in : List Array → List (List (Option ℤ))
cells_in bs = map (λ (b : Array). b.cells) bs

-- a block in a list that stands behind another
block_behind : {X : Type 0} (prefix xs rest : List X) (start o w : ℕ) → length prefix ≡ start → o * w + w ≤ length xs → take w (drop (start + o * w) (prefix ++ (xs ++ rest))) ≡ take w (drop (o * w) xs)
block_behind prefix xs rest start o w long inside =
    let left : length (drop (o * w) xs) ≡ length xs - o * w = length-drop (o * w) xs in
    ap (take w) (sym (drop-drop (o * w) start (prefix ++ (xs ++ rest))) ∙ ap (drop (o * w)) (drop_at prefix (xs ++ rest) start long) ∙ drop-append-le (o * w) xs rest (omega (arith, inside)))
    ∙ take-append-le w (drop (o * w) xs) rest (omega (arith, inside, left))

row_joined : (s : List ℕ) (axis o start : ℕ) (prefix : List (Option ℤ)) (bs : List Array) → axis < length s → All (IsPart s axis) bs → o < size (take axis s) → length prefix ≡ start
    → flat_map (block (size (take axis s)) o) (cells_in bs) ≡ joined_row (size (drop (suc axis) s)) (size (take axis s)) o start (counts_of axis bs) (prefix ++ cells_of bs)
row_joined s axis o start prefix [] lt parts below long = refl
row_joined s axis o start prefix (b ∷ bs) lt parts below long =
    let outer = size (take axis s) in
    let row = size (drop (suc axis) s) in
    let w = get_or b.shape axis 0 * row in
    let next = start + outer * w in
    let is = part_size s axis b lt (All-head (IsPart s axis) b bs parts) in
    let inside : o * w + w ≤ length b.cells = let e = within o outer w below in omega (arith, e, is) in
    let longer : length (prefix ++ b.cells) ≡ next = length-append prefix b.cells ∙ omega (arith, is, long) in
    ap (λ k. take k (drop (o * k) b.cells) ++ flat_map (block outer o) (cells_in bs)) (quotient (length b.cells) outer w (omega (arith, below)) is)
    ∙ ap (λ t. t ++ flat_map (block outer o) (cells_in bs)) (sym (block_behind prefix b.cells (cells_of bs) start o w long inside))
    ∙ ap (λ t. take w (drop (start + o * w) (prefix ++ (b.cells ++ cells_of bs))) ++ t)
    (row_joined s axis o next (prefix ++ b.cells) bs lt (All-tail (IsPart s axis) b bs parts) below longer ∙ ap (joined_row row outer o next (counts_of axis bs)) (append_assoc prefix b.cells (cells_of bs)))

pub rows_joined : (bs : List Array) (axis : ℕ) → axis < length (first_array bs).shape → All (IsPart (first_array bs).shape axis) bs → size (concatenated bs axis).shape ≤ most_node_cells
    → rows (size (take axis (first_array bs).shape)) (cells_in bs) ≡ (concatenated bs axis).cells
rows_joined bs axis lt parts small =
    let s : List ℕ = (first_array bs).shape in
    let outer = size (take axis s) in
    let row = size (drop (suc axis) s) in
    let counts = counts_of axis bs in
    let all = cells_of bs in
    let made = concat_is bs axis lt parts small in
    let inside : outer * (joined_total counts * row) ≤ length all =
    let e = made.joining.whole ∙ size_set s axis (sum counts) lt ∙ ap (λ n. outer * (n * row)) (sum_total counts) in omega (arith, e) in
    flat_same (λ o. flat_map (block outer o) (cells_in bs)) (λ o. joined_row row outer o 0 counts all) 0 outer (λ o lo hi. row_joined s axis o 0 [] bs lt parts (omega (arith, hi)) refl)
    ∙ joined_by s axis counts outer row None all made.joining (record { outer_is = refl; row_is = refl; inside = inside })
    ∙ ap (λ (b : Array). b.cells) made.is
