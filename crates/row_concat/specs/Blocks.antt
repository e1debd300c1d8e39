-- Lists that are cut into as many blocks each, whose blocks are put in turn.
use Rattle.std.specs.Prelude.{◌*◌, ◌/◌, ℕ, List, length, take, drop, flat_map}
use Rattle.std.specs.List.{range_with_len}

-- the block with a number, of so many that a list is cut into
abbrev pub block : {X : Type 0} → ℕ → ℕ → List X → List X
block outer o xs = take (length xs / outer) (drop (o * (length xs / outer)) xs)

-- the first block of each list, the second of each, and so on
abbrev pub rows : {X : Type 0} → ℕ → List (List X) → List X
rows outer lists = flat_map (λ o. flat_map (block outer o) lists) (range_with_len 0 outer)
