-- The positions of an axis that each position of a result uses, in ascending order.
use Rattle.std.specs.Prelude.{◌≤◌, ◌<◌, ◌+◌, ◌-◌, ◌*◌, ◌^◌, ℕ, List, [], ◌∷◌, length, map, take, drop, min, ⊤}
use Rattle.std.specs.List.{range_with_len}
use Rattle.xr_arrays.specs.declared.feeds.FeedForm.{FeedForm}
use Rattle.xr_arrays.specs.declared.feeds.FeedForm.TheVariants.{Windows, Blocks, Runs, Lists}
use Rattle.xr_arrays.specs.declared.feeds.Positions.{Positions}
use Rattle.xr_arrays.specs.declared.feeds.Positions.TheVariants as positions

-- the positions j below a size with i ≤ j + before and j ≤ i + after
abbrev pub window : ℕ → ℕ → ℕ → ℕ → List ℕ
window size before after i = range_with_len (i - before) (min (i + after + 1) size - (i - before))

-- the positions from i * width up to (i + 1) * width
abbrev pub block : ℕ → ℕ → List ℕ
block width i = range_with_len (i * width) width

-- from a position on, runs of positions, each up to its end
abbrev pub runs : ℕ → List ℕ → List (List ℕ)
runs from [] = []
runs from (to ∷ ends) = range_with_len from (to - from) ∷ runs to ends

-- a list cut at its ends, from a place on
abbrev pub cut : List ℕ → ℕ → List ℕ → List (List ℕ)
cut ps from [] = []
cut ps from (to ∷ ends) = take (to - from) (drop from ps) ∷ cut ps to ends

abbrev pub fed : FeedForm → List (List ℕ)
fed (Windows size before after) = map (window size before after) (range_with_len 0 size)
fed (Blocks count width) = map (block width) (range_with_len 0 count)
fed (Runs ends) = runs 0 ends
fed (Lists ps ends) = cut ps 0 ends

-- ends from a place on, in their order, in a list of this length
abbrev pub AreEnds : ℕ → ℕ → List ℕ → Type 0
AreEnds long from [] = ⊤
AreEnds long from (to ∷ ends) = (from ≤ to) × (to ≤ long) × AreEnds long to ends

abbrev pub IsKept : FeedForm → Type 0
IsKept (Windows size before after) = ⊤
IsKept (Blocks count width) = count * width < 2 ^ 64
IsKept (Runs ends) = ⊤
IsKept (Lists ps ends) = AreEnds (length ps) 0 ends

abbrev pub listed : Positions → List ℕ
listed (positions.Range from to) = range_with_len from (to - from)
listed (positions.List ps) = ps.now
