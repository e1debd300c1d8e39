-- The order in which an index takes the positions of an axis, so that their labels ascend.
use Rattle.std.specs.Prelude.{◌≡◌, ◌<◌, ◌≤◌, ◌-◌, ℕ, Bool, true, List, length, slice_index, if◌then◌else◌}
use Rattle.xr_types.specs.declared.axis.Label.{Label}
use Rattle.xr_arrays.specs.Labels.{label_at, at_most, below, direction_of}
use Rattle.xr_arrays.specs.declared.search.Direction.{Direction}
use Rattle.xr_arrays.specs.declared.search.Direction.TheVariants.{Ascending, Descending, Neither}
use Rattle.label_index.specs.declared.rank.Ranks.{Ranks}
use Rattle.label_index.specs.declared.rank.Ranks.TheVariants.{Rising, Falling, Sorted}

-- the position at a rank, among so many positions
abbrev pub position : Ranks → ℕ → ℕ → ℕ
position Rising size rank = rank
position Falling size rank = size - 1 - rank
position (Sorted order) size rank = slice_index order.items rank

-- a rank that has a position
abbrev pub HasRank : Ranks → ℕ → ℕ → Type 0
HasRank Rising size rank = rank < size
HasRank Falling size rank = rank < size
HasRank (Sorted order) size rank = rank < length order.items

abbrev pub direction : Ranks → Direction
direction Rising = Ascending
direction Falling = Descending
direction (Sorted order) = Neither

-- the label at a rank
abbrev pub ranked : List Label → Ranks → ℕ → Label
ranked xs ranks k = label_at xs (position ranks (length xs) k)

-- each position has one rank, and the labels ascend with the ranks
pub record IsRanked (xs : List Label) (ranks : Ranks) : Type 0 where
  pub has : (k : ℕ) → k < length xs → HasRank ranks (length xs) k
  pub inside : (k : ℕ) → k < length xs → position ranks (length xs) k < length xs
  pub ascends : (j k : ℕ) → j ≤ k → k < length xs → at_most (ranked xs ranks j) (ranked xs ranks k) ≡ true
  pub apart : (j k : ℕ) → j < k → k < length xs → position ranks (length xs) j ≡ position ranks (length xs) k → ⊥
  pub onto : (p : ℕ) → p < length xs → (k : ℕ) × (k < length xs) × (position ranks (length xs) k ≡ p)
  pub way : direction ranks ≡ direction_of xs

-- before a label, or, with `past`, not behind it
abbrev pub stands_before : Bool → Label → Label → Bool
stands_before past x label = if past then at_most x label else below x label

-- a label and the next: at most it, or, where the labels fall, at least it
abbrev pub next_way : Bool → Label → Label → Bool
next_way falling x y = if falling then at_most y x else at_most x y
