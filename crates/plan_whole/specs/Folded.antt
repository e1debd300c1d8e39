-- Folds of cells in row order.
use Rattle.std.specs.Prelude.{ℕ, List, [], ◌∷◌, length}
use Rattle.xr_arrays.specs.declared.node.Feed.{Feed}
use Rattle.xr_arrays.specs.declared.node.Feed.TheVariants as feed

-- the size of an axis that stays
abbrev pub kept_one : Feed → ℕ → List ℕ
kept_one feed.Keep n = n ∷ []
kept_one feed.All n = []
kept_one (feed.By lists) n = length lists ∷ []
