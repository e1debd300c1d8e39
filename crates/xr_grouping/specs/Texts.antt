-- Texts before and behind a place.
use Rattle.std.specs.Prelude.{◌+◌, ℕ, List, take, drop, Option, option_map}

-- what stands before a place and behind it
abbrev pub split_at : List ℕ → Option ℕ → Option (List ℕ × List ℕ)
split_at t k = option_map (λ i. (take i t, drop (i + 1) t)) k
