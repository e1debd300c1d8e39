-- The most that arrays and datasets may have.
use Rattle.std.specs.Prelude.{◌&&◌, ◌==◌, ℕ, Bool, true, not, List, [], ◌∷◌}
use Rattle.std.specs.List.{list_any}

abbrev pub most_cells : ℕ
most_cells = 33554432

abbrev pub most_dimensions : ℕ
most_dimensions = 16

abbrev pub most_variables : ℕ
most_variables = 1024

-- no number stands twice
abbrev pub are_different : List ℕ → Bool
are_different [] = true
are_different (i ∷ is) = not (list_any (λ j. j == i) is) && are_different is
