-- Folds of rows of cells.
use Rattle.std.specs.Prelude.{ℤ, List, [], ◌∷◌, Option, Some, None}

-- the numbers of the cells that are there
abbrev pub those : List (Option ℤ) → List ℤ
those [] = []
those (None ∷ cells) = those cells
those (Some x ∷ cells) = x ∷ those cells
