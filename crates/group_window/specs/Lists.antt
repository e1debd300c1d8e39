-- Lists of positions, one after the other, as they are kept.
use Rattle.std.specs.Prelude.{nat_lt, ◌+◌, ℕ, List, [], ◌∷◌, ◌++◌, length, get_or, slice_set, if◌then◌else◌}

-- one more position in the list of its place, if there is one
abbrev pub of_place : List (List ℕ) → ℕ → ℕ → List (List ℕ)
of_place lists j p = if nat_lt j (length lists) then slice_set lists j (get_or lists j [] ++ p ∷ []) else lists

abbrev pub all_in : List (List ℕ) → List ℕ
all_in [] = []
all_in (l ∷ ls) = l ++ all_in ls

-- where each list ends, the first of them beginning here
abbrev pub ends_from : ℕ → List (List ℕ) → List ℕ
ends_from e [] = []
ends_from e (l ∷ ls) = (e + length l) ∷ ends_from (e + length l) ls
