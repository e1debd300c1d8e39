-- Points of a box, and lists of cells in row order: the last axis counts fastest (NumPy, "C order").
use Rattle.std.specs.Prelude.{◌<◌, ◌+◌, ◌*◌, ℕ, List, [], ◌∷◌, flat_map, ⊤}
use Rattle.std.specs.List.{range_with_len}

-- how many points a shape has
abbrev pub size : List ℕ → ℕ
size [] = 1
size (n ∷ ns) = n * size ns

-- what a function gives at the points of a shape, in row order
abbrev pub tab : {X : Type 0} → List ℕ → (List ℕ → X) → List X
tab [] f = f [] ∷ []
tab (n ∷ ns) f = flat_map (λ i. tab ns (λ p. f (i ∷ p))) (range_with_len 0 n)

-- the place of a point in row order
abbrev pub place : List ℕ → List ℕ → ℕ
place (n ∷ ns) (i ∷ p) = i * size ns + place ns p
place ns p = 0

-- a point gives each axis one position below its size
abbrev pub IsPoint : List ℕ → List ℕ → Type 0
IsPoint [] [] = ⊤
IsPoint (n ∷ ns) (i ∷ p) = (i < n) × IsPoint ns p
IsPoint ns p = ⊥
