-- Boxes of points in a block, and points that are moved.
use Rattle.std.specs.Prelude.{◌+◌, ◌<◌, ◌≤◌, ◌&&◌, ℕ, zero, suc, Bool, true, ltb, leb, List, [], ◌∷◌, get_or, slice_set, ⊤}
use Rattle.xr_types.specs.Points.{IsPoint}

-- a box of the sizes ss that begins at ls lies in a block of the sizes ns
abbrev pub Fits : List ℕ → List ℕ → List ℕ → Type 0
Fits [] [] [] = ⊤
Fits [] [] (s ∷ ss) = ⊥
Fits [] (l ∷ ls) ss = ⊥
Fits (n ∷ ns) [] ss = ⊥
Fits (n ∷ ns) (l ∷ ls) [] = ⊥
Fits (n ∷ ns) (l ∷ ls) (s ∷ ss) = (l + s ≤ n) × Fits ns ls ss

-- the point of the block at a point of a box that begins at ls; where the point has too few positions, the box's beginning
abbrev pub plus : List ℕ → List ℕ → List ℕ
plus [] ps = []
plus (l ∷ ls) [] = l ∷ ls
plus (l ∷ ls) (p ∷ ps) = (l + p) ∷ plus ls ps

-- the point of the block lies in the box
abbrev pub in_box : List ℕ → List ℕ → List ℕ → Bool
in_box [] ss cs = true
in_box (l ∷ ls) [] cs = true
in_box (l ∷ ls) (s ∷ ss) [] = true
in_box (l ∷ ls) (s ∷ ss) (c ∷ cs) = (leb l c && ltb c (l + s)) && in_box ls ss cs

-- the first point of a block
abbrev pub zeros : List ℕ → List ℕ
zeros [] = []
zeros (n ∷ ns) = 0 ∷ zeros ns

-- the point j on along the last axis; without an axis there is no other point
abbrev pub along : List ℕ → ℕ → List ℕ
along [] zero = []
along [] (suc j) = j ∷ []
along (c ∷ []) j = (c + j) ∷ []
along (c ∷ d ∷ cs) j = c ∷ along (d ∷ cs) j

-- the point, so far on along an axis
abbrev pub moved : List ℕ → ℕ → ℕ → List ℕ
moved ps axis by = slice_set ps axis (get_or ps axis 0 + by)

-- the point lies in a box of these sizes, and so do the n from it on along the last axis
pub record IsRow (shape ps : List ℕ) (n : ℕ) : Type 0 where
  pub starts : IsPoint shape ps
  pub ends : (j : ℕ) → j < n → IsPoint shape (along ps j)
