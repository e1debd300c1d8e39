-- Lists of positions absorbed along columns of a table, and the folds at hand from which windows are put together.
use Rattle.std.specs.Prelude.{◌≡◌, ◌≢◌, ◌<◌, ◌≤◌, ◌+◌, ◌-◌, ◌*◌, ℕ, ℤ, List, [], ◌∷◌, ◌++◌, length, flat_map, get_or, Option, None}
use Rattle.std.specs.List.{range_with_len}
use Rattle.xr_arrays.specs.Nodes.{most_node_cells}
use Rattle.row_folds.specs.declared.strip.Strip.{Strip}
use Rattle.row_folds.specs.declared.windows.Reach.{Reach}

-- the cells of a column at these positions, where rows of a width begin at a place
abbrev pub column : List (Option ℤ) → ℕ → ℕ → ℕ → List ℕ → List (ℕ × Option ℤ)
column cells start stride r ks = flat_map (λ k. (k, get_or cells (start + k * stride + r) None) ∷ []) ks

-- a strip of a table of so many cells
pub record IsStrip (s : Strip) (total : ℕ) : Type 0 where
  pub inside : (k : ℕ) → k < s.size → s.start + k * s.stride + s.count ≤ total
  pub few : total ≤ most_node_cells
  pub near : s.size ≤ most_node_cells
  pub count_near : s.count ≤ most_node_cells

-- a run of accumulators has absorbed cells behind those that it had
pub record RowAbsorbs {A : Type 0} (Is : A → List (ℕ × Option ℤ) → Type 0) (old new : List A) (at count : ℕ) (fed : ℕ → List (ℕ × Option ℤ)) : Type 0 where
  pub long : length new ≡ length old
  pub inside : (r : ℕ) (z : A) (before : List (ℕ × Option ℤ)) → r < count → Is (get_or old (at + r) z) before → Is (get_or new (at + r) z) (before ++ fed r)
  pub below : (k : ℕ) (z : A) → k < at → get_or new k z ≡ get_or old k z
  pub above : (k : ℕ) (z : A) → at + count ≤ k → get_or new k z ≡ get_or old k z

-- so have so many runs of accumulators, one in each row of a table
pub record RowsAbsorb {A : Type 0} (Is : A → List (ℕ × Option ℤ) → Type 0) (old new : List A) (at stride count many : ℕ) (fed : ℕ → ℕ → List (ℕ × Option ℤ)) : Type 0 where
  pub long : length new ≡ length old
  pub inside : (i r : ℕ) (z : A) (before : List (ℕ × Option ℤ)) → i < many → r < count → Is (get_or old (at + i * stride + r) z) before → Is (get_or new (at + i * stride + r) z) (before ++ fed i r)
  pub others : (k : ℕ) (z : A) → ((i r : ℕ) → i < many → r < count → k ≢ at + i * stride + r) → get_or new k z ≡ get_or old k z

-- a row of folds holds those of another row, with a cell before the others
pub record FoldsBefore {A : Type 0} (Is : A → List (ℕ × Option ℤ) → Type 0) (old new : List A) (behind into count position : ℕ) (cells : List (Option ℤ)) (start : ℕ) : Type 0 where
  pub long : length new ≡ length old
  pub inside : (r : ℕ) (z : A) (after : List (ℕ × Option ℤ)) → r < count → Is (get_or old (behind + r) z) after → Is (get_or new (into + r) z) ((position, get_or cells (start + r) None) ∷ after)
  pub below : (k : ℕ) (z : A) → k < into → get_or new k z ≡ get_or old k z

-- a run of accumulators has absorbed what two runs of folds hold, one behind the other
pub record Gives {A : Type 0} (Is : A → List (ℕ × Option ℤ) → Type 0) (old new : List A) (row count : ℕ) (folds : List A) (first : ℕ) : Type 0 where
  pub long : length new ≡ length old
  pub inside : (r : ℕ) (z : A) (before a b : List (ℕ × Option ℤ)) → r < count → Is (get_or old (row + r) z) before → Is (get_or folds (first + r) z) a → Is (get_or folds r z) b → Is (get_or new (row + r) z) ((before ++ a) ++ b)
  pub below : (k : ℕ) (z : A) → k < row → get_or new k z ≡ get_or old k z
  pub above : (k : ℕ) (z : A) → row + count ≤ k → get_or new k z ≡ get_or old k z

-- rows of folds: the first of the cells from the middle up to the end, those behind it of the last so many cells before the middle
pub record AtHand {A : Type 0} (Is : A → List (ℕ × Option ℤ) → Type 0) (folds : List A) (s : Strip) (reach : Reach) (cells : List (Option ℤ)) : Type 0 where
  pub first : reach.first ≤ reach.middle
  pub middle : reach.middle ≤ reach.end
  pub end : reach.end ≤ s.size
  pub room : (reach.middle - reach.first + 2) * s.count ≤ length folds
  pub behind : (r : ℕ) (z : A) → r < s.count → Is (get_or folds r z) (column cells s.start s.stride r (range_with_len reach.middle (reach.end - reach.middle)))
  pub before : (d r : ℕ) (z : A) → d ≤ reach.middle - reach.first → r < s.count → Is (get_or folds ((d + 1) * s.count + r) z) (column cells s.start s.stride r (range_with_len (reach.middle - d) d))

-- the folds at hand give this window
pub record Reaches (reach : Reach) (from to : ℕ) : Type 0 where
  pub first : reach.first ≤ from
  pub middle : from ≤ reach.middle
  pub end : reach.end ≡ to
