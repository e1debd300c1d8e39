-- Reductions along axes by lists of positions: each list gives the fold of the cells at its positions, in row order, or a fill where
-- it has too few of them (xarray user guide, "GroupBy", "Rolling window operations", "Coarsen large arrays", "Resampling").
use Rattle.std.specs.Prelude.{◌==◌, nat_lt, ℕ, ℤ, Bool, false, List, [], ◌∷◌, length, map, Option, if◌then◌else◌}
use Rattle.std.specs.Str.{bytes_eq}
use Rattle.std.specs.List.{list_any}
use Rattle.xr_types.specs.Names.{among}
use Rattle.xr_types.specs.declared.axis.Axis.{Axis}
use Rattle.xr_types.specs.declared.kind.DType.{DType}
use Rattle.xr_types.specs.declared.operation.FoldKind.{FoldKind}
use Rattle.xr_arrays.specs.declared.node.Feed.{Feed}
use Rattle.xr_arrays.specs.declared.node.Feed.TheVariants as feed
use Rattle.xr_arrays.specs.Arrays.{Array, at, made}
use Rattle.xr_arrays.specs.Folds.{folded_kind, fold_of, present}
use Rattle.xr_arrays.specs.Nodes.{gathered, kept}
use Rattle.xr_defs.specs.declared.value.Coord.{Coord}
use Rattle.xr_operations.specs.Reductions.{coords_left}
use Rattle.xr_groups.specs.declared.change.Change.{Change}
use Rattle.xr_groups.specs.declared.change.Least.{Least}
use Rattle.xr_groups.specs.declared.change.Least.TheVariants.{Never, Empty, Fewer}

-- ---- cells

-- whether these cells, missing ones among them, are too few
abbrev pub too_few : Least → List (ℕ × Option ℤ) → Bool
too_few Never cs = false
too_few Empty cs = length cs == 0
too_few (Fewer m) cs = nat_lt (length (present cs)) m

abbrev pub listed_cell : FoldKind → Least → Option ℤ → DType → List (ℕ × Option ℤ) → Option ℤ
listed_cell k least fill t cs = if too_few least cs then fill else fold_of k t cs

-- the cell at a point is that of the cells at the positions of its lists
abbrev pub listed : FoldKind → Least → Option ℤ → List Feed → Array → Array
listed k least fill feeds a = made (folded_kind k a.kind) (kept feeds a.shape) (λ p. listed_cell k least fill a.kind (gathered 0 feeds a.shape p (at a)))

-- ---- dimensions whose positions are grouped

abbrev pub dimensions : List Change → List (List ℕ)
dimensions cs = map (λ (c : Change). c.dimension) cs

-- the lists of a dimension, or its own positions
abbrev pub feed_by : List Change → List ℕ → Feed
feed_by [] d = feed.Keep
feed_by (c ∷ cs) d = if bytes_eq d c.dimension then feed.By c.lists else feed_by cs d

abbrev pub feeds_by : List Change → List (List ℕ) → List Feed
feeds_by cs dims = map (feed_by cs) dims

-- the axis that stands in an axis's place
abbrev pub axis_by : List Change → Axis → Axis
axis_by [] x = x
axis_by (c ∷ cs) x = if bytes_eq x.name c.dimension then c.axis else axis_by cs x

abbrev pub axes_by : List Change → List Axis → List Axis
axes_by cs axes = map (axis_by cs) axes

-- the dimension that stands in a dimension's place
abbrev pub dim_by : List Change → List ℕ → List ℕ
dim_by [] d = d
dim_by (c ∷ cs) d = if bytes_eq d c.dimension then c.axis.name else dim_by cs d

-- whether some of these dimensions are grouped
abbrev pub is_grouped : List Change → List (List ℕ) → Bool
is_grouped cs dims = list_any (among (dimensions cs)) dims

-- a window has its position's coordinates; other lists have none of the coordinates along their dimension
abbrev pub coords_by : Bool → List Change → List Coord → List Coord
coords_by keeps cs coords = if keeps then coords else coords_left (dimensions cs) coords
