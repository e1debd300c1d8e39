-- What a call may add to a plan: the cells of its nodes, beside the sizes of its operands and of its result.
use Rattle.std.specs.Prelude.{◌+◌, ◌*◌, ℕ, List, [], ◌∷◌, ◌++◌, length, map, filter, flat_map, is_some, max, if◌then◌else◌}
use Rattle.std.specs.List.{sum_by}
use Rattle.std.specs.Str.{bytes_eq}
use Rattle.xr_types.specs.declared.axis.Axis.{Axis}
use Rattle.xr_arrays.specs.declared.node.Node.{Node}
use Rattle.xr_defs.specs.declared.value.Coord.{Coord}
use Rattle.xr_types.specs.Points.{size}
use Rattle.xr_arrays.specs.Added.{AddsAtMost}
use Rattle.xr_types.specs.Names.{among}
use Rattle.xr_defs.specs.Meanings as of
use Rattle.xr_types.specs.Names.{axis_names}
use Rattle.xr_defs.specs.Values.{DataArray, Dataset}

-- ---- operands and results

-- how many data variables it has, where an array is one, its axes, and its coordinates that are no index
pub record Portion : Type 0 where
  pub variables : ℕ
  pub axes : List Axis
  pub coords : List Coord

abbrev pub of_array : DataArray → Portion
of_array a = record { variables = 1; axes = a.axes; coords = a.coords }

abbrev pub of_set : Dataset → Portion
of_set s = record { variables = length s.vars; axes = s.axes; coords = s.coords }

-- its data variables and coordinates, indexes among them
abbrev pub count : Portion → ℕ
count p = p.variables + (length (filter (λ (x : Axis). is_some x.labels) p.axes) + length p.coords)

-- the greatest size that a name has among axes; 0 and none count as 1
abbrev pub greatest : List Axis → List ℕ → ℕ
greatest [] name = 1
greatest (x ∷ xs) name = if bytes_eq name x.name then max x.size (greatest xs name) else greatest xs name

-- each name once
abbrev pub once : List (List ℕ) → List (List ℕ)
once [] = []
once (n ∷ ns) = if among ns n then once ns else n ∷ once ns

-- the product, over the names, of their greatest sizes
unfoldable pub span : List Axis → ℕ
span axes = size (map (greatest axes) (once (axis_names axes)))

-- ---- what the operands and the result of a call leave room for

unfoldable pub room : List Portion → ℕ
room ps = 256 * sum_by count ps * span (flat_map (λ (p : Portion). p.axes) ps)

-- no more than this result leaves room for, whatever the operand
abbrev pub AddsForAny : List Node → List Node → DataArray → Type 0
AddsForAny old new b = (p : Portion) → AddsAtMost old new (room (p ∷ of_array b ∷ []))

abbrev mutual
  -- those of a value: an array or a dataset has one, a grouped value that of what is grouped, and a list those of its members
  pub portions : of.Value → List Portion
  portions of.Absent = []
  portions of.Missing = []
  portions (of.Truth b) = []
  portions (of.Number n) = []
  portions (of.Text t) = []
  portions (of.Sequence vs) = members vs
  portions (of.Table es) = entries es
  portions (of.Slice start stop step) = []
  portions (of.Array a) = of_array a ∷ []
  portions (of.Set s) = of_set s ∷ []
  portions (of.Times coding ts) = []
  portions (of.GroupedArray a g) = of_array a ∷ []
  portions (of.GroupedSet s g) = of_set s ∷ []

  pub members : of.Values → List Portion
  members of.NoValue = []
  members (of.With vs v) = members vs ++ portions v

  pub entries : of.Entries → List Portion
  entries of.NoEntry = []
  entries (of.Entry es key v) = entries es ++ portions v
