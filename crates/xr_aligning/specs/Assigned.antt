-- A variable that is put into a dataset, as it is made.
use Rattle.std.specs.Prelude.{◌≡◌, ◌≤◌, ◌+◌, ◌||◌, ◌++◌, ℕ, Bool, true, false, not, List, [], ◌∷◌, length, map, filter, None, Result, Ok}
use Rattle.xr_aligning.specs.Common.{AllByRecursion, Axis, Coord, DataArray, Dataset, Fault, IsDatasetIn, Node, Variable, aligned, among, array_in, axis_names, bytes_eq, check_names, dataset_in, fitted, has_coord, has_index, is_busy, is_reserved, joined_in, list_any, most_variables, with_variable, without_variable}
use Rattle.xr_types.specs.Results.{◌>>=◌}
use Rattle.xr_types.specs.declared.operation.How.TheVariants as how
use Rattle.xr_defs.specs.Values as of
use Rattle.xr_relations.specs.Aligning.{with_variable as with_put}

-- ---- the dataset without the variable

abbrev pub others : List ℕ → List Variable → List Variable
others name vs = filter (λ (v : Variable). not (bytes_eq v.name name)) vs

abbrev pub rest_axes : List ℕ → Dataset → List Axis
rest_axes name s = filter (is_busy s.coords (others name s.vars)) s.axes

-- its name is that of a dimension or coordinate of either, or the array has a coordinate or index named as another variable
abbrev pub is_taken : List Axis → Dataset → List ℕ → DataArray → Bool
is_taken rest s name a =
    is_reserved rest s.coords name || (is_reserved a.axes a.coords name || list_any (λ (v : Variable). has_coord a.coords v.name || has_index a.axes v.name) (others name s.vars))

-- ---- the dataset with it

abbrev pub relabelled : List Axis → Coord → Coord
relabelled axes c = record c { axes = map (joined_in axes) c.axes }

abbrev pub is_free : List Axis → Coord → Bool
is_free axes c = not (among (axis_names axes) c.name)

abbrev pub is_fresh : List Coord → Coord → Bool
is_fresh own c = not (has_coord own c.name)

abbrev pub coords_with : List Axis → List Coord → List Coord → List Coord
coords_with axes own new = filter (is_free axes) (map (relabelled axes) own) ++ filter (is_free axes) (filter (is_fresh own) new)

abbrev pub variable_of : List ℕ → DataArray → Variable
variable_of name a = record { name = name; dims = axis_names a.axes; kind = a.kind; masked = a.masked; attrs = a.attrs; node = a.node }

abbrev pub set_with : List Axis → Dataset → List ℕ → DataArray → Dataset
set_with axes s name a =
    let coords = coords_with axes s.coords a.coords in
    let vars = with_variable s.vars (variable_of name a) in
    record { axes = filter (is_busy coords vars) axes; coords = coords; vars = vars; attrs = s.attrs; skipped = s.skipped }

-- ---- what is seen of the joined axes

-- an axis that stands among them in its own size
abbrev pub Stays : List Axis → Axis → Type 0
Stays axes x = (among (axis_names axes) x.name ≡ true) × ((joined_in axes x).size ≡ x.size)

-- no coordinate and no index has the name of a variable
abbrev pub IsApart : List Axis → List Coord → Variable → Type 0
IsApart axes coords v = (has_index axes v.name ≡ false) × (has_coord coords v.name ≡ false)

-- ---- the call in two steps

-- the joined axes, or the first fault
abbrev pub joined_with : of.Dataset → List ℕ → of.DataArray → Result (List Axis) Fault
joined_with s name a = let rest = without_variable name s in aligned how.Left false (rest.axes ∷ a.axes ∷ []) >>= λ axes. check_names rest name a >>= λ v. Ok axes

-- the dataset that is made, well formed where it has no more of all than it may have
pub record IsPlaced (old new : List Node) (axes : List Axis) (s : Dataset) (name : List ℕ) (a : DataArray) (t : Dataset) : Type 0 where
  pub is : dataset_in new t ≡ with_put axes (dataset_in old s) name (fitted axes None (array_in old a))
  pub inside : length t.coords + length t.vars ≤ most_variables → IsDatasetIn new t
