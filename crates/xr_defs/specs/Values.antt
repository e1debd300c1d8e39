-- Arrays with named dimensions and labels, and datasets (xarray user guide, "Data Structures").
use Rattle.std.specs.Prelude.{◌==◌, ◌||◌, ◌+◌, ℕ, ℤ, pos, Bool, false, not, codes, List, [], ◌∷◌, length, map, filter, get_or, Option, Some, None, option_map, if◌then◌else◌}
use Rattle.std.specs.Str.{bytes_eq}
use Rattle.xr_types.specs.declared.attr.Attr.{Attr}
use Rattle.xr_types.specs.declared.axis.Axis.{Axis}
use Rattle.xr_types.specs.declared.axis.LabelList.{LabelList}
use Rattle.xr_types.specs.declared.axis.LabelList.TheVariants.{Numbers, Times, Texts}
use Rattle.xr_types.specs.declared.kind.DType.{DType}
use Rattle.xr_types.specs.declared.operation.FoldKind.TheVariants.{Sum}
use Rattle.xr_types.specs.Names.{shape_over}
use Rattle.xr_defs.specs.declared.value.Coord.{Coord}
use Rattle.xr_arrays.specs.Arrays.{Array}
use Rattle.xr_arrays.specs.Folds.{folded_kind, fold_of, numbered}

-- an array with an optional name, axes in order, cells in row order, attributes and non-index coordinates in order
pub record DataArray : Type 0 where
  pub name : Option (List ℕ)
  pub axes : List Axis
  pub kind : DType
  pub masked : Bool
  pub attrs : List Attr
  pub coords : List Coord
  pub cells : List (Option ℤ)

-- a data variable: an array over some of its dataset's axes, which it names
pub record Variable : Type 0 where
  pub name : List ℕ
  pub dims : List (List ℕ)
  pub kind : DType
  pub masked : Bool
  pub attrs : List Attr
  pub cells : List (Option ℤ)

pub record Dataset : Type 0 where
  pub axes : List Axis
  pub coords : List Coord
  pub vars : List Variable
  pub attrs : List Attr
  pub skipped : List (List ℕ)

-- the cells with their kind and shape
abbrev pub array_of : DataArray → Array
array_of a = record { kind = a.kind; shape = shape_over a.axes; cells = a.cells }

abbrev pub label_count : LabelList → ℕ
label_count (Numbers kind ns) = length ns
label_count (Times coding ts) = length ts
label_count (Texts ts) = length ts

-- the first position of an axis of this name
abbrev pub axis_position : List ℕ → List Axis → Option ℕ
axis_position name [] = None
axis_position name (x ∷ xs) = if bytes_eq x.name name then Some 0 else option_map (λ n. n + 1) (axis_position name xs)

-- ---- selection by position (xarray user guide, "Indexing and selecting data")

-- the items at these places, in this order
abbrev pub chosen : {X : Type 0} → X → List X → List ℕ → List X
chosen d xs ps = map (λ i. get_or xs i d) ps

abbrev pub chosen_list : LabelList → List ℕ → LabelList
chosen_list (Numbers kind ns) ps = Numbers kind (chosen (pos 0) ns ps)
chosen_list (Times coding ts) ps = Times coding (chosen (pos 0) ts ps)
chosen_list (Texts ts) ps = Texts (chosen [] ts ps)

abbrev pub no_axis : Axis
no_axis = record { name = []; size = 0; labels = None }

-- ---- attributes of new cells

-- the numbers that stood for missing cells say nothing of new cells
abbrev pub names_fill : Attr → Bool
names_fill a = bytes_eq a.name (codes "_FillValue") || bytes_eq a.name (codes "missing_value")

abbrev pub without_fills : List Attr → List Attr
without_fills attrs = filter (λ (a : Attr). not (names_fill a)) attrs

-- ---- the sum over all dimensions (NumPy, `sum`), without the missing cells

-- the numbers that aren't missing
abbrev pub present : List (Option ℤ) → List ℤ
present [] = []
present (Some n ∷ cells) = n ∷ present cells
present (None ∷ cells) = present cells

abbrev pub is_scalar : Coord → Bool
is_scalar c = length c.axes == 0

abbrev pub total : DataArray → DataArray
total a =
    record {
      name = a.name;
      axes = [];
      kind = folded_kind Sum a.kind;
      masked = false;
      attrs = without_fills a.attrs;
      coords = filter is_scalar a.coords;
      cells = fold_of Sum a.kind (numbered 0 a.cells) ∷ [];
    }
