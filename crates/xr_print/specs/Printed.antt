-- The printed forms of what the program keeps, in the order of their parts.
use Rattle.std.specs.Prelude.{ℕ, ℤ, Bool, true, List, [], ◌∷◌, ◌++◌, map, flat_map, Option, codes}
use Rattle.xr_types.specs.Kinds.{kind_name}
use Rattle.xr_types.specs.declared.axis.Axis.{Axis}
use Rattle.xr_types.specs.declared.kind.DType.{DType}
use Rattle.xr_defs.specs.Text.{array_name, axis_text, masked_text, printed_name}
use Rattle.xr_defs.specs.Printing.{dims_text, dim_line, coords_text, skipped_line, attr_line}
use Rattle.xr_defs.specs.Values as of
use Rattle.xr_values.specs.declared.data_array.DataArray.{DataArray}
use Rattle.xr_values.specs.declared.dataset.Dataset.{Dataset}
use Rattle.xr_values.specs.declared.variable.Variable.{Variable}
use Rattle.xr_print.specs.Pieces.{listed}

-- an array with these cells
abbrev pub with_cells : DataArray → List (Option ℤ) → of.DataArray
with_cells a cells =
    record {
      name = a.name;
      axes = a.axes;
      kind = a.kind;
      masked = a.masked;
      attrs = a.attrs;
      coords = a.coords;
      cells = cells;
    }

-- the dimensions with their sizes, in brackets
abbrev pub axes_text : List Axis → List ℕ
axes_text axes = codes " (" ++ (listed true (map axis_text axes) ++ codes ") ")

abbrev pub head_text : Option (List ℕ) → List Axis → DType → Bool → List ℕ
head_text name axes kind masked = codes "DataArray " ++ (array_name name ++ (axes_text axes ++ (kind_name kind ++ (masked_text masked ++ 10 ∷ []))))

-- a variable's line, which shows no cells
abbrev pub variable_line : Variable → List ℕ
variable_line v = codes "var " ++ (printed_name v.name ++ (32 ∷ (kind_name v.kind ++ (32 ∷ (dims_text v.dims ++ (masked_text v.masked ++ 10 ∷ []))))))

abbrev pub whole_set : Dataset → List ℕ
whole_set s =
    codes "Dataset" ++ (10 ∷ (flat_map dim_line s.axes ++ (coords_text s.axes s.coords ++
    (flat_map variable_line s.vars ++ (flat_map skipped_line s.skipped ++ flat_map attr_line s.attrs)))))
