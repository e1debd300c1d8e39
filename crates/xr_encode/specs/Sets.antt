-- The variables of a dataset's file, but for their cells.
use Rattle.std.specs.Prelude.{ℕ, Bool, not, List, [], ◌++◌, map, filter}
use Rattle.std.specs.List.{list_any}
use Rattle.xr_defs.specs.declared.value.Coord.{Coord}
use Rattle.xr_types.specs.Names.{among}
use Rattle.xr_defs.specs.Printing.{by_name}
use Rattle.xr_defs.specs.Encoding.{coords_over, coord_names}
use Rattle.xr_values.specs.declared.variable.Variable.{Variable}
use Rattle.xr_values.specs.declared.dataset.Dataset.{Dataset}
use Rattle.xr_encode.specs.declared.outline.Outline.{Outline}
use Rattle.xr_encode.specs.Outlines.{index_outlines, coord_outlines}

-- a data variable, which lists the coordinates that have its dimensions alone
abbrev pub variable_outline : List Coord → Variable → Outline
variable_outline coords v =
    record { name = v.name; dims = v.dims; kind = v.kind; masked = v.masked; attrs = v.attrs; coding = []; lists = coord_names (by_name (coords_over v.dims coords)) }

abbrev pub outlines_of : Dataset → List Outline
outlines_of s = index_outlines s.axes ++ (coord_outlines (by_name s.coords) ++ map (variable_outline s.coords) s.vars)

abbrev pub lists_name : List ℕ → Outline → Bool
lists_name name o = among o.lists name

-- the names that none of these lists
abbrev pub unlisted_by : List Outline → List (List ℕ) → List (List ℕ)
unlisted_by outlines names = filter (λ n. not (list_any (lists_name n) outlines)) names
