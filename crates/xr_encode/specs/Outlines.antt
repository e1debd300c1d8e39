-- Variables to be written, but for their cells.
use Rattle.std.specs.Prelude.{ℤ, List, [], map, filter_map, Option}
use Rattle.xr_types.specs.declared.axis.Axis.{Axis}
use Rattle.xr_defs.specs.declared.value.Coord.{Coord}
use Rattle.xr_defs.specs.Encoding.{Stored, stored_index, stored_coord}
use Rattle.xr_encode.specs.declared.outline.Outline.{Outline}

abbrev pub filled_with : List (Option ℤ) → Outline → Stored
filled_with cells o = record { name = o.name; dims = o.dims; kind = o.kind; masked = o.masked; attrs = o.attrs; cells = cells; coding = o.coding; lists = o.lists }

-- with no cells
abbrev pub without_cells : Outline → Stored
without_cells o = filled_with [] o

abbrev pub outline_of : Stored → Outline
outline_of o = record { name = o.name; dims = o.dims; kind = o.kind; masked = o.masked; attrs = o.attrs; coding = o.coding; lists = o.lists }

abbrev pub index_outlines : List Axis → List Outline
index_outlines axes = map outline_of (filter_map stored_index axes)

abbrev pub coord_outlines : List Coord → List Outline
coord_outlines coords = map (λ c. outline_of (stored_coord c)) coords
