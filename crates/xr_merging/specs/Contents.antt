-- An array that has nothing but attributes.
use Rattle.std.specs.Prelude.{List, [], None, false}
use Rattle.xr_types.specs.declared.attr.Attr.{Attr}
use Rattle.xr_types.specs.declared.kind.DType.TheVariants as kinds
use Rattle.xr_values.specs.declared.data_array.DataArray.{DataArray}

abbrev pub with_attrs : List Attr → DataArray
with_attrs attrs = record { name = None; axes = []; kind = kinds.Bool; masked = false; attrs = attrs; coords = []; node = 0 }
