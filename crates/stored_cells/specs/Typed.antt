-- An array with typed cells, lent or decoded.
use Rattle.xr_arrays.specs.Arrays.{Array}
use Rattle.stored_cells.specs.declared.kept.Kept.{Kept}
use Rattle.stored_cells.specs.declared.kept.Kept.TheVariants.{Lent, Owned}

abbrev pub kept_array : Kept → Array
kept_array (Lent a) = a.now
kept_array (Owned a) = a
