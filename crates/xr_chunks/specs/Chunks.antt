-- chunk(DIM): how long the pieces are into which dimensions are cut when cells are computed (xarray, `chunk` of `DataArray` and
-- `Dataset`; Dask, "Chunks"). The value stays as it is.
use Rattle.std.specs.Prelude.{◌==◌, ℕ, ℤ, pos, negsuc, min, max, nat_le, List, [], ◌∷◌, length, map, Option, Some, None, option_map, Result, Ok, if◌then◌else◌}
use Rattle.std.specs.Str.{bytes_eq}
use Rattle.xr_types.specs.Results.{◌>>=◌, unless, all_of}
use Rattle.xr_types.specs.declared.axis.Axis.{Axis}
use Rattle.xr_types.specs.declared.fault.Fault.{Fault}
use Rattle.xr_types.specs.declared.fault.Fault.TheVariants.{BadArgument}
use Rattle.xr_defs.specs.Arguments.{check_dimension, unfit}
use Rattle.xr_defs.specs.Meanings.{Given, Value}
use Rattle.xr_defs.specs.Selecting.{as_number, axis_called}
use Rattle.xr_defs.specs.Values.{DataArray, Dataset}

-- ---- the arguments: for each dimension that is named a size from 1 up

unfoldable pub size_of : ℤ → Result ℕ Fault
size_of (pos n) = unless (nat_le 1 n) BadArgument >>= λ u. Ok n
size_of (negsuc n) = unfit

unfoldable pub size_given : List ℕ × Value → Result (List ℕ × ℕ) Fault
size_given kv = as_number kv.1 >>= λ n. size_of n >>= λ size. Ok (kv.0, size)

unfoldable pub sizes_given : List (List ℕ × Value) → Result (List (List ℕ × ℕ)) Fault
sizes_given [] = Ok []
sizes_given (kv ∷ kvs) = size_given kv >>= λ s. sizes_given kvs >>= λ ss. Ok (s ∷ ss)

-- by keyword alone, along dimensions that are there
unfoldable pub grid_given : List Axis → Given → Result (List (List ℕ × ℕ)) Fault
grid_given axes g = unless (length g.plain == 0) BadArgument >>= λ u. sizes_given g.keyed >>= λ sizes. all_of (check_dimension axes) g.keyed >>= λ v. Ok sizes

-- ---- chunk(DIM): the value itself

unfoldable pub chunk_array : DataArray → Given → Result DataArray Fault
chunk_array a g = grid_given a.axes g >>= λ sizes. Ok a

unfoldable pub chunk_set : Dataset → Given → Result Dataset Fault
chunk_set set g = grid_given set.axes g >>= λ sizes. Ok set

-- ---- its grid: the length of the pieces along each axis, where one is given

abbrev pub size_along : List (List ℕ × ℕ) → List ℕ → Option ℕ
size_along [] name = None
size_along (s ∷ ss) name = if bytes_eq s.0 name then Some s.1 else size_along ss name

-- No piece is longer than its axis of n positions: a size above that gives one piece, the whole axis. An axis without positions has
-- no piece, and the size 1 stands for any.
abbrev pub piece : ℕ → ℕ → ℕ
piece n size = max 1 (min size n)

abbrev pub piece_along : List (List ℕ × ℕ) → List ℕ → ℕ → Option ℕ
piece_along sizes name n = option_map (piece n) (size_along sizes name)

abbrev pub array_pieces : List (List ℕ × ℕ) → List Axis → List (Option ℕ)
array_pieces sizes axes = map (λ (x : Axis). piece_along sizes x.name x.size) axes

-- a data variable has the sizes of the dimensions that it names
abbrev pub variable_pieces : List (List ℕ × ℕ) → List Axis → List (List ℕ) → List (Option ℕ)
variable_pieces sizes axes dims = map (λ d. piece_along sizes d (axis_called axes d).size) dims
