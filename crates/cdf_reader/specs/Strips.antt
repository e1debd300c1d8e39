-- Pieces of a file's bytes.
use Rattle.std.specs.Prelude.{ℕ, List}
use Rattle.xr_arrays.specs.Pieces.{pieces}
use Rattle.cdf_reader.specs.declared.strips.Strip.{Strip}

-- the values that a strip is
abbrev pub strip_values : List ℕ → ℕ → Strip → List ℕ
strip_values bytes step s = pieces bytes s.begin step s.size s.count
