-- Sums of the numbers of a file.
use Rattle.std.specs.Prelude.{ℤ, not, List}
use Rattle.std.specs.List.{filter}
use Rattle.xr_arrays.specs.Stored.{is_fill}

-- the numbers that don't stand for missing cells
abbrev pub present : List ℤ → List ℤ → List ℤ
present fills ns = filter (λ n. not (is_fill fills n)) ns
