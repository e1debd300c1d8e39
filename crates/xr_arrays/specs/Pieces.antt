-- Bytes that stand in pieces, as the values of a record variable do in a file (Unidata, "The NetCDF Classic Format Specification").
use Rattle.std.specs.Prelude.{◌==◌, ◌&&◌, ◌+◌, ◌-◌, ◌*◌, ◌%◌, ◌^◌, ◌<◌, ◌≤◌, ℕ, Bool, nat_le, List, length, flat_map, take, drop}
use Rattle.std.specs.List.{range_with_len}
use Rattle.xr_types.specs.declared.attr.NcType.{NcType}
use Rattle.xr_types.specs.Widths.{width}
use Rattle.xr_arrays.specs.declared.pieces.Pieces.{Pieces}

-- so many pieces of n bytes, one each step from begin on
abbrev pub pieces : List ℕ → ℕ → ℕ → ℕ → ℕ → List ℕ
pieces bytes begin step n count = flat_map (λ r. take n (drop (begin + r * step) bytes)) (range_with_len 0 count)

-- the pieces put together
abbrev pub together : NcType → Pieces → List ℕ
together kind p = pieces p.bytes p.begin p.step (p.cells * width kind) p.count

-- how many values there are
abbrev pub values_in : Pieces → ℕ
values_in p = p.count * p.cells

-- each piece ends within the bytes, and they aren't longer than those
pub record AreInside (kind : NcType) (p : Pieces) : Type 0 where
  pub inside : (r : ℕ) → r < p.count → p.begin + r * p.step + p.cells * width kind ≤ length p.bytes
  pub few : values_in p * width kind ≤ length p.bytes
  pub short : length p.bytes < 2 ^ 64

-- there is a piece, pieces hold whole values and lie apart, and the last one ends within so many bytes
abbrev pub are_inside : NcType → ℕ → ℕ → ℕ → ℕ → ℕ → Bool
are_inside kind long begin step n count = (n % width kind == 0) && (nat_le n step && (nat_le 1 count && nat_le (begin + (count - 1) * step + n) long))
