-- Where an attribute of a name stands, and the attribute of a number in four bytes.
use Rattle.std.specs.Prelude.{if◌then◌else◌}
use Rattle.xr_types.specs.Results.{◌>>=◌}
use Rattle.xr_parts.specs.Common.{Attr, DoesNotFit, Fault, Int, List, None, Ok, Option, Result, Some, bytes_eq, holds, position, unless, value_bytes, ℕ, ℤ}

-- the first of the name
unfoldable pub attr_place : List Attr → List ℕ → Option ℕ
attr_place attrs name = position (λ (a : Attr). bytes_eq a.name name) attrs

abbrev pub in_four_bytes : ℤ → Option (List ℕ)
in_four_bytes n = if holds Int n then Some (value_bytes Int n) else None

unfoldable pub number_attr : List ℕ → ℤ → Result Attr Fault
number_attr name n = unless (holds Int n) DoesNotFit >>= λ u. Ok (record { name = name; kind = Int; raw = value_bytes Int n })
