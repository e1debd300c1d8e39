-- Operators by what they take.
use Rattle.std.specs.Prelude.{Bool, true, false}
use Rattle.xr_operations.specs.Arithmetic.{Sort, Arithmetic, Bitwise, Equality, Order, Division}

abbrev pub is_sum : Sort → Bool
is_sum Arithmetic = true
is_sum Bitwise = false
is_sum Equality = false
is_sum Order = false
is_sum Division = false

abbrev pub is_division : Sort → Bool
is_division Arithmetic = false
is_division Bitwise = false
is_division Equality = false
is_division Order = false
is_division Division = true
