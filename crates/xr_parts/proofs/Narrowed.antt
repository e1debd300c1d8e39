-- A number of a kind is left as it is at the width of the kind.
use Rattle.xr_parts.proofs.Common.{DType, arith, pos, sym, ℤ, ◌≡◌}
use Rattle.std.proofs.lemmas.Int.{ints}
use Rattle.xr_types.specs.Kinds.{wrap_to, InRange}
use Rattle.xr_types.proofs.Wrapping.{wrapped_only}

pub kept_number : (t : DType) (n : ℤ) → InRange t n → wrap_to t n ≡ n
kept_number t n range = sym (wrapped_only t n n (record { in_range = range; turns = pos 0; congruent = omega (arith, ints) }))
