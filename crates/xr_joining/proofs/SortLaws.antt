-- The checks of kinds, one after the other.
use Rattle.std.proofs.Common.{◌≡◌, ◌&&◌, ◌||◌, Bool, true, false, not, Ok, Err, ap}
use Rattle.xr_types.specs.Results.{◌>>=◌, unless}
use Rattle.xr_types.specs.declared.fault.Fault.TheVariants.{WouldPromote, WrongKind}
use Rattle.xr_types.specs.declared.kind.DType.{DType}
use Rattle.xr_defs.specs.Building.{is_chars, is_integer_kind}
use Rattle.xr_operations.specs.Arithmetic.{check_kinds, Sort, Arithmetic, Bitwise, Equality, Order, Division}
use Rattle.xr_joining.specs.Sorts.{is_division, is_sum}

module _ (t u : DType) where
  abbrev chars : Bool
  chars = is_chars t || is_chars u

  abbrev whole : Bool
  whole = is_integer_kind t || is_integer_kind u

  pub chars_refused : (s : Sort) → chars ≡ true → check_kinds s t u ≡ Err WrongKind
  unfolding check_kinds unless
  chars_refused Arithmetic e = ap (λ b. unless (not b && whole) WrongKind) e
  chars_refused Bitwise e = ap (λ b. unless (not b) WrongKind) e
  chars_refused Equality e = ap (λ b. unless (not b) WrongKind) e
  chars_refused Order e = ap (λ b. unless (not b) WrongKind) e
  chars_refused Division e = ap (λ b. unless (not b) WrongKind >>= λ v. Err WouldPromote) e

  pub division_refused : (s : Sort) → chars ≡ false → is_division s ≡ true → check_kinds s t u ≡ Err WouldPromote
  unfolding check_kinds unless
  division_refused Arithmetic e d = absurd cc
  division_refused Bitwise e d = absurd cc
  division_refused Equality e d = absurd cc
  division_refused Order e d = absurd cc
  division_refused Division e d = ap (λ b. unless (not b) WrongKind >>= λ v. Err WouldPromote) e

  pub truths_refused : (s : Sort) → chars ≡ false → is_sum s ≡ true → whole ≡ false → check_kinds s t u ≡ Err WrongKind
  unfolding check_kinds unless
  truths_refused Arithmetic e d w = (λ i. unless (not (e i) && w i) WrongKind)
  truths_refused Bitwise e d w = absurd cc
  truths_refused Equality e d w = absurd cc
  truths_refused Order e d w = absurd cc
  truths_refused Division e d w = absurd cc

  pub sums_pass : (s : Sort) → chars ≡ false → is_sum s ≡ true → whole ≡ true → check_kinds s t u ≡ Ok tt
  unfolding check_kinds unless
  sums_pass Arithmetic e d w = (λ i. unless (not (e i) && w i) WrongKind)
  sums_pass Bitwise e d w = absurd cc
  sums_pass Equality e d w = absurd cc
  sums_pass Order e d w = absurd cc
  sums_pass Division e d w = absurd cc

  pub others_pass : (s : Sort) → chars ≡ false → is_division s ≡ false → is_sum s ≡ false → check_kinds s t u ≡ Ok tt
  unfolding check_kinds unless
  others_pass Arithmetic e d w = absurd cc
  others_pass Bitwise e d w = ap (λ b. unless (not b) WrongKind) e
  others_pass Equality e d w = ap (λ b. unless (not b) WrongKind) e
  others_pass Order e d w = ap (λ b. unless (not b) WrongKind) e
  others_pass Division e d w = absurd cc
