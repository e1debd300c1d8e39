-- Floor quotients by one divisor: by a product and a shift of what is left of the sign.
use Rattle.std.specs.Prelude.{◌≡◌, ℕ, zero, suc, ◌+◌, ◌-◌, ◌*◌, ◌^◌, ◌<◌, ◌≤◌, Bool, true, false, ℤ, pos, negsuc, unsigned_abs}
use Rattle.xr_types.specs.declared.kind.DType.{DType}
use Rattle.xr_types.specs.declared.kind.DType.TheVariants as kinds

-- (whole + times) / (whole * 2 ^ (shift + 1)) is above 1 / d, by so little that no number below whole tells them apart
abbrev pub IsReciprocal : ℕ → ℕ → ℕ → ℕ → Type 0
IsReciprocal whole d times shift = (whole * 2 ^ suc shift < (whole + times) * d) × ((whole + times) * d ≤ (whole + 1) * 2 ^ suc shift)

-- the numbers of a kind are below it, also without their sign
abbrev pub whole : DType → ℕ
whole kinds.Bool = 65536
whole kinds.Char = 65536
whole kinds.Int8 = 65536
whole kinds.Int16 = 65536
whole kinds.Int32 = 4294967296
whole kinds.Int64 = 18446744073709551616
whole kinds.UInt8 = 65536
whole kinds.UInt16 = 65536
whole kinds.UInt32 = 4294967296
whole kinds.UInt64 = 18446744073709551616

-- whether the quotient of n by y is below 0
abbrev pub sinks : ℤ → ℤ → Bool
sinks (pos zero) y = false
sinks (pos (suc a)) (pos b) = false
sinks (pos (suc a)) (negsuc b) = true
sinks (negsuc a) (pos b) = true
sinks (negsuc a) (negsuc b) = false

-- a number without its sign, less one where its quotient is below 0
abbrev pub size : ℤ → Bool → ℕ
size n false = unsigned_abs n
size n true = unsigned_abs n - 1

-- the quotient whose size it is
abbrev pub sunk : Bool → ℕ → ℤ
sunk false q = pos q
sunk true q = negsuc q
