-- The arguments of calls: texts, slices, positions along dimensions that are there.
use Rattle.std.specs.Prelude.{◌==◌, ◌&&◌, ℕ, ℤ, pos, negsuc, Bool, false, not, List, [], ◌∷◌, length, Option, Some, None, Result, Ok, Err, if◌then◌else◌}
use Rattle.std.specs.Str.{bytes_eq}
use Rattle.xr_types.specs.declared.fault.Fault.{Fault}
use Rattle.xr_types.specs.declared.fault.Fault.TheVariants.{NoDimension, WrongKind, BadArgument}
use Rattle.xr_types.specs.declared.axis.Axis.{Axis}
use Rattle.xr_defs.specs.declared.slice.Part.{Part}
use Rattle.xr_defs.specs.declared.slice.Part.TheVariants as part
use Rattle.xr_types.specs.Results.{◌>>=◌, unless}
use Rattle.xr_defs.specs.Values.{axis_position}
use Rattle.xr_defs.specs.Meanings.{Value, Absent, Number, Text, Slice, Given}

-- ---- arguments

abbrev pub wrong : {A : Type 0} → Result A Fault
wrong = Err WrongKind

abbrev pub unfit : {A : Type 0} → Result A Fault
unfit = Err BadArgument

-- the one argument, plain or by this keyword
unfoldable pub only_of : List ℕ → List Value → List (List ℕ × Value) → Result Value Fault
only_of name (v ∷ []) [] = Ok v
only_of name [] (kv ∷ []) = if bytes_eq kv.0 name then Ok kv.1 else unfit
only_of name plain keyed = unfit

abbrev pub only : List ℕ → Given → Result Value Fault
only name g = only_of name g.plain g.keyed

-- no argument at all
unfoldable pub nothing_given : Given → Result (Unit {0}) Fault
nothing_given g = unless (length g.plain == 0 && length g.keyed == 0) BadArgument

unfoldable pub as_text : Value → Result (List ℕ) Fault
as_text (Text t) = Ok t
as_text v = wrong

-- ---- slice(stop), slice(start, stop), slice(start, stop, step)

unfoldable pub as_part : Value → Result Part Fault
as_part Absent = Ok part.Open
as_part (Number n) = Ok (part.At n)
as_part (Text t) = Ok (part.Label t)
as_part v = wrong

unfoldable pub as_step : Value → Result (Option ℤ) Fault
as_step Absent = Ok None
as_step (Number n) = Ok (Some n)
as_step v = wrong

unfoldable pub slice_of : List Value → Result Value Fault
slice_of (e ∷ []) = as_part e >>= λ stop. Ok (Slice part.Open stop None)
slice_of (s ∷ e ∷ []) = as_part s >>= λ start. as_part e >>= λ stop. Ok (Slice start stop None)
slice_of (s ∷ e ∷ k ∷ []) = as_part s >>= λ start. as_part e >>= λ stop. as_step k >>= λ step. Ok (Slice start stop step)
slice_of plain = unfit

-- a slice has no arguments by keyword
unfoldable pub slice_given : Given → Result Value Fault
slice_given g = unless (length g.keyed == 0) BadArgument >>= λ u. slice_of g.plain

-- ---- the positions of a slice

-- the numbers of a slice of positions; a text has no place in it, and its step isn't 0
pub record Positions : Type 0 where
  pub start : Option ℤ
  pub stop : Option ℤ
  pub step : Option ℤ

unfoldable pub as_position : Part → Result (Option ℤ) Fault
as_position part.Open = Ok None
as_position (part.At n) = Ok (Some n)
as_position (part.Label t) = wrong

abbrev pub is_zero : Option ℤ → Bool
is_zero None = false
is_zero (Some (pos n)) = n == 0
is_zero (Some (negsuc n)) = false

unfoldable pub as_positions : Value → Result Positions Fault
as_positions (Slice s e k) =
    as_position s >>= λ start. as_position e >>= λ stop. unless (not (is_zero k)) BadArgument >>= λ u. Ok (record { start = start; stop = stop; step = k })
as_positions v = wrong

-- the array has this dimension
unfoldable pub check_dimension : List Axis → List ℕ × Value → Result (Unit {0}) Fault
check_dimension axes kv = elim (axis_position kv.0 axes) [ None ↦ Err (NoDimension kv.0) | Some k ↦ Ok tt ]
