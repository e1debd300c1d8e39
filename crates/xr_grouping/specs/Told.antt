-- The arguments of windows, some at a time.
use Rattle.std.specs.Prelude.{ℕ, Bool, List, ◌∷◌, Option, None, Some, Result, Ok, codes}
use Rattle.xr_types.specs.Results.{◌>>=◌}
use Rattle.xr_types.specs.declared.fault.Fault.{Fault}
use Rattle.xr_defs.specs.Building.{given_value, keyword}
use Rattle.xr_defs.specs.Meanings.{Value}
use Rattle.xr_defs.specs.declared.grouping.Grouping.{Grouping}
use Rattle.xr_defs.specs.declared.grouping.Grouping.TheVariants.{Windows}
use Rattle.xr_groups.specs.Calls.{bounded, center_given, least_given, least_of, size_given}

-- one more in front, where there is one
abbrev pub with_first : Option (List ℕ × Value) → List (List ℕ × Value) → List (List ℕ × Value)
with_first None kvs = kvs
with_first (Some kv) kvs = kv ∷ kvs

unfoldable pub width_told : List ℕ × Value → Bool → Option ℕ → Result Grouping Fault
width_told kv center m = size_given kv.1 >>= λ w. least_of m w >>= λ least. Ok (Windows kv.0 (bounded w) center (bounded least))

unfoldable pub options_told : List ℕ × Value → List (List ℕ × Value) → Result Grouping Fault
options_told kv keyed = center_given (given_value (keyword (codes "center") keyed)) >>= λ center. least_given (given_value (keyword (codes "min_periods") keyed)) >>= λ m. width_told kv center m
