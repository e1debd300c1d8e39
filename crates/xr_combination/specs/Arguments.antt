-- The arguments of calls that make one value of several.
use Rattle.std.specs.Prelude.{◌&&◌, ◌||◌, ◌==◌, ℕ, Bool, true, not, codes, List, length, Option, Some, None, is_some, Result, Ok, if◌then◌else◌}
use Rattle.std.specs.List.{list_all}
use Rattle.std.specs.Str.{bytes_eq}
use Rattle.xr_types.specs.Results.{◌>>=◌, unless}
use Rattle.xr_types.specs.declared.fault.Fault.{Fault}
use Rattle.xr_types.specs.declared.fault.Fault.TheVariants.{BadArgument, WrongKind}
use Rattle.xr_types.specs.declared.operation.How.{How}
use Rattle.xr_types.specs.declared.operation.How.TheVariants as how
use Rattle.xr_defs.specs.Arguments.{as_text, unfit, wrong}
use Rattle.xr_defs.specs.Building.{items}
use Rattle.xr_defs.specs.Meanings as of
use Rattle.xr_defs.specs.Meanings.{Value}
use Rattle.xr_relations.specs.Aligning.{how_named}
use Rattle.xr_combination.specs.declared.compat.Compat.{Compat}
use Rattle.xr_combination.specs.declared.compat.Compat.TheVariants.{NoConflicts, Equals, Override}
use Rattle.xr_combination.specs.Pieces.{is_array, is_set}

unfoldable pub list_given : Value → Result (List Value) Fault
list_given (of.Sequence vs) = Ok (items vs)
list_given v = wrong

abbrev pub is_labelled : Value → Bool
is_labelled v = is_array v || is_set v

-- arrays alone or datasets alone, and some
unfoldable pub check_alike : List Value → Result (Unit {0}) Fault
check_alike vs = unless (list_all is_array vs || list_all is_set vs) WrongKind >>= λ u. unless (not (length vs == 0)) BadArgument

unfoldable pub alike_given : Value → Result (List Value) Fault
alike_given v = list_given v >>= λ vs. check_alike vs >>= λ u. Ok vs

abbrev pub is_named : Value → Bool
is_named (of.Array a) = is_some a.name
is_named v = true

-- datasets, and arrays that have names, and some
unfoldable pub check_named : List Value → Result (Unit {0}) Fault
check_named vs = unless (list_all is_labelled vs) WrongKind >>= λ u. unless (not (length vs == 0) && list_all is_named vs) BadArgument

unfoldable pub named_given : Value → Result (List Value) Fault
named_given v = list_given v >>= λ vs. check_named vs >>= λ u. Ok vs

-- datasets, and some
unfoldable pub check_sets : List Value → Result (Unit {0}) Fault
check_sets vs = unless (list_all is_set vs) WrongKind >>= λ u. unless (not (length vs == 0)) BadArgument

unfoldable pub sets_given : Value → Result (List Value) Fault
sets_given v = list_given v >>= λ vs. check_sets vs >>= λ u. Ok vs

-- labels are joined by `outer` where nothing else is said
unfoldable pub how_given : Option Value → Result How Fault
how_given None = Ok how.Outer
how_given (Some v) = as_text v >>= λ t. how_named t

unfoldable pub compat_named : List ℕ → Result Compat Fault
compat_named t =
    if bytes_eq t (codes "no_conflicts") then Ok NoConflicts
    else if bytes_eq t (codes "equals") then Ok Equals
    else if bytes_eq t (codes "override") then Ok Override
    else unfit

unfoldable pub compat_given : Option Value → Result Compat Fault
compat_given None = Ok NoConflicts
compat_given (Some v) = as_text v >>= λ t. compat_named t
