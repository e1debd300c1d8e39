-- What selectors and choices of the program stand for.
use Rattle.std.specs.Prelude.{◌++◌, List, Result, Ok}
use Rattle.xr_types.specs.declared.fault.Fault.{Fault}
use Rattle.xr_types.specs.Results.{◌>>=◌}
use Rattle.xr_defs.specs.Selecting as of
use Rattle.xr_defs.specs.Arguments as calls
use Rattle.xr_indexing.specs.declared.choice.Positions.{Positions}
use Rattle.xr_indexing.specs.declared.choice.Selector.{Selector}
use Rattle.xr_indexing.specs.declared.choice.Selector.TheVariants.{At, Span, Each}
use Rattle.xr_indexing.specs.declared.choice.Choice.{Choice}
use Rattle.xr_indexing.specs.declared.choice.Choice.TheVariants.{One, Several}

abbrev pub positions_in : Positions → calls.Positions
positions_in p = record { start = p.start; stop = p.stop; step = p.step }

abbrev pub selector_in : Selector → of.Selector
selector_in (At n) = of.At n
selector_in (Span s) = of.Span (positions_in s)
selector_in (Each ns) = of.Each ns

abbrev pub choice_in : Choice → of.Choice
choice_in (One p) = of.One p
choice_in (Several ps) = of.Several ps

-- items that come behind others
abbrev pub behind : {A : Type 0} → List A → Result (List A) Fault → Result (List A) Fault
behind out more = more >>= λ xs. Ok (out ++ xs)
