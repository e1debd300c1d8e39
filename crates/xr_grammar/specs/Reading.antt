-- The fault of a token, as the machine and the limits have it.
use Rattle.std.specs.Prelude.{ℕ, Option, Some, None}
use Rattle.xr_types.specs.declared.status.ScriptFault.{ScriptFault}
use Rattle.xr_types.specs.declared.status.ScriptKind.{ScriptKind}
use Rattle.xr_types.specs.declared.status.ScriptKind.TheVariants as kind
use Rattle.xr_grammar.specs.Machine.{Spot}

abbrev pub faulty : ScriptKind → ℕ → ScriptFault
faulty k line = record { kind = k; line = line }

-- the machine's fault comes before that of a limit
abbrev pub fault_here : Option Spot → Option ScriptKind → ℕ → Option ScriptFault
fault_here None x line = Some (faulty kind.BadSyntax line)
fault_here (Some s) (Some k) line = Some (faulty k line)
fault_here (Some s) None line = None
