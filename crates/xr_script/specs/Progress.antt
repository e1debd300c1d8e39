-- What the reading of a script's tokens stands for.
use Rattle.std.specs.Prelude.{◌≡◌, ℕ, List, map, Option, Some, None, Result, Ok, Err, ⊤}
use Rattle.xr_types.specs.declared.status.ScriptKind.{ScriptKind}
use Rattle.xr_types.specs.declared.status.ScriptKind.TheVariants as kind
use Rattle.xr_syntax.specs.declared.syntax.Statement.{Statement}
use Rattle.xr_syntax.specs.declared.syntax.Script.{Script}
use Rattle.xr_syntax.specs.declared.scan.ScanEnd.{ScanEnd}
use Rattle.xr_syntax.specs.declared.scan.ScanEnd.TheVariants as end
use Rattle.xr_syntax.specs.declared.tally.Tally.{Tally}
use Rattle.xr_syntax.specs.Syntax.{Line, line_of}
use Rattle.xr_grammar.specs.Machine as machine
use Rattle.xr_grammar.specs.Machine.{Spot}
use Rattle.xr_grammar.specs.Reading.{faulty, fault_here}
use Rattle.xr_syntax.specs.Grammar.{Terminal}
use Rattle.xr_script.specs.declared.state.Stop.{Stop}
use Rattle.xr_script.specs.declared.state.Stop.TheVariants as stop
use Rattle.xr_script.specs.declared.progress.Point.{Point}
use Rattle.xr_script.specs.declared.progress.Point.TheVariants as point
use Rattle.xr_script.specs.declared.progress.Progress.{Progress}
use Rattle.xr_script.specs.declared.progress.Walk.{Walk}
use Rattle.xr_script.specs.declared.fault.ParseFault.{ParseFault}
use Rattle.xr_script.specs.declared.fault.ParseFault.TheVariants as faults
use Rattle.xr_script.specs.States.{state_of}

abbrev pub lines_of : List Statement → List Line
lines_of ss = map line_of ss

abbrev pub point_of : Point → machine.Point
point_of point.Between = machine.Between
point_of (point.Within s) = machine.Within (state_of s)

abbrev pub spot_of : Progress → Spot
spot_of p = (lines_of p.statements.items, point_of p.point)

abbrev pub moved : Progress → Terminal → Option Spot
moved p t = machine.move (lines_of p.statements.items) (point_of p.point) t

-- an answer is the machine's, and Syntax is where it has none; want of memory is free
abbrev pub Moves : Result Progress Stop → Option Spot → Type 0
Moves (Ok p) o = o ≡ Some (spot_of p)
Moves (Err stop.Syntax) o = o ≡ None
Moves (Err stop.Memory) o = ⊤

abbrev pub Walks : Result Walk ParseFault → Option Spot → Option ScriptKind → Tally → ℕ → Type 0
Walks (Ok w) o x y line = (o ≡ Some (spot_of w.progress)) × (x ≡ None) × (w.tally ≡ y)
Walks (Err (faults.Script f)) o x y line = fault_here o x line ≡ Some f
Walks (Err faults.NoMemory) o x y line = ⊤

-- what the end of the tokens answers, where the machine is at a spot behind a last line's end
abbrev pub Ends : Result Script ParseFault → ScanEnd → Option Spot → Type 0
Ends (Ok s) (end.Whole line) o = o ≡ Some (lines_of s.statements.items, machine.Between)
Ends (Ok s) (end.Bad line) o = ⊥
Ends (Err (faults.Script f)) (end.Whole line) o = (f ≡ faulty kind.BadSyntax line) × ((ls : List Line) → o ≡ Some (ls, machine.Between) → ⊥)
Ends (Err (faults.Script f)) (end.Bad line) o = f ≡ faulty kind.BadToken line
Ends (Err faults.NoMemory) e o = ⊤
