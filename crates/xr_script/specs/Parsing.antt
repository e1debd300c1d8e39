-- What is answered for a script of these lines, and for a text with this first fault; want of memory is free.
use Rattle.std.specs.Prelude.{◌≡◌, List, Result, Ok, Err, ⊤}
use Rattle.xr_types.specs.declared.status.ScriptFault.{ScriptFault}
use Rattle.xr_syntax.specs.declared.syntax.Script.{Script}
use Rattle.xr_syntax.specs.Syntax.{Line}
use Rattle.xr_script.specs.declared.fault.ParseFault.{ParseFault}
use Rattle.xr_script.specs.declared.fault.ParseFault.TheVariants as faults
use Rattle.xr_script.specs.Progress.{lines_of}

abbrev pub IsRead : Result Script ParseFault → List Line → Type 0
IsRead (Ok s) ls = lines_of s.statements.items ≡ ls
IsRead (Err (faults.Script g)) ls = ⊥
IsRead (Err faults.NoMemory) ls = ⊤

abbrev pub IsRefused : Result Script ParseFault → ScriptFault → Type 0
IsRefused (Ok s) f = ⊥
IsRefused (Err (faults.Script g)) f = g ≡ f
IsRefused (Err faults.NoMemory) f = ⊤
