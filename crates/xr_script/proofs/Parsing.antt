-- A text has one answer, so each script is read and each first fault is found.
use Rattle.std.proofs.Common.{◌≡◌, ℕ, List, Result, Ok, Err, IfOk, refl}
use Rattle.xr_types.specs.declared.status.ScriptFault.{ScriptFault}
use Rattle.xr_syntax.specs.declared.syntax.Script.{Script}
use Rattle.xr_syntax.specs.Syntax.{Line}
use Rattle.xr_syntax.specs.Scripts.{IsScriptText, IsFirstFault}
use Rattle.xr_grammar.proofs.Faults.{one_tree, one_fault, not_both}
use Rattle.xr_script.specs.declared.fault.ParseFault.{ParseFault}
use Rattle.xr_script.specs.declared.fault.ParseFault.TheVariants as faults
use Rattle.xr_script.specs.Progress.{lines_of}
use Rattle.xr_script.specs.Parsing.{IsRead, IsRefused}

pub reads : (bytes : List ℕ) (r : Result Script ParseFault) → IfOk r (λ s. IsScriptText bytes (lines_of s.statements.items)) → ((f : ScriptFault) → r ≡ Err (faults.Script f) → IsFirstFault bytes f) → (ls : List Line) → IsScriptText bytes ls → IsRead r ls
reads bytes (Ok s) a b ls h = one_tree bytes (lines_of s.statements.items) ls a h
reads bytes (Err (faults.Script f)) a b ls h = not_both bytes ls f h (b f refl)
reads bytes (Err faults.NoMemory) a b ls h = tt

pub refuses : (bytes : List ℕ) (r : Result Script ParseFault) → IfOk r (λ s. IsScriptText bytes (lines_of s.statements.items)) → ((f : ScriptFault) → r ≡ Err (faults.Script f) → IsFirstFault bytes f) → (f : ScriptFault) → IsFirstFault bytes f → IsRefused r f
refuses bytes (Ok s) a b f h = not_both bytes (lines_of s.statements.items) f a h
refuses bytes (Err (faults.Script g)) a b f h = one_fault bytes g f (b g refl) h
refuses bytes (Err faults.NoMemory) a b f h = tt
