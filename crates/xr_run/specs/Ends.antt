-- How the run of a script ends.
use Rattle.std.specs.Prelude.{◌≡◌, ◌≤◌, ◌⊎◌, ◌++◌, ℕ, Bool, List, IsTrue, Option, Some, None}
use Rattle.xr_types.specs.declared.status.Status.{Status}
use Rattle.xr_types.specs.declared.status.Status.TheVariants as statuses
use Rattle.xr_defs.specs.Stores.{Files}
use Rattle.xr_syntax.specs.Syntax.{Line}
use Rattle.xr_syntax.specs.Scripts.{IsScriptText}
use Rattle.xr_runs.specs.Runs.{Ended, Run, ScriptRun, IsPut, IsPutInRun, start}
use Rattle.xr_run.specs.declared.stopped.Stopped.{Stopped}
use Rattle.xr_run.specs.declared.stopped.Stopped.TheVariants.{Refused, Storage, NoMemory}
use Rattle.xr_outside.specs.Outside.{Rose}

-- how a run ends that stops at a statement
abbrev pub status_of : Stopped → ℕ → Status
status_of (Refused f) n = statuses.Refused n f
status_of Storage n = statuses.Storage
status_of NoMemory n = statuses.NoMemory

-- a run ended so: its status, the files, and what the output sink gained, where it tells what it took
pub record IsEnd (e : Ended) (status : Status) (files : Files) (told : Bool) (before taken : List ℕ) : Type 0 where
  pub status_is : e.status ≡ status
  pub files_are : files ≡ e.files
  pub text_is : IsTrue told → taken ≡ before ++ e.text

-- the same, unless the store or a sink failed or memory ran out
abbrev pub Ends : Ended → Files → Bool → List ℕ → List ℕ → Status → Type 0
Ends e files told before taken statuses.Storage = Unit {0}
Ends e files told before taken statuses.NoMemory = Unit {0}
Ends e files told before taken status = IsEnd e status files told before taken

-- so ends the run of a script of these bytes over these files
abbrev pub ScriptEnds : Files → List ℕ → Files → Bool → List ℕ → List ℕ → Status → Type 0
ScriptEnds files bytes after told before taken statuses.Storage = Unit {0}
ScriptEnds files bytes after told before taken statuses.NoMemory = Unit {0}
ScriptEnds files bytes after told before taken status = (e : Ended) × ScriptRun files bytes e × IsEnd e status after told before taken

-- so ends the run of the command
abbrev pub CommandEnds : Files → Option (List ℕ) → Files → Bool → List ℕ → List ℕ → Status → Type 0
CommandEnds files script after told before taken statuses.Storage = Unit {0}
CommandEnds files script after told before taken statuses.NoMemory = Unit {0}
CommandEnds files script after told before taken status = (e : Ended) × Run files script e × IsEnd e status after told before taken

-- that the words don't fit is known before a script is named
abbrev pub IsNamedEnd : Status → Type 0
IsNamedEnd statuses.BadWords = ⊥
IsNamedEnd status = Unit {0}

-- the words don't fit exactly where they name no script
abbrev pub WordsAsked : Option (List ℕ) → Status → Type 0
WordsAsked None statuses.BadWords = Unit {0}
WordsAsked None status = ⊥
WordsAsked (Some name) status = IsNamedEnd status

-- the files that no put of the statements names hold what they held
abbrev pub StatementsKeep : List Line → Files → Files → Type 0
StatementsKeep ls files after = (n : List ℕ) → (IsPut ls (start files) n → ⊥) → after n ≡ files n

abbrev pub ScriptKeeps : Files → List ℕ → Files → Type 0
ScriptKeeps files bytes after = (n : List ℕ) → ((ls : List Line) → IsScriptText bytes ls → IsPut ls (start files) n → ⊥) → after n ≡ files n

abbrev pub CommandKeeps : Files → Option (List ℕ) → Files → Type 0
CommandKeeps files script after = (n : List ℕ) → (IsPutInRun files script n → ⊥) → after n ≡ files n

-- the counts of a store and of a sink: one of them rose where the status says that one failed, and else both are as before
abbrev pub StatusTallied : ℕ → ℕ → ℕ → ℕ → Status → Type 0
StatusTallied a b x y statuses.Storage = (Rose a b ⊎ Rose x y) × (a ≤ b) × (x ≤ y)
StatusTallied a b x y status = (b ≡ a) × (y ≡ x)

-- where no statement has begun, the output sink took nothing
abbrev pub Untouched : List ℕ → List ℕ → Status → Type 0
Untouched before after statuses.BadWords = after ≡ before
Untouched before after statuses.NoScript = after ≡ before
Untouched before after (statuses.BadScript f) = after ≡ before
Untouched before after status = Unit {0}
