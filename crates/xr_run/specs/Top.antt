-- How the top call ends.
use Rattle.std.specs.Prelude.{◌≡◌, ◌⊎◌, ◌++◌, ℕ, List, Option, true}
use Rattle.xr_types.specs.declared.status.Status.{Status}
use Rattle.xr_types.specs.declared.status.Status.TheVariants.{Done, Refused, BadWords, NoScript, BadScript, Storage, NoMemory}
use Rattle.xr_defs.specs.Stores.{Files}
use Rattle.xr_defs.specs.Messages.{status_line}
use Rattle.xr_runs.specs.Runs.{Ended, Run}
use Rattle.xr_outside.specs.Outside.{Rose}
use Rattle.xr_run.specs.Ends.{IsEnd, WordsAsked}

-- unless something failed or memory ran out: the status, the files after the run and what the output sink gained are those of
-- the one end that the run has by the definitions, and the error sink gained the status's line
abbrev pub RunEnds : Files → Option (List ℕ) → Files → List ℕ → List ℕ → List ℕ → List ℕ → Status → Type 0
RunEnds files script after out_before out_after err_before err_after Storage = Unit {0}
RunEnds files script after out_before out_after err_before err_after NoMemory = Unit {0}
RunEnds files script after out_before out_after err_before err_after status =
    ((e : Ended) × Run files script e × IsEnd e status after true out_before out_after) × (err_after ≡ err_before ++ status_line script status)

-- unless the error sink failed or memory ran out, the words don't fit exactly where they name no script
abbrev pub AsWords : Option (List ℕ) → Status → Type 0
AsWords script Storage = Unit {0}
AsWords script NoMemory = Unit {0}
AsWords script status = WordsAsked script status

-- the error sink gained the status's line
abbrev pub IsSaid : Option (List ℕ) → List ℕ → List ℕ → Status → Type 0
IsSaid script before after Storage = Unit {0}
IsSaid script before after NoMemory = Unit {0}
IsSaid script before after status = after ≡ before ++ status_line script status

-- the counts of faults of the store, the output sink and the error sink: one of them rose where something failed; and
-- unless something failed or memory ran out, all are as before
abbrev pub RunCounted : ℕ → ℕ → ℕ → ℕ → ℕ → ℕ → Status → Type 0
RunCounted a b x y p q Storage = Rose a b ⊎ (Rose x y ⊎ Rose p q)
RunCounted a b x y p q NoMemory = Unit {0}
RunCounted a b x y p q status = (b ≡ a) × (y ≡ x) × (q ≡ p)

-- how a run ends whose line on the error sink failed
abbrev pub unsaid : Status → Status
unsaid NoMemory = NoMemory
unsaid status = Storage

abbrev pub exit_of : Status → ℕ
exit_of Done = 0
exit_of (Refused n f) = 1
exit_of BadWords = 2
exit_of NoScript = 2
exit_of (BadScript f) = 2
exit_of Storage = 3
exit_of NoMemory = 4
