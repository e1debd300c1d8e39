-- What stands where a run is broken off: some statements are carried out, and of the next one at most a part.
use Rattle.std.specs.Prelude.{◌≡◌, ◌⊎◌, ◌++◌, ℕ, Bool, List, ◌∷◌, take, IsTrue, Option, Some, Result, Ok, Err}
use Rattle.xr_types.specs.declared.status.Status.{Status}
use Rattle.xr_defs.specs.Stores.{Files}
use Rattle.xr_defs.specs.Messages.{status_line}
use Rattle.xr_syntax.specs.Syntax as tree
use Rattle.xr_syntax.specs.Syntax.{Line, Tree}
use Rattle.xr_syntax.specs.Scripts.{IsScriptText}
use Rattle.xr_runs.specs.Evaluation.{Names}
use Rattle.xr_runs.specs.Runs.{State, step, start, with_text, written_by}
use Rattle.xr_run.specs.declared.effect.Effect.{Effect}
use Rattle.xr_run.specs.declared.effect.Effect.TheVariants.{Bind, BindEach, Print, Write}
use Rattle.xr_run.specs.declared.stopped.Stopped.{Stopped}
use Rattle.xr_run.specs.declared.stopped.Stopped.TheVariants.{Refused, Storage, NoMemory}
use Rattle.xr_run.specs.Steps.{at}
use Rattle.xr_outside.specs.Outside.{MayHold, OthersSame, Rose}

-- the first statements lead from one state to another, statement by statement, and these are left
pub data Reached : List Line → State → List Line → State → Type 0 where
  reached_none : (ls : List Line) (s : State) → Reached ls s ls s
  reached_more : (l : Line) (ls rest : List Line) (s t u : State) → step l s ≡ Ok t → Reached ls t rest u → Reached (l ∷ ls) s rest u

-- The files and the text printed so far, where from this state on these statements are left: nothing of the next one is done, or a front
-- of what it prints is printed, or the file that it puts holds what it held, or a front of its new bytes, or there is none.
pub data IsBroken (rest : List Line) (s : State) (files : Files) (text : List ℕ) : Type 0 where
  nothing_done : files ≡ s.files → text ≡ s.text → IsBroken rest s files text
  printing : (e : Tree) (ls : List Line) (whole : List ℕ) (k : ℕ) → rest ≡ tree.Printed e ∷ ls → step (tree.Printed e) s ≡ Ok (with_text s whole)
      → files ≡ s.files → text ≡ s.text ++ take k whole → IsBroken rest s files text
  putting : (e : Tree) (ls : List Line) (name bytes : List ℕ) → rest ≡ tree.Written e ∷ ls → written_by s.names s.files e ≡ Ok (name, bytes)
      → MayHold bytes (s.files name) (files name) → OthersSame name s.files files → text ≡ s.text → IsBroken rest s files text

-- one number of statements fits the files and what a sink that tells it has gained
pub record Left (ls : List Line) (files after : Files) (told : Bool) (before taken : List ℕ) : Type 0 where
  pub rest : List Line
  pub state : State
  pub text : List ℕ
  pub reached : Reached ls (start files) rest state
  pub broken : IsBroken rest state after text
  pub text_is : IsTrue told → taken ≡ before ++ text

-- a script of these bytes: no statement has begun, or so
abbrev pub ScriptLeft : Files → List ℕ → Files → Bool → List ℕ → List ℕ → Type 0
ScriptLeft files bytes after told before taken = ((after ≡ files) × (taken ≡ before)) ⊎ ((ls : List Line) × IsScriptText bytes ls × Left ls files after told before taken)

-- the command
abbrev pub CommandLeft : Files → Option (List ℕ) → Files → Bool → List ℕ → List ℕ → Type 0
CommandLeft files script after told before taken =
    ((after ≡ files) × (taken ≡ before))
    ⊎ ((name : List ℕ) × (bytes : List ℕ) × (ls : List Line) × (script ≡ Some name) × (files name ≡ Some bytes) × IsScriptText bytes ls × Left ls files after told before taken)

-- the error sink gained the line of the status, or, where it failed, a front of the line of a status
abbrev pub IsLine : Option (List ℕ) → List ℕ → List ℕ → ℕ → ℕ → Status → Type 0
IsLine script before after p q status =
    (after ≡ before ++ status_line script status) ⊎ (Rose p q × ((s : Status) × (k : ℕ) × (after ≡ before ++ take k (status_line script s))))

-- ---- one statement

-- what is done of an effect that isn't done whole
abbrev pub IsPartOf : Effect → Files → Files → Bool → List ℕ → List ℕ → Type 0
IsPartOf (Bind name value) files after told taken now = (after ≡ files) × (now ≡ taken)
IsPartOf (BindEach names values) files after told taken now = (after ≡ files) × (now ≡ taken)
IsPartOf (Print text) files after told taken now = (after ≡ files) × (IsTrue told → (k : ℕ) × (now ≡ taken ++ take k text.items))
IsPartOf (Write name bytes) files after told taken now = MayHold bytes (files name) (after name) × OthersSame name files after × (now ≡ taken)

abbrev pub PerformBroken : Effect → Files → Files → Bool → List ℕ → List ℕ → Result (Unit {0}) Stopped → Type 0
PerformBroken e files after told taken now (Ok u) = Unit {0}
PerformBroken e files after told taken now (Err stopped) = IsPartOf e files after told taken now

-- what is done of a statement that isn't carried out
abbrev pub IsPart : Line → Names → Files → Files → Bool → List ℕ → List ℕ → Type 0
IsPart l names files after told taken now =
    (more : List ℕ) × (IsTrue told → now ≡ taken ++ more) × ((ls : List Line) (text : List ℕ) → IsBroken (l ∷ ls) (at names files text) after (text ++ more))

abbrev pub StepBroken : Line → Names → Files → Files → Bool → List ℕ → List ℕ → Result (Unit {0}) Stopped → Type 0
StepBroken l names files after told taken now (Ok u) = Unit {0}
StepBroken l names files after told taken now (Err stopped) = IsPart l names files after told taken now
