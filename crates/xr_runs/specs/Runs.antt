-- What a statement does, and what a run of a script gives: the files, the text printed, and how it ended.
use Rattle.std.specs.Prelude.{◌≡◌, ◌+◌, ℕ, codes, length, List, [], ◌∷◌, ◌++◌, Option, Some, None, Result, Ok, Err, if◌then◌else◌}
use Rattle.std.specs.Str.{bytes_eq}
use Rattle.xr_types.specs.declared.fault.Fault.{Fault}
use Rattle.xr_types.specs.declared.fault.Fault.TheVariants.{UnknownName, WrongKind}
use Rattle.xr_types.specs.declared.status.ScriptFault.{ScriptFault}
use Rattle.xr_types.specs.declared.status.Status.{Status}
use Rattle.xr_types.specs.declared.status.Status.TheVariants.{Done, Refused, BadWords, NoScript, BadScript}
use Rattle.xr_types.specs.Results.{◌>>=◌}
use Rattle.xr_syntax.specs.Syntax as tree
use Rattle.xr_syntax.specs.Syntax.{Line, Tree}
use Rattle.xr_syntax.specs.Scripts.{IsScriptText, IsFirstFault}
use Rattle.xr_defs.specs.Stores.{Files}
use Rattle.xr_defs.specs.Meanings.{Given, Value}
use Rattle.xr_relations.specs.Aligning.{align_called, value_assigned}
use Rattle.xr_runs.specs.Calls.{text_printed, set_written}
use Rattle.xr_runs.specs.Evaluation.{Names, named, value_of, given_of}

-- a run so far: what its names stand for, the files, and the text printed. A name stands for a value and not for a
-- file, so a later write doesn't change it.
pub record State : Type 0 where
  pub names : Names
  pub files : Files
  pub text : List ℕ

-- the map with one entry put into it
abbrev pub put : {X : Type 0} → (List ℕ → Option X) → List ℕ → X → List ℕ → Option X
put entries name x other = if bytes_eq other name then Some x else entries other

abbrev pub with_name : State → List ℕ → Value → State
with_name s name v = record s { names = put s.names name v }

-- the map with one entry after another put into it
abbrev pub put_each : {X : Type 0} → (List ℕ → Option X) → List (List ℕ) → List X → List ℕ → Option X
put_each entries [] xs = entries
put_each entries (n ∷ ns) [] = entries
put_each entries (n ∷ ns) (x ∷ xs) = put_each (put entries n x) ns xs

abbrev pub with_names : State → List (List ℕ) → List Value → State
with_names s names vs = record s { names = put_each s.names names vs }

abbrev pub with_text : State → List ℕ → State
with_text s text = record s { text = s.text ++ text }

abbrev pub with_file : State → List ℕ → List ℕ → State
with_file s name bytes = record s { files = put s.files name bytes }

-- the name of the file that a statement puts, and its bytes
unfoldable pub written_by : Names → Files → Tree → Result (List ℕ × List ℕ) Fault
written_by names files (tree.Method e f gs) = value_of names files e >>= λ v. given_of names files gs >>= λ g. set_written v g
written_by names files e = Err WrongKind

-- `align` alone gives several values
unfoldable pub values_aligned : List ℕ → ℕ → Given → Result (List Value) Fault
values_aligned f n g = if bytes_eq f (codes "align") then align_called n g else Err (UnknownName f)

-- The next state, or the statement's first fault.
unfoldable pub step : Line → State → Result State Fault
step (tree.Assigned name e) s = value_of s.names s.files e >>= λ v. Ok (with_name s name v)
step (tree.Aligned names (tree.Call f gs)) s = given_of s.names s.files gs >>= λ g. values_aligned f (length names) g >>= λ vs. Ok (with_names s names vs)
step (tree.Aligned names e) s = Err WrongKind
step (tree.Placed name variable e) s = value_of s.names s.files e >>= λ v. named s.names name >>= λ w. value_assigned w variable v >>= λ t. Ok (with_name s name t)
step (tree.Printed e) s = value_of s.names s.files e >>= λ v. text_printed v >>= λ text. Ok (with_text s text)
step (tree.Written e) s = written_by s.names s.files e >>= λ w. Ok (with_file s w.0 w.1)

-- how a run ended: its status, the files, and the text printed
pub record Ended : Type 0 where
  pub status : Status
  pub files : Files
  pub text : List ℕ

abbrev pub ended : Status → State → Ended
ended status s = record { status = status; files = s.files; text = s.text }

-- the statements in order, the first of them having number n, up to the first that is refused: it changes nothing
unfoldable pub run_from : ℕ → List Line → State → Ended
run_from n [] s = ended Done s
run_from n (l ∷ ls) s = elim (step l s) [ Err f ↦ ended (Refused n f) s | Ok t ↦ run_from (n + 1) ls t ]

-- A name of a file that a run of these statements puts, from this state on: the next one does, or a later one.
pub data IsPut : List Line → State → List ℕ → Type 0 where
  put_now : (e : Tree) (ls : List Line) (s : State) (n bytes : List ℕ) → written_by s.names s.files e ≡ Ok (n, bytes) → IsPut (tree.Written e ∷ ls) s n
  put_later : (l : Line) (ls : List Line) (s t : State) (n : List ℕ) → step l s ≡ Ok t → IsPut ls t n → IsPut (l ∷ ls) s n

-- before the first statement there are no names and no text
abbrev pub start : Files → State
start files = record { names = λ name. None; files = files; text = [] }

-- how the run of a script of these bytes ends
pub data ScriptRun (files : Files) (bytes : List ℕ) : Ended → Type 0 where
  not_begun : (f : ScriptFault) → IsFirstFault bytes f → ScriptRun files bytes (ended (BadScript f) (start files))
  begun : (ls : List Line) → IsScriptText bytes ls → ScriptRun files bytes (run_from 1 ls (start files))

-- How the run of the command ends over these files, where its words give the name of a script, or don't fit. Exactly one
-- end fits.
pub data Run (files : Files) : Option (List ℕ) → Ended → Type 0 where
  no_words : Run files None (ended BadWords (start files))
  no_script : (name : List ℕ) → files name ≡ None → Run files (Some name) (ended NoScript (start files))
  script : (name bytes : List ℕ) (e : Ended) → files name ≡ Some bytes → ScriptRun files bytes e → Run files (Some name) e

-- a name of a file that the run of the command puts
pub data IsPutInRun (files : Files) : Option (List ℕ) → List ℕ → Type 0 where
  put_by : (name bytes n : List ℕ) (ls : List Line) → files name ≡ Some bytes → IsScriptText bytes ls → IsPut ls (start files) n → IsPutInRun files (Some name) n
