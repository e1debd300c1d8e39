-- What a statement does, and what it leaves.
use Rattle.std.specs.Prelude.{◌≡◌, ◌≢◌, ◌≤◌, ◌⊎◌, ℕ, Bool, List, ◌++◌, IsTrue, Result, Ok, Err, map, All}
use Rattle.xr_defs.specs.Stores.{Files}
use Rattle.xr_syntax.specs.Syntax as tree
use Rattle.xr_syntax.specs.Syntax.{Line}
use Rattle.xr_runs.specs.Evaluation.{Names}
use Rattle.xr_runs.specs.Runs.{State, step, with_name, with_names, with_text, with_file, written_by}
use Rattle.xr_arrays.specs.declared.node.Node.{Node}
use Rattle.xr_values.specs.Meaning.{meaning, IsValueIn}
use Rattle.xr_run.specs.declared.effect.Effect.{Effect}
use Rattle.xr_run.specs.declared.effect.Effect.TheVariants.{Bind, BindEach, Print, Write}
use Rattle.xr_run.specs.declared.stopped.Stopped.{Stopped}
use Rattle.xr_run.specs.declared.stopped.Stopped.TheVariants.{Refused, Storage, NoMemory}
use Rattle.xr_outside.specs.Outside.{Rose}

abbrev pub at : Names → Files → List ℕ → State
at names files text = record { names = names; files = files; text = text }

-- what a statement does to a state once nothing refuses it
abbrev pub done : List Node → Effect → State → State
done nodes (Bind name value) s = with_name s name (meaning nodes value)
done nodes (BindEach names values) s = with_names s names (map (meaning nodes) values)
done nodes (Print text) s = with_text s text.items
done nodes (Write name bytes) s = with_file s name bytes

-- the arrays and datasets that it binds are of the plan
abbrev pub IsEffectIn : List Node → Effect → Type 0
IsEffectIn nodes (Bind name value) = IsValueIn nodes value
IsEffectIn nodes (BindEach names values) = All (IsValueIn nodes) values
IsEffectIn nodes (Print text) = Unit {0}
IsEffectIn nodes (Write name bytes) = Unit {0}

-- what a statement does is found over these names and files, whatever was printed before
abbrev pub EffectIs : List Node → Line → Names → Files → Result Effect Stopped → Type 0
EffectIs nodes l names files (Ok e) = (text : List ℕ) → step l (at names files text) ≡ Ok (done nodes e (at names files text))
EffectIs nodes l names files (Err (Refused f)) = (text : List ℕ) → step l (at names files text) ≡ Err f
EffectIs nodes l names files (Err Storage) = Unit {0}
EffectIs nodes l names files (Err NoMemory) = Unit {0}

-- only print prints; only to_netcdf puts a file, and it is the one that the statement names
abbrev pub IsOf : Names → Files → Line → Effect → Type 0
IsOf names files l (Bind name value) = Unit {0}
IsOf names files l (BindEach targets values) = Unit {0}
IsOf names files (tree.Printed e) (Print text) = Unit {0}
IsOf names files l (Print text) = ⊥
IsOf names files (tree.Written e) (Write name bytes) = written_by names files e ≡ Ok (name, bytes)
IsOf names files l (Write name bytes) = ⊥

abbrev pub EffectFits : Names → Files → Line → Result Effect Stopped → Type 0
EffectFits names files l (Ok e) = IsOf names files l e
EffectFits names files l (Err stopped) = Unit {0}

-- it is done: the names, the files and what a sink that tells it took, before and after
abbrev pub PerformIs : List Node → Effect → Names → Names → Files → Files → Bool → List ℕ → List ℕ → Result (Unit {0}) Stopped → Type 0
PerformIs nodes e names after files files_after told taken now (Ok u) =
    (more : List ℕ) × (IsTrue told → now ≡ taken ++ more) × ((text : List ℕ) → done nodes e (at names files text) ≡ at after files_after (text ++ more))
PerformIs nodes e names after files files_after told taken now (Err stopped) = Unit {0}

-- the files but the one that it puts hold what they held
abbrev pub PerformKeeps : Effect → Files → Files → Type 0
PerformKeeps (Bind name value) files after = after ≡ files
PerformKeeps (BindEach names values) files after = after ≡ files
PerformKeeps (Print text) files after = after ≡ files
PerformKeeps (Write name bytes) files after = (n : List ℕ) → n ≢ name → after n ≡ files n

-- a statement is carried out, and the sink gains its text; or it is refused and changes nothing
abbrev pub StepIs : Line → Names → Names → Files → Files → Bool → List ℕ → List ℕ → Result (Unit {0}) Stopped → Type 0
StepIs l names after files files_after told taken now (Ok u) =
    (more : List ℕ) × (IsTrue told → now ≡ taken ++ more) × ((text : List ℕ) → step l (at names files text) ≡ Ok (at after files_after (text ++ more)))
StepIs l names after files files_after told taken now (Err (Refused f)) =
    (after ≡ names) × (files_after ≡ files) × (now ≡ taken) × ((text : List ℕ) → step l (at names files text) ≡ Err f)
StepIs l names after files files_after told taken now (Err Storage) = Unit {0}
StepIs l names after files files_after told taken now (Err NoMemory) = Unit {0}

-- a statement puts a file of this name
abbrev pub PutsName : Line → Names → Files → List ℕ → Type 0
PutsName (tree.Written e) names files n = (bytes : List ℕ) × (written_by names files e ≡ Ok (n, bytes))
PutsName l names files n = ⊥

-- the files but one that it puts hold what they held, however it ends
abbrev pub StepKeeps : Line → Names → Files → Files → Type 0
StepKeeps l names files after = (n : List ℕ) → (PutsName l names files n → ⊥) → after n ≡ files n

-- the counts of a store and of a sink: one of them rose where one failed, and else both are as before
abbrev pub BothTallied : {T : Type 0} → ℕ → ℕ → ℕ → ℕ → Result T Stopped → Type 0
BothTallied a b x y (Ok u) = (b ≡ a) × (y ≡ x)
BothTallied a b x y (Err (Refused f)) = (b ≡ a) × (y ≡ x)
BothTallied a b x y (Err Storage) = (Rose a b ⊎ Rose x y) × (a ≤ b) × (x ≤ y)
BothTallied a b x y (Err NoMemory) = (b ≡ a) × (y ≡ x)

-- the same where nothing is refused
abbrev pub PerformTallied : ℕ → ℕ → ℕ → ℕ → Result (Unit {0}) Stopped → Type 0
PerformTallied a b x y (Ok u) = (b ≡ a) × (y ≡ x)
PerformTallied a b x y (Err (Refused f)) = ⊥
PerformTallied a b x y (Err Storage) = (Rose a b ⊎ Rose x y) × (a ≤ b) × (x ≤ y)
PerformTallied a b x y (Err NoMemory) = (b ≡ a) × (y ≡ x)
