-- What the parts of a statement answer.
use Rattle.std.specs.Prelude.{◌≡◌, ◌≤◌, ℕ, Result, Ok, Err}
use Rattle.xr_types.specs.declared.fault.Fault.{Fault}
use Rattle.xr_outside.specs.Outside.{Rose}
use Rattle.xr_run.specs.declared.stopped.Stopped.{Stopped}
use Rattle.xr_run.specs.declared.stopped.Stopped.TheVariants.{Refused, Storage, NoMemory}

-- the answer is the value or the fault that is told, unless memory ran out
abbrev pub Gives : {A B : Type 0} → (A → B) → Result A Stopped → Result B Fault → Type 0
Gives view (Ok a) told = told ≡ Ok (view a)
Gives view (Err (Refused f)) told = told ≡ Err f
Gives view (Err Storage) told = ⊥
Gives view (Err NoMemory) told = Unit {0}

-- the same, unless the store failed
abbrev pub GivesOrFails : {A B : Type 0} → (A → B) → Result A Stopped → Result B Fault → Type 0
GivesOrFails view (Ok a) told = told ≡ Ok (view a)
GivesOrFails view (Err (Refused f)) told = told ≡ Err f
GivesOrFails view (Err Storage) told = Unit {0}
GivesOrFails view (Err NoMemory) told = Unit {0}

-- a count of faults: it rose where the store or the sink failed, and else it is as before
abbrev pub Tallied : {T : Type 0} → ℕ → ℕ → Result T Stopped → Type 0
Tallied before now (Ok x) = now ≡ before
Tallied before now (Err (Refused f)) = now ≡ before
Tallied before now (Err Storage) = Rose before now × (before ≤ now)
Tallied before now (Err NoMemory) = now ≡ before
