-- What reading a file, and each step of it, answers.
use Rattle.std.specs.Prelude.{◌≡◌, ℕ, Result, Ok, Err}
use Rattle.xr_types.specs.declared.fault.CdfKind.{CdfKind}
use Rattle.xr_files.specs.declared.stop.Stop.{Stop}
use Rattle.xr_files.specs.declared.file.CdfFile.{CdfFile}
use Rattle.cdf_reader.specs.declared.fault.CdfFault.{CdfFault}
use Rattle.cdf_reader.specs.declared.fault.CdfFault.TheVariants.{At, NoMemory}
use Rattle.cdf_reader.specs.declared.fault.WalkFault.{WalkFault}
use Rattle.cdf_reader.specs.declared.fault.WalkFault.TheVariants as walk

-- the file, or the fault and its place, unless memory ran out
abbrev pub Answers : Result CdfFile CdfFault → Result CdfFile (CdfKind × ℕ) → Type 0
Answers (Ok f) told = told ≡ Ok f
Answers (Err (At kind offset)) told = told ≡ Err (kind, offset)
Answers (Err NoMemory) told = Unit {0}

-- where the answer is a fault at a place, this holds of them
abbrev pub IfAt : Result CdfFile CdfFault → (CdfKind → ℕ → Type 0) → Type 0
IfAt (Ok f) P = Unit {0}
IfAt (Err (At kind offset)) P = P kind offset
IfAt (Err NoMemory) P = Unit {0}

-- what a step that takes no memory returned, seen by view, is what the format reads
abbrev pub Reads : {X Y : Type 0} → (X → Y) → Result X Stop → Result Y Stop → Type 0
Reads view (Ok x) read = read ≡ Ok (view x)
Reads view (Err s) read = read ≡ Err s

-- a step failed as the format says, or memory ran out
abbrev pub Fails : {Y : Type 0} → WalkFault → Result Y Stop → Type 0
Fails walk.NoMemory read = Unit {0}
Fails (walk.At s) read = read ≡ Err s

-- what a step returned, seen by view, is what the format reads, unless memory ran out
abbrev pub Gives : {X Y : Type 0} → (X → Y) → Result X WalkFault → Result Y Stop → Type 0
Gives view (Ok x) read = read ≡ Ok (view x)
Gives view (Err e) read = Fails e read
