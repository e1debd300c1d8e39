-- Values of variables, where they lie.
use Rattle.std.specs.Prelude.{◌<◌, ◌≤◌, ℕ, List, length, All, ⊤}
use Rattle.xr_types.specs.declared.attr.Attr.{Attr}
use Rattle.xr_files.specs.declared.file.CdfDim.{CdfDim}
use Rattle.xr_files.specs.declared.file.CdfVar.{CdfVar}
use Rattle.xr_files.specs.declared.file.CdfFile.{CdfFile}
use Rattle.xr_files.specs.Files.{most_bytes}
use Rattle.cdf_reader.specs.Heads.{var_seen}
use Rattle.xr_decode.specs.Readable.{IsReadable}
use Rattle.xr_decode.specs.declared.place.Place.{Place}
use Rattle.xr_decode.specs.declared.place.Place.TheVariants.{Together, InRecords}

abbrev pub values_in : Place → List ℕ
values_in (Together raw) = raw
values_in (InRecords bytes head var) = (var_seen bytes.now head.now var.now).raw

abbrev pub AreBytes : List ℕ → Type 0
AreBytes raw = All (λ b. b < 256) raw

-- the values that a variable holds are bytes
abbrev pub HoldsBytes : CdfVar → Type 0
HoldsBytes v = AreBytes v.raw

abbrev pub IsShort : Place → Type 0
IsShort (Together raw) = ⊤
IsShort (InRecords bytes head var) = length bytes.now ≤ most_bytes

pub record IsPlace (p : Place) : Type 0 where
  pub short : IsShort p
  pub bytes : AreBytes (values_in p)

-- ---- a file of which the parts fit together, and whose values are bytes

abbrev pub file_of : ℕ → ℕ → List CdfDim → List Attr → List CdfVar → CdfFile
file_of version numrecs dims attrs vars = record { version = version; numrecs = numrecs; dims = dims; attrs = attrs; vars = vars }

pub record IsSource (f : CdfFile) : Type 0 where
  pub readable : IsReadable f
  pub bytes : All HoldsBytes f.vars
