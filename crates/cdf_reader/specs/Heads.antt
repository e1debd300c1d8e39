-- A file without its values, and the file that it stands for over the bytes.
use Rattle.std.specs.Prelude.{◌≡◌, ℕ, List, length, map, drop, Some, Result, Ok, Err}
use Rattle.xr_types.specs.declared.fault.CdfKind.{CdfKind}
use Rattle.xr_files.specs.declared.file.VarHead.{VarHead}
use Rattle.xr_files.specs.declared.file.CdfVar.{CdfVar}
use Rattle.xr_files.specs.declared.file.CdfFile.{CdfFile}
use Rattle.xr_files.specs.Classic.{Header, header}
use Rattle.xr_files.specs.Files.{version_in, records_of, var_of}
use Rattle.cdf_reader.specs.declared.heads.FileHead.{FileHead}
use Rattle.cdf_reader.specs.declared.fault.CdfFault.{CdfFault}
use Rattle.cdf_reader.specs.declared.fault.CdfFault.TheVariants.{At, NoMemory}

-- the head of a header, with its records counted in the bytes
abbrev pub head_of : ℕ → List ℕ → Header → FileHead
head_of version bytes h = record { version = version; numrecs = records_of h (length bytes); dims = h.dims; attrs = h.attrs; vars = h.vars }

abbrev pub header_seen : FileHead → Header
header_seen h = record { numrecs = Some h.numrecs; dims = h.dims; attrs = h.attrs; vars = h.vars }

-- a variable of the head, with its values in the bytes
abbrev pub var_seen : List ℕ → FileHead → VarHead → CdfVar
var_seen bytes h v = var_of bytes (header_seen h) h.numrecs v

-- the file that the head stands for over the bytes
abbrev pub file_seen : List ℕ → FileHead → CdfFile
file_seen bytes h = record { version = h.version; numrecs = h.numrecs; dims = h.dims; attrs = h.attrs; vars = map (var_seen bytes h) h.vars }

-- the head of the file, or the fault and its place, unless memory ran out
abbrev pub Sees : List ℕ → Result FileHead CdfFault → Result CdfFile (CdfKind × ℕ) → Type 0
Sees bytes (Ok h) told = told ≡ Ok (file_seen bytes h)
Sees bytes (Err (At kind offset)) told = told ≡ Err (kind, offset)
Sees bytes (Err NoMemory) told = Unit {0}

-- the head is that of the header that stands behind the bytes' magic
pub record Lists (bytes : List ℕ) (h : FileHead) : Type 0 where
  pub version : version_in bytes ≡ Some h.version
  pub head : Header
  pub rest : List ℕ
  pub read : (header h.version).reads (drop 4 bytes) ≡ Ok (head, rest)
  pub listed : h ≡ head_of h.version bytes head
