-- The head of a file, and the file that it stands for.
use Rattle.std.proofs.Common.{◌≡◌, ℕ, List, map, drop, Some, Result, Ok, Err, IfOk, refl, sym, ap, subst}
use Rattle.std.proofs.lemmas.Result.{IfOk-weaker}
use Rattle.xr_types.specs.declared.fault.CdfKind.{CdfKind}
use Rattle.xr_files.specs.declared.file.CdfFile.{CdfFile}
use Rattle.xr_files.specs.declared.file.CdfVar.{CdfVar}
use Rattle.xr_files.specs.Classic.{Header, header}
use Rattle.xr_files.specs.Files.{version_in}
use Rattle.cdf_reader.specs.declared.heads.FileHead.{FileHead}
use Rattle.cdf_reader.specs.declared.fault.CdfFault.{CdfFault}
use Rattle.cdf_reader.specs.declared.fault.CdfFault.TheVariants.{At, NoMemory}
use Rattle.cdf_reader.specs.Answers.{Answers}
use Rattle.cdf_reader.specs.Heads.{head_of, var_seen, file_seen, Sees, Lists}

pub is_listed : (bytes : List ℕ) (v : ℕ) (head : Header) (rest : List ℕ) (r : Result FileHead CdfFault) → version_in bytes ≡ Some v → (header v).reads (drop 4 bytes) ≡ Ok (head, rest)
    → IfOk r (λ h. h ≡ head_of v bytes head) → IfOk r (λ h. Lists bytes h)
is_listed bytes v head rest r version read e =
    IfOk-weaker r _ _ (λ h is. subst (Lists bytes) (sym is) (record { version = version; head = head; rest = rest; read = read; listed = refl })) e

-- a fault of the head is the file's
pub same_fault : (bytes : List ℕ) (e : CdfFault) (told : Result CdfFile (CdfKind × ℕ)) → Sees bytes (Err e) told → Answers (Err e) told
same_fault bytes (At kind offset) told h = h
same_fault bytes NoMemory told h = tt

abbrev pub with_vars : FileHead → List CdfVar → CdfFile
with_vars h vars = record { version = h.version; numrecs = h.numrecs; dims = h.dims; attrs = h.attrs; vars = vars }

pub is_seen : (bytes : List ℕ) (h : FileHead) (vars : List CdfVar) → vars ≡ map (var_seen bytes h) h.vars → with_vars h vars ≡ file_seen bytes h
is_seen bytes h vars e = ap (with_vars h) e
