-- The answer of the walk, as the relations say it.
use Rattle.std.proofs.Common.{ℕ, List, Result, Ok, Err, IfOk}
use Rattle.xr_files.specs.declared.file.CdfFile.{CdfFile}
use Rattle.xr_files.specs.Files.{file_in, Spells, Meets}
use Rattle.xr_files.proofs.FormatLaws.{IsBytes}
use Rattle.xr_files.proofs.FileLaws.{given_is_spelled, given_is_met}
use Rattle.cdf_reader.specs.declared.fault.CdfFault.{CdfFault}
use Rattle.cdf_reader.specs.declared.fault.CdfFault.TheVariants.{At, NoMemory}
use Rattle.cdf_reader.specs.Answers.{Answers, IfAt}

pub spelled_found : (bytes : List ℕ) (r : Result CdfFile CdfFault) → IsBytes bytes → Answers r (file_in bytes) → IfOk r (λ f. Spells bytes f)
spelled_found bytes (Ok f) fits e = given_is_spelled bytes f fits e
spelled_found bytes (Err (At kind offset)) fits e = tt
spelled_found bytes (Err NoMemory) fits e = tt

pub fault_met : (bytes : List ℕ) (r : Result CdfFile CdfFault) → IsBytes bytes → Answers r (file_in bytes) → IfAt r (λ kind offset. Meets bytes kind offset)
fault_met bytes (Ok f) fits e = tt
fault_met bytes (Err (At kind offset)) fits e = given_is_met bytes kind offset fits e
fault_met bytes (Err NoMemory) fits e = tt
