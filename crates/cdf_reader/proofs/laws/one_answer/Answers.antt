use Rattle.std.proofs.Common.{◌<◌, ℕ, List, length, inl, inr, arith}
use Rattle.std.specs.List.{All}
use Rattle.std.proofs.lemmas.Bool.{cases_lt}
use Rattle.std.proofs.lemmas.List.{get_or_past}
use Rattle.xr_files.proofs.FormatLaws.{IsBytes}
use Rattle.xr_files.proofs.FileLaws.{spelled_is_given, met_is_given, some_answer}
use Rattle.cdf_reader.proofs.laws.one_answer.Goals as goal

bytes_from_All : (bytes : List ℕ) → All (λ b. b < 256) bytes → IsBytes bytes
bytes_from_All bytes h i =
    elim (cases_lt i (length bytes)) [
      | inl lt ↦ h i 0 lt
      | inr le ↦ rw (get_or_past bytes i 0 le) (omega arith)
    ]

pub returns-clause-spelled : goal.returns-clause-spelled
returns-clause-spelled c = spelled_is_given

pub returns-clause-met : goal.returns-clause-met
returns-clause-met c = met_is_given

pub returns-clause-some : goal.returns-clause-some
returns-clause-some c = λ bytes h. some_answer bytes (bytes_from_All bytes h)
