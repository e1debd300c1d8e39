use Rattle.std.proofs.Common.{ℕ, List, sym, ap, ◌∙◌, arith}
use Rattle.std.proofs.lemmas.Result.{IfOk-weaker}
use Rattle.xr_files.specs.Classic.{header}
use Rattle.cdf_reader.specs.Parts.{header_of}
use Rattle.cdf_reader.proofs.Seen.{is_listed}
use Rattle.cdf_reader.proofs.reading.read_head.Goals as goal

pub returns-in-Ok-clause-listed : goal.returns-in-Ok-clause-listed
returns-in-Ok-clause-listed c =
    let version = c.in-Some.version in
    is_listed c.args.bytes.now version (header_of c.in-Ok.parts) c.in-Ok.field-0-1.now c.head_with.result c.in-Some.ensures.0
    (ap (λ (text : List ℕ). (header version).reads text) (sym c.in-Some.ensures.1) ∙ c.in-Ok.ensures) c.head_with.ensures.listed

pub returns-in-Ok-clause-short : goal.returns-in-Ok-clause-short
returns-in-Ok-clause-short c = IfOk-weaker c.head_with.result _ _ (λ h is. omega (arith, c.if-bytes-gt-MOST_FILE_BYTES.false)) c.head_with.ensures.listed
