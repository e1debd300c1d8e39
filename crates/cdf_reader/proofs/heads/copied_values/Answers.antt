use Rattle.std.proofs.Common.{sym}
use Rattle.std.proofs.lemmas.Result.{IfOk-weaker}
use Rattle.cdf_reader.specs.Heads.{header_seen}
use Rattle.cdf_reader.proofs.heads.copied_values.Goals as goal

pub returns : goal.returns
returns c =
    let distance = rw (c.as_slice-dims.ensures, c.as_slice.ensures) at c.distance_of.ensures in
    IfOk-weaker c.raw_at.result _ _ (λ raw is. is (header_seen c.args.head.now) (sym c.as_slice-dims.ensures) distance) c.raw_at.ensures
