use Rattle.std.proofs.Common.{map, sym, ap, ◌∙◌}
use Rattle.std.proofs.lemmas.Result.{IfOk-weaker}
use Rattle.cdf_reader.specs.Heads.{header_seen}
use Rattle.cdf_reader.specs.Strips.{strip_values}
use Rattle.cdf_reader.proofs.heads.gathered_values.Goals as goal

pub returns : goal.returns
returns c =
    let bytes = c.args.bytes.now in
    let distance = rw (c.as_slice-dims.ensures, c.as_slice.ensures) at c.distance_of.ensures in
    IfOk-weaker c.gather.result _ _ (λ raws is. is
    ∙ ap (map (strip_values bytes c.distance_of.result)) c.as_slice-2.ensures.value
    ∙ c.in_ok-strips.ensures bytes (header_seen c.args.head.now) c.requires (sym c.as_slice-dims.ensures) distance) c.gather.ensures
