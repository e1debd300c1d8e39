use Rattle.std.proofs.Common.{◌∷◌, [], sym, ap, ◌∙◌}
use Rattle.std.proofs.lemmas.Result.{IfOk-weaker}
use Rattle.xr_times.specs.Counts.{written_unit}
use Rattle.xr_defs.specs.Encoding.{stored_labels, stored_times}
use Rattle.xr_encode.specs.Outlines.{outline_of}
use Rattle.xr_encode.proofs.outline.labels_outline.Goals as goal

pub returns-in-Times : goal.returns-in-Times
returns-in-Times c =
    let name = c.args.name.now in
    let attrs = c.args.attrs.now in
    let coding = c.in-Times.coding in
    let is = ap (λ ds. outline_of (stored_times name ds attrs coding [] (written_unit coding.units c.as_slice.result.now))) c.in_ok-dims.ensures
    ∙ ap (λ ts. outline_of (stored_times name (name ∷ []) attrs coding [] (written_unit coding.units ts))) c.as_slice.ensures ∙ sym (ap (λ l. outline_of (stored_labels name attrs l)) c.in-Times.is) in
    IfOk-weaker c.times_outline.result _ _ (λ o e. e ∙ is) c.times_outline.ensures
