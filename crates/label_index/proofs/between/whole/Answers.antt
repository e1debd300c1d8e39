use Rattle.std.proofs.Common.{◌≡◌, sym, ◌∙◌, ap, arith, length, ◌-◌}
use Rattle.std.specs.List.{range_with_len}
use Rattle.xr_arrays.specs.Labels.{labels_of}
use Rattle.label_index.proofs.Cutting.{whole_ok, whole_err}
use Rattle.label_index.proofs.between.whole.Goals as goal

pub returns-then-has_end-clause-positions : goal.returns-then-has_end-clause-positions
returns-then-has_end-clause-positions c = whole_err (labels_of c.args.list.now) c.args.from c.args.to c.requires (sym c.has_end.ensures ∙ c.if-has_end.true)

pub returns-clause-positions : goal.returns-clause-positions
returns-clause-positions c =
    let all : c.count.result - 0 ≡ length (labels_of c.args.list.now) = omega (arith, c.count.ensures) in
    whole_ok (labels_of c.args.list.now) c.args.from c.args.to c.span.result.first c.span.result.length c.requires (sym c.has_end.ensures ∙ c.if-has_end.false) (c.span.ensures.positions ∙ ap (range_with_len 0) all)
