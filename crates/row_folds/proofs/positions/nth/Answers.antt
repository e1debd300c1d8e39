use Rattle.std.proofs.Common.{◌<◌, ◌-◌, ◌^◌, ◌∙◌, ap, sym, subst, arith, rules, length, get_or}
use Rattle.std.specs.List.{range_with_len}
use Rattle.std.proofs.lemmas.List.FromFn.{length-range_with_len, get_or-range_with_len}
use Rattle.xr_arrays.specs.FeedPositions.{listed}
use Rattle.row_folds.proofs.positions.nth.Goals as goal

pub overflow_add-result : goal.overflow_add-result
overflow_add-result c =
    let lt : c.args.i < length (range_with_len c.in-Range.from (c.in-Range.to - c.in-Range.from)) = subst (λ p. c.args.i < length (listed p)) c.in-Range.is c.requires in
    let long = length-range_with_len c.in-Range.from (c.in-Range.to - c.in-Range.from) in
    let small : c.in-Range.to < 2 ^ 64 = search (rules, arith) in
    omega (arith, lt, long, small)

pub returns-in-Range : goal.returns-in-Range
returns-in-Range c =
    let lt : c.args.i < length (range_with_len c.in-Range.from (c.in-Range.to - c.in-Range.from)) = subst (λ p. c.args.i < length (listed p)) c.in-Range.is c.requires in
    let long = length-range_with_len c.in-Range.from (c.in-Range.to - c.in-Range.from) in
    sym (get_or-range_with_len c.in-Range.from (c.in-Range.to - c.in-Range.from) c.args.i 0 (omega (arith, lt, long))) ∙ ap (λ p. get_or (listed p) c.args.i 0) (sym c.in-Range.is)
