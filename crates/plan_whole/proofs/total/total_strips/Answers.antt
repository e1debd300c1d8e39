use Rattle.std.proofs.Common.{◌≤◌, ◌∙◌, ap, arith, length}
use Rattle.std.proofs.lemmas.List.{take_all}
use Rattle.std.specs.Int.{int_wrap, w64}
use Rattle.xr_arrays.specs.Folds.{sum_of}
use Rattle.plan_core.specs.Rows.{those}
use Rattle.plan_whole.proofs.total.total_strips.Goals as goal

pub returns : goal.returns
returns g c =
    let cells = (g.S.Strips.whole c.args.source.now).cells in
    let long = c.requires.array.whole in
    let count = c.requires.count in
    let test = c.strips-test.false in
    let all : length cells ≤ c.strips.from = omega (arith, long, count, test) in
    c.strips.invariant.sum ∙ ap (λ t. int_wrap w64 (sum_of (those t))) (take_all c.strips.from cells all)
