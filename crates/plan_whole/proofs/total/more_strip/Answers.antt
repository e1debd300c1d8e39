use Rattle.std.proofs.Common.{◌≡◌, ◌∙◌, ap, arith, take, drop, to_z, of_z}
use Rattle.std.proofs.lemmas.Int.{to_z-of_z, ints}
use Rattle.std.specs.Int.{int_wrap, w64}
use Rattle.xr_arrays.specs.Arrays.{Array}
use Rattle.xr_arrays.specs.Folds.{sum_of}
use Rattle.plan_core.specs.Rows.{those}
use Rattle.plan_whole.proofs.Totals.{part_more}
use Rattle.plan_whole.proofs.total.more_strip.Goals as goal

pub returns : goal.returns
returns g c =
    let cells = (g.S.Strips.whole c.args.source.now).cells in
    let before : to_z w64 (of_z w64 c.args.so_far) ≡ c.args.so_far = to_z-of_z w64 c.args.so_far (omega (arith, ints)) in
    let part : to_z w64 (of_z w64 c.total.result) ≡ int_wrap w64 (sum_of (those (take c.args.n (drop c.args.from cells)))) = to_z-of_z w64 c.total.result (omega (arith, ints)) ∙ c.total.ensures.sum ∙ ap (λ (a : Array). int_wrap w64 (sum_of (those a.cells))) c.in_ok-strip.ensures in
    to_z-of_z w64 c.added.result (omega (arith, ints)) ∙ part_more cells c.args.from c.args.n _ _ c.added.result (before ∙ c.requires.so_far) part c.added.ensures
