use Rattle.std.proofs.Common.{◌++◌, subst}
use Rattle.row_folds.proofs.Sources.{run_absorbed}
use Rattle.row_folds.proofs.leaf.with_run.Goals as goal

pub returns-in-Some : goal.returns-in-Some
returns-in-Some g c = λ before is. subst (λ cs. g.A.Accumulator.Is c.with_each.result (before ++ cs)) (run_absorbed (g.S.Source.cells c.args.source) _ c.args.start _ c.args.count c.in-Some.ensures.same) (c.with_each.ensures before is)
