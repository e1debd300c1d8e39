use Rattle.std.proofs.Common.{rules}
use Rattle.xr_defs.specs.Building.{bound}
use Rattle.xr_relations.specs.Times.{times_given}
use Rattle.xr_reindexing.proofs.time_labels.times.Goals as goal

pub returns-in_err-units-clause-means : goal.returns-in_err-units-clause-means
unfolding times_given bound
returns-in_err-units-clause-means c = λ nodes. let b = c.in_ok-values.ensures nodes in let a = c.argument.ensures nodes in let r = c.in_err-units.ensures nodes in search rules

pub returns-in_err-counts-clause-means : goal.returns-in_err-counts-clause-means
unfolding times_given bound
returns-in_err-counts-clause-means c = λ nodes.
    let b = c.in_ok-values.ensures nodes in let a = c.argument.ensures nodes in let r = c.in_ok-units.ensures nodes in let d = c.argument-2.ensures nodes in let s = c.in_err-counts.ensures nodes in search rules

pub returns-clause-means : goal.returns-clause-means
unfolding times_given bound
returns-clause-means c = λ nodes.
    let b = c.in_ok-values.ensures nodes in let a = c.argument.ensures nodes in let r = c.in_ok-units.ensures nodes in let d = c.argument-2.ensures nodes in let s = c.in_ok-counts.ensures nodes in
    let o = c.option.ensures nodes in let t = c.times_by.ensures.means nodes in search rules
