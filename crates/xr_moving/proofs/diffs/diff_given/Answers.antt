use Rattle.std.proofs.Common.{rules}
use Rattle.xr_operations.specs.Moves.{diff_given}
use Rattle.xr_moving.proofs.diffs.diff_given.Goals as goal

pub returns-in_err-required : goal.returns-in_err-required
unfolding diff_given
returns-in_err-required c = λ nodes. let b = c.in_ok-values.ensures nodes in let a = c.argument.ensures nodes in let r = c.in_err-required.ensures nodes in search rules

pub returns-in_err-dim : goal.returns-in_err-dim
unfolding diff_given
returns-in_err-dim c = λ nodes. let b = c.in_ok-values.ensures nodes in let a = c.argument.ensures nodes in let r = c.in_ok-required.ensures nodes in let n = c.in_err-dim.ensures nodes in search rules

pub returns-in_err-upper : goal.returns-in_err-upper
unfolding diff_given
returns-in_err-upper c = λ nodes.
    let b = c.in_ok-values.ensures nodes in let a = c.argument.ensures nodes in let r = c.in_ok-required.ensures nodes in let n = c.in_ok-dim.ensures nodes in
    let o = c.option.ensures nodes in let m = c.in_err-upper.ensures nodes in search rules

pub returns : goal.returns
unfolding diff_given
returns c = λ nodes.
    let b = c.in_ok-values.ensures nodes in let a = c.argument.ensures nodes in let r = c.in_ok-required.ensures nodes in let n = c.in_ok-dim.ensures nodes in
    let o = c.option.ensures nodes in let m = c.in_ok-upper.ensures nodes in search rules
