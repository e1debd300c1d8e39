use Rattle.std.proofs.Common.{rules}
use Rattle.xr_runs.specs.Calls.{open_asked}
use Rattle.dataset_core.proofs.open.open_request.Goals as goal

pub returns-in_err-required : goal.returns-in_err-required
unfolding open_asked
returns-in_err-required c = λ nodes. let b = c.in_ok-values.ensures nodes in let a = c.argument.ensures nodes in let r = c.in_err-required.ensures nodes in search rules

pub returns-in_err-name : goal.returns-in_err-name
unfolding open_asked
returns-in_err-name c = λ nodes. let b = c.in_ok-values.ensures nodes in let a = c.argument.ensures nodes in let r = c.in_ok-required.ensures nodes in let n = c.in_err-name.ensures nodes in search rules

pub returns-in_err-mask : goal.returns-in_err-mask
unfolding open_asked
returns-in_err-mask c = λ nodes.
    let b = c.in_ok-values.ensures nodes in let a = c.argument.ensures nodes in let r = c.in_ok-required.ensures nodes in let n = c.in_ok-name.ensures nodes in
    let o = c.option.ensures nodes in let m = c.in_err-mask.ensures nodes in search rules

pub returns : goal.returns
unfolding open_asked
returns c = λ nodes.
    let b = c.in_ok-values.ensures nodes in let a = c.argument.ensures nodes in let r = c.in_ok-required.ensures nodes in let n = c.in_ok-name.ensures nodes in
    let o = c.option.ensures nodes in let m = c.in_ok-mask.ensures nodes in search rules
