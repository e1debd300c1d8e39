use Rattle.std.proofs.Common.{rules}
use Rattle.xr_runs.specs.Calls.{write_asked}
use Rattle.xr_types.specs.Results.{unless}
use Rattle.dataset_core.proofs.write.write_request.Goals as goal

pub returns-in_err-values : goal.returns-in_err-values
unfolding write_asked unless
returns-in_err-values c = λ nodes inside. let l = c.is_labelled_data.ensures nodes in let b = c.in_err-values.ensures nodes in search rules

pub returns-in_err-required : goal.returns-in_err-required
unfolding write_asked unless
returns-in_err-required c = λ nodes inside. let l = c.is_labelled_data.ensures nodes in let b = c.in_ok-values.ensures nodes in let a = c.argument.ensures nodes in let r = c.in_err-required.ensures nodes in search rules

pub returns-in_err-name : goal.returns-in_err-name
unfolding write_asked unless
returns-in_err-name c = λ nodes inside. let l = c.is_labelled_data.ensures nodes in let b = c.in_ok-values.ensures nodes in let a = c.argument.ensures nodes in let r = c.in_ok-required.ensures nodes in let n = c.in_err-name.ensures nodes in search rules

pub returns-in_err-options : goal.returns-in_err-options
unfolding write_asked unless
returns-in_err-options c = λ nodes inside. let l = c.is_labelled_data.ensures nodes in let b = c.in_ok-values.ensures nodes in let a = c.argument.ensures nodes in let r = c.in_ok-required.ensures nodes in let n = c.in_ok-name.ensures nodes in let o = c.in_err-options.ensures.told nodes in search rules

pub returns-in_err-set : goal.returns-in_err-set
unfolding write_asked unless
returns-in_err-set c = λ nodes inside. let l = c.is_labelled_data.ensures nodes in let b = c.in_ok-values.ensures nodes in let a = c.argument.ensures nodes in let r = c.in_ok-required.ensures nodes in let n = c.in_ok-name.ensures nodes in let o = c.in_ok-options.ensures.told nodes in let s = c.in_err-set.ensures nodes inside in search rules

pub returns : goal.returns
unfolding write_asked unless
returns c = λ nodes inside. let l = c.is_labelled_data.ensures nodes in let b = c.in_ok-values.ensures nodes in let a = c.argument.ensures nodes in let r = c.in_ok-required.ensures nodes in let n = c.in_ok-name.ensures nodes in let o = c.in_ok-options.ensures.told nodes in let s = c.in_ok-set.ensures nodes inside in search rules
