use Rattle.xr_aligning.proofs.Common.{IsVarHere, rules}
use Rattle.xr_aligning.proofs.Firsts.{each_rest}
use Rattle.xr_aligning.proofs.SetsAfter.{empty_put, more_put, rest_put}
use Rattle.xr_aligning.proofs.sets.+put_vars.Goals as goal

pub var_after-requires-clause-var : goal.var_after-requires-clause-var
var_after-requires-clause-var t c = (each_rest (IsVarHere c.args.plan.now c.args.change.now.own.now) c.args.vars.now c.var-item.result c.in-len1-up.len_at_least c.var-item.is c.requires.vars).0

pub put_vars-requires : goal.put_vars-requires
put_vars-requires t c = (search rules, rest_put c.args.plan.now c.var_after.new.plan c.args.change.now c.args.vars.now c.var-item.result c.var_after.ensures.grows c.in-len1-up.len_at_least c.var-item.is c.requires)

pub returns-in-empty-clause-put : goal.returns-in-empty-clause-put
returns-in-empty-clause-put t c = empty_put c.args.change.now.joined.now c.args.change.now.own.now c.args.change.now.fill c.args.plan.now c.args.out.now c.args.vars.now c.in-empty.len_below

pub returns-in_ok-put-in-len1-up-clause-put : goal.returns-in_ok-put-in-len1-up-clause-put
returns-in_ok-put-in-len1-up-clause-put t c =
    let change = c.args.change.now in
    more_put change.joined.now change.own.now change.fill c.put_vars.result c.args.plan.now c.var_after.new.plan c.put_vars.new.plan c.args.out.now c.put.new.self c.args.vars.now c.put_vars.new.out c.var-item.result c.in_ok-one-in-len1-up.one
    c.in-len1-up.len_at_least c.var-item.is c.var_after.ensures.grows c.put_vars.ensures.grows c.requires.vars c.in_ok-one-in-len1-up.ensures.after c.in_ok-put-in-len1-up.ensures.ok c.put_vars.ensures.put
