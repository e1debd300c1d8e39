use Rattle.std.proofs.Common.{◌∙◌, sym}
use Rattle.xr_concat.proofs.Single.{nameless_held, nameless_is, only, with_vars}
use Rattle.xr_concat.proofs.sets.nameless.Goals as goal

pub returns-in_ok-one-in-len1-clause-is : goal.returns-in_ok-one-in-len1-clause-is
returns-in_ok-one-in-len1-clause-is c = λ nodes.
    nameless_is nodes c.args.set.now c.in_ok-one-in-len1.one c.var-item.result (sym c.as_slice.ensures.variables ∙ only c.as_slice.result.now c.var-item.result c.in-len1.len_at_least c.in-len1.len_below c.var-item.is)
    (c.in_ok-one-in-len1.ensures ∙ with_vars c.args.set.now c.in_ok-vars-in-len1.vars c.var-item.result c.in_ok-vars-in-len1.ensures)

pub returns-in_ok-one-in-len1-clause-held : goal.returns-in_ok-one-in-len1-clause-held
returns-in_ok-one-in-len1-clause-held c = λ nodes.
    nameless_held nodes c.args.set.now c.in_ok-one-in-len1.one c.var-item.result (sym c.as_slice.ensures.variables ∙ only c.as_slice.result.now c.var-item.result c.in-len1.len_at_least c.in-len1.len_below c.var-item.is)
    (c.in_ok-one-in-len1.ensures ∙ with_vars c.args.set.now c.in_ok-vars-in-len1.vars c.var-item.result c.in_ok-vars-in-len1.ensures)
