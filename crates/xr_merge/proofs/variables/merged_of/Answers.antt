use Rattle.std.proofs.Common.{◌≡◌, ◌≤◌, ◌∙◌, Ok, ap, arith, length, rules, sym}
use Rattle.xr_merge.proofs.Overriding.{first_held, several_told}
use Rattle.xr_merge.proofs.variables.merged_of.Goals as goal

pub returns-in_ok-own-in-len1-clause-ready : goal.returns-in_ok-own-in-len1-clause-ready
returns-in_ok-own-in-len1-clause-ready g c =
    let some : 1 ≤ length c.args.vars.now = omega arith in
    c.in_ok-own-in-len1.ensures.ready c.args.plan.now c.args.axes.now (first_held c.args.plan.now c.args.axes.now c.args.vars.now c.one-item.result some c.one-item.is c.requires.held)

pub returns-in_ok-overridden-in-Override-clause-answers : goal.returns-in_ok-overridden-in-Override-clause-answers
returns-in_ok-overridden-in-Override-clause-answers g c =
    let isnt : length c.args.vars.now ≡ 1 → ⊥ = λ e. omega (arith, e, c.in-len2-up.len_at_least) in
    several_told c.args.plan.now c.args.compat c.args.name.now c.args.vars.now (search rules) isnt ∙ ap Ok (sym (c.in_ok-overridden-in-Override.ensures.is c.args.plan.now c.args.axes.now c.requires.held))

pub returns-in_ok-overridden-in-Override-clause-ready : goal.returns-in_ok-overridden-in-Override-clause-ready
returns-in_ok-overridden-in-Override-clause-ready g c = c.in_ok-overridden-in-Override.ensures.ready c.args.plan.now c.args.axes.now c.requires.held
