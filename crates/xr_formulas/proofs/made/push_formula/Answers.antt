use Rattle.xr_formulas.proofs.Common.{FormulaFits, grows_on, subst}
use Rattle.xr_formulas.proofs.Mades.{choice_made, pair_made, still_fits}
use Rattle.xr_formulas.proofs.made.push_formula.Goals as goal

pub push_chain-requires-in-Two-2 : goal.push_chain-requires-in-Two-2
push_chain-requires-in-Two-2 c = still_fits c.args.plan.now c.push_chain-in-Two.new.plan c.in-Two.other c.push_chain-in-Two.ensures.grows (subst (FormulaFits c.args.plan.now) c.in-Two.is c.requires).1

pub push-requires : goal.push-requires
push-requires c =
    let fits = subst (FormulaFits c.args.plan.now) c.in-Two.is c.requires in
    (pair_made fits c.in_ok-a-in-Two.ensures.value c.push_chain-in-Two.ensures.grows c.in_ok-b-in-Two.ensures.value c.push_chain-in-Two-2.ensures.grows).0

pub returns-in_ok-node-in-Two : goal.returns-in_ok-node-in-Two
returns-in_ok-node-in-Two c =
    let fits = subst (FormulaFits c.args.plan.now) c.in-Two.is c.requires in
    let made = pair_made fits c.in_ok-a-in-Two.ensures.value c.push_chain-in-Two.ensures.grows c.in_ok-b-in-Two.ensures.value c.push_chain-in-Two-2.ensures.grows in
    let done = made.1 c.push.new.self c.in_ok-node-in-Two.node c.in_ok-node-in-Two.ensures.ok c.in_ok-a-in-Two.ensures.cells c.in_ok-b-in-Two.ensures.cells in
    rw c.in-Two.is (record { value = done.0; grows = done.1; cells = done.2 })

pub push_chain-requires-in-Three-2 : goal.push_chain-requires-in-Three-2
push_chain-requires-in-Three-2 c = still_fits c.args.plan.now c.push_chain-in-Three.new.plan c.in-Three.one c.push_chain-in-Three.ensures.grows (subst (FormulaFits c.args.plan.now) c.in-Three.is c.requires).1

pub push_chain-requires-in-Three-3 : goal.push_chain-requires-in-Three-3
push_chain-requires-in-Three-3 c =
    still_fits c.args.plan.now c.push_chain-in-Three-2.new.plan c.in-Three.other (grows_on _ _ _ c.push_chain-in-Three.ensures.grows c.push_chain-in-Three-2.ensures.grows) (subst (FormulaFits c.args.plan.now) c.in-Three.is c.requires).2

pub push-requires-in-Three : goal.push-requires-in-Three
push-requires-in-Three c =
    let fits = subst (FormulaFits c.args.plan.now) c.in-Three.is c.requires in
    (choice_made fits c.in_ok-cond-in-Three.ensures.value c.push_chain-in-Three.ensures.grows c.in_ok-a-in-Three.ensures.value c.push_chain-in-Three-2.ensures.grows c.in_ok-b-in-Three.ensures.value c.push_chain-in-Three-3.ensures.grows).0

pub returns-in_ok-node-in-Three : goal.returns-in_ok-node-in-Three
returns-in_ok-node-in-Three c =
    let fits = subst (FormulaFits c.args.plan.now) c.in-Three.is c.requires in
    let made = choice_made fits c.in_ok-cond-in-Three.ensures.value c.push_chain-in-Three.ensures.grows c.in_ok-a-in-Three.ensures.value c.push_chain-in-Three-2.ensures.grows c.in_ok-b-in-Three.ensures.value c.push_chain-in-Three-3.ensures.grows in
    let done = made.1 c.push-in-Three.new.self c.in_ok-node-in-Three.node c.in_ok-node-in-Three.ensures.ok c.in_ok-cond-in-Three.ensures.cells c.in_ok-a-in-Three.ensures.cells c.in_ok-b-in-Three.ensures.cells in
    rw c.in-Three.is (record { value = done.0; grows = done.1; cells = done.2 })
