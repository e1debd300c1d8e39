use Rattle.plan_needs.proofs.spread.+spread_in.Given as goal

abbrev pub decreases-spread_in : goal.decreases-spread_in
decreases-spread_in l = l.steps
