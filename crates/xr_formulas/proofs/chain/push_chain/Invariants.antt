use Rattle.std.proofs.Common.{drop}
use Rattle.xr_formulas.proofs.Chains.{IsOn}
use Rattle.xr_formulas.proofs.chain.push_chain.Given as goal

abbrev pub invariant-loop-step : goal.invariant-loop-step
invariant-loop-step l = IsOn l.fn.plan l.plan l.fn.chain l.node (drop l.step-index l.steps)
