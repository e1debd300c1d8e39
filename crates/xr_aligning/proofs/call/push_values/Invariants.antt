use Rattle.std.proofs.Common.{drop, take}
use Rattle.xr_aligning.proofs.Placing.{IsOn}
use Rattle.xr_aligning.proofs.call.push_values.Given as goal

abbrev pub invariant-loop-one : goal.invariant-loop-one
invariant-loop-one l = IsOn l.fn.plan l.fill l.fn.out l.plan (take l.one-index l.coming) (drop l.one-index l.coming) l.out
