use Rattle.std.proofs.Common.{drop, take}
use Rattle.xr_chunking.proofs.VarsCut.{AreOn}
use Rattle.xr_chunking.proofs.sets.variables_cut.Given as goal

abbrev pub invariant-loop-var : goal.invariant-loop-var
invariant-loop-var l = AreOn l.sizes l.axes l.fn.plan l.plan (take l.var-index l.vars) (drop l.var-index l.vars) l.out
