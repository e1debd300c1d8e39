use Rattle.std.proofs.Common.{take}
use Rattle.xr_arrays.specs.Added.{AddsAtMost}
use Rattle.plan_core.specs.Plans.{Grows}
use Rattle.xr_decode.specs.Held.{AreHeld, data_cells, data_in}
use Rattle.xr_decode.proofs.parts.variables_in.Given as goal

abbrev pub invariant-loop-var : goal.invariant-loop-var
invariant-loop-var l = record {
  grown : Grows l.fn.plan l.plan;
  held : AreHeld l.source l.mask l.plan l.kept (data_in l.source (take l.var-index l.vars));
  cells : AddsAtMost l.fn.plan l.plan (data_cells l.source (take l.var-index l.vars));
}
