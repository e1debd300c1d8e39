use Rattle.std.proofs.Common.{take}
use Rattle.xr_combining.proofs.Placed.{AreSoFar}
use Rattle.xr_combining.proofs.placing.push_parts.Given as goal

abbrev pub invariant-loop-part : goal.invariant-loop-part
invariant-loop-part l = AreSoFar l.fn.plan l.plan l.kind l.dims l.front (take l.part-index l.parts) l.nodes
