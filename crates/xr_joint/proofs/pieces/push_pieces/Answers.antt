use Rattle.std.proofs.Common.{◌<◌, length, map}
use Rattle.xr_values.specs.declared.variable.Variable.{Variable}
use Rattle.xr_aligning.proofs.Loops.{holds_here}
use Rattle.xr_joint.proofs.Placing.{each_mapped}
use Rattle.xr_joint.proofs.pieces.push_pieces.Goals as goal

pub piece_of-requires-clause-inside : goal.piece_of-requires-clause-inside
piece_of-requires-clause-inside g c κs within =
    let vars = c.args.vars.now in
    let plan = c.args.plan.now in
    holds_here vars c.loop-var.var-index c.var-item.result c.loop-var-test.true c.var-item.is (λ v. v.now.node < length plan) (each_mapped (λ (v : Variable). v.node < length plan) (λ v. v.now) vars c.requires.placed)
