use Rattle.std.proofs.Common.{◌≡◌, ◌≤◌, ◌∙◌, ap, arith}
use Rattle.xr_types.specs.Points.{size}
use Rattle.xr_arrays.specs.Nodes.{nothing, value, most_node_cells}
use Rattle.xr_arrays.specs.declared.node.Node.TheVariants.{Source}
use Rattle.plan_core.proofs.Needs.{value_small}
use Rattle.plan_core.proofs.Valued.{value_is_array}
use Rattle.plan_whole.proofs.strips.collect_cells.Goals as goal

pub collect_strips-requires-clause-array : goal.collect_strips-requires-clause-array
collect_strips-requires-clause-array c = value_is_array c.args.nodes.now c.args.at c.requires.fit c.requires.at_there

pub collect_strips-requires-clause-total : goal.collect_strips-requires-clause-total
collect_strips-requires-clause-total c =
    let small : size (value c.args.nodes.now c.args.at).shape ≤ most_node_cells = value_small c.args.nodes.now c.args.at (Source nothing) c.requires.fit c.requires.at_there in
    let e : size c.deref.result.now ≡ size (value c.args.nodes.now c.args.at).shape = ap size (c.deref.ensures.value ∙ c.in_ok-sizes.ensures) in
    let p = c.points-total.ensures in
    omega (arith, small, e, p)
