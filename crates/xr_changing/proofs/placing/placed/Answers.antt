use Rattle.xr_changing.proofs.Common.{rules, ◌∙◌}
use Rattle.xr_formulas.specs.declared.chain.Start.TheVariants as starts
use Rattle.xr_changing.proofs.Formed.{coords_renewed}
use Rattle.xr_changing.proofs.NewAxes.{unchanged}
use Rattle.xr_changing.proofs.PlacedArrays.{array_placed, chain_fits, ArrayFits}
use Rattle.xr_changing.proofs.placing.placed.Goals as goal

pub changed_coords-requires : goal.changed_coords-requires
changed_coords-requires c =
    coords_renewed c.args.changes.now c.args.on.now.axes c.as_slice-own.result.now c.as_slice.result.now c.args.on.now.coords c.as_slice-2.result.now c.as_slice-own.ensures c.as_slice-2.ensures (c.as_slice.ensures ∙ c.in_ok-axes.ensures.is) c.requires.inside.formed.coords

pub push_chain-requires : goal.push_chain-requires
push_chain-requires c =
    let fits : ArrayFits c.args.changes.now c.args.fill c.args.on.now = search (rules, unchanged) in
    chain_fits c.args.plan.now c.args.changes.now c.args.fill c.args.on.now c.requires.inside fits _ (search rules)

pub returns-clause-is : goal.returns-clause-is
returns-clause-is c =
    let fits : ArrayFits c.args.changes.now c.args.fill c.args.on.now = search (rules, unchanged) in
    array_placed c.args.plan.now c.args.changes.now c.args.fill c.args.on.now c.requires.inside fits c.requires.within c.push_chain.new.plan c.in_ok-node.node _ (search rules) (record { start = starts.Node c.args.on.now.node; steps = c.in_ok-steps.steps }) (search rules) c.in_ok-node.ensures.value c.in_ok-node.ensures.cells
