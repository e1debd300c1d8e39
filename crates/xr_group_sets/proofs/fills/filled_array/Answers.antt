use Rattle.std.proofs.Common.{◌∙◌, ap}
use Rattle.xr_defs.specs.Values.{without_fills}
use Rattle.xr_groups.specs.Listed.{axes_by}
use Rattle.xr_group_sets.proofs.Filled.{filled_fits, filled_told}
use Rattle.xr_group_sets.proofs.fills.filled_array.Goals as goal

pub push_chain-requires : goal.push_chain-requires
push_chain-requires c = filled_fits c.args.plan.now c.args.fold c.args.changes.now c.args.fill c.args.on.now c.requires.inside c.requires.bare c.requires.fits c.in_ok-chain.chain c.in_ok-chain.ensures

pub returns-clause-is : goal.returns-clause-is
returns-clause-is c =
    (filled_told c.args.plan.now c.args.fold c.args.changes.now c.args.fill c.args.on.now c.requires.inside c.requires.bare c.requires.fits c.push_chain.new.plan c.in_ok-axes.axes c.in_ok-chain.chain c.in_ok-node.node
    c.in_ok-name.name c.folded_kind.result c.masked_by.result c.in_ok-attrs.attrs c.new.result c.in_ok-chain.ensures (c.in_ok-axes.ensures ∙ ap (axes_by c.args.changes.now) c.as_slice-own.ensures) c.in_ok-node.ensures.value c.in_ok-node.ensures.cells
    c.in_ok-name.ensures c.folded_kind.ensures c.masked_by.ensures (c.in_ok-attrs.ensures ∙ ap without_fills c.as_slice.ensures) c.new.ensures).0

pub returns-clause-room : goal.returns-clause-room
returns-clause-room c =
    (filled_told c.args.plan.now c.args.fold c.args.changes.now c.args.fill c.args.on.now c.requires.inside c.requires.bare c.requires.fits c.push_chain.new.plan c.in_ok-axes.axes c.in_ok-chain.chain c.in_ok-node.node
    c.in_ok-name.name c.folded_kind.result c.masked_by.result c.in_ok-attrs.attrs c.new.result c.in_ok-chain.ensures (c.in_ok-axes.ensures ∙ ap (axes_by c.args.changes.now) c.as_slice-own.ensures) c.in_ok-node.ensures.value c.in_ok-node.ensures.cells
    c.in_ok-name.ensures c.folded_kind.ensures c.masked_by.ensures (c.in_ok-attrs.ensures ∙ ap without_fills c.as_slice.ensures) c.new.ensures).1
