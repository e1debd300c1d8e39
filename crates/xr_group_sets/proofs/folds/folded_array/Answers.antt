use Rattle.std.proofs.Common.{◌∙◌, ap}
use Rattle.xr_defs.specs.Values.{without_fills}
use Rattle.xr_group_sets.proofs.Folded.{fold_fits, fold_told}
use Rattle.xr_group_sets.proofs.folds.folded_array.Goals as goal

pub push_chain-requires : goal.push_chain-requires
push_chain-requires c =
    fold_fits c.args.plan.now c.args.fold c.args.changes.now c.args.fill c.args.on.now c.requires.inside c.requires.fits c.as_slice-own.result.now c.in_ok-feeds.feeds c.in_ok-chain.chain c.as_slice-own.ensures c.in_ok-feeds.ensures c.in_ok-chain.ensures

pub returns-clause-is : goal.returns-clause-is
returns-clause-is c =
    (fold_told c.args.plan.now c.args.fold c.args.changes.now c.args.fill c.args.on.now c.requires.inside c.requires.fits c.push_chain.new.plan c.as_slice-own.result.now c.in_ok-axes.axes c.in_ok-feeds.feeds c.in_ok-chain.chain c.in_ok-node.node
    c.in_ok-name.name c.folded_kind.result c.masked_after.result c.in_ok-attrs.attrs c.new.result c.requires.bare c.as_slice-own.ensures c.in_ok-feeds.ensures c.in_ok-chain.ensures c.in_ok-axes.ensures c.in_ok-node.ensures.value c.in_ok-node.ensures.cells
    c.in_ok-name.ensures c.folded_kind.ensures c.masked_after.ensures (c.in_ok-attrs.ensures ∙ ap without_fills c.as_slice.ensures) c.new.ensures).0

pub returns-clause-room : goal.returns-clause-room
returns-clause-room c =
    (fold_told c.args.plan.now c.args.fold c.args.changes.now c.args.fill c.args.on.now c.requires.inside c.requires.fits c.push_chain.new.plan c.as_slice-own.result.now c.in_ok-axes.axes c.in_ok-feeds.feeds c.in_ok-chain.chain c.in_ok-node.node
    c.in_ok-name.name c.folded_kind.result c.masked_after.result c.in_ok-attrs.attrs c.new.result c.requires.bare c.as_slice-own.ensures c.in_ok-feeds.ensures c.in_ok-chain.ensures c.in_ok-axes.ensures c.in_ok-node.ensures.value c.in_ok-node.ensures.cells
    c.in_ok-name.ensures c.folded_kind.ensures c.masked_after.ensures (c.in_ok-attrs.ensures ∙ ap without_fills c.as_slice.ensures) c.new.ensures).1
