use Rattle.std.proofs.Common.{◌∙◌, ap}
use Rattle.xr_arrays.specs.Nodes.{folded}
use Rattle.plan_core.proofs.Takes.{if_ok}
use Rattle.plan_whole.proofs.Evaluated.{fold_fits}
use Rattle.plan_whole.proofs.eval.fold_tree.Goals as goal

pub fold-requires : goal.fold-requires
fold-requires c =
    let f = fold_fits c.args.nodes.now c.args.at c.in-Some.a.now c.args.feeds.now c.requires.tree.fit c.requires.tree.at_there c.requires.feeds c.requires.fed c.requires.small c.in-Some.ensures in
    record { array = f.array; feeds = f.feeds_are; fed = f.fed; few = f.few; small = f.small }

pub returns-in-Some : goal.returns-in-Some
returns-in-Some c = if_ok c.fold.result _ _ (λ b is. is ∙ ap (folded c.args.kind c.args.feeds.now) c.in-Some.ensures) c.fold.ensures
