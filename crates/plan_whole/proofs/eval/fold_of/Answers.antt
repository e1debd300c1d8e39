use Rattle.std.proofs.Common.{◌∙◌, ap, sym, option_map, arith}
use Rattle.xr_arrays.specs.Nodes.{folded, nothing}
use Rattle.xr_arrays.specs.declared.node.Node.TheVariants.{Source}
use Rattle.plan_core.proofs.Takes.{if_ok}
use Rattle.plan_needs.proofs.Strands.{strand_tree, strand_value}
use Rattle.plan_whole.proofs.Evaluated.{fold_fits}
use Rattle.plan_whole.proofs.eval.fold_of.Goals as goal

pub fold-requires : goal.fold-requires
fold-requires c =
    let s = c.requires.strand in
    let here = strand_value c.args.nodes.now c.args.done.now c.args.at c.in-Some.a.now s (sym (ap (option_map (λ a. a.now)) c.in-Some.is) ∙ c.standing.ensures) in
    let f = fold_fits c.args.nodes.now c.args.at c.in-Some.a.now c.args.feeds.now s.fit (let b = s.before in let u = s.user_there in omega (arith, b, u)) c.requires.feeds c.requires.fed c.requires.small here in
    record { array = f.array; feeds = f.feeds_are; fed = f.fed; few = f.few; small = f.small }

pub returns-in-Some : goal.returns-in-Some
returns-in-Some c =
    let here = strand_value c.args.nodes.now c.args.done.now c.args.at c.in-Some.a.now c.requires.strand (sym (ap (option_map (λ a. a.now)) c.in-Some.is) ∙ c.standing.ensures) in
    if_ok c.fold.result _ _ (λ b is. is ∙ ap (folded c.args.kind c.args.feeds.now) here) c.fold.ensures

pub fold_tree-requires : goal.fold_tree-requires
fold_tree-requires c =
    record {
      tree = strand_tree c.args.nodes.now c.args.done.now c.args.at (Source nothing) c.requires.strand (sym (ap (option_map (λ a. a.now)) c.in-None.is) ∙ c.standing.ensures);
      feeds = c.requires.feeds;
      fed = c.requires.fed;
      small = c.requires.small;
    }
