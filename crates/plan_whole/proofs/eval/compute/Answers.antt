use Rattle.std.proofs.Common.{◌≡◌, ◌≤◌, ◌∙◌, ap, sym, subst, length, List}
use Rattle.xr_types.specs.Points.{size}
use Rattle.xr_arrays.specs.declared.node.Feed.{Feed}
use Rattle.xr_arrays.specs.Nodes.{folded, kept, value, AreFed, most_node_cells}
use Rattle.plan_core.proofs.Takes.{if_ok}
use Rattle.plan_core.proofs.Needs.{by_inputs, ready}
use Rattle.plan_whole.proofs.Evaluated.{fold_strand, takes_no_strips}
use Rattle.plan_whole.proofs.eval.compute.Goals as goal

pub collect-requires : goal.collect-requires
collect-requires c = record { fit = c.requires.fit; at_there = c.requires.inside; in_strips = sym c.comes_in_strips.ensures ∙ c.if-comes_in_strips.true; inputs = c.requires.strands }

pub fold_of-requires : goal.fold_of-requires
fold_of-requires c =
    let f = fold_strand c.args.nodes.now c.args.done.now c.args.at c.index-nodes-at.result c.in-Fold.kind c.in-Fold.id c.in-Fold.feeds c.requires.fit c.requires.inside c.index-nodes-at.is c.in-Fold.is c.requires.strands in
    let e = sym c.as_slice.ensures in
    record {
      strand = f.strand;
      feeds = subst (λ (fs : List Feed). length fs ≡ length (value c.args.nodes.now c.in-Fold.id).shape) e f.feeds_are;
      fed = subst (λ (fs : List Feed). AreFed fs (value c.args.nodes.now c.in-Fold.id).shape) e f.fed;
      small = subst (λ (fs : List Feed). size (kept fs (value c.args.nodes.now c.in-Fold.id).shape) ≤ most_node_cells) e f.small;
    }

pub returns-in-Fold : goal.returns-in-Fold
returns-in-Fold c =
    let f = fold_strand c.args.nodes.now c.args.done.now c.args.at c.index-nodes-at.result c.in-Fold.kind c.in-Fold.id c.in-Fold.feeds c.requires.fit c.requires.inside c.index-nodes-at.is c.in-Fold.is c.requires.strands in
    if_ok c.fold_of.result _ _ (λ b is. is ∙ ap (λ (fs : List Feed). folded c.in-Fold.kind fs (value c.args.nodes.now c.in-Fold.id)) c.as_slice.ensures ∙ f.is) c.fold_of.ensures

pub value_of-requires : goal.value_of-requires
value_of-requires c =
    let none = takes_no_strips c.args.nodes.now c.args.at c.index-nodes-at.result c.requires.inside c.index-nodes-at.is (sym c.comes_in_strips.ensures ∙ c.if-comes_in_strips.false) c.in_default.not-Fold in
    record { ready = ready c.args.nodes.now c.args.done.now c.args.at c.index-nodes-at.result c.requires.fit c.requires.inside c.index-nodes-at.is (c.requires.held none.takes_none); whole = none.node_takes_none }

pub returns-in_default : goal.returns-in_default
returns-in_default c = if_ok c.value_of.result _ _ (λ a is. is ∙ sym (by_inputs c.args.nodes.now c.args.at c.index-nodes-at.result c.requires.fit c.requires.inside c.index-nodes-at.is)) c.value_of.ensures
