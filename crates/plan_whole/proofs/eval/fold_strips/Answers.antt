use Rattle.std.proofs.Common.{◌≡◌, ◌≤◌, ◌∙◌, [], ap, sym, arith, length}
use Rattle.xr_types.specs.Points.{size}
use Rattle.xr_arrays.specs.Nodes.{folded, kept, nothing, value, most_node_cells}
use Rattle.xr_arrays.specs.declared.node.Node.TheVariants.{Source}
use Rattle.plan_core.proofs.Needs.{value_small}
use Rattle.plan_core.proofs.Takes.{if_ok}
use Rattle.plan_core.proofs.Valued.{value_is_array}
use Rattle.plan_whole.proofs.Evaluated.{fold_fits}
use Rattle.plan_whole.proofs.FoldedCells.{sum_is}
use Rattle.plan_whole.proofs.eval.fold_strips.Goals as goal

pub sums_all-requires : goal.sums_all-requires
sums_all-requires c = c.requires.feeds ∙ ap length (sym (c.deref.ensures.value ∙ c.in_ok-sizes.ensures))

pub sum_strips-requires-clause-array : goal.sum_strips-requires-clause-array
sum_strips-requires-clause-array c = value_is_array c.args.nodes.now c.args.at c.requires.tree.fit c.requires.tree.at_there

pub sum_strips-requires-clause-count : goal.sum_strips-requires-clause-count
sum_strips-requires-clause-count c =
    let small : size (value c.args.nodes.now c.args.at).shape ≤ most_node_cells = value_small c.args.nodes.now c.args.at (Source nothing) c.requires.tree.fit c.requires.tree.at_there in
    let e : size c.deref-then-all.result.now ≡ size (value c.args.nodes.now c.args.at).shape = ap size (c.deref-then-all.ensures.value ∙ c.in_ok-sizes.ensures) in
    let p = c.points-count.ensures in
    omega (arith, small, e, p)

pub returns-then-all : goal.returns-then-all
returns-then-all c =
    let a = value c.args.nodes.now c.args.at in
    let feeds = c.args.feeds.now in
    let shape = c.deref.ensures.value ∙ c.in_ok-sizes.ensures in
    let none : kept feeds a.shape ≡ [] = ap (kept feeds) (sym shape) ∙ c.in_ok-all.ensures.all c.if-all.true in
    let is = value_is_array c.args.nodes.now c.args.at c.requires.tree.fit c.requires.tree.at_there in
    if_ok c.sum_strips.result _ _ (λ b e. e ∙ sum_is feeds a c.requires.feeds none is.whole ∙ ap (λ k. folded k feeds a) (sym (c.in_ok-all.ensures.sum c.if-all.true))) c.sum_strips.ensures

pub fold-requires : goal.fold-requires
fold-requires c =
    let f = fold_fits c.args.nodes.now c.args.at c.in_ok-a.a c.args.feeds.now c.requires.tree.fit c.requires.tree.at_there c.requires.feeds c.requires.fed c.requires.small c.in_ok-a.ensures in
    record { array = f.array; feeds = f.feeds_are; fed = f.fed; few = f.few; small = f.small }
