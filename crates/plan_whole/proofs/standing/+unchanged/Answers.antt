use Rattle.std.proofs.Common.{◌∙◌, ap, sym, arith, option_map}
use Rattle.std.proofs.lemmas.Option.{IfSome_then}
use Rattle.xr_arrays.specs.Nodes.{nothing}
use Rattle.xr_arrays.specs.declared.node.Node.TheVariants.{Source}
use Rattle.plan_needs.proofs.Strands.{strand_tree, strand_value}
use Rattle.plan_whole.proofs.Trees.{stays_tree, unary_tree}
use Rattle.plan_whole.proofs.Unchanged.{cast_value}
use Rattle.plan_whole.proofs.standing.+unchanged.Goals as goal

pub unchanged-standing-requires : goal.unchanged-standing-requires
unchanged-standing-requires t c =
    let s = c.requires in
    let b = s.before in
    let u = s.user_there in
    let d = s.done_there in
    record { there = omega (arith, b, u); done = omega (arith, b, d) }

pub unchanged-returns-in-Some : goal.unchanged-returns-in-Some
unchanged-returns-in-Some t c = strand_value c.args.nodes.now c.args.done.now c.args.at c.in-Some.a.now c.requires (sym (ap (option_map (λ a. a.now)) c.in-Some.is) ∙ c.standing.ensures)

pub unchanged-unchanged_input-requires : goal.unchanged-unchanged_input-requires
unchanged-unchanged_input-requires t c =
    let d = c.decreases in
    (omega (arith, d), strand_tree c.args.nodes.now c.args.done.now c.args.at (Source nothing) c.requires (sym (ap (option_map (λ a. a.now)) c.in-None.is) ∙ c.standing.ensures))

pub unchanged_input-unchanged-requires : goal.unchanged_input-unchanged-requires
unchanged_input-unchanged-requires t c =
    let d = c.decreases in
    let u = stays_tree c.args.nodes.now c.args.done.now c.args.at c.index-nodes-at.result c.in-Reorder.input c.in-Reorder.order c.requires c.index-nodes-at.is c.in-Reorder.is in
    let below = u.below in
    (omega (arith, d, below), u.strand)

pub unchanged_input-returns-in-Reorder : goal.unchanged_input-returns-in-Reorder
unchanged_input-returns-in-Reorder t c =
    let u = stays_tree c.args.nodes.now c.args.done.now c.args.at c.index-nodes-at.result c.in-Reorder.input c.in-Reorder.order c.requires c.index-nodes-at.is c.in-Reorder.is in
    IfSome_then c.unchanged.result c.unchanged.ensures (λ a is. is ∙ sym u.is)

pub unchanged_input-unchanged-requires-in-Unary : goal.unchanged_input-unchanged-requires-in-Unary
unchanged_input-unchanged-requires-in-Unary t c =
    let d = c.decreases in
    let u = unary_tree c.args.nodes.now c.args.done.now c.args.at c.index-nodes-at.result c.in-Unary.op c.in-Unary.kind c.in-Unary.input c.requires c.index-nodes-at.is c.in-Unary.is in
    let below = u.below in
    (omega (arith, d, below), u.strand)

pub unchanged_input-returns-then-leaves_cells : goal.unchanged_input-returns-then-leaves_cells
unchanged_input-returns-then-leaves_cells t c =
    cast_value c.args.nodes.now c.args.done.now c.args.at c.in-Unary.op c.in-Unary.kind c.in-Unary.input c.in-Some.a.now
    (unary_tree c.args.nodes.now c.args.done.now c.args.at c.index-nodes-at.result c.in-Unary.op c.in-Unary.kind c.in-Unary.input c.requires c.index-nodes-at.is c.in-Unary.is)
    (c.leaves_cells.ensures.op c.if-leaves_cells.true) (sym c.kind.ensures ∙ c.leaves_cells.ensures.kind c.if-leaves_cells.true) c.in-Some.ensures
