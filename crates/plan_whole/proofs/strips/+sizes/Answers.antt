use Rattle.std.proofs.Common.{◌≤◌, ◌∙◌, ap, sym, subst, arith, length, insert, option_map, List, ℕ}
use Rattle.xr_arrays.specs.Arrays.{Array}
use Rattle.xr_arrays.specs.Nodes.{nothing}
use Rattle.xr_arrays.specs.declared.node.Node.TheVariants.{Source}
use Rattle.plan_core.proofs.Takes.{if_ok}
use Rattle.plan_needs.proofs.Strands.{strand_tree, strand_value}
use Rattle.plan_whole.proofs.Trees.{adds_axis, alike_tree, widen_tree}
use Rattle.plan_whole.proofs.strips.+sizes.Goals as goal

pub sizes_at-standing-requires : goal.sizes_at-standing-requires
sizes_at-standing-requires t c =
    let s = c.requires in
    let b = s.before in
    let u = s.user_there in
    let d = s.done_there in
    record { there = omega (arith, b, u); done = omega (arith, b, d) }

pub sizes_at-returns-in-Some : goal.sizes_at-returns-in-Some
sizes_at-returns-in-Some t c =
    let here = strand_value c.args.nodes.now c.args.done.now c.args.at c.in-Some.a.now c.requires (sym (ap (option_map (λ a. a.now)) c.in-Some.is) ∙ c.standing.ensures) in
    if_ok c.from_slice.result _ _ (λ v is. is ∙ c.shape.ensures ∙ ap (λ (a : Array). a.shape) here) c.from_slice.ensures.items

pub sizes_at-computed_sizes-requires : goal.sizes_at-computed_sizes-requires
sizes_at-computed_sizes-requires t c =
    let d = c.decreases in
    (omega (arith, d), strand_tree c.args.nodes.now c.args.done.now c.args.at (Source nothing) c.requires (sym (ap (option_map (λ a. a.now)) c.in-None.is) ∙ c.standing.ensures))

pub computed_sizes-sizes_at-requires : goal.computed_sizes-sizes_at-requires
computed_sizes-sizes_at-requires t c =
    let d = c.decreases in
    let u = alike_tree c.args.nodes.now c.args.done.now c.args.at c.index-nodes-at.result c.in-Some.id c.requires c.index-nodes-at.is (sym c.in-Some.is ∙ c.alike.ensures) in
    let below = u.below in
    (omega (arith, d, below), u.strand)

pub computed_sizes-returns-in-Some : goal.computed_sizes-returns-in-Some
computed_sizes-returns-in-Some t c =
    let u = alike_tree c.args.nodes.now c.args.done.now c.args.at c.index-nodes-at.result c.in-Some.id c.requires c.index-nodes-at.is (sym c.in-Some.is ∙ c.alike.ensures) in
    if_ok c.sizes_at.result _ _ (λ v is. is ∙ sym u.shape) c.sizes_at.ensures

pub computed_sizes-widened_sizes-requires : goal.computed_sizes-widened_sizes-requires
computed_sizes-widened_sizes-requires t c =
    let d = c.decreases in
    (omega (arith, d), (c.requires, (c.index-nodes-at.is, adds_axis c.args.nodes.now c.args.done.now c.args.at c.index-nodes-at.result c.requires c.index-nodes-at.is (sym c.in-None.is ∙ c.alike.ensures))))

pub widened_sizes-sizes_at-requires : goal.widened_sizes-sizes_at-requires
widened_sizes-sizes_at-requires t c =
    let d = c.decreases in
    let u = widen_tree c.args.nodes.now c.args.done.now c.args.at c.args.node.now c.in-Widen.input c.in-Widen.axis c.in-Widen.size c.requires.tree c.requires.node c.in-Widen.is in
    let below = u.below in
    (omega (arith, d, below), u.strand)

pub widened_sizes-with_axis-requires : goal.widened_sizes-with_axis-requires
widened_sizes-with_axis-requires t c =
    let u = widen_tree c.args.nodes.now c.args.done.now c.args.at c.args.node.now c.in-Widen.input c.in-Widen.axis c.in-Widen.size c.requires.tree c.requires.node c.in-Widen.is in
    subst (λ (s : List ℕ). c.in-Widen.axis ≤ length s) (sym c.in_ok-sizes-in-Widen.ensures) u.axis_is

pub widened_sizes-returns : goal.widened_sizes-returns
widened_sizes-returns t c =
    let u = widen_tree c.args.nodes.now c.args.done.now c.args.at c.args.node.now c.in-Widen.input c.in-Widen.axis c.in-Widen.size c.requires.tree c.requires.node c.in-Widen.is in
    if_ok c.with_axis.result _ _ (λ v is. is ∙ ap (λ (s : List ℕ). insert s c.in-Widen.axis c.in-Widen.size) c.in_ok-sizes-in-Widen.ensures ∙ u.shape) c.with_axis.ensures
