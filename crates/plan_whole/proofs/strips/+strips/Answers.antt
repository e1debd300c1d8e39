use Rattle.std.proofs.Common.{◌≤◌, ◌+◌, ◌∙◌, ap, sym, subst, arith, option_map}
use Rattle.xr_types.specs.Points.{size}
use Rattle.xr_arrays.specs.Arrays.{Array}
use Rattle.xr_arrays.specs.Nodes.{nothing, most_node_cells}
use Rattle.xr_arrays.specs.declared.node.Node.TheVariants.{Source}
use Rattle.cell_strips.specs.Strips.{strip}
use Rattle.plan_core.proofs.Needs.{value_small}
use Rattle.plan_core.proofs.Takes.{if_ok}
use Rattle.plan_needs.proofs.Strands.{strand_tree, strand_value}
use Rattle.plan_whole.proofs.Trees.{binary_strip, binary_tree, choose_strip, choose_tree, left_strip, spread_found, stays_tree, tree_each_cell, unary_strip, unary_tree}
use Rattle.plan_whole.proofs.strips.+strips.Goals as goal

-- ---- what stands there

pub strip_at-standing-requires : goal.strip_at-standing-requires
strip_at-standing-requires t c =
    let s = c.requires.strand in
    let b = s.before in
    let u = s.user_there in
    let d = s.done_there in
    record { there = omega (arith, b, u); done = omega (arith, b, d) }

pub strip_at-strip_of-requires : goal.strip_at-strip_of-requires
strip_at-strip_of-requires t c =
    let s = c.requires.strand in
    let here = strand_value c.args.nodes.now c.args.done.now c.args.at c.in-Some.a.now s (sym (ap (option_map (λ a. a.now)) c.in-Some.is) ∙ c.standing.ensures) in
    record {
      few = subst (λ (x : Array). size x.shape ≤ most_node_cells) (sym here) (value_small c.args.nodes.now c.args.at (Source nothing) s.fit (let b = s.before in let u = s.user_there in omega (arith, b, u)));
      inside = subst (λ (x : Array). c.args.from + c.args.n ≤ size x.shape) (sym here) c.requires.inside;
    }

pub strip_at-returns-in-Some : goal.strip_at-returns-in-Some
strip_at-returns-in-Some t c =
    let here = strand_value c.args.nodes.now c.args.done.now c.args.at c.in-Some.a.now c.requires.strand (sym (ap (option_map (λ a. a.now)) c.in-Some.is) ∙ c.standing.ensures) in
    if_ok c.strip_of.result _ _ (λ b is. is ∙ ap (strip c.args.from c.args.n) here) c.strip_of.ensures

pub strip_at-computed_strip-requires : goal.strip_at-computed_strip-requires
strip_at-computed_strip-requires t c =
    let d = c.decreases in
    (omega (arith, d), (strand_tree c.args.nodes.now c.args.done.now c.args.at (Source nothing) c.requires.strand (sym (ap (option_map (λ a. a.now)) c.in-None.is) ∙ c.standing.ensures), c.requires.inside))

-- ---- one cell, or each from those at its place

pub computed_strip-spread_cell-requires : goal.computed_strip-spread_cell-requires
computed_strip-spread_cell-requires t c = record { fit = c.requires.tree.fit; inside = c.requires.tree.at_there }

pub computed_strip-spread-requires : goal.computed_strip-spread-requires
computed_strip-spread-requires t c =
    let tree = c.requires.tree in
    let s = spread_found c.args.nodes.now c.args.at c.in-Some.cell.now c.args.from c.args.n tree.fit tree.at_there (sym (ap (option_map (λ a. a.now)) c.in-Some.is) ∙ c.spread_cell.ensures) c.requires.inside in
    record { array = s.array; flat = s.flat }

pub computed_strip-returns-in-Some : goal.computed_strip-returns-in-Some
computed_strip-returns-in-Some t c =
    let tree = c.requires.tree in
    if_ok c.spread.result _ _
    (λ b is. is ∙ (spread_found c.args.nodes.now c.args.at c.in-Some.cell.now c.args.from c.args.n tree.fit tree.at_there (sym (ap (option_map (λ a. a.now)) c.in-Some.is) ∙ c.spread_cell.ensures) c.requires.inside).is)
    c.spread.ensures

pub computed_strip-operated_strip-requires : goal.computed_strip-operated_strip-requires
computed_strip-operated_strip-requires t c =
    let d = c.decreases in
    let tree = c.requires.tree in
    (omega (arith, d), (tree, (c.index-nodes-at.is, (tree_each_cell c.args.nodes.now c.args.done.now c.args.at c.index-nodes-at.result tree c.index-nodes-at.is (sym (ap (option_map (λ a. a.now)) c.in-None.is) ∙ c.spread_cell.ensures), c.requires.inside))))

-- ---- each operation

pub operated_strip-unary_strip-requires : goal.operated_strip-unary_strip-requires
operated_strip-unary_strip-requires t c =
    let d = c.decreases in
    (omega (arith, d), (unary_tree c.args.nodes.now c.args.done.now c.args.at c.args.node.now c.in-Unary.op c.in-Unary.kind c.in-Unary.input c.requires.tree c.requires.node c.in-Unary.is, c.requires.inside))

pub operated_strip-binary_strip-requires : goal.operated_strip-binary_strip-requires
operated_strip-binary_strip-requires t c =
    let d = c.decreases in
    (omega (arith, d), (binary_tree c.args.nodes.now c.args.done.now c.args.at c.args.node.now c.in-Binary.op c.in-Binary.a c.in-Binary.b c.requires.tree c.requires.node c.in-Binary.is, c.requires.inside))

pub operated_strip-choose_strip-requires : goal.operated_strip-choose_strip-requires
operated_strip-choose_strip-requires t c =
    let d = c.decreases in
    (omega (arith, d), (choose_tree c.args.nodes.now c.args.done.now c.args.at c.args.node.now c.in-Choose.cond c.in-Choose.a c.in-Choose.b c.requires.tree c.requires.node c.in-Choose.is, c.requires.inside))

pub operated_strip-strip_at-requires : goal.operated_strip-strip_at-requires
operated_strip-strip_at-requires t c =
    let d = c.decreases in
    let u = stays_tree c.args.nodes.now c.args.done.now c.args.at c.args.node.now c.in-Reorder.input c.in-Reorder.order c.requires.tree c.requires.node c.in-Reorder.is in
    let below = u.below in
    (omega (arith, d, below), (u.strand, subst (λ (a : Array). c.args.from + c.args.n ≤ size a.shape) u.is c.requires.inside))

pub operated_strip-returns-in-Reorder : goal.operated_strip-returns-in-Reorder
operated_strip-returns-in-Reorder t c =
    let u = stays_tree c.args.nodes.now c.args.done.now c.args.at c.args.node.now c.in-Reorder.input c.in-Reorder.order c.requires.tree c.requires.node c.in-Reorder.is in
    if_ok c.strip_at.result _ _ (λ b is. is ∙ ap (strip c.args.from c.args.n) (sym u.is)) c.strip_at.ensures

pub unary_strip-strip_at-requires : goal.unary_strip-strip_at-requires
unary_strip-strip_at-requires t c =
    let d = c.decreases in
    let u = c.requires.tree in
    let below = u.below in
    (omega (arith, d, below), (u.strand, subst (λ s. c.args.from + c.args.n ≤ size s) u.shape c.requires.inside))

pub unary_strip-returns-then-leaves_cells : goal.unary_strip-returns-then-leaves_cells
unary_strip-returns-then-leaves_cells t c =
    let s = unary_strip c.args.nodes.now c.args.done.now c.args.at c.args.op c.args.kind c.args.input c.in_ok-a.a c.args.from c.args.n c.requires.tree c.requires.inside c.in_ok-a.ensures in
    left_strip c.args.nodes.now c.args.at c.args.op c.args.kind c.in_ok-a.a c.args.from c.args.n s (c.leaves_cells.ensures.op c.if-leaves_cells.true) (sym c.kind.ensures ∙ c.leaves_cells.ensures.kind c.if-leaves_cells.true)

pub unary_strip-operate_one-requires : goal.unary_strip-operate_one-requires
unary_strip-operate_one-requires t c =
    let s = unary_strip c.args.nodes.now c.args.done.now c.args.at c.args.op c.args.kind c.args.input c.in_ok-a.a c.args.from c.args.n c.requires.tree c.requires.inside c.in_ok-a.ensures in
    record { array = s.array; one = s.one; gives = s.gives; suits = s.suits }

pub unary_strip-returns : goal.unary_strip-returns
unary_strip-returns t c =
    let s = unary_strip c.args.nodes.now c.args.done.now c.args.at c.args.op c.args.kind c.args.input c.in_ok-a.a c.args.from c.args.n c.requires.tree c.requires.inside c.in_ok-a.ensures in
    if_ok c.operate_one.result _ _ (λ b is. is ∙ s.is) c.operate_one.ensures

pub binary_strip-strip_at-requires : goal.binary_strip-strip_at-requires
binary_strip-strip_at-requires t c =
    let d = c.decreases in
    let u = c.requires.tree in
    let below = u.below in
    (omega (arith, d, below), (u.strand, subst (λ s. c.args.from + c.args.n ≤ size s) u.shape c.requires.inside))

pub binary_strip-strip_at-requires-2 : goal.binary_strip-strip_at-requires-2
binary_strip-strip_at-requires-2 t c =
    let d = c.decreases in
    let u = c.requires.tree in
    let below = u.other_below in
    (omega (arith, d, below), (u.other_strand, subst (λ s. c.args.from + c.args.n ≤ size s) (u.shape ∙ sym u.shapes) c.requires.inside))

pub binary_strip-operate_two-requires : goal.binary_strip-operate_two-requires
binary_strip-operate_two-requires t c =
    let s = binary_strip c.args.nodes.now c.args.done.now c.args.at c.args.op c.args.a c.args.b c.in_ok-first.first c.in_ok-second.second c.args.from c.args.n c.requires.tree c.requires.inside c.in_ok-first.ensures c.in_ok-second.ensures in
    record { array = s.array; other = s.other; two = s.two; shape = s.shape; kind = s.kind; suits = s.suits }

pub binary_strip-returns : goal.binary_strip-returns
binary_strip-returns t c =
    let s = binary_strip c.args.nodes.now c.args.done.now c.args.at c.args.op c.args.a c.args.b c.in_ok-first.first c.in_ok-second.second c.args.from c.args.n c.requires.tree c.requires.inside c.in_ok-first.ensures c.in_ok-second.ensures in
    if_ok c.operate_two.result _ _ (λ b is. is ∙ s.is) c.operate_two.ensures

pub choose_strip-strip_at-requires : goal.choose_strip-strip_at-requires
choose_strip-strip_at-requires t c =
    let d = c.decreases in
    let u = c.requires.tree in
    let below = u.cond_below in
    (omega (arith, d, below), (u.cond_strand, subst (λ s. c.args.from + c.args.n ≤ size s) (u.shape ∙ sym u.cond_shape) c.requires.inside))

pub choose_strip-strip_at-requires-2 : goal.choose_strip-strip_at-requires-2
choose_strip-strip_at-requires-2 t c =
    let d = c.decreases in
    let u = c.requires.tree in
    let below = u.below in
    (omega (arith, d, below), (u.strand, subst (λ s. c.args.from + c.args.n ≤ size s) u.shape c.requires.inside))

pub choose_strip-strip_at-requires-3 : goal.choose_strip-strip_at-requires-3
choose_strip-strip_at-requires-3 t c =
    let d = c.decreases in
    let u = c.requires.tree in
    let below = u.other_below in
    (omega (arith, d, below), (u.other_strand, subst (λ s. c.args.from + c.args.n ≤ size s) (u.shape ∙ sym u.shapes) c.requires.inside))

pub choose_strip-choose_cells-requires : goal.choose_strip-choose_cells-requires
choose_strip-choose_cells-requires t c =
    let s = choose_strip c.args.nodes.now c.args.done.now c.args.at c.args.cond c.args.a c.args.b c.in_ok-tests.tests c.in_ok-first.first c.in_ok-second.second c.args.from c.args.n c.requires.tree c.requires.inside c.in_ok-tests.ensures c.in_ok-first.ensures c.in_ok-second.ensures in
    record { cond = s.cond; array = s.array; other = s.other; cond_kind = s.cond_kind; cond_shape = s.cond_shape; shape = s.shape; kind = s.kind }

pub choose_strip-returns : goal.choose_strip-returns
choose_strip-returns t c =
    let s = choose_strip c.args.nodes.now c.args.done.now c.args.at c.args.cond c.args.a c.args.b c.in_ok-tests.tests c.in_ok-first.first c.in_ok-second.second c.args.from c.args.n c.requires.tree c.requires.inside c.in_ok-tests.ensures c.in_ok-first.ensures c.in_ok-second.ensures in
    if_ok c.choose_cells.result _ _ (λ b is. is ∙ s.is) c.choose_cells.ensures
