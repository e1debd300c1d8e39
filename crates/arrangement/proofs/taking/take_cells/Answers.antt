use Rattle.std.proofs.Common.{◌∙◌, ap, sym, arith, get_or, ◌*◌, ◌++◌, refl}
use Rattle.plan_core.specs.Takes.{parts, each_block}
use Rattle.plan_core.proofs.Takes.{AreCounts, counts, none_taken, taken_by, chosen_sizes}
use Rattle.arrangement.proofs.taking.take_cells.Given as given
use Rattle.arrangement.proofs.taking.take_cells.Goals as goal

are : (g : given.Over) (c : goal.After-points-2 g) → AreCounts c.args.shape.now c.args.axis c.points.result c.points-2.result
are g c =
    counts c.args.drops c.args.shape.now c.split_at.result.0.now c.split_at-2.result.1.now c.as_slice.result.now c.args.axis c.points.result c.points-2.result c.points-count.result c.args.from.now c.requires.taking c.split_at.ensures.front c.split_at-2.ensures.back (c.as_slice.ensures ∙ c.in_ok-sizes.ensures ∙ chosen_sizes c.args.drops c.args.shape.now c.args.axis c.args.from.now)
    c.points.ensures c.points-2.ensures c.points-count.ensures (let f = c.if-count-eq0.false in omega (arith, f))

pub returns-then-count-eq0 : goal.returns-then-count-eq0
returns-then-count-eq0 g c =
    c.new-out.ensures.items ∙ sym (none_taken c.args.drops c.args.shape.now c.as_slice.result.now c.args.axis c.points-count.result c.args.from.now c.args.hole c.args.cells.now (c.as_slice.ensures ∙ c.in_ok-sizes.ensures ∙ chosen_sizes c.args.drops c.args.shape.now c.args.axis c.args.from.now) c.points-count.ensures c.if-count-eq0.true)

pub push_blocks-requires-clause-cells : goal.push_blocks-requires-clause-cells
push_blocks-requires-clause-cells g c = c.requires.whole ∙ (are g c).whole

pub push_blocks-requires-clause-small : goal.push_blocks-requires-clause-small
push_blocks-requires-clause-small g c = let few = (are g c).few in omega (arith, few)

pub returns : goal.returns
returns g c =
    let n = get_or c.args.shape.now c.args.axis 0 in
    let outer = c.points.result in
    let row = c.points-2.result in
    c.in_ok-push_blocks.ensures ∙ ap (λ o. o ++ each_block (parts row c.args.from.now c.args.hole) (n * row) outer c.args.cells.now) (c.reserve.ensures.items ∙ c.new-out.ensures.items)
    ∙ taken_by c.args.drops c.args.shape.now c.args.axis outer n row c.args.from.now c.args.hole c.args.cells.now c.requires.taking (counts c.args.drops c.args.shape.now c.split_at.result.0.now c.split_at-2.result.1.now c.as_slice.result.now c.args.axis outer row c.points-count.result c.args.from.now c.requires.taking c.split_at.ensures.front c.split_at-2.ensures.back
    (c.as_slice.ensures ∙ c.in_ok-sizes.ensures ∙ chosen_sizes c.args.drops c.args.shape.now c.args.axis c.args.from.now) c.points.ensures c.points-2.ensures c.points-count.ensures (let f = c.if-count-eq0.false in omega (arith, f))) refl c.requires.whole
