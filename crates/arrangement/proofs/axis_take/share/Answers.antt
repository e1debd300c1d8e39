use Rattle.std.proofs.Common.{◌≡◌, ◌∙◌, ◌+◌, ◌*◌, ap, arith, drop, take, length, cond, slice_set, List, ℕ}
use Rattle.xr_types.specs.Points.{size}
use Rattle.xr_arrays.specs.Nodes.{without}
use Rattle.plan_core.specs.Takes.{taking_sizes}
use Rattle.plan_core.proofs.Blocks.{IsBlock, array, block_of, block_is}
use Rattle.plan_core.proofs.Takes.{chosen_sizes}
use Rattle.arrangement.proofs.axis_take.share.Goals.{In_ok-shape}
use Rattle.arrangement.proofs.axis_take.share.Goals as goal

here : (c : In_ok-shape) → IsBlock c.args.drops c.args.array.now.shape c.args.axis c.args.first c.points-row.result c.args.from.now
here c =
    block_of c.args.drops c.args.array.now.shape c.split_at.result.1.now c.args.axis c.args.first c.points-row.result c.args.from.now c.requires.taking c.requires.run c.requires.front
    (c.split_at.ensures.back ∙ ap (drop (c.args.axis + 1)) c.shape.ensures) c.points-row.ensures

sizes : (c : In_ok-shape) → c.in_ok-shape.shape ≡ taking_sizes c.args.drops c.args.array.now.shape c.args.axis c.args.from.now
sizes c =
    c.in_ok-shape.ensures
    ∙ ap (λ (s : List ℕ). cond c.args.drops (without c.args.axis s) (slice_set s c.args.axis (length c.args.from.now))) c.shape-2.ensures
    ∙ chosen_sizes c.args.drops c.args.array.now.shape c.args.axis c.args.from.now

pub overflow_mul-first : goal.overflow_mul-first
overflow_mul-first c = let block = here c in omega (arith, block.inside, block.few)

pub overflow_mul-from : goal.overflow_mul-from
overflow_mul-from c = let block = here c in omega (arith, block.inside, block.few)

pub shared_block-requires-clause-inside : goal.shared_block-requires-clause-inside
shared_block-requires-clause-inside c = (here c).inside

pub shared_block-requires-clause-whole : goal.shared_block-requires-clause-whole
shared_block-requires-clause-whole c = ap size (sizes c) ∙ (here c).whole

pub returns : goal.returns
returns c fill =
    let a = c.args.array.now in
    let block =
    block_of c.args.drops a.shape c.split_at.result.1.now c.args.axis c.args.first c.points-row.result c.args.from.now c.requires.taking c.requires.run c.requires.front
    (c.split_at.ensures.back ∙ ap (drop (c.args.axis + 1)) c.shape.ensures) c.points-row.ensures in
    let same =
    c.in_ok-shape.ensures
    ∙ ap (λ (s : List ℕ). cond c.args.drops (without c.args.axis s) (slice_set s c.args.axis (length c.args.from.now))) c.shape-2.ensures
    ∙ chosen_sizes c.args.drops a.shape c.args.axis c.args.from.now in
    c.stored.ensures ∙ c.in_ok-block.ensures.block
    ∙ ap (λ (s : List ℕ). array a.kind s (take (length c.args.from.now * c.points-row.result) (drop (c.args.first * c.points-row.result) a.cells))) same
    ∙ block_is c.args.drops a c.args.axis c.args.first c.points-row.result c.args.from.now fill c.requires.taking c.requires.run c.requires.front block.row_is c.in_ok-block.ensures.whole
