use Rattle.std.proofs.Common.{◌<◌, ◌++◌, ◌∙◌, ap, sym, rules, length}
use Rattle.std.specs.List.{flat_map, range_with_len}
use Rattle.plan_core.specs.Joins.{joined_row}
use Rattle.plan_core.proofs.Joins.{cut_is, joined_by, none_joined}
use Rattle.arrangement.proofs.join.join_cells.Goals as goal

pub returns-then-is_empty : goal.returns-then-is_empty
returns-then-is_empty g c other =
    c.new-out.ensures.items ∙ sym (none_joined c.args.shape.now c.args.axis c.args.counts.now other c.args.cells.now c.requires.joining (search rules))

pub push_rows-requires-clause-inside : goal.push_rows-requires-clause-inside
push_rows-requires-clause-inside g c =
    let some : 0 < length c.args.cells.now = search rules in
    (cut_is c.args.shape.now c.split_at.result.0.now c.split_at-2.result.1.now c.args.axis c.args.counts.now (length c.args.cells.now) c.points.result c.points-2.result c.requires.joining c.split_at.ensures.front c.split_at-2.ensures.back c.points.ensures c.points-2.ensures some).inside

pub returns : goal.returns
returns g c other =
    let some : 0 < length c.args.cells.now = search rules in
    let cut = cut_is c.args.shape.now c.split_at.result.0.now c.split_at-2.result.1.now c.args.axis c.args.counts.now (length c.args.cells.now) c.points.result c.points-2.result c.requires.joining c.split_at.ensures.front c.split_at-2.ensures.back c.points.ensures c.points-2.ensures some in
    c.in_ok-push_rows.ensures ∙ ap (λ o. o ++ flat_map (λ k. joined_row c.points-2.result c.points.result k 0 c.args.counts.now c.args.cells.now) (range_with_len 0 c.points.result)) (c.reserve.ensures.items ∙ c.new-out.ensures.items)
    ∙ joined_by c.args.shape.now c.args.axis c.args.counts.now c.points.result c.points-2.result other c.args.cells.now c.requires.joining cut
