use Rattle.std.proofs.Common.{◌≡◌, ◌∙◌, [], ap, arith, flat_map, map}
use Rattle.std.specs.List.{range_with_len}
use Rattle.xr_arrays.specs.Pieces.{together}
use Rattle.row_concat.specs.Blocks.{block}
use Rattle.plan_core.proofs.Joins.{rows_more}
use Rattle.plan_core.proofs.Tabs.{flat_same}
use Rattle.row_concat.proofs.Whole.{mapped}
use Rattle.row_concat.proofs.blocks.in_turn.Goals as goal

pub loop-number-preserved : goal.loop-number-preserved
loop-number-preserved c =
    rows_more (λ o. flat_map (λ x. block c.args.outer o (together c.args.kind x.pieces.now)) c.args.lists.now) c.loop-number.number c.loop-number.out.items c.push_row.new.out.items [] c.in_ok-push_row.ensures c.loop-number.invariant

pub returns : goal.returns
returns c =
    let lists = c.args.lists.now in
    let outer = c.args.outer in
    let all : c.loop-number.number ≡ outer = omega arith in
    c.loop-number.invariant ∙ ap (λ n. flat_map (λ o. flat_map (λ x. block outer o (together c.args.kind x.pieces.now)) lists) (range_with_len 0 n)) all
    ∙ flat_same (λ o. flat_map (λ x. block outer o (together c.args.kind x.pieces.now)) lists) (λ o. flat_map (block outer o) (map (λ x. together c.args.kind x.pieces.now) lists)) 0 outer (λ o lo hi. mapped (block outer o) (λ x. together c.args.kind x.pieces.now) lists)
