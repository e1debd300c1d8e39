use Rattle.std.proofs.Common.{◌≡◌, ◌++◌, ◌%◌, ◌∙◌, ap, flat_map, refl, subst, sym}
use Rattle.xr_arrays.specs.Pieces.{together}
use Rattle.row_concat.specs.Blocks.{block}
use Rattle.row_concat.specs.Spelt.{AreValues}
use Rattle.plan_core.proofs.Concats.{gather_more}
use Rattle.row_concat.proofs.Values.{block_of, block_within}
use Rattle.row_concat.proofs.blocks.push_row.Goals as goal

pub push_values-requires-clause-within : goal.push_values-requires-clause-within
push_values-requires-clause-within c =
    let list = c.list-item.result in
    let are : AreValues c.args.kind list = subst (AreValues c.args.kind) (sym c.list-item.is) (c.requires.counted c.loop-list.list-index list c.loop-list-test.true) in
    let even : list.count % c.args.outer ≡ 0 = subst (λ v. v.count % c.args.outer ≡ 0) (sym c.list-item.is) (c.requires.even c.loop-list.list-index list c.loop-list-test.true) in
    block_within c.args.kind list c.args.outer c.args.number _ are c.requires.number even refl

pub loop-list-preserved : goal.loop-list-preserved
loop-list-preserved c =
    let list = c.list-item.result in
    let lists = c.args.lists.now in
    let out = c.loop-list.out.items in
    let are : AreValues c.args.kind list = subst (AreValues c.args.kind) (sym c.list-item.is) (c.requires.counted c.loop-list.list-index list c.loop-list-test.true) in
    let even : list.count % c.args.outer ≡ 0 = subst (λ v. v.count % c.args.outer ≡ 0) (sym c.list-item.is) (c.requires.even c.loop-list.list-index list c.loop-list-test.true) in
    gather_more (λ v. block c.args.outer c.args.number (together c.args.kind v.pieces.now)) lists c.loop-list.list-index list out c.push_values.new.out.items (c.args.out.now.items ++ flat_map (λ v. block c.args.outer c.args.number (together c.args.kind v.pieces.now)) lists) c.loop-list-test.true c.list-item.is
    (c.in_ok-push_values.ensures ∙ ap (λ t. out ++ t) (block_of c.args.kind list c.args.outer c.args.number _ are c.requires.number even refl)) c.loop-list.invariant
