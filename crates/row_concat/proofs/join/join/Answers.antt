use Rattle.std.proofs.Common.{◌∙◌, ap, get_or}
use Rattle.xr_arrays.specs.Pieces.{together}
use Rattle.xr_arrays.specs.Stored.{stored_array}
use Rattle.row_concat.proofs.Values.{values_long}
use Rattle.row_concat.proofs.Whole.{divided, joined}
use Rattle.row_concat.proofs.join.join.Goals as goal

pub in_turn-requires-clause-even : goal.in_turn-requires-clause-even
in_turn-requires-clause-even c =
    divided (λ a. a.now) (λ v. together c.args.kind v.pieces.now) (λ v. v.count) c.args.inputs.now c.args.lists.now c.index-inputs-0.result c.args.axis c.args.kind c.args.fills.now c.shape-first.result.now c.in_ok-all.all c.blocks_in_front-outer.result
    c.requires.some c.index-inputs-0.is c.requires.axis c.requires.each c.requires.small c.requires.spelt (λ k d lt. values_long c.args.kind (get_or c.args.lists.now k d) (c.requires.counted k d lt)) c.shape-first.ensures c.in_ok-all.ensures c.blocks_in_front-outer.ensures.none c.blocks_in_front-outer.ensures.some

pub of-stored-requires : goal.of-stored-requires
of-stored-requires c =
    (joined (λ a. a.now) (λ v. together c.args.kind v.pieces.now) c.args.inputs.now c.args.lists.now c.index-inputs-0.result c.args.axis c.args.kind c.args.fills.now c.shape-first.result.now c.in_ok-shape.shape c.in_ok-positions.field-0 c.in_ok-all.all c.blocks_in_front-outer.result c.in_ok-joined.joined
    c.requires.some c.index-inputs-0.is c.requires.axis c.requires.each c.requires.small c.requires.spelt c.shape-first.ensures c.in_ok-positions.ensures c.in_ok-shape.ensures c.in_ok-all.ensures c.blocks_in_front-outer.ensures.none c.blocks_in_front-outer.ensures.some (c.in_ok-joined.ensures.ok ∙ c.in_ok-in_turn.ensures)).stored

pub returns : goal.returns
returns c =
    c.stored.ensures ∙ c.of-stored.ensures ∙ ap (stored_array c.in_ok-shape.shape c.args.kind c.in_ok-joined.joined) c.in_ok-fills.ensures
    ∙ (joined (λ a. a.now) (λ v. together c.args.kind v.pieces.now) c.args.inputs.now c.args.lists.now c.index-inputs-0.result c.args.axis c.args.kind c.args.fills.now c.shape-first.result.now c.in_ok-shape.shape c.in_ok-positions.field-0 c.in_ok-all.all c.blocks_in_front-outer.result c.in_ok-joined.joined
    c.requires.some c.index-inputs-0.is c.requires.axis c.requires.each c.requires.small c.requires.spelt c.shape-first.ensures c.in_ok-positions.ensures c.in_ok-shape.ensures c.in_ok-all.ensures c.blocks_in_front-outer.ensures.none c.blocks_in_front-outer.ensures.some (c.in_ok-joined.ensures.ok ∙ c.in_ok-in_turn.ensures)).is
