use Rattle.std.proofs.Common.{◌≡◌, ◌∙◌, ap, length, sym, subst}
use Rattle.xr_types.specs.declared.attr.NcType.{NcType}
use Rattle.xr_types.specs.Points.{size}
use Rattle.xr_defs.specs.Decoding.{var_shape}
use Rattle.xr_arrays.proofs.Together.{whole_values}
use Rattle.xr_arrays.specs.Pieces.{together, AreInside}
use Rattle.xr_decode.proofs.Arrays.{stored_fits, numbers_array}
use Rattle.xr_decode.proofs.decoded.numbers_in.Goals as goal

pub pieces-requires : goal.pieces-requires
pieces-requires c = whole_values c.args.var.now.kind (length c.args.var.now.raw) (size (var_shape c.args.source.now c.args.var.now)) (c.requires.readable.whole c.requires.whole)

pub in_pieces-array-requires-clause-inside : goal.in_pieces-array-requires-clause-inside
in_pieces-array-requires-clause-inside c = subst (λ (k : NcType). AreInside k c.in_ok-pieces.pieces) (sym c.kind.ensures) c.in_ok-pieces.ensures.inside

pub in_pieces-array-requires-clause-stored : goal.in_pieces-array-requires-clause-stored
in_pieces-array-requires-clause-stored c =
    let raw = together c.kind.result c.in_ok-pieces.pieces in
    let are = ap (λ (k : NcType). together k c.in_ok-pieces.pieces) c.kind.ensures ∙ c.in_ok-pieces.ensures.values in
    stored_fits c.args.source.now c.args.var.now c.in_ok-shape.shape c.kind.result raw c.requires.readable c.requires.whole c.in_ok-shape.ensures c.kind.ensures are

pub returns : goal.returns
returns c = λ mask used.
    let raw = together c.kind.result c.in_ok-pieces.pieces in
    let are = ap (λ (k : NcType). together k c.in_ok-pieces.pieces) c.kind.ensures ∙ c.in_ok-pieces.ensures.values in
    c.stored.ensures ∙ c.in_pieces-array.ensures
    ∙ numbers_array c.args.source.now mask c.args.var.now c.in_ok-shape.shape c.kind.result raw c.args.fills c.requires.numbers c.in_ok-shape.ensures c.kind.ensures are used
