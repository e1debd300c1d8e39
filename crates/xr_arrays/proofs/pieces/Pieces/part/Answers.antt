use Rattle.std.proofs.Common.{◌+◌, ◌*◌, ℕ, ap, ◌∙◌, arith}
use Rattle.std.specs.List.{slice_range}
use Rattle.std.proofs.lemmas.Result.{IfOk-weaker}
use Rattle.xr_types.specs.Widths.{width}
use Rattle.xr_arrays.specs.Pieces.{together}
use Rattle.xr_arrays.proofs.Together.{some_of}
use Rattle.xr_arrays.proofs.pieces.Pieces.part.Goals as goal

pub returns : goal.returns
returns c =
    let p = c.args.self.now in
    let place = c.place-place.result in
    IfOk-weaker c.slice.result _ _ (λ b is. is
    ∙ ap (λ (w : ℕ). slice_range p.bytes place.byte (place.byte + c.args.n * w)) c.width.ensures
    ∙ some_of (together c.args.kind p) p.bytes (width c.args.kind) c.args.from place.byte place.count c.args.n c.place-place.ensures.values (omega (arith, c.if-n-place.false))) c.slice.ensures.ok
