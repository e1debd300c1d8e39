use Rattle.std.proofs.Common.{sym, ap, ◌∙◌}
use Rattle.std.proofs.lemmas.Int.{to_z-of_z}
use mir.Syntax.{w128}
use Rattle.xr_arrays.specs.Numbers.{numbers_of}
use Rattle.xr_arrays.specs.Stored.{is_fill}
use Rattle.xr_arrays.specs.Pieces.{together}
use Rattle.xr_encode.proofs.Shared.{seen_none}
use Rattle.xr_encode.proofs.stored.is_hidden.Goals as goal

pub returns : goal.returns
returns c =
    let p = c.parts-parts.result in
    let n = c.args.number in
    λ e. seen_none n p.fills.now (numbers_of p.kind (together p.kind p.pieces.now)) c.args.array.now.cells (ap (λ a. a.cells) c.parts-parts.ensures.is) (ap (is_fill p.fills.now) (sym (to_z-of_z w128 n c.ranges.number)) ∙ sym c.is_fill.ensures ∙ e)
