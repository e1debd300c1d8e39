use Rattle.std.proofs.Common.{◌∙◌, ap, option_map}
use Rattle.xr_arrays.specs.Arrays.{Array}
use Rattle.cell_strips.specs.Strips.{spread}
use Rattle.cell_strips.proofs.OneCell.{has_one, mask_has_one, spread_here}
use Rattle.cell_strips.proofs.spreads.spread.Goals as goal

pub spread_mask-requires : goal.spread_mask-requires
spread_mask-requires c =
    let m = option_map (λ m. m.now) c.parts.result.1 in
    mask_has_one m _ c.parts.ensures.covers (has_one _ c.parts.result.0.now m c.parts.ensures (ap (λ (a : Array). a.shape) c.in_ok-typed.ensures ∙ c.requires.flat))

pub spread_cells-requires : goal.spread_cells-requires
spread_cells-requires c =
    has_one _ c.parts.result.0.now (option_map (λ m. m.now) c.parts.result.1) c.parts.ensures (ap (λ (a : Array). a.shape) c.in_ok-typed.ensures ∙ c.requires.flat)

pub array-requires : goal.array-requires
array-requires c =
    (spread_here _ c.in_ok-shape.shape c.parts.result.0.now c.in_ok-all.all (option_map (λ m. m.now) c.parts.result.1) c.in_ok-hidden.hidden c.args.n c.parts.ensures (ap (λ (a : Array). a.shape) c.in_ok-typed.ensures ∙ c.requires.flat) c.in_ok-shape.ensures c.in_ok-all.ensures c.in_ok-hidden.ensures).fits

pub returns : goal.returns
returns c =
    c.array.ensures
    ∙ (spread_here _ c.in_ok-shape.shape c.parts.result.0.now c.in_ok-all.all (option_map (λ m. m.now) c.parts.result.1) c.in_ok-hidden.hidden c.args.n c.parts.ensures (ap (λ (a : Array). a.shape) c.in_ok-typed.ensures ∙ c.requires.flat) c.in_ok-shape.ensures c.in_ok-all.ensures c.in_ok-hidden.ensures).is
    ∙ ap (spread c.args.n) c.in_ok-typed.ensures
