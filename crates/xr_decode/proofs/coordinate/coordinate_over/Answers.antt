use Rattle.std.proofs.Common.{◌∙◌, ap, map, List}
use Rattle.xr_types.specs.declared.axis.Axis.{Axis}
use Rattle.xr_defs.specs.Decoding.{axis_in}
use Rattle.xr_defs.specs.Values.{chosen, no_axis}
use Rattle.xr_decode.proofs.Coordinates.{chosen_axes, coordinate_same}
use Rattle.xr_decode.proofs.coordinate.coordinate_over.Goals as goal

pub returns : goal.returns
returns c =
    let f = c.args.source.now in
    let v = c.args.var.now in
    let axes = c.in_ok-axes_at.ensures ∙ ap (λ (xs : List Axis). chosen no_axis xs c.dims.result.now) c.requires.axes ∙ ap (chosen no_axis (map (axis_in f) f.dims)) c.dims.ensures ∙ chosen_axes f v.dims c.requires.readable.below in
    coordinate_same f c.args.mask v c.in_ok-deep_copy.field-0 c.in_ok-axes_at.field-0 c.in_ok-parts.parts.attrs c.in_ok-parts.parts.array c.in_ok-parts.parts.masked
    (c.in_ok-deep_copy.ensures ∙ c.name.ensures) axes c.in_ok-parts.ensures.attrs c.in_ok-parts.ensures.array c.in_ok-parts.ensures.masked
