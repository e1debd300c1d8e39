use Rattle.std.proofs.Common.{◌∙◌, sym, ap}
use Rattle.xr_defs.specs.Decoding.{unlisted}
use Rattle.xr_decode.proofs.Coordinates.{text_same}
use Rattle.xr_decode.proofs.coordinate.coordinate_of.Goals as goal

pub returns-in_ok-copy_without-in-Some : goal.returns-in_ok-copy_without-in-Some
returns-in_ok-copy_without-in-Some c =
    let said = sym c.in_ok-text.ensures ∙ c.in-Some.is in
    text_same c.args.source.now c.args.mask c.args.var.now c.in_ok-deep_copy-in-Some.field-0 c.new.result c.in_ok-copy_without-in-Some.field-0 c.in-Some.text said
    (c.in_ok-deep_copy-in-Some.ensures ∙ c.name.ensures) c.new.ensures (c.in_ok-copy_without-in-Some.ensures ∙ ap unlisted c.attrs.ensures)
