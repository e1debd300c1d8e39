use Rattle.std.proofs.Common.{◌≡◌, ◌∙◌, ◌&&◌, not, sym, ap, map, true, List}
use Rattle.xr_files.specs.declared.file.CdfDim.{CdfDim}
use Rattle.xr_types.specs.Names.{among}
use Rattle.xr_defs.specs.Decoding.{is_coordinate, coordinate_names}
use Rattle.xr_decode.proofs.role.is_coordinate.Goals as goal

pub returns-then-is_listed : goal.returns-then-is_listed
unfolding is_coordinate
returns-then-is_listed c =
    let listed : among (coordinate_names c.args.source.now) c.args.var.now.name ≡ true = ap (among (coordinate_names c.args.source.now)) (sym c.name.ensures) ∙ sym (c.is_listed.ensures (coordinate_names c.args.source.now) c.requires) ∙ c.if-is_listed.true in
    let dims = λ (ds : List CdfDim). map (λ (d : CdfDim). d.name) ds in
    let other = c.is_dimension.ensures ∙ ap (λ ds. among (dims ds) c.name-then-is_listed.result.now) c.dims.ensures ∙ ap (among (dims c.args.source.now.dims)) c.name-then-is_listed.ensures in
    ap not other ∙ sym (ap (λ b. b && not (among (dims c.args.source.now.dims) c.args.var.now.name)) listed)
