use Rattle.std.proofs.Common.{◌≡◌, SFits, of_z, to_z, pos, ap, ◌∙◌}
use Rattle.std.specs.Prelude.{unwrap_or}
use Rattle.std.proofs.lemmas.Int.{to_z-of_z}
use Rattle.std.proofs.lemmas.Result.{IfOk-weaker}
use mir.Syntax.{w128}
use Rattle.xr_defs.specs.Encoding.{fill_for, type_of}
use Rattle.xr_encode.specs.Outlines.{without_cells}
use Rattle.xr_encode.proofs.Ranges.{held_written}
use Rattle.xr_encode.proofs.Written.{cells_written}
use Rattle.xr_encode.proofs.filled.checked_bytes.Goals as goal

pub array_bytes-requires : goal.array_bytes-requires
array_bytes-requires c =
    let fits : SFits w128 c.unwrap_or-fill.result = record { sfits = c.unwrap_or-fill.type_inv } in
    let is = to_z-of_z w128 c.unwrap_or-fill.result fits ∙ c.unwrap_or-fill.ensures ∙ ap (λ f. unwrap_or f (pos 0)) c.fill_for.ensures in
    let type : c.type_of.result ≡ type_of c.args.options.now.version c.args.outline.now.kind = cc in
    held_written c.args.options.now c.args.outline.now c.args.array.now.cells c.type_of.result _ type c.requires.seen c.requires.fit c.requires.cells is

pub returns : goal.returns
returns c =
    let options = c.args.options.now in
    let o = c.args.outline.now in
    let fits : SFits w128 c.unwrap_or-fill.result = record { sfits = c.unwrap_or-fill.type_inv } in
    let is : to_z w128 (of_z w128 c.unwrap_or-fill.result) ≡ unwrap_or (fill_for options (without_cells o)) (pos 0) =
    to_z-of_z w128 c.unwrap_or-fill.result fits ∙ c.unwrap_or-fill.ensures ∙ ap (λ f. unwrap_or f (pos 0)) c.fill_for.ensures in
    let type : c.type_of.result ≡ type_of options.version o.kind = cc in
    IfOk-weaker c.array_bytes.result _ _ (λ raw e. e ∙ cells_written options o c.type_of.result _ c.args.array.now.cells type is) c.array_bytes.ensures
