use Rattle.std.proofs.Common.{◌++◌, ◌∷◌, [], ap, sym, ◌∙◌}
use Rattle.xr_defs.specs.Text.{after_blanks}
use Rattle.xr_types.specs.Names.{axis_names}
use Rattle.xr_print.specs.Pieces.{coord_head, content_kind, content_masked, content_items}
use Rattle.xr_print.proofs.Pushed.{three_pieces}
use Rattle.xr_print.proofs.Heads.{content_parts}
use Rattle.xr_print.proofs.coordinate.push_coord.Goals as goal

pub returns : goal.returns
returns c =
    let x = c.args.coord.now in
    let old = c.args.out.now.items in
    let rest = after_blanks (content_items x.content) ++ 10 ∷ [] in
    three_pieces old c.push_head.new.out.items c.push_content.new.out.items c.push.new.self.items (coord_head c.as_bytes.result.now c.kind_of.result.now c.is_masked.result (axis_names c.as_slice.result.now)) (after_blanks (content_items x.content)) (10 ∷ []) c.in_ok-push_head.ensures c.in_ok-push_content.ensures c.in_ok-push.ensures.items
    ∙ ap (λ n. old ++ (coord_head n c.kind_of.result.now c.is_masked.result (axis_names c.as_slice.result.now) ++ rest)) c.as_bytes.ensures
    ∙ ap (λ k. old ++ (coord_head x.name k c.is_masked.result (axis_names c.as_slice.result.now) ++ rest)) c.kind_of.ensures
    ∙ ap (λ m. old ++ (coord_head x.name (content_kind x.content) m (axis_names c.as_slice.result.now) ++ rest)) c.is_masked.ensures
    ∙ ap (λ axes. old ++ (coord_head x.name (content_kind x.content) (content_masked x.content) (axis_names axes) ++ rest)) c.as_slice.ensures
    ∙ ap (λ t. old ++ t) (sym (content_parts x.name (axis_names x.axes) x.content))
