use Rattle.std.proofs.Common.{◌++◌, ◌∷◌, [], ap, sym, ◌∙◌}
use Rattle.xr_defs.specs.Text.{after_blanks}
use Rattle.xr_print.specs.Pieces.{index_head, label_items}
use Rattle.xr_print.proofs.Pushed.{three_pieces}
use Rattle.xr_print.proofs.Heads.{index_parts}
use Rattle.xr_print.proofs.index.push_index_line.Goals as goal

pub returns : goal.returns
returns c =
    three_pieces c.args.out.now.items c.push_index_head.new.out.items c.push_labels.new.out.items c.push.new.self.items (index_head c.args.name.now c.args.labels.now) (after_blanks (label_items c.args.labels.now)) (10 ∷ []) c.in_ok-push_index_head.ensures c.in_ok-push_labels.ensures c.in_ok-push.ensures.items
    ∙ ap (λ t. c.args.out.now.items ++ t) (sym (index_parts c.args.name.now c.args.labels.now))
