use Rattle.std.proofs.Common.{◌++◌, ◌∷◌, [], map, ap, ◌∙◌, true}
use Rattle.xr_defs.specs.Text.{printed_name}
use Rattle.xr_types.specs.Names.{axis_names}
use Rattle.xr_print.specs.Pieces.{listed}
use Rattle.xr_print.proofs.Pushed.{three_pieces}
use Rattle.xr_print.proofs.Listed.{listed_is}
use Rattle.xr_print.proofs.dimensions.push_dims_of.Goals as goal

pub returns : goal.returns
returns c =
    three_pieces c.args.out.now.items c.push.new.self.items c.push_axis_names.new.out.items c.push-2.new.self.items (40 ∷ []) (listed true (map printed_name (axis_names c.args.axes.now))) (41 ∷ []) c.in_ok-push.ensures.items c.in_ok-push_axis_names.ensures c.in_ok-push-2.ensures.items
    ∙ ap (λ t. c.args.out.now.items ++ (40 ∷ (t ++ 41 ∷ []))) (listed_is (map printed_name (axis_names c.args.axes.now)))
