use Rattle.std.proofs.Common.{◌∙◌}
use Rattle.xr_arrays.specs.Arrays.{hidden, wide, kind_of}
use Rattle.plan_core.proofs.Concats.{row_made, hidden-length}
use Rattle.arrangement.proofs.concatenate.in_a_row.Goals as goal

pub returns : goal.returns
returns c =
    c.of.ensures ∙ row_made (kind_of c.args.cells) c.in_ok-shape.shape (hidden (wide c.args.cells) c.args.mask) c.args.count c.in_ok-shape.ensures (hidden-length (wide c.args.cells) c.args.mask c.args.count c.requires.count c.requires.mask)
