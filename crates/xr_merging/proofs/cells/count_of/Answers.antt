use Rattle.std.proofs.Common.{◌∙◌}
use Rattle.xr_arrays.specs.Arrays.{wide}
use Rattle.xr_types.specs.Points.{size}
use Rattle.xr_merging.proofs.Masked.{counted}
use Rattle.xr_merging.proofs.cells.count_of.Goals as goal

pub returns-clause-cells : goal.returns-clause-cells
returns-clause-cells c =
    c.count.ensures ∙ counted c.args.array.now.cells (wide c.parts.result.0.now) c.parts.result.1 (size c.args.array.now.shape) c.parts.ensures.cells c.parts.ensures.whole c.parts.ensures.mask
