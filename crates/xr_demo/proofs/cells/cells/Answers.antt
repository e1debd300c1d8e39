use Rattle.std.proofs.Common.{◌∙◌}
use Rattle.xr_demo.proofs.Placed.{cells_are, numbers_whole}
use Rattle.xr_demo.proofs.cells.cells.Goals as goal

pub of-requires-clause-cells : goal.of-requires-clause-cells
of-requires-clause-cells c = numbers_whole c.args.n c.in_ok-numbers.numbers c.in_ok-shape.shape c.in_ok-numbers.ensures c.in_ok-shape.ensures

pub of-requires-clause-mask : goal.of-requires-clause-mask
of-requires-clause-mask c = numbers_whole c.args.n c.in_ok-numbers.numbers c.in_ok-shape.shape c.in_ok-numbers.ensures c.in_ok-shape.ensures

pub returns : goal.returns
returns c = c.of.ensures ∙ cells_are c.args.n c.in_ok-numbers.numbers c.in_ok-shape.shape c.in_ok-numbers.ensures c.in_ok-shape.ensures
