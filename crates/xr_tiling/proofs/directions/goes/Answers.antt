use Rattle.std.proofs.Common.{◌∙◌, ap, sym}
use Rattle.xr_tiling.specs.Called.{list_called}
use Rattle.xr_tiling.proofs.Loops.{none_goes, some_goes}
use Rattle.xr_tiling.proofs.directions.goes.Goals as goal

pub returns-in-None : goal.returns-in-None
returns-in-None c = λ nodes. none_goes nodes c.args.set.now c.args.dim.now c.args.rises (ap (list_called c.args.dim.now) (sym c.as_slice.ensures) ∙ sym c.in-None.ensures)

pub returns-in-Some : goal.returns-in-Some
returns-in-Some c = λ nodes.
    c.goes_on.ensures ∙ some_goes nodes c.args.set.now c.args.dim.now c.args.rises c.in-Some.list.now (ap (list_called c.args.dim.now) (sym c.as_slice.ensures) ∙ sym c.in-Some.ensures)
