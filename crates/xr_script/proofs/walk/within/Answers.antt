use Rattle.xr_script.proofs.walk.within.Goals as goal

pub returns : goal.returns
returns c = c.settle.ensures _ c.step.ensures
