use Rattle.xr_script.proofs.wait.with_levels.Goals as goal

pub returns : goal.returns
returns c = rw (← c.in_ok-e.ensures, ← c.in_ok-e-2.ensures) c.joined_to-2.ensures
