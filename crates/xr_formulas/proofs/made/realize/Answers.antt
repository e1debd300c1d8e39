use Rattle.xr_formulas.proofs.Common.{made_with, refl, value}
use Rattle.xr_formulas.proofs.Mades.{in_its_room}
use Rattle.xr_formulas.proofs.made.realize.Goals as goal

pub returns-clause-room : goal.returns-clause-room
returns-clause-room c = in_its_room _ _ _ c.args.made (made_with c.args.made (value c.push_formula.new.plan c.in_ok-node.node).cells) refl c.requires.room c.in_ok-node.ensures.cells
