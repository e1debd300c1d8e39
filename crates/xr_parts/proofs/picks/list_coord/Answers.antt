use Rattle.xr_parts.proofs.Picked.{labels_answer}
use Rattle.xr_parts.proofs.picks.list_coord.Goals as goal

pub returns-in_ok-coord-in-Numbers : goal.returns-in_ok-coord-in-Numbers
returns-in_ok-coord-in-Numbers c = λ axes coords there. labels_answer axes coords c.args.axis.now c.args.labels.now _ _ c.in_ok-coord-in-Numbers.coord there c.requires.formed c.requires.index c.in-Numbers.is c.in_ok-coord-in-Numbers.ensures
