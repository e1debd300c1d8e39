use Rattle.xr_script.proofs.Steps.{carry, item_goes}
use Rattle.xr_script.specs.States.{pend_of, seat_around}
use Rattle.xr_syntax.specs.Syntax.{all_trees}
use Rattle.xr_script.proofs.place.at_item.Goals as goal

pub returns-in_default : goal.returns-in_default
returns-in_default c = carry c.operand_inside.result _ _ (item_goes (pend_of c.args.seat) (seat_around c.args.seat) (all_trees c.args.items.items) c.args.token c.in_default.not-Right) c.operand_inside.ensures
