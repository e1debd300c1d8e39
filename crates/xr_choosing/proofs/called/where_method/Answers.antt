use Rattle.xr_operations.specs.CellMethods.{where_method}
use Rattle.xr_values.specs.Meaning.{given}
use Rattle.xr_values.specs.Stands.{array_in}
use Rattle.xr_formulas.proofs.Rooms.{room_beside}
use Rattle.xr_choosing.proofs.Operated.{array_answers}
use Rattle.xr_choosing.proofs.called.where_method.Goals as goal

pub realize-requires : goal.realize-requires
realize-requires c = (c.in_ok-made.ensures c.args.plan.now c.requires.on c.requires.given).1

pub returns-clause-answers : goal.returns-clause-answers
returns-clause-answers c = array_answers c.args.plan.now c.realize.new.plan c.in_ok-made.made c.in_ok-array.array (where_method (array_in c.args.plan.now c.args.on.now) (given c.args.plan.now c.args.args.now)) (c.in_ok-made.ensures c.args.plan.now c.requires.on c.requires.given).0 c.in_ok-array.ensures.made

pub returns-clause-room : goal.returns-clause-room
returns-clause-room c = λ ps. room_beside c.args.plan.now c.realize.new.plan (array_in c.realize.new.plan c.in_ok-array.array) c.in_ok-array.ensures.room ps
