use Rattle.std.proofs.Common.{[], ◌∷◌}
use Rattle.xr_defs.specs.Room.{of_array}
use Rattle.xr_operations.specs.Arithmetic.{of_two_arrays}
use Rattle.xr_values.specs.Stands.{array_in}
use Rattle.xr_joining.proofs.PlacedArrays.{answers_placed}
use Rattle.xr_joining.proofs.placing.two_arrays_in.Goals as goal

pub placed-requires : goal.placed-requires
placed-requires c = (c.in_ok-made.ensures c.args.plan.now c.requires.one c.requires.other).1.fits

pub returns-clause-answers : goal.returns-clause-answers
returns-clause-answers c =
    let made = c.in_ok-made.ensures c.args.plan.now c.requires.one c.requires.other in
    answers_placed c.placed.new.plan c.args.plan.now c.in_ok-made.made c.in_ok-array.array (of_array (array_in c.args.plan.now c.args.a.now) ∷ of_array (array_in c.args.plan.now c.args.b.now) ∷ [])
    (of_two_arrays c.args.op (array_in c.args.plan.now c.args.a.now) (array_in c.args.plan.now c.args.b.now)) made.0 (c.in_ok-array.ensures.placed _ made.1)

pub returns-clause-room : goal.returns-clause-room
returns-clause-room c =
    let made = c.in_ok-made.ensures c.args.plan.now c.requires.one c.requires.other in
    (c.in_ok-array.ensures.placed _ made.1).space
