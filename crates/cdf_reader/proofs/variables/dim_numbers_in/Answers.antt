use Rattle.std.proofs.lemmas.Result.{err_from_is_err_and}
use Rattle.xr_files.specs.Classic.{dim_number}
use Rattle.cdf_reader.specs.declared.fault.WalkFault.TheVariants as walk
use Rattle.cdf_reader.proofs.Loop.{goes_on, ends, is_done}
use Rattle.cdf_reader.proofs.variables.dim_numbers_in.Goals as goal

pub returns-in_err-one : goal.returns-in_err-one
returns-in_err-one c =
    let p = err_from_is_err_and c.from_residual.result c.from_residual.ensures.1 in
    rw (p.1, p.2) (ends (walk.At c.in_err-one.field-0.0) (dim_number c.args.version c.args.dims.now) c.loop.seen c.args.rank c.loop.counter c.loop.rest.now _ c.loop-test.true (rw c.as_slice.ensures at c.in_err-one.ensures) c.loop.invariant)

pub loop-preserved : goal.loop-preserved
loop-preserved c =
    rw (c.in_ok-push.ensures.ok) (goes_on (dim_number c.args.version c.args.dims.now) c.loop.seen c.args.rank c.loop.counter c.loop.rest.now c.in_ok-one.after.now c.in_ok-one.one _ c.loop-test.true (rw c.as_slice.ensures at c.in_ok-one.ensures) c.loop.invariant)

pub returns : goal.returns
returns c = is_done (dim_number c.args.version c.args.dims.now) c.loop.seen c.args.rank c.loop.counter c.loop.rest.now _ c.loop-test.false c.loop.invariant
