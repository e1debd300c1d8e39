use Rattle.std.proofs.Common.{◌∷◌, []}
use Rattle.std.proofs.lemmas.List.{map-append}
use Rattle.std.proofs.lemmas.Result.{err_from_is_err_and}
use Rattle.xr_files.specs.declared.file.CdfDim.{CdfDim}
use Rattle.xr_files.specs.Classic.{dimension}
use Rattle.cdf_reader.proofs.Loop.{goes_on, ends, is_done}
use Rattle.cdf_reader.proofs.lists.dimensions_in.Goals as goal

pub returns-in_err-one : goal.returns-in_err-one
returns-in_err-one c =
    let p = err_from_is_err_and c.from_residual.result c.from_residual.ensures.1 in
    rw (p.1, p.2) (ends c.in_err-one.field-0.0 (dimension c.args.version) c.loop.seen c.args.count c.loop.counter c.loop.rest.now _ c.loop-test.true (rw c.as_slice.ensures at c.in_err-one.ensures.read) c.loop.invariant.read)

pub loop-preserved : goal.loop-preserved
loop-preserved c = record {
  read = rw c.in_ok-push.ensures.ok (goes_on (dimension c.args.version) c.loop.seen c.args.count c.loop.counter c.loop.rest.now c.in_ok-one.after.now c.in_ok-one.one _ c.loop-test.true (rw c.as_slice.ensures at c.in_ok-one.ensures.read) c.loop.invariant.read);
  known = rw (c.in_ok-push.ensures.ok, map-append (λ (d : CdfDim). d.name) c.loop.seen (c.in_ok-one.one ∷ [])) (rw c.as_slice.ensures at c.in_ok-one.ensures.known);
}

pub returns : goal.returns
returns c = is_done (dimension c.args.version) c.loop.seen c.args.count c.loop.counter c.loop.rest.now _ c.loop-test.false c.loop.invariant.read
