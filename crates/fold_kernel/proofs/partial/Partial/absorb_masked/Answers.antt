use Rattle.std.proofs.Common.{arith}
use Rattle.fold_kernel.specs.Rows.{shown}
use Rattle.fold_kernel.proofs.Rows.{length_placed, length_shown, masked_run}
use Rattle.fold_kernel.proofs.partial.Partial.absorb_masked.Goals as goal

pub of_run-run-requires : goal.of_run-run-requires
of_run-run-requires g c = omega (arith, length_shown c.args.cells.now c.args.mask.now)

pub returns-clause-stands : goal.returns-clause-stands
returns-clause-stands g c before h few =
    let number = g.T.Elem.number in
    let long = length_placed number c.args.first (shown c.args.cells.now c.args.mask.now) in
    let same = masked_run number c.args.cells.now c.args.mask.now in
    let stands = c.join.ensures.stands before _ h c.of_run-run.ensures.stands (omega (arith, long, length_shown c.args.cells.now c.args.mask.now, few)) in
    rw same at stands
