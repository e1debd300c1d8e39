use Rattle.std.proofs.Common.{arith, map, Some}
use Rattle.std.proofs.lemmas.List.{length-map}
use Rattle.fold_kernel.proofs.Rows.{length_placed, whole_run}
use Rattle.fold_kernel.proofs.partial.Partial.absorb_run.Goals as goal

pub returns-clause-stands : goal.returns-clause-stands
returns-clause-stands g c before h few =
    let number = g.T.Elem.number in
    let long = length_placed number c.args.first (map Some c.args.cells.now) in
    let same = whole_run number c.args.cells.now in
    let stands = c.join.ensures.stands before _ h c.of_run-run.ensures.stands (omega (arith, long, length-map c.args.cells.now Some, few)) in
    rw same at stands
