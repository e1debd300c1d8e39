use Rattle.xr_formulas.proofs.Common.{FitsSigned, rules, to_z-of_z, w128}
use Rattle.xr_formulas.proofs.Sorts.{truth_placed}
use Rattle.xr_formulas.proofs.operators.with_truth.Goals as goal

pub with_literal-requires-clause-placed : goal.with_literal-requires-clause-placed
with_literal-requires-clause-placed c =
    let fits : FitsSigned w128 c.truth_number-number.result = search rules in
    rw (to_z-of_z w128 c.truth_number-number.result fits, c.truth_number-number.ensures) (truth_placed c.args.side c.args.op c.args.on.now.kind c.args.truth c.in_ok-check_truths.ensures)
