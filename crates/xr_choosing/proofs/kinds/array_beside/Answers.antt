use Rattle.std.proofs.Common.{sym, subst}
use Rattle.xr_types.specs.Results.{Answers}
use Rattle.xr_types.specs.declared.kind.DType.{DType}
use Rattle.xr_operations.specs.CellMethods as calls
use Rattle.xr_values.specs.Stands.{array_in}
use Rattle.xr_choosing.specs.declared.branches.Branch.{Branch}
use Rattle.xr_choosing.specs.Branches.{branch_in}
use Rattle.xr_choosing.proofs.kinds.array_beside.Goals as goal

pub returns-in-Array : goal.returns-in-Array
returns-in-Array c = λ nodes. subst (λ (b : Branch). Answers (λ (k : DType). k) c.of_both.result (calls.chosen_kind (calls.FromArray (array_in nodes c.args.one.now)) (branch_in nodes b))) (sym c.in-Array.is) (c.of_both.ensures nodes)
