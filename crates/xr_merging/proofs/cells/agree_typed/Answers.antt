use Rattle.std.proofs.Common.{sym}
use Rattle.xr_defs.specs.Values.{present}
use Rattle.xr_combination.specs.Merge.{are_one}
use Rattle.xr_merging.proofs.Columns.{fails_here}
use Rattle.xr_merging.specs.Columns.{column}
use Rattle.xr_merging.proofs.cells.agree_typed.Goals as goal

pub returns-then-not-are_one_at : goal.returns-then-not-are_one_at
returns-then-not-are_one_at c =
    sym (fails_here (λ k. are_one (present (column c.args.arrays.now k))) c.args.count c.loop-at.at c.loop-at-test.true (sym c.if-not-are_one_at.ensures))
