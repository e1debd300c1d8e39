use Rattle.std.proofs.Common.{◌≡◌, ◌≤◌, ◌-◌, take}
use Rattle.std.specs.Int.{int_wrap, w64}
use Rattle.xr_arrays.specs.Folds.{sum_of}
use Rattle.plan_core.specs.Rows.{those}
use Rattle.plan_whole.proofs.total.total_strips.Given as goal

abbrev pub invariant-strips : goal.invariant-strips
invariant-strips g l = record {
  inside : l.from ≤ l.count;
  sum : l.sum ≡ int_wrap w64 (sum_of (those (take l.from (g.S.Strips.whole l.source).cells)));
}

abbrev pub decreases-strips : goal.decreases-strips
decreases-strips g l = l.count - l.from
