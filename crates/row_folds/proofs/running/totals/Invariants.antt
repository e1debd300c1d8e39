use Rattle.std.proofs.Common.{◌≡◌, ◌<◌, ◌%◌, ℕ, List, length}
use Rattle.xr_types.specs.Points.{place, IsPoint}
use Rattle.row_folds.proofs.SumsTo.{IsSum}
use Rattle.row_folds.proofs.running.totals.Given as goal

abbrev pub invariant-loop-i : goal.invariant-loop-i
invariant-loop-i g l = record {
  long : length l.totals.items ≡ l.i;
  inside : l.inside ≡ l.i % l.block;
  done : (p : List ℕ) → IsPoint l.shape p → place l.shape p < l.i → IsSum l.shape l.axis (g.S.Source.cells l.source) l.totals.items p;
}
