use Rattle.std.proofs.Common.{◌≡◌, ◌<◌, ℕ, List, take, get_or}
use Rattle.std.specs.Prelude.{Some, None}
use Rattle.xr_types.specs.Points.{place, IsPoint}
use Rattle.strided_block.specs.Deeds.{cells_at, cells_slots}
use Rattle.strided_block.specs.Parts.{Changes, AtPoint}
use Rattle.strided_block.specs.Steps.{spot}
use Rattle.strided_block.proofs.zip.fill_rows.Given as goal

abbrev pub invariant-loop-row : goal.invariant-loop-row
invariant-loop-row g l = record {
  block : cells_at l.all ≡ cells_at l.fn.all;
  others : Changes (cells_slots l.fn.all) (cells_slots l.all) (AtPoint l.start l.steps l.shape);
  cells : (p : List ℕ) → IsPoint l.shape p → place (take l.axis l.shape) (take l.axis p) < l.row → get_or (cells_slots l.all) (spot l.start l.steps p) None ≡ Some l.item;
}
