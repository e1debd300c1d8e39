use Rattle.std.proofs.Common.{◌≡◌, ◌<◌, ◌+◌, ◌*◌, ℕ, get_or}
use Rattle.std.specs.Prelude.{Some, None}
use Rattle.strided_block.specs.Deeds.{cells_at, cells_slots}
use Rattle.strided_block.specs.Parts.{Changes, OnLine}
use Rattle.strided_block.proofs.line.fill_places.Given as goal

abbrev pub invariant-loop-j : goal.invariant-loop-j
invariant-loop-j g l = record {
  block : cells_at l.all ≡ cells_at l.fn.all;
  cells : (j : ℕ) → j < l.j → get_or (cells_slots l.all) (l.to.first + j * l.to.step) None ≡ Some l.item;
  others : Changes (cells_slots l.fn.all) (cells_slots l.all) (OnLine l.to.first l.to.step l.j);
}
