use Rattle.std.proofs.Common.{◌≡◌, ◌<◌, ◌+◌, ◌*◌, ℕ, get_or}
use Rattle.std.specs.Prelude.{Some, None}
use Rattle.strided_block.specs.Deeds.{cells_at, cells_slots}
use Rattle.strided_block.specs.Lines.{prior, Follows}
use Rattle.strided_block.specs.Parts.{Changes, OnLine}
use Rattle.strided_block.specs.Steps.{spot_on}
use Rattle.strided_block.proofs.line.scan_places.Given as goal

abbrev pub invariant-loop-j : goal.invariant-loop-j
invariant-loop-j g l = record {
  block : cells_at l.all ≡ cells_at l.fn.all;
  last : Some l.last ≡ prior (Some l.fn.start) (λ i. get_or (cells_slots l.all) (l.to.first + i * l.to.step) None) l.j;
  cells : (j : ℕ) → j < l.j → Follows (goal.F-post g l.f) (prior (Some l.fn.start) (λ i. get_or (cells_slots l.all) (l.to.first + i * l.to.step) None) j) (get_or l.a.slots (spot_on l.from_a.first l.from_a.step j) None) (get_or l.b.slots (spot_on l.from_b.first l.from_b.step j) None) (get_or (cells_slots l.all) (l.to.first + j * l.to.step) None);
  others : Changes (cells_slots l.fn.all) (cells_slots l.all) (OnLine l.to.first l.to.step l.j);
}
