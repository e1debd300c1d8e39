use Rattle.std.proofs.Common.{◌≡◌, ◌++◌, ◌-◌, ◌*◌, ◌≤◌, length, map}
use Rattle.xr_print.specs.Pieces.{lines_text}
use Rattle.xr_print.proofs.rows.push_lines.Given as goal

abbrev pub invariant-loop : goal.invariant-loop
invariant-loop g l = record {
  so_far : l.out.items ++ lines_text (l.rows - l.counter) l.n (map g.P.CellText.text l.rest) ≡ l.fn.out.items ++ lines_text l.rows l.n (map g.P.CellText.text l.cells);
  whole : (l.rows - l.counter) * l.n ≤ length l.rest;
}
