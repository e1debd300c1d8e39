use Rattle.std.proofs.Common.{◌≡◌, ◌++◌, ◌-◌, ◌*◌, ◌≤◌, length, Some}
use Rattle.xr_print.specs.Pieces.{lines_text, texts_of}
use Rattle.xr_print.proofs.masked_rows.push_lines.Given as goal

abbrev pub invariant-loop : goal.invariant-loop
invariant-loop g l = record {
  so_far : l.out.items ++ lines_text (l.rows - l.counter) l.n (texts_of g.P.CellText.text l.rest (Some l.gaps)) ≡ l.fn.out.items ++ lines_text l.rows l.n (texts_of g.P.CellText.text l.cells (Some l.mask));
  same : length l.rest ≡ length l.gaps;
  whole : (l.rows - l.counter) * l.n ≤ length l.rest;
}
