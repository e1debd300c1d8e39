use Rattle.std.proofs.Common.{◌≡◌, ◌++◌, map, drop}
use Rattle.xr_defs.specs.Text.{after_blanks}
use Rattle.xr_print.proofs.rows.push_after_blanks.Given as goal

abbrev pub invariant-loop-i : goal.invariant-loop-i
invariant-loop-i g l = l.out.items ++ after_blanks (map g.P.CellText.text (drop l.i l.cells)) ≡ l.fn.out.items ++ after_blanks (map g.P.CellText.text l.cells)
