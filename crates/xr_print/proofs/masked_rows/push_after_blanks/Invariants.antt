use Rattle.std.proofs.Common.{◌≡◌, ◌++◌, drop, Some}
use Rattle.xr_defs.specs.Text.{after_blanks}
use Rattle.xr_print.specs.Pieces.{texts_of}
use Rattle.xr_print.proofs.masked_rows.push_after_blanks.Given as goal

abbrev pub invariant-loop-i : goal.invariant-loop-i
invariant-loop-i g l = l.out.items ++ after_blanks (texts_of g.P.CellText.text (drop l.i l.cells) (Some (drop l.i l.mask))) ≡ l.fn.out.items ++ after_blanks (texts_of g.P.CellText.text l.cells (Some l.mask))
