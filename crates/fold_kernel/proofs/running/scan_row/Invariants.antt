use Rattle.std.proofs.Common.{◌≡◌, ◌<◌, ◌+◌, ℕ, take, get_or}
use Rattle.std.specs.List.{fold}
use Rattle.fold_kernel.specs.Rows.{with_cell}
use Rattle.fold_kernel.proofs.running.scan_row.Given as goal

abbrev pub invariant-loop-i : goal.invariant-loop-i
invariant-loop-i g l = record {
  total : g.S.Elem.number l.total ≡ fold (with_cell g.S.Elem.kind g.T.Elem.number) (g.S.Elem.number l.fn.start) (take l.i (g.R.Row.items l.row));
  sums : (k : ℕ) (z : g.row.S.Denot) → k < l.i → g.S.Elem.number (get_or l.out k z) ≡ fold (with_cell g.S.Elem.kind g.T.Elem.number) (g.S.Elem.number l.fn.start) (take (k + 1) (g.R.Row.items l.row));
}
