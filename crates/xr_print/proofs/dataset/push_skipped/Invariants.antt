use Rattle.std.proofs.Common.{◌≡◌, ◌++◌, drop}
use Rattle.std.specs.List.{flat_map}
use Rattle.xr_defs.specs.Printing.{skipped_line}
use Rattle.xr_print.proofs.dataset.push_skipped.Given as goal

abbrev pub invariant-loop-name : goal.invariant-loop-name
invariant-loop-name l = l.out.items ++ flat_map skipped_line (drop l.name-index l.names) ≡ l.fn.out.items ++ flat_map skipped_line l.names
