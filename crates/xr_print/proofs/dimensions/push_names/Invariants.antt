use Rattle.std.proofs.Common.{◌≡◌, ◌++◌, map, drop, true}
use Rattle.xr_defs.specs.Text.{printed_name}
use Rattle.xr_print.specs.Pieces.{listed}
use Rattle.xr_print.proofs.dimensions.push_names.Given as goal

abbrev pub invariant-loop-name : goal.invariant-loop-name
invariant-loop-name l = l.out.items ++ listed l.first (map printed_name (drop l.name-index l.names)) ≡ l.fn.out.items ++ listed true (map printed_name l.names)
