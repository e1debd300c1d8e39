use Rattle.std.proofs.Common.{◌≡◌, ◌++◌, drop}
use Rattle.std.specs.List.{flat_map}
use Rattle.xr_defs.specs.Text.{printed_byte}
use Rattle.xr_print.proofs.names.push_name.Given as goal

abbrev pub invariant-loop-b : goal.invariant-loop-b
invariant-loop-b l = l.out.items ++ flat_map printed_byte (drop l.b-index l.name) ≡ l.fn.out.items ++ flat_map printed_byte l.name
