use Rattle.std.proofs.Common.{◌≡◌, ◌++◌, drop}
use Rattle.std.specs.List.{flat_map}
use Rattle.xr_defs.specs.Text.{quoted_byte}
use Rattle.xr_print.proofs.names.push_quoted_bytes.Given as goal

abbrev pub invariant-loop-b : goal.invariant-loop-b
invariant-loop-b l = l.out.items ++ flat_map quoted_byte (drop l.b-index l.text) ≡ l.fn.out.items ++ flat_map quoted_byte l.text
