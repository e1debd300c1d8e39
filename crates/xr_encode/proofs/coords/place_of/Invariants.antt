use Rattle.std.proofs.Common.{◌≡◌, ◌+◌, drop}
use Rattle.std.specs.List.{prefix_len}
use Rattle.xr_defs.specs.Printing.{is_below}
use Rattle.xr_encode.proofs.coords.place_of.Given as goal

abbrev pub invariant-loop-i : goal.invariant-loop-i
invariant-loop-i l = l.i + prefix_len (λ d. is_below d.now.name l.coord.name) (drop l.i l.sorted) ≡ prefix_len (λ d. is_below d.now.name l.coord.name) l.sorted
