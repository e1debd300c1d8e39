use Rattle.std.proofs.Common.{◌≡◌, ◌-◌, drop, length, map}
use Rattle.xr_defs.specs.Printing.{by_name}
use Rattle.xr_encode.proofs.coords.by_name.Given as goal

abbrev pub invariant-loop-i : goal.invariant-loop-i
invariant-loop-i l = map (λ c. c.now) l.sorted.items ≡ by_name (drop (length l.coords - l.i) l.coords)
