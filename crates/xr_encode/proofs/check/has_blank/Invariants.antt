use Rattle.std.proofs.Common.{◌≡◌, drop}
use Rattle.xr_encode.specs.Checks.{has_blank}
use Rattle.xr_encode.proofs.check.has_blank.Given as goal

abbrev pub invariant-loop-byte : goal.invariant-loop-byte
invariant-loop-byte l = has_blank (drop l.byte-index l.name) ≡ has_blank l.name
