use Rattle.std.proofs.Common.{◌≡◌, drop}
use Rattle.xr_defs.specs.Encoding.{are_new}
use Rattle.xr_encode.proofs.check.are_new.Given as goal

abbrev pub invariant-loop-attr : goal.invariant-loop-attr
invariant-loop-attr l = are_new l.own (drop l.attr-index l.more) ≡ are_new l.own l.more
