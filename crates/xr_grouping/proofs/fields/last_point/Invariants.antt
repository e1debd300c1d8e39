use Rattle.std.proofs.Common.{◌≡◌}
use Rattle.xr_grouping.proofs.Texts.{IsSplit}
use Rattle.xr_grouping.proofs.fields.last_point.Given as goal

abbrev pub invariant-loop-byte : goal.invariant-loop-byte
invariant-loop-byte l = IsSplit l.text l.byte-index l.last × (l.place ≡ l.byte-index)
