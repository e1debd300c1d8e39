use Rattle.std.proofs.Common.{◌≡◌, take, map}
use Rattle.xr_operations.specs.Alignment.{text_of}
use Rattle.align_join.proofs.relist.texts.Given as goal

abbrev pub invariant-loop-key : goal.invariant-loop-key
invariant-loop-key l = l.all ≡ map text_of (take l.key-index l.labels)
