use Rattle.std.proofs.Common.{◌≡◌, ◌++◌, take}
use Rattle.xr_chaining.proofs.labels.push_copies.Given as goal

abbrev pub invariant-loop-text : goal.invariant-loop-text
invariant-loop-text l = l.out ≡ l.fn.out ++ take l.text-index l.texts
