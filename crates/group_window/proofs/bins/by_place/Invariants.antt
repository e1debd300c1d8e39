use Rattle.std.proofs.Common.{◌≡◌, take}
use Rattle.xr_groups.specs.Groups as of
use Rattle.group_window.proofs.bins.by_place.Given as goal

abbrev pub invariant-loop-place : goal.invariant-loop-place
invariant-loop-place l = (l.lists.items ≡ of.bin_lists l.count (take l.place-index l.places)) × (l.position ≡ l.place-index)
