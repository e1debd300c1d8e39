use Rattle.std.proofs.Common.{◌≡◌, drop, map, pos}
use Rattle.std.specs.List.{list_all}
use Rattle.xr_types.specs.Kinds.{in_range}
use Rattle.xr_forming.proofs.labels.are_unsigned_in.Given as goal

abbrev pub invariant-loop-number : goal.invariant-loop-number
invariant-loop-number l = list_all (in_range l.kind) (map pos (drop l.number-index l.numbers)) ≡ list_all (in_range l.kind) (map pos l.numbers)
