use Rattle.std.proofs.Common.{◌≡◌, drop}
use Rattle.std.specs.List.{list_any}
use Rattle.xr_encode.specs.Sets.{lists_name}
use Rattle.xr_encode.proofs.set.is_listed.Given as goal

abbrev pub invariant-loop-outline : goal.invariant-loop-outline
invariant-loop-outline l = list_any (lists_name l.name) (drop l.outline-index l.outlines) ≡ list_any (lists_name l.name) l.outlines
