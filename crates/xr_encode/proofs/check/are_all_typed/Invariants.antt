use Rattle.std.proofs.Common.{◌≡◌, drop}
use Rattle.std.specs.List.{list_all}
use Rattle.xr_encode.specs.Checks.{are_typed}
use Rattle.xr_encode.proofs.check.are_all_typed.Given as goal

abbrev pub invariant-loop-outline : goal.invariant-loop-outline
invariant-loop-outline l = list_all (are_typed l.options) (drop l.outline-index l.outlines) ≡ list_all (are_typed l.options) l.outlines
