use Rattle.std.proofs.Common.{◌≡◌, drop}
use Rattle.std.specs.List.{list_all}
use Rattle.xr_encode.specs.Checks.{has_new}
use Rattle.xr_encode.proofs.check.have_new.Given as goal

abbrev pub invariant-loop-outline : goal.invariant-loop-outline
invariant-loop-outline l = list_all (has_new l.options) (drop l.outline-index l.outlines) ≡ list_all (has_new l.options) l.outlines
