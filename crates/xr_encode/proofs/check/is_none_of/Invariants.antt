use Rattle.std.proofs.Common.{◌≡◌, drop}
use Rattle.std.specs.Prelude.{option_copied}
use Rattle.xr_defs.specs.Encoding.{is_that}
use Rattle.xr_encode.specs.Checks.{list_none}
use Rattle.xr_encode.proofs.check.is_none_of.Given as goal

abbrev pub invariant-loop-name : goal.invariant-loop-name
invariant-loop-name l = list_none (is_that (option_copied l.records)) (drop l.name-index l.names) ≡ list_none (is_that (option_copied l.records)) l.names
