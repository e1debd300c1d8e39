use Rattle.std.proofs.Common.{◌≡◌, drop}
use Rattle.std.specs.List.{list_all}
use Rattle.xr_files.specs.Canonical.{can_hold_var}
use Rattle.cdf_writer.proofs.hold.can_hold_vars.Given as goal

abbrev pub invariant-loop-var : goal.invariant-loop-var
invariant-loop-var l = list_all (can_hold_var l.file) (drop l.var-index l.file.vars) ≡ list_all (can_hold_var l.file) l.file.vars
