use Rattle.std.proofs.Common.{◌≡◌, drop}
use Rattle.xr_files.specs.Canonical.{has_types}
use Rattle.cdf_writer.proofs.hold.has_types.Given as goal

abbrev pub invariant-loop-attr : goal.invariant-loop-attr
invariant-loop-attr l = has_types l.version (drop l.attr-index l.attrs) ≡ has_types l.version l.attrs
