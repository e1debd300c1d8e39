use Rattle.std.proofs.Common.{◌≡◌, drop}
use Rattle.std.specs.List.{find}
use Rattle.xr_files.specs.Canonical.{is_own_fill}
use Rattle.cdf_writer.proofs.values.fill_of.Given as goal

abbrev pub invariant-loop-attr : goal.invariant-loop-attr
invariant-loop-attr l = find (is_own_fill l.var.kind) (drop l.attr-index l.var.attrs) ≡ find (is_own_fill l.var.kind) l.var.attrs
