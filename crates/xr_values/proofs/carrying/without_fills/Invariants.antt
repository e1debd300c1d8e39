use Rattle.xr_values.proofs.Common.{drop, without_fills, ◌++◌, ◌≡◌}
use Rattle.xr_values.proofs.carrying.without_fills.Given as goal

abbrev pub invariant-loop-attr : goal.invariant-loop-attr
invariant-loop-attr l = l.kept ++ without_fills (drop l.attr-index l.attrs) ≡ without_fills l.attrs
