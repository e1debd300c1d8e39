use Rattle.std.proofs.Common.{◌≡◌, drop}
use Rattle.std.specs.Prelude.{◌==◌}
use Rattle.std.specs.List.{list_any}
use Rattle.xr_encode.proofs.widths.has.Given as goal

abbrev pub invariant-loop-other : goal.invariant-loop-other
invariant-loop-other l = list_any (λ m. m == l.width) (drop l.other-index l.widths) ≡ list_any (λ m. m == l.width) l.widths
