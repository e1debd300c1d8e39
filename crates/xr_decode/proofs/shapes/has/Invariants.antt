use Rattle.std.proofs.Common.{◌≡◌, drop}
use Rattle.std.specs.Prelude.{◌==◌}
use Rattle.std.specs.List.{list_any}
use Rattle.xr_decode.proofs.shapes.has.Given as goal

abbrev pub invariant-loop-other : goal.invariant-loop-other
invariant-loop-other l = list_any (λ j. j == l.id) (drop l.other-index l.ids) ≡ list_any (λ j. j == l.id) l.ids
