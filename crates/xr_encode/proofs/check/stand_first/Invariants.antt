use Rattle.std.proofs.Common.{◌≡◌, drop}
use Rattle.std.specs.Prelude.{option_copied}
use Rattle.std.specs.List.{list_all}
use Rattle.xr_defs.specs.Encoding.{stands_first}
use Rattle.xr_encode.specs.Outlines.{without_cells}
use Rattle.xr_encode.proofs.check.stand_first.Given as goal

abbrev pub invariant-loop-outline : goal.invariant-loop-outline
invariant-loop-outline l = list_all (λ o. stands_first (option_copied l.records) (without_cells o)) (drop l.outline-index l.outlines) ≡ list_all (λ o. stands_first (option_copied l.records) (without_cells o)) l.outlines
