use Rattle.std.proofs.Common.{◌≡◌, drop, map}
use Rattle.xr_types.specs.Results.{all_of}
use Rattle.xr_defs.specs.Encoding.{check_fill}
use Rattle.xr_encode.specs.Outlines.{without_cells}
use Rattle.xr_encode.proofs.check.check_fills.Given as goal

abbrev pub invariant-loop-outline : goal.invariant-loop-outline
invariant-loop-outline l = all_of (check_fill l.options) (map without_cells (drop l.outline-index l.outlines)) ≡ all_of (check_fill l.options) (map without_cells l.outlines)
