use Rattle.std.proofs.Common.{◌≡◌, drop, map}
use Rattle.xr_types.specs.Results.{all_of}
use Rattle.xr_defs.specs.Encoding.{check_fit}
use Rattle.xr_encode.specs.Outlines.{without_cells}
use Rattle.xr_encode.proofs.check.check_fits.Given as goal

abbrev pub invariant-loop-outline : goal.invariant-loop-outline
invariant-loop-outline l = all_of (check_fit l.options) (map without_cells (drop l.outline-index l.outlines)) ≡ all_of (check_fit l.options) (map without_cells l.outlines)
