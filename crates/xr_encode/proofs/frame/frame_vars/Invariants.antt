use Rattle.std.proofs.Common.{◌≡◌, ◌++◌, drop, map, Ok}
use Rattle.xr_types.specs.Results.{all_of}
use Rattle.xr_defs.specs.Encoding.{check_fit, var_of}
use Rattle.xr_encode.specs.Outlines.{without_cells}
use Rattle.xr_encode.proofs.frame.frame_vars.Given as goal

abbrev pub invariant-loop-outline : goal.invariant-loop-outline
invariant-loop-outline l = record {
  fit : all_of (check_fit l.options) (map without_cells (drop l.outline-index l.outlines)) ≡ Ok tt;
  vars : l.vars ++ map (λ o. var_of l.dims l.options (without_cells o)) (drop l.outline-index l.outlines) ≡ map (λ o. var_of l.dims l.options (without_cells o)) l.outlines;
}
