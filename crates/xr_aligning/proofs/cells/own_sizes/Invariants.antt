use Rattle.xr_aligning.proofs.Common.{map, own_sizes, take, ◌≡◌}
use Rattle.xr_aligning.proofs.cells.own_sizes.Given as goal

abbrev pub invariant-loop-fit : goal.invariant-loop-fit
invariant-loop-fit l = l.sizes ≡ own_sizes (map (λ f. f.now) (take l.fit-index l.fits))
