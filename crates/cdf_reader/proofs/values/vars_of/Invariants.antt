use Rattle.std.proofs.Common.{◌≡◌, ◌++◌, map, reverse, length}
use Rattle.xr_files.specs.Classic.{Header}
use Rattle.xr_files.specs.Files.{var_of, recsize}
use Rattle.cdf_reader.specs.Sizes.{capped}
use Rattle.cdf_reader.proofs.values.vars_of.Given as goal

abbrev pub invariant-loop-head : goal.invariant-loop-head
invariant-loop-head l = (h : Header) → h.dims ≡ l.places.dims.now → l.places.distance ≡ capped (recsize h)
    → map (var_of l.bytes h l.places.numrecs) l.heads.items ++ reverse l.vars.items ≡ map (var_of l.bytes h l.places.numrecs) l.fn.heads.items

abbrev pub decreases-loop-head : goal.decreases-loop-head
decreases-loop-head l = length l.heads.items
