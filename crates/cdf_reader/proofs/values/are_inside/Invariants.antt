use Rattle.std.proofs.Common.{◌≡◌, drop}
use Rattle.std.specs.List.{list_all}
use Rattle.xr_files.specs.Classic.{Header}
use Rattle.xr_files.specs.Files.{is_inside, recsize}
use Rattle.cdf_reader.specs.Sizes.{capped}
use Rattle.cdf_reader.proofs.values.are_inside.Given as goal

abbrev pub invariant-loop-var : goal.invariant-loop-var
invariant-loop-var l = (h : Header) → h.dims ≡ l.places.dims.now → l.places.distance ≡ capped (recsize h) → list_all (is_inside h l.places.numrecs l.bytes) (drop l.var-index l.vars) ≡ list_all (is_inside h l.places.numrecs l.bytes) l.vars
