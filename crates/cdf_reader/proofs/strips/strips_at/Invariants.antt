use Rattle.std.proofs.Common.{◌≡◌, ◌≤◌, ℕ, List, length, map, take}
use Rattle.xr_files.specs.Classic.{Header}
use Rattle.xr_files.specs.Files.{most_bytes, recsize, raw_of}
use Rattle.cdf_reader.specs.Sizes.{capped}
use Rattle.cdf_reader.specs.Strips.{strip_values}
use Rattle.cdf_reader.proofs.strips.strips_at.Given as goal

abbrev pub invariant-loop-var : goal.invariant-loop-var
invariant-loop-var l = (bytes : List ℕ) (h : Header) → length bytes ≤ most_bytes → h.dims ≡ l.places.dims.now → l.places.distance ≡ capped (recsize h)
    → map (strip_values bytes l.places.distance) l.strips.items ≡ map (λ v. raw_of bytes h l.places.numrecs v.now) (take l.var-index l.vars)
