use Rattle.std.proofs.Common.{◌≡◌, ◌++◌, map, drop, option_map}
use Rattle.xr_times.specs.Times.{decoded}
use Rattle.xr_defs.specs.Decoding.{all_there}
use Rattle.xr_decode.proofs.times.decoded_all.Given as goal

abbrev pub invariant-loop-count : goal.invariant-loop-count
invariant-loop-count g l =
    option_map (λ ts. l.times.items ++ ts) (all_there (map (decoded l.units) (map g.T.Elem.number (drop l.count-index l.counts)))) ≡ all_there (map (decoded l.units) (map g.T.Elem.number l.counts))
