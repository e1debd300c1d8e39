use Rattle.std.proofs.Common.{◌++◌, ◌==◌, ℕ, List, not, length, map, filter, take}
use Rattle.xr_decode.specs.Listed.{Lists}
use Rattle.xr_decode.proofs.listed.add_words.Given as goal

abbrev pub invariant-loop-part : goal.invariant-loop-part
invariant-loop-part l = (names : List (List ℕ)) → Lists l.fn.listed names → Lists l.listed (names ++ filter (λ w. not (length w == 0)) (map (λ x. x.now) (take l.part-index l.parts)))
