-- The bytes of a run pass its test.
use Rattle.std.proofs.Common.{◌≡◌, ℕ, ◌<◌, Bool, true, List, take, arith, ◌∙◌, ap}
use Rattle.std.specs.Prelude.{All}
use Rattle.std.specs.List.{prefix_len}
use Rattle.std.proofs.lemmas.List.{get_or-take}
use Rattle.std.proofs.lemmas.List.Folds.{length-prefix_len}
use Rattle.std.proofs.lemmas.List.Sums.{prefix_len_passes}

pub run_passes : (p : ℕ → Bool) (bs : List ℕ) → All (λ c. p c ≡ true) (take (prefix_len p bs) bs)
run_passes p bs k d l =
    let n = length-prefix_len p bs in
    let inside : k < prefix_len p bs = omega (arith, n, l) in
    ap p (get_or-take (prefix_len p bs) bs k d inside) ∙ prefix_len_passes p bs k d inside
