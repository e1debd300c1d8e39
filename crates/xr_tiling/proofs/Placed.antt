-- A grid is full where each of its places is taken once.
use Rattle.std.proofs.Common.{◌≡◌, ◌∙◌, ◌&&◌, ℕ, true, false, List, Ok, Err, ap, sym}
use Rattle.std.specs.Prelude.{◌==◌}
use Rattle.xr_types.specs.Points.{size}
use Rattle.xr_types.specs.Results.{◌>>=◌, unless}
use Rattle.xr_types.specs.declared.fault.Fault.TheVariants.{Conflict}
use Rattle.xr_defs.specs.Limits.{are_different}
use Rattle.xr_tiling.specs.Places.{extents_in, full_places, places_in}
use Rattle.xr_tiling.specs.declared.ranks.Ranking.{Ranking}

module _ (rs : List Ranking) (count : ℕ) where
  pub other_size : (count == size (extents_in rs)) ≡ false → full_places rs count ≡ Err Conflict
  unfolding full_places unless
  other_size other = ap (λ b. unless (b && are_different (places_in rs count)) Conflict >>= λ u. Ok (places_in rs count)) other

  module _ (ps : List ℕ) (sized : (count == size (extents_in rs)) ≡ true) (are : ps ≡ places_in rs count) where
    pub taken_twice : are_different ps ≡ false → full_places rs count ≡ Err Conflict
    unfolding full_places unless
    taken_twice twice =
        ap (λ b. unless (b && are_different (places_in rs count)) Conflict >>= λ u. Ok (places_in rs count)) sized
        ∙ ap (λ b. unless b Conflict >>= λ u. Ok (places_in rs count)) (ap are_different (sym are) ∙ twice)

    pub full : are_different ps ≡ true → full_places rs count ≡ Ok ps
    unfolding full_places unless
    full once =
        ap (λ b. unless (b && are_different (places_in rs count)) Conflict >>= λ u. Ok (places_in rs count)) sized
        ∙ ap (λ b. unless b Conflict >>= λ u. Ok (places_in rs count)) (ap are_different (sym are) ∙ once)
        ∙ ap Ok (sym are)
