-- Coordinates over joined axes, one behind the other.
use Rattle.std.proofs.Common.{◌≡◌, ◌∙◌, ℤ, List, [], ◌∷◌, ◌++◌, map, Option, sym, ap, subst, append_assoc}
use Rattle.std.specs.List.{AllByRecursion}
use Rattle.std.proofs.lemmas.List.{append-nil, map-append}
use Rattle.xr_types.specs.declared.axis.Axis.{Axis}
use Rattle.xr_defs.specs.WellFormed.{IsCoordinate}
use Rattle.xr_defs.specs.declared.value.Coord.{Coord}
use Rattle.xr_operations.specs.Alignment.{fitted_coord, joined_in}
use Rattle.xr_aligning.specs.Fitted.{AreFitted, IsFitted}
use Rattle.xr_aligning.proofs.Loops.{all_hold}

module _ (joined : List Axis) (fill : Option ℤ) (own : List Axis) where
  pub none_fitted : (out : List Coord) → AreFitted joined fill own out [] out
  none_fitted out = record { are = sym (append-nil out); formed = tt }

  pub one_fitted : (cs : List Coord) (c d : Coord) (out now next : List Coord) → next ≡ now ++ d ∷ [] → IsFitted joined fill own c d → AreFitted joined fill own out cs now → AreFitted joined fill own out (cs ++ c ∷ []) next
  one_fitted cs c d out now next pushed one so_far =
      let more = ap (λ e. map (fitted_coord joined fill) cs ++ e ∷ []) one.is ∙ sym (map-append (fitted_coord joined fill) cs (c ∷ [])) in
      record {
        are = pushed ∙ ap (λ ds. ds ++ d ∷ []) so_far.are ∙ append_assoc out (map (fitted_coord joined fill) cs) (d ∷ []) ∙ ap (λ ds. out ++ ds) more;
        formed = all_hold (map (fitted_coord joined fill) cs) (map (fitted_coord joined fill) (cs ++ c ∷ [])) d (sym more) (IsCoordinate (map (joined_in joined) own)) so_far.formed one.formed;
      }
