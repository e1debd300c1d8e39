-- What is made of a dataset is the answer of a call.
use Rattle.xr_moving.proofs.Common.{Fault, Fit, Given, IsSetMade, MakesSet, Node, None, Ok, Result, Roll, SetMade, Variable, [], all_of, ap, check_dimension, false, length, refl, rolled, set_made_in, set_moved, set_moved_by, sym, ℕ, ℤ, ◌∙◌, ◌∷◌, ◌≡◌}
use Rattle.std.proofs.Common.{List}
use Rattle.xr_types.specs.Results.{unless}
use Rattle.xr_defs.specs.Values as of
use Rattle.xr_operations.specs.Moves.{distances, roll_set}

-- a missing cell is one of each kind
pub none_fits : (by : List (List ℕ × ℤ)) (vs : List Variable) → Fit (record { how = Roll; fill = None; by = by }) vs
none_fits by [] = tt
none_fits by (v ∷ vs) = (λ e. tt, none_fits by vs)

pub roll_told : (s : of.Dataset) (g : Given) (by : List (List ℕ × ℤ)) → length g.plain ≡ 0 → distances g.keyed ≡ Ok by → all_of (check_dimension s.axes) g.keyed ≡ Ok tt → roll_set s g ≡ Ok (set_moved rolled (λ t. None) false by s)
unfolding roll_set unless
roll_told s g by none d e = rw (none, d, e) refl

pub roll_answered : (nodes : List Node) (s : of.Dataset) (by : List (List ℕ × ℤ)) (m : SetMade) (told : Result of.Dataset Fault) → told ≡ Ok (set_moved rolled (λ t. None) false by s) → MakesSet nodes (set_moved_by (record { how = Roll; fill = None; by = by }) s) m
    → (told ≡ Ok (set_made_in nodes m)) × IsSetMade nodes m
roll_answered nodes s by m told is makes = (is ∙ ap Ok (sym makes.is), makes.made)
