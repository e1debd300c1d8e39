-- How the axes of these names come to joined ones.
use Rattle.xr_aligning.proofs.Common.{AllByRecursion, Axis, Bool, Fit, IsThere, List, Option, Some, [], ap, append_assoc, axis_called, bytes_eq, called_cons, called_holds, cond, false, fit_called, fit_of, joined_in, length, length-map, map, not, own_sizes, refl, shape_over, sizes, subst, sym, true, ℕ, ◌++◌, ◌∙◌, ◌∷◌, ◌≡◌}

-- what holds of axes holds of those that are there
pub there_hold : (P : Axis → Type 0) (own xs : List Axis) → AllByRecursion P own → AllByRecursion (IsThere own) xs → AllByRecursion P xs
there_hold P own [] all over = tt
there_hold P own (x ∷ xs) all over = (subst P over.0.1 (called_holds P x.name own all over.0.0).0, there_hold P own xs all over.1)

same_fit : (f g : Fit) (o : Option Fit) → o ≡ Some f → o ≡ Some g → f ≡ g
same_fit f g o a b = cc

called_of : (joined own : List Axis) (name : List ℕ) (f : Fit) → fit_called (map (fit_of joined) own) name ≡ Some f → f ≡ fit_of joined (axis_called own name)
called_of joined [] name f is = absurd cc
called_of joined (x ∷ xs) name f is = by (bytes_eq x.name name) refl is (called_of joined xs name f)
  where
    by : (b : Bool) → bytes_eq x.name name ≡ b → cond b (Some (fit_of joined x)) (fit_called (map (fit_of joined) xs) name) ≡ Some f → (fit_called (map (fit_of joined) xs) name ≡ Some f → f ≡ fit_of joined (axis_called xs name)) → f ≡ fit_of joined (axis_called (x ∷ xs) name)
    by true e is rest = same_fit f (fit_of joined x) (Some f) refl (sym is) ∙ ap (fit_of joined) (sym (called_cons x xs name ∙ ap (λ b. cond b x (axis_called xs name)) e))
    by false e is rest = rest is ∙ ap (fit_of joined) (sym (called_cons x xs name ∙ ap (λ b. cond b x (axis_called xs name)) e))

-- the one that is found
pub called_fit : (fits : List Fit) (joined own : List Axis) (name : List ℕ) (f : Fit) → fits ≡ map (fit_of joined) own → fit_called fits name ≡ Some f → f ≡ fit_of joined (axis_called own name)
called_fit fits joined own name f are is = called_of joined own name f (ap (λ fs. fit_called fs name) (sym are) ∙ is)

module _ (joined own : List Axis) where
  -- one more, whose axis is there
  pub over_more : (out : List Fit) (f : Fit) (x : Axis) (xs : List Axis) (new : List Fit) → f ≡ fit_of joined (axis_called own x.name) → AllByRecursion (IsThere own) (x ∷ xs)
      → (AllByRecursion (IsThere own) xs → new ≡ (out ++ f ∷ []) ++ map (fit_of joined) xs) → new ≡ out ++ map (fit_of joined) (x ∷ xs)
  over_more out f x xs new is there rest =
      rest there.1 ∙ append_assoc out (f ∷ []) (map (fit_of joined) xs) ∙ ap (λ g. out ++ g ∷ map (fit_of joined) xs) (is ∙ ap (fit_of joined) there.0.1)

pub sizes_long : (fs : List Fit) → length (sizes fs) ≡ length fs
sizes_long fs = length-map fs (λ (f : Fit). f.size)

pub own_over : (joined xs : List Axis) → own_sizes (map (fit_of joined) xs) ≡ shape_over xs
own_over joined [] = refl
own_over joined (x ∷ xs) = ap (λ ns. x.size ∷ ns) (own_over joined xs)

pub sizes_over : (joined xs : List Axis) → sizes (map (fit_of joined) xs) ≡ shape_over (map (joined_in joined) xs)
sizes_over joined [] = refl
sizes_over joined (x ∷ xs) = ap (λ ns. (joined_in joined x).size ∷ ns) (sizes_over joined xs)

pub not_false : (b : Bool) → not b ≡ false → b ≡ true
not_false true e = refl
not_false false e = absurd cc
