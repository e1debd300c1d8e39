-- The checks of a fill, by how axes come to joined ones.
use Rattle.xr_aligning.proofs.Common.{AllByRecursion, Answers, Axis, Bor, CallFault, Coming, Coord, DType, Dataset, Err, Fault, Fit, IsFrame, IsThere, List, Node, Ok, Option, Result, Value, Variable, [], all_of, any_hole, ap, axes_called, check_coord_by, check_coords, check_fill_by, check_fill_where, check_hole, check_var_by, check_variables, dataset_in, fails, fit_of, labelled_in, map, refl, stands_for, subst, sym, variable_in, ◌>>=◌, ◌∙◌, ◌∷◌, ◌≡◌}
use Rattle.xr_defs.specs.Meanings as of
use Rattle.xr_parts.proofs.Axes.{own_axes}
use Rattle.xr_aligning.specs.declared.labelled.Labelled.TheVariants as labelled
use Rattle.xr_aligning.proofs.Along.{same_hole}

pub hole_told : (joined axes : List Axis) (fs : List Fit) (t : DType) (fill : Option Value) → fs ≡ map (fit_of joined) axes → check_fill_where (any_hole fs) t fill ≡ check_hole joined fill axes t
unfolding check_hole
hole_told joined axes fs t fill is = ap (λ fs. check_fill_where (any_hole fs) t fill) is ∙ ap (λ b. check_fill_where b t fill) (same_hole joined axes)

pub hole_answered : (joined axes : List Axis) (fs : List Fit) (t : DType) (fill : Option Value) (r : Result (Unit {0}) CallFault) → fs ≡ map (fit_of joined) axes → Answers (λ u. u) r (check_fill_where (any_hole fs) t fill) → Answers (λ u. u) r (check_hole joined fill axes t)
hole_answered joined axes fs t fill r is told = subst (Answers (λ u. u) r) (hole_told joined axes fs t fill is) told

-- the axes of a frame are its own
pub own_there : (own axes : List Axis) (coords : List Coord) → own ≡ axes → IsFrame axes coords → AllByRecursion (IsThere own) axes
own_there own axes coords same frame = subst (λ xs. AllByRecursion (IsThere xs) axes) (sym same) (own_axes axes frame.dims.distinct)

-- ---- datasets

vars_told : (nodes : List Node) (joined axes : List Axis) (fill : Option Value) (vs : List Variable) → all_of (check_var_by joined fill axes) vs ≡ check_variables joined fill axes (map (variable_in nodes) vs)
unfolding check_var_by
vars_told nodes joined axes fill [] = refl
vars_told nodes joined axes fill (v ∷ vs) = ap (λ r. check_hole joined fill (axes_called axes v.dims) v.kind >>= λ u. r) (vars_told nodes joined axes fill vs)

module _ (nodes : List Node) (joined : List Axis) (fill : Option Value) (s : Dataset) (own : List Axis) (same : own ≡ s.axes) where
  abbrev whole : Result (Unit {0}) Fault
  whole = check_fill_by joined fill (of.Set (dataset_in nodes s))

  in_turn : (vs : List Variable) → vs ≡ s.vars → whole ≡ (all_of (check_var_by joined fill own) vs >>= λ u. all_of (check_coord_by joined fill) s.coords)
  unfolding check_coord_by
  in_turn vs is =
      ap (λ r. r >>= λ u. check_coords joined fill s.coords) (sym (vars_told nodes joined s.axes fill s.vars)) ∙ (λ i. all_of (check_var_by joined fill (sym same i)) (sym is i) >>= λ u. check_coords joined fill s.coords)

  pub set_fails : (vs : List Variable) (r : Result (Unit {0}) CallFault) (e : CallFault) → r ≡ Err e → (us : List Variable) → us ≡ s.vars → Answers (λ (u : Unit {0}). u) (Err e) (all_of (check_var_by joined fill own) us) → Answers (λ (u : Unit {0}). u) r whole
  set_fails vs r e here us is told = fails (λ (u : Unit {0}). u) (λ (u : Unit {0}). u) r e (all_of (check_var_by joined fill own) us) (λ u. all_of (check_coord_by joined fill) s.coords) whole here (in_turn us is) told

  pub set_goes_on : (r : Result (Unit {0}) CallFault) (us : List Variable) → us ≡ s.vars → all_of (check_var_by joined fill own) us ≡ Ok tt → (cs : List Coord) → cs ≡ s.coords → Answers (λ (u : Unit {0}). u) r (all_of (check_coord_by joined fill) cs) → Answers (λ (u : Unit {0}). u) r whole
  set_goes_on r us is done cs same_coords told =
      subst (Answers (λ (u : Unit {0}). u) r) (sym (in_turn us is ∙ ap (λ o. o >>= λ u. all_of (check_coord_by joined fill) s.coords) done ∙ ap (all_of (check_coord_by joined fill)) (sym same_coords))) told

pub set_checked : (nodes : List Node) (m : Coming) (s : Bor Dataset) (js : List Axis) (fill : Option Value) (r : Result (Unit {0}) CallFault) → m.on ≡ labelled.Set s → js ≡ m.joined → Answers (λ (u : Unit {0}). u) r (check_fill_by js fill (of.Set (dataset_in nodes s.now)))
    → Answers (λ (u : Unit {0}). u) r (check_fill_by m.joined fill (stands_for nodes m))
set_checked nodes m s js fill r is same told =
    subst (λ xs. Answers (λ (u : Unit {0}). u) r (check_fill_by xs fill (stands_for nodes m))) same (subst (λ l. Answers (λ (u : Unit {0}). u) r (check_fill_by js fill (labelled_in nodes l))) (sym is) told)
