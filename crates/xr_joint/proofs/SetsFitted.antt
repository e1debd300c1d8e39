-- Datasets over the joined axes of all.
use Rattle.std.proofs.Common.{◌≡◌, ◌∙◌, ℕ, ℤ, List, [], ◌∷◌, map, Option, true, refl, sym, ap, subst}
use Rattle.std.specs.List.{AllByRecursion}
use Rattle.xr_types.specs.Names.{are_distinct}
use Rattle.xr_types.specs.declared.axis.Axis.{Axis}
use Rattle.xr_arrays.specs.declared.node.Node.{Node}
use Rattle.xr_defs.specs.Values as of
use Rattle.xr_defs.specs.WellFormed.{IsCoordinate}
use Rattle.xr_defs.specs.declared.value.Coord.{Coord}
use Rattle.xr_operations.specs.Alignment.{fitted_coord, joined_in}
use Rattle.xr_relations.specs.Aligning.{fitted_set, fitted_variable}
use Rattle.xr_values.specs.declared.dataset.Dataset.{Dataset}
use Rattle.xr_values.specs.declared.variable.Variable.{Variable}
use Rattle.xr_values.specs.Stands.{dataset_in, variable_in}
use Rattle.xr_values.specs.Variables.{names_of}
use Rattle.xr_values.proofs.Named.{put_behind}
use Rattle.xr_aligning.specs.Fitted.{AreFitted}
use Rattle.xr_aligning.specs.Sets.{ArePut, AreVarsAfter, IsVarAfter, IsVarHere}
use Rattle.xr_joint.specs.Fitting.{IsFittedSet, IsOpenIn}

module _ (old new : List Node) (joined own : List Axis) (fill : Option ℤ) where
  vars_are : (vs ws : List Variable) → AreVarsAfter old new joined own fill vs ws → map (variable_in new) ws ≡ map (fitted_variable joined own fill) (map (variable_in old) vs)
  vars_are [] [] are = refl
  vars_are [] (w ∷ ws) are = absurd are
  vars_are (v ∷ vs) [] are = absurd are
  vars_are (v ∷ vs) (w ∷ ws) are = (λ i. are.0.is i ∷ vars_are vs ws are.1 i)

  vars_here : (vs ws : List Variable) → AreVarsAfter old new joined own fill vs ws → AllByRecursion (IsVarHere new (map (joined_in joined) own)) ws
  vars_here [] [] are = tt
  vars_here [] (w ∷ ws) are = absurd are
  vars_here (v ∷ vs) [] are = absurd are
  vars_here (v ∷ vs) (w ∷ ws) are = (are.0.here, vars_here vs ws are.1)

  names_are : (vs ws : List Variable) → AreVarsAfter old new joined own fill vs ws → names_of ws ≡ names_of vs
  names_are [] [] are = refl
  names_are [] (w ∷ ws) are = absurd are
  names_are (v ∷ vs) [] are = absurd are
  names_are (v ∷ vs) (w ∷ ws) are = (λ i. (are.0.is i).name ∷ names_are vs ws are.1 i)

module _ (old new : List Node) (joined : List Axis) (fill : Option ℤ) (s t : Dataset) (distinct : are_distinct (names_of s.vars) ≡ true) (put : ArePut old new joined s.axes fill [] s.vars t.vars)
    (axes : t.axes ≡ map (joined_in joined) s.axes) (cs : AreFitted joined fill s.axes [] s.coords t.coords) (attrs : t.attrs ≡ s.attrs) (skipped : t.skipped ≡ s.skipped) where
  out_is : t.vars ≡ put.more
  out_is = put.put ∙ put_behind [] put.more (ap are_distinct (names_are old new joined s.axes fill s.vars put.more put.are) ∙ distinct)

  set_is : dataset_in new t ≡ fitted_set joined fill (dataset_in old s)
  unfolding fitted_set
  set_is = (λ i. record { axes = axes i; coords = cs.are i; vars = (ap (map (variable_in new)) out_is ∙ vars_are old new joined s.axes fill s.vars put.more put.are) i; attrs = attrs i; skipped = skipped i })

  pub set_fitted : IsFittedSet old new joined fill s t
  set_fitted = record {
    is = set_is;
    inside = record {
      vars = subst (λ (xs : List Axis). AllByRecursion (IsVarHere new xs) t.vars) (sym axes) (subst (AllByRecursion (IsVarHere new (map (joined_in joined) s.axes))) (sym out_is) (vars_here old new joined s.axes fill s.vars put.more put.are));
      coords = subst (λ (xs : List Axis). AllByRecursion (IsCoordinate xs) t.coords) (sym axes) (subst (AllByRecursion (IsCoordinate (map (joined_in joined) s.axes))) (sym cs.are) cs.formed);
    };
  }

pub set_fitted_from : (old new : List Node) (joined own : List Axis) (fill : Option ℤ) (s t : Dataset) (coords : List Coord) (vars out : List Variable) → out ≡ [] → own ≡ s.axes → coords ≡ s.coords → vars ≡ s.vars → are_distinct (names_of s.vars) ≡ true
    → ArePut old new joined own fill out vars t.vars → t.axes ≡ map (joined_in joined) own → (AllByRecursion (IsCoordinate own) coords → AreFitted joined fill own [] coords t.coords) → AllByRecursion (IsCoordinate s.axes) s.coords → t.attrs ≡ s.attrs → t.skipped ≡ s.skipped
    → IsFittedSet old new joined fill s t
set_fitted_from old new joined own fill s t coords vars out none own_is coords_is vars_is distinct put axes fitted formed attrs skipped =
    let ready : AllByRecursion (IsCoordinate own) coords = subst (λ (xs : List Axis). AllByRecursion (IsCoordinate xs) coords) (sym own_is) (subst (AllByRecursion (IsCoordinate s.axes)) (sym coords_is) formed) in
    let put_all : ArePut old new joined own fill [] s.vars t.vars = subst (λ us. ArePut old new joined own fill [] us t.vars) vars_is (subst (λ us. ArePut old new joined own fill us vars t.vars) none put) in
    let all_fitted : AreFitted joined fill own [] s.coords t.coords = subst (λ cs. AreFitted joined fill own [] cs t.coords) coords_is (fitted ready) in
    set_fitted old new joined fill s t distinct (subst (λ xs. ArePut old new joined xs fill [] s.vars t.vars) own_is put_all) (axes ∙ ap (map (joined_in joined)) own_is)
    (subst (λ xs. AreFitted joined fill xs [] s.coords t.coords) own_is all_fitted) attrs skipped
