-- Datasets of one variable, which has a name while it is brought over joined axes.
use Rattle.std.proofs.Common.{◌≡◌, ◌≤◌, ◌<◌, ◌∙◌, ◌+◌, ◌&&◌, ℤ, true, List, [], ◌∷◌, length, get_or, map, Option, Result, Ok, Err, refl, sym, ap, subst, arith}
use Rattle.std.specs.Prelude.{nat_le}
use Rattle.std.specs.List.{list_all, AllByRecursion}
use Rattle.std.proofs.lemmas.Bool.{and_parts}
use Rattle.std.proofs.lemmas.List.{length-map}
use Rattle.xr_types.specs.Results.{◌>>=◌, all_of, unless}
use Rattle.xr_types.specs.declared.axis.Axis.{Axis}
use Rattle.xr_types.specs.declared.fault.CallFault.{CallFault}
use Rattle.xr_types.specs.declared.fault.Fault.TheVariants.{TooLarge}
use Rattle.xr_arrays.specs.declared.node.Node.{Node}
use Rattle.xr_combination.specs.Concat.{unnamed}
use Rattle.xr_combination.specs.Pieces.{is_array}
use Rattle.xr_defs.specs.Limits.{most_cells, most_variables}
use Rattle.xr_defs.specs.Meanings as meant
use Rattle.xr_defs.specs.Selecting.{are_within, check_set, is_within, variable_array}
use Rattle.xr_defs.specs.Values as of
use Rattle.xr_forming.specs.Held.{IsHeld}
use Rattle.xr_relations.specs.Aligning.{fitted_set, fitted_variable}
use Rattle.xr_values.specs.Answers.{Fails}
use Rattle.xr_values.specs.Stands.{dataset_in, variable_in}
use Rattle.xr_values.specs.declared.dataset.Dataset.{Dataset}
use Rattle.xr_values.specs.declared.variable.Variable.{Variable}
use Rattle.xr_concat.specs.Named.{called, nameless, nameless_one, nameless_variable, AnswersOver, AreHeldIn, IsHeldIn}

-- ---- one variable without its name

pub only : (vs : List Variable) (v : Variable) → 1 ≤ length vs → length vs < 2 → v ≡ get_or vs 0 v → vs ≡ v ∷ []
only [] v some few is = absurd (omega arith)
only (w ∷ []) v some few is = ap (λ u. u ∷ []) (sym is)
only (w ∷ u ∷ vs) v some few is = absurd (omega arith)

pub with_vars : (s : Dataset) (vs : List Variable) (v : Variable) → vs ≡ nameless_one v ∷ [] → record s { vars = vs } ≡ record s { vars = nameless_one v ∷ [] }
with_vars s vs v is = ap (λ us. record s { vars = us }) is

module _ (nodes : List Node) (s t : Dataset) (v : Variable) (one : s.vars ≡ v ∷ []) (made : t ≡ record s { vars = nameless_one v ∷ [] }) where
  pub nameless_is : dataset_in nodes t ≡ nameless (dataset_in nodes s)
  nameless_is =
      ap (dataset_in nodes) made
      ∙ ap (λ vs. record { axes = s.axes; coords = s.coords; vars = map nameless_variable (map (variable_in nodes) vs); attrs = s.attrs; skipped = s.skipped }) (sym one)

  pub nameless_held : IsHeldIn nodes s → IsHeldIn nodes t
  nameless_held held =
      let all = subst (AllByRecursion (IsHeld nodes s.axes)) one held.vars in
      subst (IsHeldIn nodes) (sym made) (record { vars = (record { node = all.0.node; seen = all.0.seen }, tt); coords = held.coords })

-- ---- whether it has a name or not, it is over the same axes and within the same limits

module _ (joined : List Axis) (fill : Option ℤ) where
  variables_fitted : (axes : List Axis) (vs : List of.Variable) → map nameless_variable (map (fitted_variable joined axes fill) vs) ≡ map (fitted_variable joined axes fill) (map nameless_variable vs)
  variables_fitted axes [] = refl
  variables_fitted axes (v ∷ vs) = ap (λ ws. nameless_variable (fitted_variable joined axes fill v) ∷ ws) (variables_fitted axes vs)

  set_fitted : (s : of.Dataset) → nameless (fitted_set joined fill s) ≡ fitted_set joined fill (nameless s)
  unfolding fitted_set
  set_fitted s = ap (λ vs. record (fitted_set joined fill s) { vars = vs }) (variables_fitted s.axes s.vars)

  array_unnamed : (v : meant.Value) → is_array v ≡ true → nameless (called v) ≡ unnamed v
  array_unnamed (meant.Array a) is = refl
  array_unnamed meant.Absent is = absurd cc
  array_unnamed meant.Missing is = absurd cc
  array_unnamed (meant.Truth b) is = absurd cc
  array_unnamed (meant.Number n) is = absurd cc
  array_unnamed (meant.Text t) is = absurd cc
  array_unnamed (meant.Sequence vs) is = absurd cc
  array_unnamed (meant.Table es) is = absurd cc
  array_unnamed (meant.Slice start stop step) is = absurd cc
  array_unnamed (meant.Set s) is = absurd cc
  array_unnamed (meant.Times coding ts) is = absurd cc
  array_unnamed (meant.GroupedArray a g) is = absurd cc
  array_unnamed (meant.GroupedSet s g) is = absurd cc

  arrays_fitted : (vs : List meant.Value) → list_all is_array vs ≡ true → map nameless (map (fitted_set joined fill) (map called vs)) ≡ map (fitted_set joined fill) (map unnamed vs)
  arrays_fitted [] all = refl
  arrays_fitted (v ∷ vs) all =
      let both = and_parts (is_array v) (list_all is_array vs) all in
      (λ i. (set_fitted (called v) ∙ ap (fitted_set joined fill) (array_unnamed v both.0)) i ∷ arrays_fitted vs both.1 i)

all_within : (axes : List Axis) (vs : List of.Variable) → list_all (λ v. is_within (variable_array axes v).shape) (map nameless_variable vs) ≡ list_all (λ v. is_within (variable_array axes v).shape) vs
all_within axes [] = refl
all_within axes (v ∷ vs) = ap (λ b. is_within (variable_array axes v).shape && b) (all_within axes vs)

set_checked : (s : of.Dataset) → check_set (nameless s) ≡ check_set s
unfolding check_set
set_checked s =
    (λ i. unless (list_all (λ (x : Axis). nat_le x.size most_cells) s.axes && (are_within s.coords && (all_within s.axes s.vars i && nat_le (length s.coords + length-map s.vars nameless_variable i) most_variables))) TooLarge)

sets_checked : (ss : List of.Dataset) → all_of check_set (map nameless ss) ≡ all_of check_set ss
sets_checked [] = refl
sets_checked (s ∷ ss) = (λ i. set_checked s i >>= λ u. sets_checked ss i)

-- ---- what several give

module _ (joined : List Axis) (fill : Option ℤ) (vs : List meant.Value) (arrays : list_all is_array vs ≡ true) where
  abbrev named : List of.Dataset
  named = map (fitted_set joined fill) (map called vs)

  abbrev bare : List of.Dataset
  bare = map (fitted_set joined fill) (map unnamed vs)

  limits_same : all_of check_set named ≡ all_of check_set bare
  limits_same = sym (sets_checked named) ∙ ap (all_of check_set) (arrays_fitted joined fill vs arrays)

  module _ (nodes : List Node) (ss : List of.Dataset) (are : ss ≡ map called vs) where
    named_are : map (fitted_set joined fill) ss ≡ named
    named_are = ap (map (fitted_set joined fill)) are

    pub arrays_refused : (r : Result (List Dataset) CallFault) (e : CallFault) → r ≡ Err e → Fails e (all_of check_set (map (fitted_set joined fill) ss)) → AnswersOver nodes r bare
    arrays_refused r e is told = subst (λ (x : Result (List Dataset) CallFault). AnswersOver nodes x bare) (sym is) (subst (Fails e) (ap (all_of check_set) named_are ∙ limits_same) told)

    pub arrays_told : (ts us : List Dataset) → AnswersOver nodes (Ok ts) (map (fitted_set joined fill) ss) → map (dataset_in nodes) us ≡ map nameless (map (dataset_in nodes) ts) → AreHeldIn nodes us → AnswersOver nodes (Ok us) bare
    arrays_told ts us told is held =
        (sym limits_same ∙ ap (all_of check_set) (sym named_are) ∙ told.0, is ∙ ap (map nameless) (told.1 ∙ named_are) ∙ arrays_fitted joined fill vs arrays, held)
