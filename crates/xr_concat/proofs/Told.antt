-- The definition of the call, step by step as the program takes it.
use Rattle.std.proofs.Common.{◌≡◌, ◌∙◌, ◌-◌, ℕ, List, ◌∷◌, length, map, take, Option, Some, None, is_some, option_map, Result, Ok, Err, arith, refl, sym, ap}
use Rattle.std.proofs.lemmas.List.{take_all}
use Rattle.xr_types.specs.Results.{◌>>=◌, all_of}
use Rattle.xr_types.specs.declared.axis.Axis.{Axis}
use Rattle.xr_types.specs.declared.fault.Fault.{Fault}
use Rattle.xr_types.specs.declared.operation.How.{How}
use Rattle.xr_combination.specs.Concat.{as_given, check_constant, check_dimension, check_kinds, check_variables, concat_of, joining_axis, other_axes, put_together, set_names, unnamed}
use Rattle.xr_combination.specs.Pieces.{check_fill, first_set}
use Rattle.xr_defs.specs.Meanings as meant
use Rattle.xr_defs.specs.Selecting.{check_set}
use Rattle.xr_defs.specs.Values as of
use Rattle.xr_operations.specs.Alignment.{aligned}
use Rattle.xr_relations.specs.Aligning.{check_size, fill_cell}
use Rattle.xr_joint.proofs.Firsts.{others}
use Rattle.xr_stacking.specs.Axes.{axes_of}
use Rattle.xr_concat.proofs.Fitted.{kinds_kept}
use Rattle.xr_concat.specs.Steps.{answered, checked_over, made_of, made_over, over}

-- ---- what is checked

module _ (joined : List Axis) (fill : Option meant.Value) (ss : List of.Dataset) where
  pub at_kinds : checked_over joined fill ss ≡ (all_of (check_kinds ss) (set_names (first_set ss)) >>= λ u. all_of (check_fill joined fill) ss)
  unfolding checked_over
  at_kinds = ap (λ r. r >>= λ u. all_of (check_fill joined fill) ss) (kinds_kept joined (fill_cell fill) ss)

  pub at_fills : all_of (check_kinds ss) (set_names (first_set ss)) ≡ Ok tt → checked_over joined fill ss ≡ all_of (check_fill joined fill) ss
  at_fills passed = at_kinds ∙ ap (λ r. r >>= λ u. all_of (check_fill joined fill) ss) passed

  pub kinds_checked : checked_over joined fill ss ≡ Ok tt → all_of (check_kinds (over joined (fill_cell fill) ss)) (set_names (first_set (over joined (fill_cell fill) ss))) ≡ Ok tt
  kinds_checked passed = kinds_kept joined (fill_cell fill) ss ∙ by (all_of (check_kinds ss) (set_names (first_set ss))) (all_of (check_fill joined fill) ss) (sym at_kinds ∙ passed)
    where
      pass : Result (Unit {0}) Fault
      pass = Ok tt

      by : (k f : Result (Unit {0}) Fault) → (k >>= λ u. f) ≡ pass → k ≡ pass
      by (Ok u) f e = refl
      by (Err e) f is = absurd cc

-- ---- what is made

module _ (dim : List ℕ) (axes : List Axis) (vs : List meant.Value) (ss : List of.Dataset) where
  pub at_constants : made_of dim axes vs ss ≡ (all_of (check_constant dim ss) (set_names (first_set ss)) >>= λ u. put_together dim axes ss >>= λ t. answered vs t)
  unfolding made_of
  at_constants = refl

  module _ (constant : all_of (check_constant dim ss) (set_names (first_set ss)) ≡ Ok tt) where
    pub at_put : made_of dim axes vs ss ≡ (put_together dim axes ss >>= λ t. answered vs t)
    at_put = at_constants ∙ ap (λ r. r >>= λ u. put_together dim axes ss >>= λ t. answered vs t) constant

    pub at_answered : (t : of.Dataset) → put_together dim axes ss ≡ Ok t → made_of dim axes vs ss ≡ answered vs t
    at_answered t made = at_put ∙ ap (λ r. r >>= λ u. answered vs u) made

-- ---- over joined axes

module _ (dim : List ℕ) (joined axes : List Axis) (fill : Option meant.Value) (vs : List meant.Value) where
  abbrev pub all_over : List of.Dataset
  all_over = over joined (fill_cell fill) (map unnamed vs)

  pub at_checks : made_over dim joined axes fill vs ≡ (checked_over joined fill (map unnamed vs) >>= λ u. all_of check_set all_over >>= λ v. made_of dim axes vs all_over)
  unfolding made_over
  at_checks = refl

  module _ (checked : checked_over joined fill (map unnamed vs) ≡ Ok tt) where
    pub at_limits : made_over dim joined axes fill vs ≡ (all_of check_set all_over >>= λ v. made_of dim axes vs all_over)
    at_limits = at_checks ∙ ap (λ r. r >>= λ u. all_of check_set all_over >>= λ v. made_of dim axes vs all_over) checked

    pub at_made : all_of check_set all_over ≡ Ok tt → made_over dim joined axes fill vs ≡ made_of dim axes vs all_over
    at_made within = at_limits ∙ ap (λ r. r >>= λ v. made_of dim axes vs all_over) within

-- ---- the call but for its arguments

others_are : {X : Type 0} (x : X) (xs : List X) → others (x ∷ xs) ≡ xs
others_are x xs = let n : length (x ∷ xs) - 1 ≡ length xs = omega arith in ap (λ k. take k xs) n ∙ take_all (length xs) xs (omega arith)

pub some_kept : {X Y : Type 0} (f : X → Y) (o : Option X) → is_some (option_map f o) ≡ is_some o
some_kept f None = refl
some_kept f (Some x) = refl

module _ (dim : List ℕ) (how : How) (fill : Option meant.Value) (vs : List meant.Value) where
  abbrev sets : List of.Dataset
  sets = map unnamed vs

  abbrev pub by_axes : List Axis → Result meant.Value Fault
  by_axes xs = made_over dim (others xs) xs fill vs

  abbrev fitted : List Axis → List of.Dataset
  fitted joined = over joined (fill_cell fill) sets

  abbrev ends : Axis → List Axis → Result meant.Value Fault
  ends x joined = all_of (check_constant dim (fitted joined)) (set_names (first_set (fitted joined))) >>= λ y. put_together dim (x ∷ joined) (fitted joined) >>= λ t. (let r = as_given vs t in check_size r >>= λ q. Ok r)

  abbrev body : Axis → List Axis → Result meant.Value Fault
  body x joined = all_of (check_kinds (fitted joined)) (set_names (first_set (fitted joined))) >>= λ w. all_of (check_fill joined fill) sets >>= λ z. all_of check_set (fitted joined) >>= λ m. ends x joined

  ends_told : (x : Axis) (joined : List Axis) → ends x joined ≡ made_of dim (x ∷ joined) vs (fitted joined)
  unfolding made_of answered
  ends_told x joined = refl

  body_told : (x : Axis) (joined : List Axis) → body x joined ≡ made_over dim joined (x ∷ joined) fill vs
  unfolding made_over checked_over
  body_told x joined =
      by (all_of (check_kinds (fitted joined)) (set_names (first_set (fitted joined)))) (all_of (check_fill joined fill) sets) (all_of check_set (fitted joined))
      ∙ ap (λ r. (all_of (check_kinds (fitted joined)) (set_names (first_set (fitted joined))) >>= λ u. all_of (check_fill joined fill) sets) >>= λ u. all_of check_set (fitted joined) >>= λ v. r) (ends_told x joined)
    where
      by : (k f l : Result (Unit {0}) Fault) → (k >>= λ w. f >>= λ z. l >>= λ m. ends x joined) ≡ ((k >>= λ u. f) >>= λ u. l >>= λ v. ends x joined)
      by (Ok w) (Ok z) l = refl
      by (Ok w) (Err e) l = refl
      by (Err e) f l = refl

  one_told : (x : Axis) (joined : List Axis) → body x joined ≡ by_axes (x ∷ joined)
  one_told x joined = body_told x joined ∙ ap (λ xs. made_over dim xs (x ∷ joined) fill vs) (sym (others_are x joined))

  pub concat_told : concat_of dim how fill vs ≡ (axes_of dim how (is_some fill) vs sets >>= λ xs. by_axes xs)
  unfolding concat_of axes_of
  concat_told = by (check_variables sets) (check_dimension dim vs sets) (aligned how (is_some fill) (map (other_axes dim) sets)) (joining_axis dim sets)
    where
      by : (a b : Result (Unit {0}) Fault) (r : Result (List Axis) Fault) (q : Result Axis Fault)
          → (a >>= λ u. b >>= λ v. r >>= λ joined. q >>= λ x. body x joined) ≡ ((a >>= λ u. b >>= λ v. r >>= λ joined. q >>= λ x. Ok (x ∷ joined)) >>= λ xs. by_axes xs)
      by (Ok u) (Ok v) (Ok joined) (Ok x) = one_told x joined
      by (Ok u) (Ok v) (Ok joined) (Err e) = refl
      by (Ok u) (Ok v) (Err e) q = refl
      by (Ok u) (Err e) r q = refl
      by (Err e) b r q = refl

  pub concat_over : (xs : List Axis) → axes_of dim how (is_some fill) vs sets ≡ Ok xs → concat_of dim how fill vs ≡ made_over dim (others xs) xs fill vs
  concat_over xs told = concat_told ∙ ap (λ r. r >>= λ ys. by_axes ys) told
