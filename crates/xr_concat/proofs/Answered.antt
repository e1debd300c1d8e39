-- What is put together as an array or a dataset.
use Rattle.std.proofs.Common.{◌≡◌, ◌∙◌, ◌&&◌, ℕ, Bool, true, false, cond, List, [], ◌∷◌, filter, get_or, length, map, Option, Result, Ok, Err, arith, refl, sym, ap, subst}
use Rattle.std.specs.Prelude.{if◌then◌else◌}
use Rattle.std.specs.List.{list_all, AllByRecursion}
use Rattle.std.specs.declared.alloc.Global.{Global}
use Rattle.std.specs.declared.rc.Rc.{Rc}
use Rattle.xr_types.specs.Names.{shape_over}
use Rattle.xr_types.specs.Results.{◌>>=◌, unless}
use Rattle.xr_types.specs.declared.fault.Fault.{Fault}
use Rattle.xr_types.specs.declared.fault.Fault.TheVariants.{TooLarge}
use Rattle.xr_arrays.specs.declared.node.Node.{Node}
use Rattle.xr_arguments.proofs.Inside.{array_inside, set_inside}
use Rattle.xr_arguments.proofs.Variants.{is_array as array_is, is_set as set_is}
use Rattle.xr_combination.specs.Concat.{array_name}
use Rattle.xr_combination.specs.Pieces.{is_array}
use Rattle.xr_defs.specs.Carrying.{shared_name}
use Rattle.xr_defs.specs.Meanings as meant
use Rattle.xr_defs.specs.Selecting.{are_within, check_array, check_set, is_within}
use Rattle.xr_defs.specs.Values as of
use Rattle.xr_defs.specs.declared.value.Coord.{Coord}
use Rattle.xr_forming.specs.Held.{Holds, HoldsArray, HoldsContent, IsHeld}
use Rattle.xr_joint.specs.Joint.{within_limits}
use Rattle.xr_relations.specs.Aligning.{check_size}
use Rattle.xr_values.specs.Meaning.{meaning, IsValueIn}
use Rattle.xr_values.specs.Stands.{array_in, dataset_in, variable_in, IsArrayIn, IsDatasetIn}
use Rattle.xr_values.specs.declared.data_array.DataArray.{DataArray}
use Rattle.xr_values.specs.declared.dataset.Dataset.{Dataset}
use Rattle.xr_values.specs.declared.value.Value.{Value}
use Rattle.xr_values.specs.declared.value.Value.TheVariants as variants
use Rattle.xr_values.specs.declared.variable.Variable.{Variable}
use Rattle.xr_concat.proofs.Sized.{shape_same}
use Rattle.xr_concat.specs.Answered.{array_answered, array_with, single}
use Rattle.xr_concat.specs.Steps.{answered}

-- ---- an array within the limits

module _ (nodes : List Node) (a : DataArray) where
  pub array_within : (is_within (shape_over a.axes) && are_within a.coords) ≡ true → array_answered (array_in nodes a) ≡ Ok (array_in nodes a)
  unfolding array_answered check_array unless
  array_within e = ap (λ b. unless b TooLarge >>= λ u. Ok (array_in nodes a)) e

  pub array_refused : (is_within (shape_over a.axes) && are_within a.coords) ≡ false → array_answered (array_in nodes a) ≡ Err TooLarge
  unfolding array_answered check_array unless
  array_refused e = ap (λ b. unless b TooLarge >>= λ u. Ok (array_in nodes a)) e

-- ---- the one variable of a dataset as an array

pub alone : {X : Type 0} (xs : List X) (x : X) → length xs ≡ 1 → x ≡ get_or xs 0 x → xs ≡ x ∷ []
alone [] x one is = absurd (omega arith)
alone (y ∷ []) x one is = (λ i. sym is i ∷ [])
alone (y ∷ z ∷ ys) x one is = absurd (omega arith)

all_filtered : (p : Coord → Bool) (cs : List Coord) → AllByRecursion HoldsContent cs → AllByRecursion HoldsContent (filter p cs)
all_filtered p [] all = tt
all_filtered p (c ∷ cs) all = by (p c) (all_filtered p cs all.1)
  where
    by : (b : Bool) → AllByRecursion HoldsContent (filter p cs) → AllByRecursion HoldsContent (cond b (c ∷ filter p cs) (filter p cs))
    by true rest = (all.0, rest)
    by false rest = rest

module _ (nodes : List Node) (name : Option (List ℕ)) (s : Dataset) (v : Variable) where
  variable_holds : IsHeld nodes s.axes v → AllByRecursion HoldsContent s.coords → HoldsArray nodes (array_with name s v)
  variable_holds held coords = record {
    node = record { placed = held.node.placed; has_shape = held.node.has_shape ∙ sym (shape_same s.axes v.dims); has_kind = held.node.has_kind };
    seen = held.seen;
    coords = all_filtered _ s.coords coords;
  }

  pub single_holds : s.vars ≡ v ∷ [] → Holds nodes s → HoldsArray nodes (array_with name s v)
  single_holds is holds = variable_holds (subst (AllByRecursion (IsHeld nodes s.axes)) is holds.vars).0 holds.coords

  pub single_is : (vs : List meant.Value) → s.vars ≡ v ∷ [] → name ≡ shared_name (map array_name vs) → array_in nodes (array_with name s v) ≡ single vs (dataset_in nodes s)
  single_is vs is named =
      (λ i. array_in nodes (array_with (named i) s v))
      ∙ ap (λ us. single vs (record { axes = s.axes; coords = s.coords; vars = map (variable_in nodes) us; attrs = s.attrs; skipped = s.skipped })) (sym is)

-- ---- either

abbrev pub as_array : Result of.DataArray Fault → Result meant.Value Fault
as_array r = r >>= λ a. Ok (meant.Array a)

abbrev pub as_set : Result of.Dataset Fault → Result meant.Value Fault
as_set r = r >>= λ s. Ok (meant.Set s)

module _ (vs : List meant.Value) (t : of.Dataset) where
  abbrev chosen : Bool → meant.Value
  chosen b = if b then meant.Array (single vs t) else meant.Set t

  abbrev sized : meant.Value → Result meant.Value Fault
  sized r = check_size r >>= λ q. Ok r

  pub arrays_answered : list_all is_array vs ≡ true → answered vs t ≡ as_array (array_answered (single vs t))
  unfolding answered check_size array_answered
  arrays_answered e = ap (λ b. sized (chosen b)) e ∙ by (check_array (single vs t))
    where
      by : (r : Result (Unit {0}) Fault) → (r >>= λ q. Ok (meant.Array (single vs t))) ≡ as_array (r >>= λ u. Ok (single vs t))
      by (Ok u) = refl
      by (Err f) = refl

  pub sets_answered : list_all is_array vs ≡ false → answered vs t ≡ as_set (within_limits t)
  unfolding answered check_size
  sets_answered e = ap (λ b. sized (chosen b)) e ∙ by (check_set t)
    where
      by : (r : Result (Unit {0}) Fault) → (r >>= λ q. Ok (meant.Set t)) ≡ as_set (r >>= λ u. Ok t)
      by (Ok u) = refl
      by (Err f) = refl

-- an array or a dataset of the plan as a value
pub array_done : (nodes : List Node) (r : Result of.DataArray Fault) (a : DataArray) (rc : Rc DataArray Global) (v : Value) → v ≡ variants.Array rc → rc.value ≡ a → (r ≡ Ok (array_in nodes a)) × IsArrayIn nodes a → (as_array r ≡ Ok (meaning nodes v)) × IsValueIn nodes v
array_done nodes r a rc v is held answers =
    (ap as_array answers.0 ∙ ap (λ b. Ok (meant.Array (array_in nodes b))) (sym held) ∙ ap Ok (sym (array_is nodes v rc is)), array_inside nodes v rc is (subst (IsArrayIn nodes) (sym held) answers.1))

pub set_done : (nodes : List Node) (r : Result of.Dataset Fault) (s : Dataset) (rc : Rc Dataset Global) (v : Value) → v ≡ variants.Set rc → rc.value ≡ s → (r ≡ Ok (dataset_in nodes s)) × IsDatasetIn nodes s → (as_set r ≡ Ok (meaning nodes v)) × IsValueIn nodes v
set_done nodes r s rc v is held answers =
    (ap as_set answers.0 ∙ ap (λ t. Ok (meant.Set (dataset_in nodes t))) (sym held) ∙ ap Ok (sym (set_is nodes v rc is)), set_inside nodes v rc is (subst (IsDatasetIn nodes) (sym held) answers.1))
