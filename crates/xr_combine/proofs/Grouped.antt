-- Groups, each put together.
use Rattle.std.proofs.Common.{◌≡◌, ◌∙◌, ◌≢◌, ℕ, List, [], ◌∷◌, length, map, Option, Result, Ok, refl, sym, ap, subst}
use Rattle.std.specs.Prelude.{zip}
use Rattle.xr_types.specs.Results.{◌>>=◌, all_of}
use Rattle.xr_types.specs.declared.fault.CallFault.{CallFault}
use Rattle.xr_types.specs.declared.fault.Fault.{Fault}
use Rattle.xr_types.specs.declared.operation.How.{How}
use Rattle.xr_combination.specs.Combine.{check_direction, combine_of, grid_concatenated, grid_of, group_combined, groups}
use Rattle.xr_combination.specs.declared.grid.Grid.{Grid}
use Rattle.xr_combination.specs.Merge.{merge_of}
use Rattle.xr_combination.specs.Pieces.{as_dataset, each_of}
use Rattle.xr_combination.specs.declared.compat.Compat.{Compat}
use Rattle.xr_defs.specs.Meanings as meant
use Rattle.xr_defs.specs.Meanings.{Value}
use Rattle.xr_defs.specs.Values.{Dataset}
use Rattle.xr_joint.proofs.Failing.{fails_on}
use Rattle.xr_values.specs.Answers.{Fails}
use Rattle.xr_combine.specs.Steps.{combined, grid_combined, members_combined, several_combined, those_at}
use Rattle.xr_combine.proofs.Lined.{each_mapped}

-- ---- a grid, of whose datasets these are the ones in row order

module _ (j : How) (fill : Option Value) (ss : List Dataset) (g : Grid) (dims : List (List ℕ)) (shape : List ℕ) (ts : List Dataset) (dims_are : dims ≡ g.dims) (shape_is : shape ≡ g.shape) (are : ts ≡ those_at ss g.order) where
  then_checked : Dataset → Result Dataset Fault
  then_checked s = all_of (check_direction s) (zip g.dims g.rises) >>= λ v. Ok s

  grid_told : grid_combined j fill ss g ≡ (grid_concatenated j fill dims shape ts >>= then_checked)
  unfolding grid_combined then_checked
  grid_told = λ i. grid_concatenated j fill (sym dims_are i) (sym shape_is i) (sym are i) >>= λ s. all_of (check_direction s) (zip g.dims g.rises) >>= λ v. Ok s

  pub grid_fails : (e : CallFault) → Fails e (grid_concatenated j fill dims shape ts) → Fails e (grid_combined j fill ss g)
  grid_fails e fails = subst (Fails e) (sym grid_told) (fails_on e (grid_concatenated j fill dims shape ts) then_checked fails)

  module _ (s : Dataset) (made : grid_concatenated j fill dims shape ts ≡ Ok s) where
    at_check : grid_combined j fill ss g ≡ (all_of (check_direction s) (zip g.dims g.rises) >>= λ v. Ok s)
    unfolding then_checked
    at_check = grid_told ∙ ap (λ r. r >>= then_checked) made

    pub grid_passes : (u : Unit {0}) → all_of (check_direction s) (zip g.dims g.rises) ≡ Ok u → grid_combined j fill ss g ≡ Ok s
    grid_passes u passes = at_check ∙ ap (λ r. r >>= λ v. Ok s) passes

    pub grid_turns : (e : CallFault) → Fails e (all_of (check_direction s) (zip g.dims g.rises)) → Fails e (grid_combined j fill ss g)
    grid_turns e fails = subst (Fails e) (sym at_check) (fails_on e (all_of (check_direction s) (zip g.dims g.rises)) (λ v. Ok s) fails)

module _ (j : How) (fill : Option Value) (ss : List Dataset) where
  pub several_told : (g : Grid) → grid_of (map (λ (s : Dataset). s.axes) ss) ≡ Ok g → several_combined j fill ss ≡ grid_combined j fill ss g
  unfolding several_combined
  several_told g is = ap (λ r. r >>= λ h. grid_combined j fill ss h) is

  pub several_refused : (e : CallFault) → Fails e (grid_of (map (λ (s : Dataset). s.axes) ss)) → Fails e (several_combined j fill ss)
  unfolding several_combined
  several_refused e fails = fails_on e (grid_of (map (λ (s : Dataset). s.axes) ss)) (λ h. grid_combined j fill ss h) fails

-- ---- groups

module _ (j : How) (fill : Option Value) where
  -- one alone stays as it is
  pub one_combined : (s : Dataset) → group_combined j fill (s ∷ []) ≡ Ok s
  unfolding group_combined
  one_combined s = refl

  pub more_combined : (ss : List Dataset) → (length ss ≢ 1) → group_combined j fill ss ≡ several_combined j fill ss
  unfolding group_combined several_combined grid_combined
  more_combined [] other = refl
  more_combined (s ∷ []) other = absurd (other refl)
  more_combined (s ∷ t ∷ ss) other = refl

  members_told : (ss : List Dataset) (gs : List (List ℕ)) → each_of (members_combined j fill ss) gs ≡ each_of (group_combined j fill) (map (those_at ss) gs)
  unfolding members_combined
  members_told ss gs = sym (each_mapped (group_combined j fill) (those_at ss) gs)

  pub groups_told : (vs : List Value) (ss : List Dataset) (gs : List (List ℕ)) → ss ≡ map as_dataset vs → map (those_at ss) gs ≡ groups ss → each_of (members_combined j fill ss) gs ≡ combined j fill vs
  unfolding combined
  groups_told vs ss gs are grouped = members_told ss gs ∙ ap (each_of (group_combined j fill)) (grouped ∙ ap groups are)

  module _ (compat : Compat) (vs : List Value) where
    pub merged_told : (ss : List Dataset) (us : List Value) → combined j fill vs ≡ Ok ss → us ≡ map meant.Set ss → merge_of compat j fill us ≡ combine_of compat j fill vs
    unfolding combined combine_of
    merged_told ss us made are = ap (merge_of compat j fill) are ∙ sym (ap (λ r. r >>= λ ts. merge_of compat j fill (map meant.Set ts)) made)

    pub merged_fails : (e : CallFault) → Fails e (combined j fill vs) → Fails e (combine_of compat j fill vs)
    unfolding combined combine_of
    merged_fails e fails = fails_on e (each_of (group_combined j fill) (groups (map as_dataset vs))) (λ ts. merge_of compat j fill (map meant.Set ts)) fails
