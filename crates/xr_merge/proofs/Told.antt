-- The definition of the call, step by step as the program takes it.
use Rattle.std.proofs.Common.{◌≡◌, ◌∙◌, Bool, not, List, map, Option, Some, None, is_some, option_map, Result, Ok, Err, refl, sym, ap}
use Rattle.xr_types.specs.Results.{◌>>=◌, all_of, unless}
use Rattle.xr_types.specs.declared.attr.Attr.{Attr}
use Rattle.xr_types.specs.declared.axis.Axis.{Axis}
use Rattle.xr_types.specs.declared.fault.Fault.{Fault}
use Rattle.xr_types.specs.declared.fault.Fault.TheVariants.{DuplicateName}
use Rattle.xr_types.specs.declared.operation.How.{How}
use Rattle.xr_combination.specs.Merge.{all_coords, all_variables, check_dims, coord_merged, have_crossing, merge_of, variable_merged}
use Rattle.xr_combination.specs.Pieces.{all_skipped, as_dataset, check_fill, each_of}
use Rattle.xr_combination.specs.declared.compat.Compat.{Compat}
use Rattle.xr_defs.specs.Carrying.{joined_attrs}
use Rattle.xr_defs.specs.Meanings as meant
use Rattle.xr_defs.specs.Selecting.{check_set}
use Rattle.xr_defs.specs.Values as of
use Rattle.xr_defs.specs.declared.value.Coord.{Coord}
use Rattle.xr_operations.specs.Alignment.{aligned}
use Rattle.xr_relations.specs.Aligning.{fill_cell, fitted_set}
use Rattle.xr_merge.specs.Attributes.{sets_attrs}
use Rattle.xr_joint.specs.Joint.{set_of, within_limits, Parts}
use Rattle.xr_merge.specs.Merged.{axes_of, joint_over, merged_over, parts_of, sets_merged}

module _ (compat : Compat) (how : How) (fill : Option meant.Value) (attrs : List Attr) (ss : List of.Dataset) where
  abbrev over : List Axis → List of.Dataset
  over axes = map (fitted_set axes (fill_cell fill)) ss

  abbrev made : List Axis → List of.Variable → List Coord → Result of.Dataset Fault
  made axes vars coords = within_limits (set_of axes attrs (all_skipped ss) (record { vars = vars; coords = coords }))

  abbrev body : List Axis → Result of.Dataset Fault
  body axes =
      all_of (check_fill axes fill) ss >>= λ w. all_of check_set (over axes) >>= λ l. each_of (variable_merged compat (over axes)) (all_variables (over axes)) >>= λ vars.
      each_of (coord_merged compat axes (over axes)) (all_coords axes (over axes)) >>= λ coords. made axes vars coords

  abbrev whole : Result of.Dataset Fault
  whole = aligned how (is_some fill) (map (λ (s : of.Dataset). s.axes) ss) >>= λ axes. unless (not (have_crossing ss)) DuplicateName >>= λ u. check_dims axes ss >>= λ v. body axes

  body_told : (axes : List Axis) → body axes ≡ merged_over compat axes fill attrs ss
  unfolding merged_over joint_over parts_of
  body_told axes =
      by (all_of (check_fill axes fill) ss) (all_of check_set (over axes)) (each_of (variable_merged compat (over axes)) (all_variables (over axes))) (each_of (coord_merged compat axes (over axes)) (all_coords axes (over axes)))
    where
      by : (f l : Result (Unit {0}) Fault) (vs : Result (List of.Variable) Fault) (cs : Result (List Coord) Fault) → (f >>= λ w. l >>= λ u. vs >>= λ vars. cs >>= λ coords. made axes vars coords)
          ≡ ((f >>= λ w. l >>= λ u. vs >>= λ vars. cs >>= λ coords. Ok (record { vars = vars; coords = coords })) >>= λ (p : Parts). made axes p.vars p.coords)
      by (Ok w) (Ok u) (Ok vars) (Ok coords) = refl
      by (Ok w) (Ok u) (Ok vars) (Err e) = refl
      by (Ok w) (Ok u) (Err e) cs = refl
      by (Ok w) (Err e) vs cs = refl
      by (Err e) l vs cs = refl

  whole_told : whole ≡ sets_merged compat how fill attrs ss
  unfolding sets_merged axes_of
  whole_told = by (aligned how (is_some fill) (map (λ (s : of.Dataset). s.axes) ss))
    where
      both : (axes : List Axis) (a b : Result (Unit {0}) Fault) → (a >>= λ u. b >>= λ v. body axes) ≡ ((a >>= λ u. b >>= λ v. Ok axes) >>= λ xs. merged_over compat xs fill attrs ss)
      both axes (Ok u) (Ok v) = body_told axes
      both axes (Ok u) (Err e) = refl
      both axes (Err e) b = refl

      by : (r : Result (List Axis) Fault) → (r >>= λ axes. unless (not (have_crossing ss)) DuplicateName >>= λ u. check_dims axes ss >>= λ v. body axes)
          ≡ ((r >>= λ axes. unless (not (have_crossing ss)) DuplicateName >>= λ u. check_dims axes ss >>= λ v. Ok axes) >>= λ xs. merged_over compat xs fill attrs ss)
      by (Ok axes) = both axes (unless (not (have_crossing ss)) DuplicateName) (check_dims axes ss)
      by (Err e) = refl

pub merged_told : (compat : Compat) (how : How) (fill : Option meant.Value) (vs : List meant.Value) → merge_of compat how fill vs ≡ sets_merged compat how fill (joined_attrs (sets_attrs vs)) (map as_dataset vs)
unfolding merge_of sets_attrs
merged_told compat how fill vs = whole_told compat how fill (joined_attrs (sets_attrs vs)) (map as_dataset vs)

-- as the program has them
pub some_kept : {X Y : Type 0} (f : X → Y) (o : Option X) → is_some (option_map f o) ≡ is_some o
some_kept f None = refl
some_kept f (Some x) = refl

pub merged_by : (compat : Compat) (how : How) (fill : Option meant.Value) (vs : List meant.Value) (attrs : List Attr) (ss : List of.Dataset) → attrs ≡ joined_attrs (sets_attrs vs) → ss ≡ map as_dataset vs → sets_merged compat how fill attrs ss ≡ merge_of compat how fill vs
merged_by compat how fill vs attrs ss attrs_are sets_are =
    ap (λ common. sets_merged compat how fill common ss) attrs_are ∙ ap (sets_merged compat how fill (joined_attrs (sets_attrs vs))) sets_are ∙ sym (merged_told compat how fill vs)

module _ (compat : Compat) (how : How) (fill : Option meant.Value) (attrs : List Attr) (ss : List of.Dataset) (filled : Bool) (filled_is : filled ≡ is_some fill) where
  pub sets_told : (axes own : List Axis) → axes_of how filled ss ≡ Ok axes → own ≡ axes → merged_over compat own fill attrs ss ≡ sets_merged compat how fill attrs ss
  unfolding sets_merged
  sets_told axes own told own_is = ap (λ xs. merged_over compat xs fill attrs ss) own_is ∙ sym (ap (λ r. r >>= λ xs. merged_over compat xs fill attrs ss) (ap (λ b. axes_of how b ss) (sym filled_is) ∙ told))

  pub sets_refused : (e : Fault) → axes_of how filled ss ≡ Err e → sets_merged compat how fill attrs ss ≡ Err e
  unfolding sets_merged
  sets_refused e told = ap (λ r. r >>= λ xs. merged_over compat xs fill attrs ss) (ap (λ b. axes_of how b ss) (sym filled_is) ∙ told)
