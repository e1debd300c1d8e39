-- The call, one step after the other.
use Rattle.std.proofs.Common.{◌≡◌, ◌∙◌, ℕ, List, map, Option, Result, Ok, Err, refl, sym, ap}
use Rattle.xr_types.specs.Results.{◌>>=◌, all_of}
use Rattle.xr_types.specs.declared.attr.Attr.{Attr}
use Rattle.xr_types.specs.declared.axis.Axis.{Axis}
use Rattle.xr_types.specs.declared.fault.Fault.{Fault}
use Rattle.xr_combination.specs.Pieces.{all_skipped, check_fill}
use Rattle.xr_combination.specs.declared.compat.Compat.{Compat}
use Rattle.xr_defs.specs.Meanings as meant
use Rattle.xr_defs.specs.Selecting.{check_set}
use Rattle.xr_defs.specs.Values as of
use Rattle.xr_relations.specs.Aligning.{fill_cell, fitted_set}
use Rattle.xr_joint.specs.Joint.{set_of, within_limits, Parts}
use Rattle.xr_merge.specs.Merged.{joint_over, merged_over, parts_of}

-- over joined axes
abbrev pub all_over : List Axis → Option meant.Value → List of.Dataset → List of.Dataset
all_over axes fill ss = map (fitted_set axes (fill_cell fill)) ss

module _ (compat : Compat) (axes : List Axis) (fill : Option meant.Value) (ss : List of.Dataset) where
  pub at_fills : joint_over compat axes fill ss ≡ (all_of (check_fill axes fill) ss >>= λ u. all_of check_set (all_over axes fill ss) >>= λ v. parts_of compat axes (all_over axes fill ss))
  unfolding joint_over
  at_fills = refl

  module _ (filled : all_of (check_fill axes fill) ss ≡ Ok tt) where
    pub at_limits : joint_over compat axes fill ss ≡ (all_of check_set (all_over axes fill ss) >>= λ v. parts_of compat axes (all_over axes fill ss))
    at_limits = at_fills ∙ ap (λ r. r >>= λ u. all_of check_set (all_over axes fill ss) >>= λ v. parts_of compat axes (all_over axes fill ss)) filled

    pub joint_told : (ts : List of.Dataset) → ts ≡ all_over axes fill ss → all_of check_set (all_over axes fill ss) ≡ Ok tt → parts_of compat axes ts ≡ joint_over compat axes fill ss
    joint_told ts over within = ap (parts_of compat axes) over ∙ sym (at_limits ∙ ap (λ r. r >>= λ v. parts_of compat axes (all_over axes fill ss)) within)

-- within the limits or not, what is made is the dataset of its parts
pub merged_told : (compat : Compat) (axes : List Axis) (fill : Option meant.Value) (attrs : List Attr) (skipped : List (List ℕ)) (ss : List of.Dataset) (p : Parts) (s : of.Dataset) → joint_over compat axes fill ss ≡ Ok p → skipped ≡ all_skipped ss → s ≡ set_of axes attrs skipped p
    → within_limits s ≡ merged_over compat axes fill attrs ss
unfolding merged_over
merged_told compat axes fill attrs skipped ss p s made names is =
    ap within_limits (is ∙ ap (λ ns. set_of axes attrs ns p) names) ∙ sym (ap (λ r. r >>= λ q. within_limits (set_of axes attrs (all_skipped ss) q)) made)

pub merged_refused : (compat : Compat) (axes : List Axis) (fill : Option meant.Value) (attrs : List Attr) (ss : List of.Dataset) (e : Fault) → joint_over compat axes fill ss ≡ Err e → merged_over compat axes fill attrs ss ≡ Err e
unfolding merged_over
merged_refused compat axes fill attrs ss e made = ap (λ r. r >>= λ q. within_limits (set_of axes attrs (all_skipped ss) q)) made
