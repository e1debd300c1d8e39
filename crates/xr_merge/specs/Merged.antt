-- What is merged, step by step.
use Rattle.std.specs.Prelude.{ℕ, Bool, not, List, map, Option, is_some, Result, Ok}
use Rattle.xr_types.specs.Results.{◌>>=◌, all_of, unless}
use Rattle.xr_types.specs.declared.attr.Attr.{Attr}
use Rattle.xr_types.specs.declared.operation.How.{How}
use Rattle.xr_types.specs.declared.fault.Fault.TheVariants.{DuplicateName}
use Rattle.xr_types.specs.declared.axis.Axis.{Axis}
use Rattle.xr_types.specs.declared.fault.Fault.{Fault}
use Rattle.xr_defs.specs.Selecting.{check_set}
use Rattle.xr_combination.specs.Merge.{all_coords, all_variables, check_dims, coord_merged, have_crossing, variable_merged}
use Rattle.xr_combination.specs.Pieces.{Piece, all_attrs, all_skipped, check_fill, each_of, first_piece, piece_variable}
use Rattle.xr_combination.specs.declared.compat.Compat.{Compat}
use Rattle.xr_defs.specs.Meanings as meant
use Rattle.xr_defs.specs.Selecting.{check_set}
use Rattle.xr_defs.specs.Values as of
use Rattle.xr_operations.specs.Alignment.{aligned}
use Rattle.xr_relations.specs.Aligning.{fill_cell, fitted_set}
use Rattle.xr_joint.specs.Joint.{Parts, set_of, within_limits}

-- a piece as a variable of a name
abbrev pub piece_called : List ℕ → Result Piece Fault → Result of.Variable Fault
piece_called name r = r >>= λ p. Ok (piece_variable name p)

-- the first, with the attributes that all have in common
abbrev pub overriding : List ℕ → List Piece → of.Variable
overriding name ps = piece_variable name (record (first_piece ps) { attrs = all_attrs ps })

unfoldable pub parts_of : Compat → List Axis → List of.Dataset → Result Parts Fault
parts_of compat axes ts =
    each_of (variable_merged compat ts) (all_variables ts) >>= λ vars. each_of (coord_merged compat axes ts) (all_coords axes ts) >>= λ coords. Ok (record { vars = vars; coords = coords })

-- what is made over the axes, once a fill is one where it is needed, and no value passes the limits
unfoldable pub joint_over : Compat → List Axis → Option meant.Value → List of.Dataset → Result Parts Fault
joint_over compat axes fill ss =
    all_of (check_fill axes fill) ss >>= λ w. all_of check_set (map (fitted_set axes (fill_cell fill)) ss) >>= λ l.
    parts_of compat axes (map (fitted_set axes (fill_cell fill)) ss)

unfoldable pub merged_over : Compat → List Axis → Option meant.Value → List Attr → List of.Dataset → Result of.Dataset Fault
merged_over compat axes fill attrs ss = joint_over compat axes fill ss >>= λ p. within_limits (set_of axes attrs (all_skipped ss) p)

unfoldable pub axes_of : How → Bool → List of.Dataset → Result (List Axis) Fault
axes_of how filled ss =
    aligned how filled (map (λ (s : of.Dataset). s.axes) ss) >>= λ axes. unless (not (have_crossing ss)) DuplicateName >>= λ u. check_dims axes ss >>= λ v. Ok axes

unfoldable pub sets_merged : Compat → How → Option meant.Value → List Attr → List of.Dataset → Result of.Dataset Fault
sets_merged compat how fill attrs ss = axes_of how (is_some fill) ss >>= λ axes. merged_over compat axes fill attrs ss
