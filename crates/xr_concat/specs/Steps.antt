-- What is put together, step by step.
use Rattle.std.specs.Prelude.{ℕ, ℤ, List, map, Option, Result, Ok}
use Rattle.xr_types.specs.Results.{◌>>=◌, all_of}
use Rattle.xr_types.specs.declared.axis.Axis.{Axis}
use Rattle.xr_types.specs.declared.fault.Fault.{Fault}
use Rattle.xr_combination.specs.Concat.{as_given, check_constant, check_kinds, put_together, set_names, unnamed}
use Rattle.xr_combination.specs.Pieces.{check_fill, first_set}
use Rattle.xr_defs.specs.Meanings as meant
use Rattle.xr_defs.specs.Selecting.{check_set}
use Rattle.xr_defs.specs.Values as of
use Rattle.xr_relations.specs.Aligning.{check_size, fill_cell, fitted_set}

abbrev pub over : List Axis → Option ℤ → List of.Dataset → List of.Dataset
over joined fill ss = map (fitted_set joined fill) ss

-- the dimensions and kinds, then the fill where it is needed
unfoldable pub checked_over : List Axis → Option meant.Value → List of.Dataset → Result (Unit {0}) Fault
checked_over joined fill ss = (let ts = over joined (fill_cell fill) ss in all_of (check_kinds ts) (set_names (first_set ts)) >>= λ u. all_of (check_fill joined fill) ss)

-- the answer within the limits
unfoldable pub answered : List meant.Value → of.Dataset → Result meant.Value Fault
answered vs t = (let r = as_given vs t in check_size r >>= λ q. Ok r)

-- what is made of datasets over joined axes
unfoldable pub made_of : List ℕ → List Axis → List meant.Value → List of.Dataset → Result meant.Value Fault
made_of dim axes vs ts = all_of (check_constant dim ts) (set_names (first_set ts)) >>= λ u. put_together dim axes ts >>= λ t. answered vs t

-- of values, once what they have over their own axes is joined
unfoldable pub made_over : List ℕ → List Axis → List Axis → Option meant.Value → List meant.Value → Result meant.Value Fault
made_over dim joined axes fill vs =
    (let ss = map unnamed vs in checked_over joined fill ss >>= λ u. all_of check_set (over joined (fill_cell fill) ss) >>= λ v. made_of dim axes vs (over joined (fill_cell fill) ss))
