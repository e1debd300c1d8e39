-- Arrays as datasets of one variable, which has a name while they are brought over joined axes.
use Rattle.std.specs.Prelude.{◌≡◌, ℕ, List, [], codes, map, Result, Ok, Err}
use Rattle.std.specs.List.{AllByRecursion}
use Rattle.xr_types.specs.Results.{all_of}
use Rattle.xr_types.specs.declared.fault.CallFault.{CallFault}
use Rattle.xr_arrays.specs.declared.node.Node.{Node}
use Rattle.xr_combination.specs.Pieces.{no_set}
use Rattle.xr_defs.specs.Meanings as meant
use Rattle.xr_defs.specs.Parts.{set_of_array}
use Rattle.xr_defs.specs.Selecting.{check_set}
use Rattle.xr_defs.specs.Values as of
use Rattle.xr_defs.specs.WellFormed.{IsCoordinate}
use Rattle.xr_forming.specs.Held.{IsHeld}
use Rattle.xr_values.specs.Answers.{Fails}
use Rattle.xr_values.specs.Stands.{dataset_in}
use Rattle.xr_values.specs.declared.dataset.Dataset.{Dataset}
use Rattle.xr_values.specs.declared.variable.Variable.{Variable}

abbrev pub inner_name : List ℕ
inner_name = codes "v"

-- an array as a dataset whose variable has that name
abbrev pub called : meant.Value → of.Dataset
called (meant.Array a) = set_of_array inner_name a
called v = no_set

-- the same without it
abbrev pub nameless_variable : of.Variable → of.Variable
nameless_variable v = record v { name = [] }

abbrev pub nameless : of.Dataset → of.Dataset
nameless s = record s { vars = map nameless_variable s.vars }

-- of a variable of the program
abbrev pub nameless_one : Variable → Variable
nameless_one v = record v { name = [] }

-- a dataset whose cells stand in the plan, whatever the names of its variables
pub record IsHeldIn (nodes : List Node) (s : Dataset) : Type 0 where
  pub vars : AllByRecursion (IsHeld nodes s.axes) s.vars
  pub coords : AllByRecursion (IsCoordinate s.axes) s.coords

abbrev pub AreHeldIn : List Node → List Dataset → Type 0
AreHeldIn nodes ss = AllByRecursion (IsHeldIn nodes) ss

-- a call that answers datasets over joined axes, within the limits
abbrev pub AnswersOver : List Node → Result (List Dataset) CallFault → List of.Dataset → Type 0
AnswersOver nodes (Ok ts) us = (all_of check_set us ≡ Ok tt) × (map (dataset_in nodes) ts ≡ us) × AreHeldIn nodes ts
AnswersOver nodes (Err e) us = Fails e (all_of check_set us)
