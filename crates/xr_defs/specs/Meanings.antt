-- What the expressions of a script stand for.
use Rattle.std.specs.Prelude.{ℕ, ℤ, Bool, List, [], ◌∷◌, ◌++◌, Option}
use Rattle.xr_types.specs.declared.axis.TimeCoding.{TimeCoding}
use Rattle.xr_defs.specs.declared.grouping.Grouping.{Grouping}
use Rattle.xr_defs.specs.declared.slice.Part.{Part}
use Rattle.xr_defs.specs.Values.{DataArray, Dataset}

mutual
  -- a value of the script language
  pub data Value : Type 0 where
    -- `None`
    Absent : Value
    -- `NA`, a missing cell
    Missing : Value
    Truth : Bool → Value
    Number : ℤ → Value
    Text : List ℕ → Value
    Sequence : Values → Value
    Table : Entries → Value
    -- start, stop and step; a step that isn't given is none
    Slice : Part → Part → Option ℤ → Value
    Array : DataArray → Value
    Set : Dataset → Value
    -- times in seconds, and how they stand in a file
    Times : TimeCoding → List ℤ → Value
    -- an array or a dataset with its positions in groups
    GroupedArray : DataArray → Grouping → Value
    GroupedSet : Dataset → Grouping → Value

  -- items of a list, the last one outermost
  pub data Values : Type 0 where
    NoValue : Values
    With : Values → Value → Values

  -- entries of a table by their keys, the last one outermost
  pub data Entries : Type 0 where
    NoEntry : Entries
    Entry : Entries → List ℕ → Value → Entries

-- what a call is given: plain arguments, and arguments by keyword, each in the order in which they are written
pub record Given : Type 0 where
  pub plain : List Value
  pub keyed : List (List ℕ × Value)

abbrev pub no_arguments : Given
no_arguments = record { plain = []; keyed = [] }

abbrev pub and_plain : Given → Value → Given
and_plain g v = record g { plain = g.plain ++ v ∷ [] }

abbrev pub and_keyed : Given → List ℕ → Value → Given
and_keyed g name v = record g { keyed = g.keyed ++ (name, v) ∷ [] }
