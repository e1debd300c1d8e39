-- The elements of nested lists, as they are gathered.
use Rattle.std.specs.Prelude.{◌&&◌, ◌||◌, ℕ, ℤ, pos, List, [], ◌∷◌, ◌++◌, map, Option, Some, None}
use Rattle.std.specs.List.{list_any, list_all}
use Rattle.xr_defs.specs.Meanings.{Value, Absent}
use Rattle.xr_defs.specs.Building.{is_whole_cell, is_truth_cell, is_missing, element_cell}
use Rattle.xr_building.specs.declared.elements.Elements.{Elements}

-- with these behind
abbrev pub with_elements : Elements → List Value → Elements
with_elements e vs =
    record {
      cells = e.cells ++ map element_cell vs;
      whole = e.whole && list_all is_whole_cell vs;
      truths = e.truths && list_all is_truth_cell vs;
      missing = e.missing || list_any is_missing vs;
    }

abbrev pub gathered : List Value → Elements
gathered vs = record { cells = map element_cell vs; whole = list_all is_whole_cell vs; truths = list_all is_truth_cell vs; missing = list_any is_missing vs }

-- with a number behind, where there is one
abbrev pub with_number : List ℤ → Option ℤ → List ℤ
with_number ns None = ns
with_number ns (Some n) = ns ++ n ∷ []

-- ---- cells as they are kept

abbrev pub number_or_zero : Option ℤ → ℤ
number_or_zero None = pos 0
number_or_zero (Some n) = n

abbrev pub mask_byte : Option ℤ → ℕ
mask_byte None = 1
mask_byte (Some n) = 0

-- ---- items of nested lists

-- nothing is read as `None`
abbrev pub or_absent : Option Value → Value
or_absent None = Absent
or_absent (Some v) = v
