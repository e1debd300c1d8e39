-- Axes joined by their labels, as xarray's guide and pandas join them.
use Rattle.std.proofs.Common.{◌≡◌, refl, ℕ, ℤ, pos, List, [], ◌∷◌, Some, None, Ok, Err, codes, true, false}
use Rattle.xr_types.specs.Results.{unless}
use Rattle.xr_types.specs.declared.axis.Axis.{Axis}
use Rattle.xr_types.specs.declared.axis.Calendar.{Calendar}
use Rattle.xr_types.specs.declared.axis.Calendar.TheVariants.{Civil, NoLeap}
use Rattle.xr_types.specs.declared.axis.LabelList.{LabelList}
use Rattle.xr_types.specs.declared.axis.LabelList.TheVariants.{Numbers, Times, Texts}
use Rattle.xr_types.specs.declared.axis.TimeUnit.TheVariants.{Days}
use Rattle.xr_types.specs.declared.fault.Fault.TheVariants.{LabelKind, NotAligned, NotUnique, SizeConflict, WouldPromote}
use Rattle.xr_types.specs.declared.kind.DType.{DType}
use Rattle.xr_types.specs.declared.kind.DType.TheVariants.{Int8, Int16, Int64, UInt8, UInt64}
use Rattle.xr_types.specs.declared.operation.How.TheVariants.{Exact, Inner, Outer, Left, Right}
use Rattle.xr_defs.specs.Values.{label_count}
use Rattle.xr_operations.specs.Alignment.{aligned, common_kind, join, joined_each, joined_index, joined_labels, joined_or_own, labelled_axis, sources}

abbrev indexed : LabelList → Axis
indexed list = record { name = codes "x"; size = label_count list; labels = Some (record { list = list; attrs = [] }) }

abbrev bare : ℕ → Axis
bare n = record { name = codes "x"; size = n; labels = None }

abbrev whole : DType → List ℤ → Axis
whole kind ns = indexed (Numbers kind ns)

-- the labels 1 2 3 and 3 2 5
abbrev a : Axis
a = whole Int64 (pos 1 ∷ pos 2 ∷ pos 3 ∷ [])

abbrev b : Axis
b = whole Int64 (pos 3 ∷ pos 2 ∷ pos 5 ∷ [])

-- labels that both have, in the first one's order
both : join Inner false (a ∷ b ∷ []) ≡ Ok (whole Int64 (pos 2 ∷ pos 3 ∷ []))
unfolding join labelled_axis joined_index common_kind joined_labels unless
both = refl

from_a : sources a (whole Int64 (pos 2 ∷ pos 3 ∷ [])) ≡ Some 1 ∷ Some 2 ∷ []
from_a = refl

from_b : sources b (whole Int64 (pos 2 ∷ pos 3 ∷ [])) ≡ Some 1 ∷ Some 0 ∷ []
from_b = refl

no_label : join Inner false (a ∷ whole Int64 (pos 7 ∷ pos 8 ∷ pos 9 ∷ []) ∷ []) ≡ Ok (whole Int64 [])
unfolding join labelled_axis joined_index common_kind joined_labels unless
no_label = refl

-- all labels, ascending, in either order of the axes
abbrev all : Axis
all = whole Int64 (pos 1 ∷ pos 2 ∷ pos 3 ∷ pos 5 ∷ [])

unfilled : join Outer false (a ∷ b ∷ []) ≡ Err WouldPromote
unfolding join labelled_axis joined_index common_kind joined_labels unless
unfilled = refl

filled : join Outer true (a ∷ b ∷ []) ≡ Ok all
unfolding join labelled_axis joined_index common_kind joined_labels unless
filled = refl

changed_over : join Outer true (b ∷ a ∷ []) ≡ Ok all
unfolding join labelled_axis joined_index common_kind joined_labels unless
changed_over = refl

all_from_a : sources a all ≡ Some 0 ∷ Some 1 ∷ Some 2 ∷ None ∷ []
all_from_a = refl

all_from_b : sources b all ≡ None ∷ Some 1 ∷ Some 0 ∷ Some 2 ∷ []
all_from_b = refl

-- the lists that aren't empty are equal, so they aren't sorted
one_full : join Outer true (whole Int64 [] ∷ whole Int64 (pos 3 ∷ pos 1 ∷ []) ∷ []) ≡ Ok (whole Int64 (pos 3 ∷ pos 1 ∷ []))
unfolding join labelled_axis joined_index common_kind joined_labels unless
one_full = refl

-- the first and the last list
first : join Left true (a ∷ b ∷ []) ≡ Ok a
unfolding join labelled_axis joined_index common_kind joined_labels unless
first = refl

last : join Right true (a ∷ b ∷ []) ≡ Ok b
unfolding join labelled_axis joined_index common_kind joined_labels unless
last = refl

first_unfilled : join Left false (a ∷ b ∷ []) ≡ Err WouldPromote
unfolding join labelled_axis joined_index common_kind joined_labels unless
first_unfilled = refl

-- a label twice, which equal lists may have, and `exact`, which is looked at first
abbrev twice : Axis
twice = whole Int64 (pos 1 ∷ pos 1 ∷ [])

not_unique : join Outer true (twice ∷ b ∷ []) ≡ Err NotUnique
unfolding join labelled_axis joined_index common_kind joined_labels unless
not_unique = refl

not_aligned : join Exact true (twice ∷ b ∷ []) ≡ Err NotAligned
unfolding join labelled_axis joined_index common_kind joined_labels unless
not_aligned = refl

both_twice : join Inner false (twice ∷ twice ∷ []) ≡ Ok twice
unfolding join labelled_axis joined_index common_kind joined_labels unless
both_twice = refl

exactly : join Exact false (b ∷ b ∷ []) ≡ Ok b
unfolding join labelled_axis joined_index common_kind joined_labels unless
exactly = refl

-- labels of other kinds, and of kinds of numbers that are promoted or can't be
texts : join Outer true (a ∷ indexed (Texts (codes "a" ∷ [])) ∷ []) ≡ Err LabelKind
unfolding join labelled_axis joined_index common_kind joined_labels unless
texts = refl

abbrev times : Calendar → List ℤ → Axis
times calendar ts = indexed (Times (record { units = record { unit = Days; reference = pos 0; calendar = calendar; early = true }; units_text = codes "days since 1970-01-01"; calendar_text = None }) ts)

calendars : join Inner true (times Civil (pos 0 ∷ []) ∷ times NoLeap (pos 0 ∷ []) ∷ []) ≡ Err LabelKind
unfolding join labelled_axis joined_index common_kind joined_labels unless
calendars = refl

promoted_labels : join Inner false (whole UInt8 (pos 1 ∷ pos 2 ∷ []) ∷ whole Int8 (pos 1 ∷ pos 2 ∷ []) ∷ []) ≡ Ok (whole Int16 (pos 1 ∷ pos 2 ∷ []))
unfolding join labelled_axis joined_index common_kind joined_labels unless
promoted_labels = refl

not_promoted : join Inner false (whole UInt64 (pos 1 ∷ []) ∷ whole Int8 (pos 1 ∷ []) ∷ []) ≡ Err WouldPromote
unfolding join labelled_axis joined_index common_kind joined_labels unless
not_promoted = refl

-- bare axes: they take labels of their size
takes_labels : join Inner false (bare 3 ∷ a ∷ []) ≡ Ok a
unfolding join labelled_axis joined_index common_kind joined_labels unless
takes_labels = refl

another_size : join Inner false (a ∷ bare 2 ∷ []) ≡ Err SizeConflict
unfolding join labelled_axis joined_index common_kind joined_labels unless
another_size = refl

two_sizes : join Outer true (bare 2 ∷ bare 3 ∷ []) ≡ Err SizeConflict
unfolding join labelled_axis joined_index common_kind joined_labels unless
two_sizes = refl

-- all axes of two values, in the order of first appearance
abbrev y : Axis
y = record { name = codes "y"; size = 2; labels = None }

abbrev z : Axis
z = record { name = codes "z"; size = 1; labels = None }

in_order : aligned Inner false ((a ∷ y ∷ []) ∷ (z ∷ y ∷ b ∷ []) ∷ []) ≡ Ok (whole Int64 (pos 2 ∷ pos 3 ∷ []) ∷ y ∷ z ∷ [])
unfolding aligned joined_each joined_or_own join labelled_axis joined_index common_kind joined_labels unless
in_order = refl
