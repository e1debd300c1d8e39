-- Worked rows of operators and of methods on cells, as NumPy and xarray give them.
use Rattle.std.proofs.Common.{◌≡◌, ℕ, ℤ, pos, negsuc, Bool, true, false, List, [], ◌∷◌, Option, Some, None, Ok, Err, refl}
use Rattle.std.specs.Int.{int_wrap}
use Rattle.std.specs.Prelude.{codes}
use Rattle.xr_types.specs.Results.{unless}
use Rattle.xr_types.specs.declared.axis.Axis.{Axis}
use Rattle.xr_types.specs.declared.axis.LabelList.TheVariants.{Numbers}
use Rattle.xr_types.specs.declared.fault.Fault.TheVariants.{DoesNotFit, WouldPromote, WrongKind}
use Rattle.xr_types.specs.declared.kind.DType.{DType}
use Rattle.xr_types.specs.declared.kind.DType.TheVariants as kinds
use Rattle.xr_types.specs.declared.operation.OpKind.TheVariants.{Add, Divide, FloorDivide, Greater, Less, Negate, Remainder, Subtract}
use Rattle.xr_defs.specs.Building.{bound}
use Rattle.xr_defs.specs.Carrying.{coords_among, first_called, first_named, shared_attrs}
use Rattle.xr_defs.specs.Meanings.{Array, Missing, Number}
use Rattle.xr_defs.specs.Selecting.{check_array}
use Rattle.xr_defs.specs.Values.{DataArray}
use Rattle.xr_operations.specs.Alignment.{aligned, fitted, join, joined_each, joined_index, joined_labels, joined_or_own, labelled_axis}
use Rattle.xr_operations.specs.Alignment as joins
use Rattle.xr_operations.specs.Arithmetic.{check_kinds, check_unary, common_kind, of_number, of_one_array, of_two_arrays, paired, with_literal}
use Rattle.xr_operations.specs.CellMethods.{as_branch, as_condition, check_branch, check_fits, chosen, chosen_kind, fill_called, literal_for, one_of, where_called, where_method, where_over}
use Rattle.xr_operations.specs.declared.side.Side.TheVariants.{Right}

abbrev bare : List ℕ → ℕ → Axis
bare name n = record { name = name; size = n; labels = None }

abbrev over : List Axis → DType → Bool → List (Option ℤ) → DataArray
over axes kind masked cells = record { name = None; axes = axes; kind = kind; masked = masked; attrs = []; coords = []; cells = cells }

abbrev along_x : DType → List (Option ℤ) → DataArray
along_x kind cells = over (bare (codes "x") 3 ∷ []) kind false cells

-- ---- int8 cells 127, -128, 5 and whole numbers

abbrev c : DataArray
c = along_x kinds.Int8 (Some (pos 127) ∷ Some (negsuc 127) ∷ Some (pos 5) ∷ [])

c_and_1 : of_number Right Add c (pos 1) ≡ Ok (along_x kinds.Int8 (Some (negsuc 127) ∷ Some (negsuc 126) ∷ Some (pos 6) ∷ []))
unfolding of_number common_kind check_kinds unless with_literal int_wrap
c_and_1 = refl

c_by_minus_1 : of_number Right FloorDivide c (negsuc 0) ≡ Ok (along_x kinds.Int8 (Some (negsuc 126) ∷ Some (negsuc 127) ∷ Some (negsuc 4) ∷ []))
unfolding of_number common_kind check_kinds unless with_literal int_wrap
c_by_minus_1 = refl

c_by_0 : of_number Right FloorDivide c (pos 0) ≡ Ok (along_x kinds.Int8 (Some (pos 0) ∷ Some (pos 0) ∷ Some (pos 0) ∷ []))
unfolding of_number common_kind check_kinds unless with_literal int_wrap
c_by_0 = refl

c_rests : of_number Right Remainder c (negsuc 2) ≡ Ok (along_x kinds.Int8 (Some (negsuc 1) ∷ Some (negsuc 1) ∷ Some (negsuc 0) ∷ []))
unfolding of_number common_kind check_kinds unless with_literal int_wrap
c_rests = refl

c_and_300 : of_number Right Add c (pos 300) ≡ Err DoesNotFit
unfolding of_number common_kind check_kinds unless
c_and_300 = refl

c_below_300 : of_number Right Less c (pos 300) ≡ Ok (along_x kinds.Bool (Some (pos 1) ∷ Some (pos 1) ∷ Some (pos 1) ∷ []))
unfolding of_number common_kind check_kinds unless with_literal int_wrap
c_below_300 = refl

-- ---- kinds

halves : of_number Right Divide c (pos 2) ≡ Err WouldPromote
unfolding of_number common_kind check_kinds unless
halves = refl

promotes : (common_kind Add kinds.UInt32 kinds.Int32 ≡ Ok kinds.Int64) × (common_kind Add kinds.UInt64 kinds.Int8 ≡ Err WouldPromote) × (common_kind Add kinds.Bool kinds.Bool ≡ Err WrongKind)
unfolding common_kind check_kinds unless
promotes = (refl, refl, refl)

-- ---- uint8 cells 200, 100

abbrev u : List (Option ℤ) → DataArray
u cells = over (bare (codes "x") 2 ∷ []) kinds.UInt8 false cells

abbrev some_u : DataArray
some_u = u (Some (pos 200) ∷ Some (pos 100) ∷ [])

u_negated : of_one_array Negate some_u ≡ Ok (u (Some (pos 56) ∷ Some (pos 156) ∷ []))
unfolding of_one_array check_unary unless
u_negated = refl

u_less_201 : of_number Right Subtract some_u (pos 201) ≡ Ok (u (Some (pos 255) ∷ Some (pos 155) ∷ []))
unfolding of_number common_kind check_kinds unless with_literal
u_less_201 = refl

u_and_minus_1 : of_number Right Add some_u (negsuc 0) ≡ Err DoesNotFit
unfolding of_number common_kind check_kinds unless
u_and_minus_1 = refl

u_and_u : of_two_arrays Add some_u some_u ≡ Ok (u (Some (pos 144) ∷ Some (pos 200) ∷ []))
unfolding of_two_arrays common_kind check_kinds unless aligned joined_each joined_or_own join labelled_axis fitted paired check_array coords_among first_named shared_attrs first_called
u_and_u = refl

-- ---- dimensions that differ

x_and_y : of_two_arrays Add (over (bare (codes "x") 2 ∷ []) kinds.Int64 false (Some (pos 1) ∷ Some (pos 2) ∷ [])) (over (bare (codes "y") 3 ∷ []) kinds.Int64 false (Some (pos 10) ∷ Some (pos 20) ∷ Some (pos 30) ∷ []))
    ≡ Ok (over (bare (codes "x") 2 ∷ bare (codes "y") 3 ∷ []) kinds.Int64 false (Some (pos 11) ∷ Some (pos 21) ∷ Some (pos 31) ∷ Some (pos 12) ∷ Some (pos 22) ∷ Some (pos 32) ∷ []))
unfolding of_two_arrays common_kind check_kinds unless aligned joined_each joined_or_own join labelled_axis fitted paired check_array coords_among first_named shared_attrs first_called int_wrap
x_and_y = refl

-- ---- 10, 20, 30 with the labels 1, 2, 3

abbrev labelled : DType → Bool → List (Option ℤ) → DataArray
labelled kind masked cells = over (record { name = codes "x"; size = 3; labels = Some (record { list = Numbers kinds.Int64 (pos 1 ∷ pos 2 ∷ pos 3 ∷ []); attrs = [] }) } ∷ []) kind masked cells

abbrev a : DataArray
a = labelled kinds.Int64 false (Some (pos 10) ∷ Some (pos 20) ∷ Some (pos 30) ∷ [])

abbrev a_above_15 : DataArray
a_above_15 = labelled kinds.Bool false (Some (pos 0) ∷ Some (pos 1) ∷ Some (pos 1) ∷ [])

abbrev a_where : DataArray
a_where = labelled kinds.Int64 true (None ∷ Some (pos 20) ∷ Some (pos 30) ∷ [])

tested : of_number Right Greater a (pos 15) ≡ Ok a_above_15
unfolding of_number common_kind check_kinds unless with_literal int_wrap
tested = refl

kept_where : where_method a (record { plain = Array a_above_15 ∷ Missing ∷ []; keyed = [] }) ≡ Ok a_where
unfolding where_method bound as_condition as_branch where_over unless chosen_kind aligned joined_each joined_or_own join labelled_axis joined_index joins.common_kind joined_labels check_branch chosen fitted check_array coords_among first_named int_wrap
kept_where = refl

filled : fill_called a_where (record { plain = Number (pos 0) ∷ []; keyed = [] }) ≡ Ok (labelled kinds.Int64 false (Some (pos 0) ∷ Some (pos 20) ∷ Some (pos 30) ∷ []))
unfolding fill_called one_of literal_for check_fits unless
filled = refl

no_other : where_method a (record { plain = Array a_above_15 ∷ []; keyed = [] }) ≡ Err WouldPromote
unfolding where_method bound as_condition unless
no_other = refl

of_literals : where_called (record { plain = Array a_above_15 ∷ Number (pos 1) ∷ Number (pos 0) ∷ []; keyed = [] }) ≡ Ok (labelled kinds.Int64 false (Some (pos 0) ∷ Some (pos 1) ∷ Some (pos 1) ∷ []))
unfolding where_called bound as_condition as_branch where_over unless chosen_kind aligned joined_each joined_or_own join check_branch chosen fitted check_array coords_among first_named shared_attrs first_called int_wrap
of_literals = refl
