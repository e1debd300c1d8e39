-- The definitions on worked rows, as xarray gives them, and where xarray would fill with NaN or stretch, as refused here.
use Rattle.std.proofs.Common.{◌≡◌, ℕ, ℤ, pos, negsuc, Bool, true, false, List, [], ◌∷◌, ◌++◌, length, map, Option, Some, None, Result, Ok, Err, refl}
use Rattle.std.specs.Int.{int_wrap}
use Rattle.std.specs.Prelude.{codes}
use Rattle.xr_types.specs.Results.{unless}
use Rattle.xr_types.specs.declared.attr.Attr.{Attr}
use Rattle.xr_types.specs.declared.attr.NcType.TheVariants as types
use Rattle.xr_types.specs.declared.axis.Axis.{Axis}
use Rattle.xr_types.specs.declared.axis.LabelList.{LabelList}
use Rattle.xr_types.specs.declared.axis.LabelList.TheVariants.{Numbers, Texts}
use Rattle.xr_types.specs.declared.fault.Fault.{Fault}
use Rattle.xr_types.specs.declared.fault.Fault.TheVariants.{BadArgument, Conflict, DoesNotFit, DuplicateName, LabelKind, NoDimension, NotMonotonic, NoVariable, WouldPromote, WrongKind}
use Rattle.xr_types.specs.declared.kind.DType.{DType}
use Rattle.xr_types.specs.declared.kind.DType.TheVariants.{Int8, Int16, Int64, Char, UInt64}
use Rattle.xr_defs.specs.Arguments.{as_text}
use Rattle.xr_defs.specs.Building.{bound}
use Rattle.xr_defs.specs.Carrying.{first_called, is_agreed, is_shared, same_content, same_coord, shared_attrs}
use Rattle.xr_defs.specs.Meanings as of
use Rattle.xr_defs.specs.Meanings.{Given, Value, Values}
use Rattle.xr_defs.specs.Parts.{new_name}
use Rattle.xr_defs.specs.Selecting.{check_array, check_set}
use Rattle.xr_defs.specs.Values.{DataArray, Dataset, Variable, label_count}
use Rattle.xr_defs.specs.declared.value.Content.TheVariants.{Cells, Text}
use Rattle.xr_defs.specs.declared.value.Coord.{Coord}
use Rattle.xr_operations.specs.Alignment.{aligned, common_kind, join, joined_each, joined_index, joined_labels, joined_or_own, labelled_axis}
use Rattle.xr_operations.specs.CellMethods.{check_fits, literal_for}
use Rattle.xr_relations.specs.Aligning.{check_content, check_fill_for, check_hole, check_literal, check_size, fill_given, fitted_set, how_named}
use Rattle.xr_combination.specs.Arguments.{alike_given, check_alike, check_named, check_sets, compat_given, compat_named, how_given, list_given, named_given, sets_given}
use Rattle.xr_combination.specs.Combine.{check_direction, check_grid, combine_called, combine_of, concat_sets, grid_concatenated, grid_of, group_combined}
use Rattle.xr_combination.specs.Concat.{chained_axis, check_constant, check_dimension, check_kinds, check_variables, concat_called, concat_of, index_along, joining_axis, put_together, variable_concatenated}
use Rattle.xr_combination.specs.Merge.{check_dims, contents_merged, coord_merged, merge_called, merge_of, merged_or_own, merged_pieces, variable_merged}
use Rattle.xr_combination.specs.Pieces.{chained_index, check_fill, common_kind_in, each_of}

-- ---- values

abbrev x : List ℕ
x = codes "x"

abbrev t : List ℕ
t = codes "t"

abbrev v : List ℕ
v = codes "v"

abbrev present : List ℤ → List (Option ℤ)
present ns = map Some ns

abbrev bare : List ℕ → ℕ → Axis
bare name n = record { name = name; size = n; labels = None }

abbrev indexed : List ℕ → LabelList → Axis
indexed name list = record { name = name; size = label_count list; labels = Some (record { list = list; attrs = [] }) }

abbrev labelled : List ℕ → List ℤ → Axis
labelled name ns = indexed name (Numbers Int64 ns)

abbrev array : Option (List ℕ) → List Axis → DType → Bool → List (Option ℤ) → DataArray
array name axes kind masked cells = record { name = name; axes = axes; kind = kind; masked = masked; attrs = []; coords = []; cells = cells }

abbrev plain : List Axis → List (Option ℤ) → DataArray
plain axes cells = array None axes Int64 false cells

abbrev variable : List ℕ → List (List ℕ) → DType → Bool → List (Option ℤ) → Variable
variable name dims kind masked cells = record { name = name; dims = dims; kind = kind; masked = masked; attrs = []; cells = cells }

abbrev set : List Axis → List Variable → Dataset
set axes vars = record { axes = axes; coords = []; vars = vars; attrs = []; skipped = [] }

abbrev scalar : List ℕ → DType → ℤ → Coord
scalar name kind n = record { name = name; axes = []; attrs = []; content = Cells (record { kind = kind; shape = []; cells = Some n ∷ [] }) false }

abbrev behind : Values → List Value → Values
behind vs [] = vs
behind vs (w ∷ ws) = behind (of.With vs w) ws

-- a list of values, other plain arguments and keywords
abbrev given : List Value → List Value → List (List ℕ × Value) → Given
given vs plain keyed = record { plain = of.Sequence (behind of.NoValue vs) ∷ plain; keyed = keyed }

abbrev along : List ℕ → List DataArray → Given
along dim arrays = given (map of.Array arrays) [] ((codes "dim", of.Text dim) ∷ [])

abbrev sets_along : List ℕ → List Dataset → Given
sets_along dim sets = given (map of.Set sets) [] ((codes "dim", of.Text dim) ∷ [])

abbrev with : List ℕ → Value → Given → Given
with name v g = record g { keyed = g.keyed ++ (name, v) ∷ [] }

abbrev filled : Value → Given → Given
filled w g = with (codes "fill_value") w g

-- ---- concat: arrays along a dimension that they have

-- the cells 10 20 30 on the labels 1 2 3, and parts of them
abbrev on : List ℤ → List ℤ → DataArray
on labels ns = plain (labelled x labels ∷ []) (present ns)

abbrev a : DataArray
a = on (pos 1 ∷ pos 2 ∷ pos 3 ∷ []) (pos 10 ∷ pos 20 ∷ pos 30 ∷ [])

abbrev first : DataArray
first = on (pos 1 ∷ []) (pos 10 ∷ [])

-- the scalar labels of picked cells are the labels of a new dimension, in the order of the list
new_from_scalars : concat_called (along x (record (plain [] (present (pos 30 ∷ []))) { coords = scalar x Int64 (pos 3) ∷ [] } ∷ record (plain [] (present (pos 10 ∷ []))) { coords = scalar x Int64 (pos 1) ∷ [] } ∷ [])) ≡ Ok (of.Array (on (pos 3 ∷ pos 1 ∷ []) (pos 30 ∷ pos 10 ∷ [])))
unfolding concat_called concat_of alike_given check_alike list_given bound new_name as_text how_given how_named fill_given check_literal check_variables check_dimension aligned joined_each joined_or_own join labelled_axis joined_index common_kind joined_labels joining_axis chained_axis index_along chained_index fitted_set check_kinds common_kind_in check_constant check_fill check_fill_for check_hole check_content literal_for check_fits put_together each_of variable_concatenated check_size check_array check_set is_agreed same_coord same_content shared_attrs first_called is_shared int_wrap unless
new_from_scalars = refl

-- of two kinds they are none, and are gone
of_two_kinds : concat_called (along x (record (plain [] (present (pos 30 ∷ []))) { coords = scalar x Int64 (pos 3) ∷ [] } ∷ record (plain [] (present (pos 10 ∷ []))) { coords = scalar x Int8 (pos 1) ∷ [] } ∷ [])) ≡ Ok (of.Array (plain (bare x 2 ∷ []) (present (pos 30 ∷ pos 10 ∷ []))))
unfolding concat_called concat_of alike_given check_alike list_given bound new_name as_text how_given how_named fill_given check_literal check_variables check_dimension aligned joined_each joined_or_own join labelled_axis joined_index common_kind joined_labels joining_axis chained_axis index_along chained_index fitted_set check_kinds common_kind_in check_constant check_fill check_fill_for check_hole check_content literal_for check_fits put_together each_of variable_concatenated check_size check_array check_set is_agreed same_coord same_content shared_attrs first_called is_shared int_wrap unless
of_two_kinds = refl

stacked : concat_called (along t (a ∷ on (pos 1 ∷ pos 2 ∷ pos 3 ∷ []) (pos 11 ∷ pos 21 ∷ pos 31 ∷ []) ∷ [])) ≡ Ok (of.Array (plain (bare t 2 ∷ labelled x (pos 1 ∷ pos 2 ∷ pos 3 ∷ []) ∷ []) (present (pos 10 ∷ pos 20 ∷ pos 30 ∷ pos 11 ∷ pos 21 ∷ pos 31 ∷ []))))
unfolding concat_called concat_of alike_given check_alike list_given bound new_name as_text how_given how_named fill_given check_literal check_variables check_dimension aligned joined_each joined_or_own join labelled_axis joined_index common_kind joined_labels joining_axis chained_axis index_along chained_index fitted_set check_kinds common_kind_in check_constant check_fill check_fill_for check_hole check_content literal_for check_fits put_together each_of variable_concatenated check_size check_array check_set is_agreed same_coord same_content shared_attrs first_called is_shared int_wrap unless
stacked = refl

-- labels stand one after the other, unsorted and repeated
end_to_end : concat_called (along x (a ∷ first ∷ [])) ≡ Ok (of.Array (on (pos 1 ∷ pos 2 ∷ pos 3 ∷ pos 1 ∷ []) (pos 10 ∷ pos 20 ∷ pos 30 ∷ pos 10 ∷ [])))
unfolding concat_called concat_of alike_given check_alike list_given bound new_name as_text how_given how_named fill_given check_literal check_variables check_dimension aligned joined_each joined_or_own join labelled_axis joined_index common_kind joined_labels joining_axis chained_axis index_along chained_index fitted_set check_kinds common_kind_in check_constant check_fill check_fill_for check_hole check_content literal_for check_fits put_together each_of variable_concatenated check_size check_array check_set is_agreed same_coord same_content shared_attrs first_called is_shared int_wrap unless
end_to_end = refl

-- the kind is the promoted one, and the result is masked where an input is; arrays of two names have none
promoted_and_masked : concat_called (along x (array (Some v) (bare x 1 ∷ []) Int8 true (None ∷ []) ∷ array (Some t) (bare x 2 ∷ []) Int16 false (present (pos 300 ∷ pos 2 ∷ [])) ∷ [])) ≡ Ok (of.Array (array None (bare x 3 ∷ []) Int16 true (None ∷ present (pos 300 ∷ pos 2 ∷ []))))
unfolding concat_called concat_of alike_given check_alike list_given bound new_name as_text how_given how_named fill_given check_literal check_variables check_dimension aligned joined_each joined_or_own join labelled_axis joined_index common_kind joined_labels joining_axis chained_axis index_along chained_index fitted_set check_kinds common_kind_in check_constant check_fill check_fill_for check_hole check_content literal_for check_fits put_together each_of variable_concatenated check_size check_array check_set is_agreed same_coord same_content shared_attrs first_called is_shared int_wrap unless
promoted_and_masked = refl

-- ---- concat: what is refused, in its order

no_list : concat_called (record { plain = of.Array a ∷ of.Text x ∷ []; keyed = [] }) ≡ Err WrongKind
unfolding concat_called concat_of alike_given check_alike list_given bound new_name as_text how_given how_named fill_given check_literal check_variables check_dimension aligned joined_each joined_or_own join labelled_axis joined_index common_kind joined_labels joining_axis chained_axis index_along chained_index fitted_set check_kinds common_kind_in check_constant check_fill check_fill_for check_hole check_content literal_for check_fits put_together each_of variable_concatenated check_size check_array check_set is_agreed same_coord same_content shared_attrs first_called is_shared int_wrap unless
no_list = refl

no_values : concat_called (along x []) ≡ Err BadArgument
unfolding concat_called concat_of alike_given check_alike list_given bound new_name as_text how_given how_named fill_given check_literal check_variables check_dimension aligned joined_each joined_or_own join labelled_axis joined_index common_kind joined_labels joining_axis chained_axis index_along chained_index fitted_set check_kinds common_kind_in check_constant check_fill check_fill_for check_hole check_content literal_for check_fits put_together each_of variable_concatenated check_size check_array check_set is_agreed same_coord same_content shared_attrs first_called is_shared int_wrap unless
no_values = refl

mixed : concat_called (given (of.Array a ∷ of.Set (set [] []) ∷ []) (of.Text x ∷ []) []) ≡ Err WrongKind
unfolding concat_called concat_of alike_given check_alike list_given bound new_name as_text how_given how_named fill_given check_literal check_variables check_dimension aligned joined_each joined_or_own join labelled_axis joined_index common_kind joined_labels joining_axis chained_axis index_along chained_index fitted_set check_kinds common_kind_in check_constant check_fill check_fill_for check_hole check_content literal_for check_fits put_together each_of variable_concatenated check_size check_array check_set is_agreed same_coord same_content shared_attrs first_called is_shared int_wrap unless
mixed = refl

no_name : concat_called (along [] (a ∷ [])) ≡ Err BadArgument
unfolding concat_called concat_of alike_given check_alike list_given bound new_name as_text how_given how_named fill_given check_literal check_variables check_dimension aligned joined_each joined_or_own join labelled_axis joined_index common_kind joined_labels joining_axis chained_axis index_along chained_index fitted_set check_kinds common_kind_in check_constant check_fill check_fill_for check_hole check_content literal_for check_fits put_together each_of variable_concatenated check_size check_array check_set is_agreed same_coord same_content shared_attrs first_called is_shared int_wrap unless
no_name = refl

-- a dimension of one alone
lacks_one : concat_called (along x (a ∷ plain [] (present (pos 1 ∷ [])) ∷ [])) ≡ Err (NoDimension x)
unfolding concat_called concat_of alike_given check_alike list_given bound new_name as_text how_given how_named fill_given check_literal check_variables check_dimension aligned joined_each joined_or_own join labelled_axis joined_index common_kind joined_labels joining_axis chained_axis index_along chained_index fitted_set check_kinds common_kind_in check_constant check_fill check_fill_for check_hole check_content literal_for check_fits put_together each_of variable_concatenated check_size check_array check_set is_agreed same_coord same_content shared_attrs first_called is_shared int_wrap unless
lacks_one = refl

-- an array of the dimension's name
named_as_it : concat_called (along x (record a { name = Some x } ∷ [])) ≡ Err DuplicateName
unfolding concat_called concat_of alike_given check_alike list_given bound new_name as_text how_given how_named fill_given check_literal check_variables check_dimension aligned joined_each joined_or_own join labelled_axis joined_index common_kind joined_labels joining_axis chained_axis index_along chained_index fitted_set check_kinds common_kind_in check_constant check_fill check_fill_for check_hole check_content literal_for check_fits put_together each_of variable_concatenated check_size check_array check_set is_agreed same_coord same_content shared_attrs first_called is_shared int_wrap unless
named_as_it = refl

one_bare : concat_called (along x (a ∷ plain (bare x 1 ∷ []) (present (pos 1 ∷ [])) ∷ [])) ≡ Err LabelKind
unfolding concat_called concat_of alike_given check_alike list_given bound new_name as_text how_given how_named fill_given check_literal check_variables check_dimension aligned joined_each joined_or_own join labelled_axis joined_index common_kind joined_labels joining_axis chained_axis index_along chained_index fitted_set check_kinds common_kind_in check_constant check_fill check_fill_for check_hole check_content literal_for check_fits put_together each_of variable_concatenated check_size check_array check_set is_agreed same_coord same_content shared_attrs first_called is_shared int_wrap unless
one_bare = refl

-- labels of kinds that can't be promoted
no_promotion : concat_called (along x (a ∷ array None (indexed x (Numbers UInt64 (pos 1 ∷ [])) ∷ []) Int64 false (present (pos 1 ∷ [])) ∷ [])) ≡ Err WouldPromote
unfolding concat_called concat_of alike_given check_alike list_given bound new_name as_text how_given how_named fill_given check_literal check_variables check_dimension aligned joined_each joined_or_own join labelled_axis joined_index common_kind joined_labels joining_axis chained_axis index_along chained_index fitted_set check_kinds common_kind_in check_constant check_fill check_fill_for check_hole check_content literal_for check_fits put_together each_of variable_concatenated check_size check_array check_set is_agreed same_coord same_content shared_attrs first_called is_shared int_wrap unless
no_promotion = refl

-- bytes of text and numbers
chars : concat_called (along x (array None (bare x 1 ∷ []) Char false (present (pos 1 ∷ [])) ∷ array None (bare x 1 ∷ []) Int8 false (present (pos 1 ∷ [])) ∷ [])) ≡ Err WrongKind
unfolding concat_called concat_of alike_given check_alike list_given bound new_name as_text how_given how_named fill_given check_literal check_variables check_dimension aligned joined_each joined_or_own join labelled_axis joined_index common_kind joined_labels joining_axis chained_axis index_along chained_index fitted_set check_kinds common_kind_in check_constant check_fill check_fill_for check_hole check_content literal_for check_fits put_together each_of variable_concatenated check_size check_array check_set is_agreed same_coord same_content shared_attrs first_called is_shared int_wrap unless
chars = refl

other_dims : concat_called (along x (plain (bare x 1 ∷ []) (present (pos 1 ∷ [])) ∷ plain (bare x 1 ∷ bare t 1 ∷ []) (present (pos 1 ∷ [])) ∷ [])) ≡ Err Conflict
unfolding concat_called concat_of alike_given check_alike list_given bound new_name as_text how_given how_named fill_given check_literal check_variables check_dimension aligned joined_each joined_or_own join labelled_axis joined_index common_kind joined_labels joining_axis chained_axis index_along chained_index fitted_set check_kinds common_kind_in check_constant check_fill check_fill_for check_hole check_content literal_for check_fits put_together each_of variable_concatenated check_size check_array check_set is_agreed same_coord same_content shared_attrs first_called is_shared int_wrap unless
other_dims = refl

-- ---- concat: the other dimensions are joined

abbrev over_two : List ℤ → DType → List (Option ℤ) → DataArray
over_two labels kind cells = array None (bare t 1 ∷ labelled x labels ∷ []) kind false cells

abbrev early : DataArray
early = over_two (pos 1 ∷ pos 2 ∷ []) Int8 (present (pos 5 ∷ pos 6 ∷ []))

abbrev late : DataArray
late = over_two (pos 2 ∷ pos 3 ∷ []) Int8 (present (pos 7 ∷ pos 8 ∷ []))

unfilled : concat_called (along t (early ∷ late ∷ [])) ≡ Err WouldPromote
unfolding concat_called concat_of alike_given check_alike list_given bound new_name as_text how_given how_named fill_given check_literal check_variables check_dimension aligned joined_each joined_or_own join labelled_axis joined_index common_kind joined_labels joining_axis chained_axis index_along chained_index fitted_set check_kinds common_kind_in check_constant check_fill check_fill_for check_hole check_content literal_for check_fits put_together each_of variable_concatenated check_size check_array check_set is_agreed same_coord same_content shared_attrs first_called is_shared int_wrap unless
unfilled = refl

filled_with_0 : concat_called (filled (of.Number (pos 0)) (along t (early ∷ late ∷ []))) ≡ Ok (of.Array (array None (bare t 2 ∷ labelled x (pos 1 ∷ pos 2 ∷ pos 3 ∷ []) ∷ []) Int8 false (present (pos 5 ∷ pos 6 ∷ pos 0 ∷ pos 0 ∷ pos 7 ∷ pos 8 ∷ []))))
unfolding concat_called concat_of alike_given check_alike list_given bound new_name as_text how_given how_named fill_given check_literal check_variables check_dimension aligned joined_each joined_or_own join labelled_axis joined_index common_kind joined_labels joining_axis chained_axis index_along chained_index fitted_set check_kinds common_kind_in check_constant check_fill check_fill_for check_hole check_content literal_for check_fits put_together each_of variable_concatenated check_size check_array check_set is_agreed same_coord same_content shared_attrs first_called is_shared int_wrap unless
filled_with_0 = refl

filled_with_missing : concat_called (filled of.Missing (along t (early ∷ late ∷ []))) ≡ Ok (of.Array (array None (bare t 2 ∷ labelled x (pos 1 ∷ pos 2 ∷ pos 3 ∷ []) ∷ []) Int8 true (Some (pos 5) ∷ Some (pos 6) ∷ None ∷ None ∷ Some (pos 7) ∷ Some (pos 8) ∷ [])))
unfolding concat_called concat_of alike_given check_alike list_given bound new_name as_text how_given how_named fill_given check_literal check_variables check_dimension aligned joined_each joined_or_own join labelled_axis joined_index common_kind joined_labels joining_axis chained_axis index_along chained_index fitted_set check_kinds common_kind_in check_constant check_fill check_fill_for check_hole check_content literal_for check_fits put_together each_of variable_concatenated check_size check_array check_set is_agreed same_coord same_content shared_attrs first_called is_shared int_wrap unless
filled_with_missing = refl

-- the fill has to fit the input's own kind, though the result's is wider
fits_its_own_kind : concat_called (filled (of.Number (pos 300)) (along t (early ∷ over_two (pos 2 ∷ pos 3 ∷ []) Int64 (present (pos 7 ∷ pos 8 ∷ [])) ∷ []))) ≡ Err DoesNotFit
unfolding concat_called concat_of alike_given check_alike list_given bound new_name as_text how_given how_named fill_given check_literal check_variables check_dimension aligned joined_each joined_or_own join labelled_axis joined_index common_kind joined_labels joining_axis chained_axis index_along chained_index fitted_set check_kinds common_kind_in check_constant check_fill check_fill_for check_hole check_content literal_for check_fits put_together each_of variable_concatenated check_size check_array check_set is_agreed same_coord same_content shared_attrs first_called is_shared int_wrap unless
fits_its_own_kind = refl

inner : concat_called (with (codes "join") (of.Text (codes "inner")) (along t (early ∷ late ∷ []))) ≡ Ok (of.Array (array None (bare t 2 ∷ labelled x (pos 2 ∷ []) ∷ []) Int8 false (present (pos 6 ∷ pos 7 ∷ []))))
unfolding concat_called concat_of alike_given check_alike list_given bound new_name as_text how_given how_named fill_given check_literal check_variables check_dimension aligned joined_each joined_or_own join labelled_axis joined_index common_kind joined_labels joining_axis chained_axis index_along chained_index fitted_set check_kinds common_kind_in check_constant check_fill check_fill_for check_hole check_content literal_for check_fits put_together each_of variable_concatenated check_size check_array check_set is_agreed same_coord same_content shared_attrs first_called is_shared int_wrap unless
inner = refl

-- the dimensions of the second come into the order of the first
first_order : concat_called (along t (plain (bare t 1 ∷ bare x 2 ∷ []) (present (pos 1 ∷ pos 2 ∷ [])) ∷ plain (bare x 2 ∷ bare t 2 ∷ []) (present (pos 3 ∷ pos 4 ∷ pos 5 ∷ pos 6 ∷ [])) ∷ [])) ≡ Ok (of.Array (plain (bare t 3 ∷ bare x 2 ∷ []) (present (pos 1 ∷ pos 2 ∷ pos 3 ∷ pos 5 ∷ pos 4 ∷ pos 6 ∷ []))))
unfolding concat_called concat_of alike_given check_alike list_given bound new_name as_text how_given how_named fill_given check_literal check_variables check_dimension aligned joined_each joined_or_own join labelled_axis joined_index common_kind joined_labels joining_axis chained_axis index_along chained_index fitted_set check_kinds common_kind_in check_constant check_fill check_fill_for check_hole check_content literal_for check_fits put_together each_of variable_concatenated check_size check_array check_set is_agreed same_coord same_content shared_attrs first_called is_shared int_wrap unless
first_order = refl

-- ---- concat: datasets

abbrev two : ℤ → List (Option ℤ) → Dataset
two n cells = record (set (bare x 1 ∷ []) (variable v (x ∷ []) Int8 false cells ∷ variable t [] Int8 false (Some n ∷ []) ∷ [])) { skipped = v ∷ x ∷ [] }

-- a name that another lacks
lacks_name : concat_called (sets_along x (two (pos 1) (Some (pos 4) ∷ []) ∷ set (bare x 1 ∷ []) (variable v (x ∷ []) Int8 false (Some (pos 4) ∷ []) ∷ []) ∷ [])) ≡ Err (NoVariable t)
unfolding concat_called concat_of alike_given check_alike list_given bound new_name as_text how_given how_named fill_given check_literal check_variables check_dimension aligned joined_each joined_or_own join labelled_axis joined_index common_kind joined_labels joining_axis chained_axis index_along chained_index fitted_set check_kinds common_kind_in check_constant check_fill check_fill_for check_hole check_content literal_for check_fits put_together each_of variable_concatenated check_size check_array check_set is_agreed same_coord same_content shared_attrs first_called is_shared int_wrap unless
lacks_name = refl

-- a variable without the dimension is equal in all, and skipped names stand once
equal_ones : concat_called (sets_along x (two (pos 1) (Some (pos 4) ∷ []) ∷ two (pos 1) (Some (pos 5) ∷ []) ∷ [])) ≡ Ok (of.Set (record (set (bare x 2 ∷ []) (variable v (x ∷ []) Int8 false (present (pos 4 ∷ pos 5 ∷ [])) ∷ variable t [] Int8 false (Some (pos 1) ∷ []) ∷ [])) { skipped = v ∷ x ∷ [] }))
unfolding concat_called concat_of alike_given check_alike list_given bound new_name as_text how_given how_named fill_given check_literal check_variables check_dimension aligned joined_each joined_or_own join labelled_axis joined_index common_kind joined_labels joining_axis chained_axis index_along chained_index fitted_set check_kinds common_kind_in check_constant check_fill check_fill_for check_hole check_content literal_for check_fits put_together each_of variable_concatenated check_size check_array check_set is_agreed same_coord same_content shared_attrs first_called is_shared int_wrap unless
equal_ones = refl

unequal_ones : concat_called (sets_along x (two (pos 1) (Some (pos 4) ∷ []) ∷ two (pos 2) (Some (pos 5) ∷ []) ∷ [])) ≡ Err Conflict
unfolding concat_called concat_of alike_given check_alike list_given bound new_name as_text how_given how_named fill_given check_literal check_variables check_dimension aligned joined_each joined_or_own join labelled_axis joined_index common_kind joined_labels joining_axis chained_axis index_along chained_index fitted_set check_kinds common_kind_in check_constant check_fill check_fill_for check_hole check_content literal_for check_fits put_together each_of variable_concatenated check_size check_array check_set is_agreed same_coord same_content shared_attrs first_called is_shared int_wrap unless
unequal_ones = refl

-- along a new dimension every variable is stacked
all_stacked : concat_called (sets_along (codes "n") (two (pos 1) (Some (pos 4) ∷ []) ∷ two (pos 2) (Some (pos 5) ∷ []) ∷ [])) ≡ Ok (of.Set (record (set (bare (codes "n") 2 ∷ bare x 1 ∷ []) (variable v (codes "n" ∷ x ∷ []) Int8 false (present (pos 4 ∷ pos 5 ∷ [])) ∷ variable t (codes "n" ∷ []) Int8 false (present (pos 1 ∷ pos 2 ∷ [])) ∷ [])) { skipped = v ∷ x ∷ [] }))
unfolding concat_called concat_of alike_given check_alike list_given bound new_name as_text how_given how_named fill_given check_literal check_variables check_dimension aligned joined_each joined_or_own join labelled_axis joined_index common_kind joined_labels joining_axis chained_axis index_along chained_index fitted_set check_kinds common_kind_in check_constant check_fill check_fill_for check_hole check_content literal_for check_fits put_together each_of variable_concatenated check_size check_array check_set is_agreed same_coord same_content shared_attrs first_called is_shared int_wrap unless
all_stacked = refl

-- ---- concat: coordinates

abbrev c : List ℕ
c = codes "c"

abbrev along_x : List ℕ → DType → Axis → List (Option ℤ) → Coord
along_x name kind axis cells = record { name = name; axes = axis ∷ []; attrs = []; content = Cells (record { kind = kind; shape = axis.size ∷ []; cells = cells }) false }

abbrev has : List Coord → List Axis → List (Option ℤ) → DataArray
has coords axes cells = record (plain axes cells) { coords = coords }

-- one along the dimension is joined, in the kind to which theirs are promoted
joined_coordinate : concat_called (along x (has (along_x c Int8 (bare x 1) (Some (pos 1) ∷ []) ∷ []) (bare x 1 ∷ []) (Some (pos 5) ∷ []) ∷ has (along_x c Int16 (bare x 1) (Some (pos 2) ∷ []) ∷ []) (bare x 1 ∷ []) (Some (pos 6) ∷ []) ∷ [])) ≡ Ok (of.Array (has (along_x c Int16 (bare x 2) (present (pos 1 ∷ pos 2 ∷ [])) ∷ []) (bare x 2 ∷ []) (present (pos 5 ∷ pos 6 ∷ []))))
unfolding concat_called concat_of alike_given check_alike list_given bound new_name as_text how_given how_named fill_given check_literal check_variables check_dimension aligned joined_each joined_or_own join labelled_axis joined_index common_kind joined_labels joining_axis chained_axis index_along chained_index fitted_set check_kinds common_kind_in check_constant check_fill check_fill_for check_hole check_content literal_for check_fits put_together each_of variable_concatenated check_size check_array check_set is_agreed same_coord same_content shared_attrs first_called is_shared int_wrap unless
joined_coordinate = refl

-- others are kept where they are equal in all
kept_and_dropped : concat_called (along x (has (scalar c Int8 (pos 1) ∷ scalar v Int8 (pos 1) ∷ scalar (codes "d") Int8 (pos 1) ∷ []) (bare x 1 ∷ []) (Some (pos 5) ∷ []) ∷ has (scalar c Int16 (pos 1) ∷ scalar v Int8 (pos 2) ∷ []) (bare x 1 ∷ []) (Some (pos 6) ∷ []) ∷ [])) ≡ Ok (of.Array (has (scalar c Int8 (pos 1) ∷ []) (bare x 2 ∷ []) (present (pos 5 ∷ pos 6 ∷ []))))
unfolding concat_called concat_of alike_given check_alike list_given bound new_name as_text how_given how_named fill_given check_literal check_variables check_dimension aligned joined_each joined_or_own join labelled_axis joined_index common_kind joined_labels joining_axis chained_axis index_along chained_index fitted_set check_kinds common_kind_in check_constant check_fill check_fill_for check_hole check_content literal_for check_fits put_together each_of variable_concatenated check_size check_array check_set is_agreed same_coord same_content shared_attrs first_called is_shared int_wrap unless
kept_and_dropped = refl

-- a coordinate over dimensions that has the new dimension's name
coordinate_named_as_it : concat_called (along t (has (along_x t Int8 (bare x 1) (Some (pos 1) ∷ []) ∷ []) (bare x 1 ∷ []) (Some (pos 5) ∷ []) ∷ [])) ≡ Err DuplicateName
unfolding concat_called concat_of alike_given check_alike list_given bound new_name as_text how_given how_named fill_given check_literal check_variables check_dimension aligned joined_each joined_or_own join labelled_axis joined_index common_kind joined_labels joining_axis chained_axis index_along chained_index fitted_set check_kinds common_kind_in check_constant check_fill check_fill_for check_hole check_content literal_for check_fits put_together each_of variable_concatenated check_size check_array check_set is_agreed same_coord same_content shared_attrs first_called is_shared int_wrap unless
coordinate_named_as_it = refl

-- ---- merge

abbrev named : List ℕ → Axis → List (Option ℤ) → DataArray
named name axis cells = array (Some name) (axis ∷ []) Int64 true cells

abbrev of_all : List DataArray → Given
of_all arrays = given (map of.Array arrays) [] []

abbrev p : DataArray
p = named v (bare x 2) (Some (pos 1) ∷ None ∷ [])

abbrev by : List ℕ → Given → Given
by text g = with (codes "compat") (of.Text text) g

-- holes are filled from the others
holes_filled : merge_called (of_all (p ∷ named v (bare x 2) (None ∷ Some (pos 5) ∷ []) ∷ [])) ≡ Ok (of.Set (set (bare x 2 ∷ []) (variable v (x ∷ []) Int64 true (present (pos 1 ∷ pos 5 ∷ [])) ∷ [])))
unfolding merge_called merge_of named_given check_named list_given bound as_text compat_given compat_named how_given how_named fill_given check_literal aligned joined_each joined_or_own join labelled_axis joined_index common_kind joined_labels check_dims fitted_set each_of variable_merged merged_or_own merged_pieces common_kind_in coord_merged contents_merged check_fill check_fill_for check_hole check_content literal_for check_fits check_set same_content shared_attrs first_called is_shared int_wrap unless
holes_filled = refl

conflicting : merge_called (of_all (p ∷ named v (bare x 2) (present (pos 2 ∷ pos 5 ∷ [])) ∷ [])) ≡ Err Conflict
unfolding merge_called merge_of named_given check_named list_given bound as_text compat_given compat_named how_given how_named fill_given check_literal aligned joined_each joined_or_own join labelled_axis joined_index common_kind joined_labels check_dims fitted_set each_of variable_merged merged_or_own merged_pieces common_kind_in coord_merged contents_merged check_fill check_fill_for check_hole check_content literal_for check_fits check_set same_content shared_attrs first_called is_shared int_wrap unless
conflicting = refl

-- missing cells and others differ by `equals`
not_equal : merge_called (by (codes "equals") (of_all (p ∷ named v (bare x 2) (None ∷ Some (pos 5) ∷ []) ∷ []))) ≡ Err Conflict
unfolding merge_called merge_of named_given check_named list_given bound as_text compat_given compat_named how_given how_named fill_given check_literal aligned joined_each joined_or_own join labelled_axis joined_index common_kind joined_labels check_dims fitted_set each_of variable_merged merged_or_own merged_pieces common_kind_in coord_merged contents_merged check_fill check_fill_for check_hole check_content literal_for check_fits check_set same_content shared_attrs first_called is_shared int_wrap unless
not_equal = refl

first_stands : merge_called (by (codes "override") (of_all (p ∷ named v (bare x 2) (present (pos 2 ∷ pos 5 ∷ [])) ∷ []))) ≡ Ok (of.Set (set (bare x 2 ∷ []) (variable v (x ∷ []) Int64 true (Some (pos 1) ∷ None ∷ []) ∷ [])))
unfolding merge_called merge_of named_given check_named list_given bound as_text compat_given compat_named how_given how_named fill_given check_literal aligned joined_each joined_or_own join labelled_axis joined_index common_kind joined_labels check_dims fitted_set each_of variable_merged merged_or_own merged_pieces common_kind_in coord_merged contents_merged check_fill check_fill_for check_hole check_content literal_for check_fits check_set same_content shared_attrs first_called is_shared int_wrap unless
first_stands = refl

beside_each_other : merge_called (of_all (named v (bare x 0) [] ∷ named t (bare c 0) [] ∷ [])) ≡ Ok (of.Set (set (bare x 0 ∷ bare c 0 ∷ []) (variable v (x ∷ []) Int64 true [] ∷ variable t (c ∷ []) Int64 true [] ∷ [])))
unfolding merge_called merge_of named_given check_named list_given bound as_text compat_given compat_named how_given how_named fill_given check_literal aligned joined_each joined_or_own join labelled_axis joined_index common_kind joined_labels check_dims fitted_set each_of variable_merged merged_or_own merged_pieces common_kind_in coord_merged contents_merged check_fill check_fill_for check_hole check_content literal_for check_fits check_set same_content shared_attrs first_called is_shared int_wrap unless
beside_each_other = refl

without_a_name : merge_called (of_all (p ∷ a ∷ [])) ≡ Err BadArgument
unfolding merge_called merge_of named_given check_named list_given bound as_text compat_given compat_named how_given how_named fill_given check_literal aligned joined_each joined_or_own join labelled_axis joined_index common_kind joined_labels check_dims fitted_set each_of variable_merged merged_or_own merged_pieces common_kind_in coord_merged contents_merged check_fill check_fill_for check_hole check_content literal_for check_fits check_set same_content shared_attrs first_called is_shared int_wrap unless
without_a_name = refl

no_such_rule : merge_called (by v (of_all (p ∷ []))) ≡ Err BadArgument
unfolding merge_called merge_of named_given check_named list_given bound as_text compat_given compat_named how_given how_named fill_given check_literal aligned joined_each joined_or_own join labelled_axis joined_index common_kind joined_labels check_dims fitted_set each_of variable_merged merged_or_own merged_pieces common_kind_in coord_merged contents_merged check_fill check_fill_for check_hole check_content literal_for check_fits check_set same_content shared_attrs first_called is_shared int_wrap unless
no_such_rule = refl

a_number : merge_called (given (of.Number (pos 1) ∷ []) [] []) ≡ Err WrongKind
unfolding merge_called merge_of named_given check_named list_given bound as_text compat_given compat_named how_given how_named fill_given check_literal aligned joined_each joined_or_own join labelled_axis joined_index common_kind joined_labels check_dims fitted_set each_of variable_merged merged_or_own merged_pieces common_kind_in coord_merged contents_merged check_fill check_fill_for check_hole check_content literal_for check_fits check_set same_content shared_attrs first_called is_shared int_wrap unless
a_number = refl

-- a data variable of the one is a dimension of the other
names_cross : merge_called (of_all (p ∷ named x (bare t 1) (Some (pos 1) ∷ []) ∷ [])) ≡ Err DuplicateName
unfolding merge_called merge_of named_given check_named list_given bound as_text compat_given compat_named how_given how_named fill_given check_literal aligned joined_each joined_or_own join labelled_axis joined_index common_kind joined_labels check_dims fitted_set each_of variable_merged merged_or_own merged_pieces common_kind_in coord_merged contents_merged check_fill check_fill_for check_hole check_content literal_for check_fits check_set same_content shared_attrs first_called is_shared int_wrap unless
names_cross = refl

of_other_dims : merge_called (of_all (p ∷ named v (bare t 2) (None ∷ Some (pos 5) ∷ []) ∷ [])) ≡ Err Conflict
unfolding merge_called merge_of named_given check_named list_given bound as_text compat_given compat_named how_given how_named fill_given check_literal aligned joined_each joined_or_own join labelled_axis joined_index common_kind joined_labels check_dims fitted_set each_of variable_merged merged_or_own merged_pieces common_kind_in coord_merged contents_merged check_fill check_fill_for check_hole check_content literal_for check_fits check_set same_content shared_attrs first_called is_shared int_wrap unless
of_other_dims = refl

-- labels that one lacks need a fill, and a missing one is filled from the other
merged_outer : merge_called (filled of.Missing (of_all (named v (labelled x (pos 1 ∷ pos 2 ∷ [])) (present (pos 5 ∷ pos 6 ∷ [])) ∷ named v (labelled x (pos 2 ∷ pos 3 ∷ [])) (present (pos 6 ∷ pos 7 ∷ [])) ∷ []))) ≡ Ok (of.Set (set (labelled x (pos 1 ∷ pos 2 ∷ pos 3 ∷ []) ∷ []) (variable v (x ∷ []) Int64 true (present (pos 5 ∷ pos 6 ∷ pos 7 ∷ [])) ∷ [])))
unfolding merge_called merge_of named_given check_named list_given bound as_text compat_given compat_named how_given how_named fill_given check_literal aligned joined_each joined_or_own join labelled_axis joined_index common_kind joined_labels check_dims fitted_set each_of variable_merged merged_or_own merged_pieces common_kind_in coord_merged contents_merged check_fill check_fill_for check_hole check_content literal_for check_fits check_set same_content shared_attrs first_called is_shared int_wrap unless
merged_outer = refl

merged_unfilled : merge_called (of_all (named v (labelled x (pos 1 ∷ pos 2 ∷ [])) (present (pos 5 ∷ pos 6 ∷ [])) ∷ named v (labelled x (pos 2 ∷ pos 3 ∷ [])) (present (pos 6 ∷ pos 7 ∷ [])) ∷ [])) ≡ Err WouldPromote
unfolding merge_called merge_of named_given check_named list_given bound as_text compat_given compat_named how_given how_named fill_given check_literal aligned joined_each joined_or_own join labelled_axis joined_index common_kind joined_labels check_dims fitted_set each_of variable_merged merged_or_own merged_pieces common_kind_in coord_merged contents_merged check_fill check_fill_for check_hole check_content literal_for check_fits check_set same_content shared_attrs first_called is_shared int_wrap unless
merged_unfilled = refl

-- a coordinate that is a text and one that is a number conflict
text_and_number : merge_called (of_all (record p { coords = record { name = c; axes = []; attrs = []; content = Text v } ∷ [] } ∷ record (named t (bare x 2) (None ∷ None ∷ [])) { coords = scalar c Int8 (pos 1) ∷ [] } ∷ [])) ≡ Err Conflict
unfolding merge_called merge_of named_given check_named list_given bound as_text compat_given compat_named how_given how_named fill_given check_literal aligned joined_each joined_or_own join labelled_axis joined_index common_kind joined_labels check_dims fitted_set each_of variable_merged merged_or_own merged_pieces common_kind_in coord_merged contents_merged check_fill check_fill_for check_hole check_content literal_for check_fits check_set same_content shared_attrs first_called is_shared int_wrap unless
text_and_number = refl

-- a scalar coordinate that is a dimension of another isn't looked at
scalar_is_dropped : merge_called (of_all (record (named t (bare v 1) (Some (pos 3) ∷ [])) { coords = scalar x Int8 (pos 1) ∷ [] } ∷ named c (bare x 1) (Some (pos 4) ∷ []) ∷ [])) ≡ Ok (of.Set (set (bare v 1 ∷ bare x 1 ∷ []) (variable t (v ∷ []) Int64 true (Some (pos 3) ∷ []) ∷ variable c (x ∷ []) Int64 true (Some (pos 4) ∷ []) ∷ [])))
unfolding merge_called merge_of named_given check_named list_given bound as_text compat_given compat_named how_given how_named fill_given check_literal aligned joined_each joined_or_own join labelled_axis joined_index common_kind joined_labels check_dims fitted_set each_of variable_merged merged_or_own merged_pieces common_kind_in coord_merged contents_merged check_fill check_fill_for check_hole check_content literal_for check_fits check_set same_content shared_attrs first_called is_shared int_wrap unless
scalar_is_dropped = refl

-- ---- combine_by_coords

abbrev tile : List ℤ → List ℤ → Dataset
tile labels ns = set (labelled x labels ∷ []) (variable v (x ∷ []) Int64 false (present ns) ∷ [])

abbrev of_sets : List Dataset → Given
of_sets sets = given (map of.Set sets) [] []

abbrev lo : Dataset
lo = tile (pos 1 ∷ pos 2 ∷ []) (pos 10 ∷ pos 20 ∷ [])

abbrev hi : Dataset
hi = tile (pos 3 ∷ []) (pos 30 ∷ [])

ordered : combine_called (of_sets (hi ∷ lo ∷ [])) ≡ Ok (of.Set (tile (pos 1 ∷ pos 2 ∷ pos 3 ∷ []) (pos 10 ∷ pos 20 ∷ pos 30 ∷ [])))
unfolding combine_called combine_of sets_given check_sets group_combined grid_of check_grid grid_concatenated concat_sets check_direction merge_called merge_of named_given check_named list_given bound as_text compat_given compat_named how_given how_named fill_given check_literal aligned joined_each joined_or_own join labelled_axis joined_index common_kind joined_labels check_dims fitted_set each_of variable_merged merged_or_own merged_pieces common_kind_in coord_merged contents_merged check_fill check_fill_for check_hole check_content literal_for check_fits check_set same_content shared_attrs first_called is_shared int_wrap unless concat_called concat_of alike_given check_alike new_name check_variables check_dimension joining_axis chained_axis index_along chained_index check_kinds check_constant put_together variable_concatenated check_size check_array is_agreed same_coord
ordered = refl

same_tile : combine_called (of_sets (lo ∷ lo ∷ [])) ≡ Err Conflict
unfolding combine_called combine_of sets_given check_sets group_combined grid_of check_grid grid_concatenated concat_sets check_direction merge_called merge_of named_given check_named list_given bound as_text compat_given compat_named how_given how_named fill_given check_literal aligned joined_each joined_or_own join labelled_axis joined_index common_kind joined_labels check_dims fitted_set each_of variable_merged merged_or_own merged_pieces common_kind_in coord_merged contents_merged check_fill check_fill_for check_hole check_content literal_for check_fits check_set same_content shared_attrs first_called is_shared int_wrap unless concat_called concat_of alike_given check_alike new_name check_variables check_dimension joining_axis chained_axis index_along chained_index check_kinds check_constant put_together variable_concatenated check_size check_array is_agreed same_coord
same_tile = refl

-- labels that descend in all stay so
descending : combine_called (of_sets (tile (pos 2 ∷ pos 1 ∷ []) (pos 20 ∷ pos 10 ∷ []) ∷ hi ∷ [])) ≡ Ok (of.Set (tile (pos 3 ∷ pos 2 ∷ pos 1 ∷ []) (pos 30 ∷ pos 20 ∷ pos 10 ∷ [])))
unfolding combine_called combine_of sets_given check_sets group_combined grid_of check_grid grid_concatenated concat_sets check_direction merge_called merge_of named_given check_named list_given bound as_text compat_given compat_named how_given how_named fill_given check_literal aligned joined_each joined_or_own join labelled_axis joined_index common_kind joined_labels check_dims fitted_set each_of variable_merged merged_or_own merged_pieces common_kind_in coord_merged contents_merged check_fill check_fill_for check_hole check_content literal_for check_fits check_set same_content shared_attrs first_called is_shared int_wrap unless concat_called concat_of alike_given check_alike new_name check_variables check_dimension joining_axis chained_axis index_along chained_index check_kinds check_constant put_together variable_concatenated check_size check_array is_agreed same_coord
descending = refl

both_directions : combine_called (of_sets (tile (pos 2 ∷ pos 1 ∷ []) (pos 20 ∷ pos 10 ∷ []) ∷ tile (pos 3 ∷ pos 4 ∷ []) (pos 30 ∷ pos 40 ∷ []) ∷ [])) ≡ Err NotMonotonic
unfolding combine_called combine_of sets_given check_sets group_combined grid_of check_grid grid_concatenated concat_sets check_direction merge_called merge_of named_given check_named list_given bound as_text compat_given compat_named how_given how_named fill_given check_literal aligned joined_each joined_or_own join labelled_axis joined_index common_kind joined_labels check_dims fitted_set each_of variable_merged merged_or_own merged_pieces common_kind_in coord_merged contents_merged check_fill check_fill_for check_hole check_content literal_for check_fits check_set same_content shared_attrs first_called is_shared int_wrap unless concat_called concat_of alike_given check_alike new_name check_variables check_dimension joining_axis chained_axis index_along chained_index check_kinds check_constant put_together variable_concatenated check_size check_array is_agreed same_coord
both_directions = refl

-- the index that is put together isn't monotonic
overlapping : combine_called (of_sets (tile (pos 1 ∷ pos 5 ∷ []) (pos 20 ∷ pos 10 ∷ []) ∷ tile (pos 3 ∷ pos 4 ∷ []) (pos 30 ∷ pos 40 ∷ []) ∷ [])) ≡ Err NotMonotonic
unfolding combine_called combine_of sets_given check_sets group_combined grid_of check_grid grid_concatenated concat_sets check_direction merge_called merge_of named_given check_named list_given bound as_text compat_given compat_named how_given how_named fill_given check_literal aligned joined_each joined_or_own join labelled_axis joined_index common_kind joined_labels check_dims fitted_set each_of variable_merged merged_or_own merged_pieces common_kind_in coord_merged contents_merged check_fill check_fill_for check_hole check_content literal_for check_fits check_set same_content shared_attrs first_called is_shared int_wrap unless concat_called concat_of alike_given check_alike new_name check_variables check_dimension joining_axis chained_axis index_along chained_index check_kinds check_constant put_together variable_concatenated check_size check_array is_agreed same_coord
overlapping = refl

an_empty_tile : combine_called (of_sets (lo ∷ tile [] [] ∷ [])) ≡ Err Conflict
unfolding combine_called combine_of sets_given check_sets group_combined grid_of check_grid grid_concatenated concat_sets check_direction merge_called merge_of named_given check_named list_given bound as_text compat_given compat_named how_given how_named fill_given check_literal aligned joined_each joined_or_own join labelled_axis joined_index common_kind joined_labels check_dims fitted_set each_of variable_merged merged_or_own merged_pieces common_kind_in coord_merged contents_merged check_fill check_fill_for check_hole check_content literal_for check_fits check_set same_content shared_attrs first_called is_shared int_wrap unless concat_called concat_of alike_given check_alike new_name check_variables check_dimension joining_axis chained_axis index_along chained_index check_kinds check_constant put_together variable_concatenated check_size check_array is_agreed same_coord
an_empty_tile = refl

kinds_of_labels : combine_called (of_sets (lo ∷ set (indexed x (Texts (v ∷ [])) ∷ []) (variable v (x ∷ []) Int64 false (Some (pos 1) ∷ []) ∷ []) ∷ [])) ≡ Err LabelKind
unfolding combine_called combine_of sets_given check_sets group_combined grid_of check_grid grid_concatenated concat_sets check_direction merge_called merge_of named_given check_named list_given bound as_text compat_given compat_named how_given how_named fill_given check_literal aligned joined_each joined_or_own join labelled_axis joined_index common_kind joined_labels check_dims fitted_set each_of variable_merged merged_or_own merged_pieces common_kind_in coord_merged contents_merged check_fill check_fill_for check_hole check_content literal_for check_fits check_set same_content shared_attrs first_called is_shared int_wrap unless concat_called concat_of alike_given check_alike new_name check_variables check_dimension joining_axis chained_axis index_along chained_index check_kinds check_constant put_together variable_concatenated check_size check_array is_agreed same_coord
kinds_of_labels = refl

an_array : combine_called (of_all (p ∷ [])) ≡ Err WrongKind
unfolding combine_called combine_of sets_given check_sets group_combined grid_of check_grid grid_concatenated concat_sets check_direction merge_called merge_of named_given check_named list_given bound as_text compat_given compat_named how_given how_named fill_given check_literal aligned joined_each joined_or_own join labelled_axis joined_index common_kind joined_labels check_dims fitted_set each_of variable_merged merged_or_own merged_pieces common_kind_in coord_merged contents_merged check_fill check_fill_for check_hole check_content literal_for check_fits check_set same_content shared_attrs first_called is_shared int_wrap unless concat_called concat_of alike_given check_alike new_name check_variables check_dimension joining_axis chained_axis index_along chained_index check_kinds check_constant put_together variable_concatenated check_size check_array is_agreed same_coord
an_array = refl

abbrev square : ℤ → ℤ → ℤ → Dataset
square m n k = set (labelled t (m ∷ []) ∷ labelled x (n ∷ []) ∷ []) (variable v (t ∷ x ∷ []) Int64 false (Some k ∷ []) ∷ [])

a_grid : combine_called (of_sets (square (pos 2) (pos 7) (pos 21) ∷ square (pos 1) (pos 8) (pos 12) ∷ square (pos 1) (pos 7) (pos 11) ∷ square (pos 2) (pos 8) (pos 22) ∷ [])) ≡ Ok (of.Set (set (labelled t (pos 1 ∷ pos 2 ∷ []) ∷ labelled x (pos 7 ∷ pos 8 ∷ []) ∷ []) (variable v (t ∷ x ∷ []) Int64 false (present (pos 11 ∷ pos 12 ∷ pos 21 ∷ pos 22 ∷ [])) ∷ [])))
unfolding combine_called combine_of sets_given check_sets group_combined grid_of check_grid grid_concatenated concat_sets check_direction merge_called merge_of named_given check_named list_given bound as_text compat_given compat_named how_given how_named fill_given check_literal aligned joined_each joined_or_own join labelled_axis joined_index common_kind joined_labels check_dims fitted_set each_of variable_merged merged_or_own merged_pieces common_kind_in coord_merged contents_merged check_fill check_fill_for check_hole check_content literal_for check_fits check_set same_content shared_attrs first_called is_shared int_wrap unless concat_called concat_of alike_given check_alike new_name check_variables check_dimension joining_axis chained_axis index_along chained_index check_kinds check_constant put_together variable_concatenated check_size check_array is_agreed same_coord
a_grid = refl

a_hole : combine_called (of_sets (square (pos 2) (pos 7) (pos 21) ∷ square (pos 1) (pos 8) (pos 12) ∷ square (pos 1) (pos 7) (pos 11) ∷ [])) ≡ Err Conflict
unfolding combine_called combine_of sets_given check_sets group_combined grid_of check_grid grid_concatenated concat_sets check_direction merge_called merge_of named_given check_named list_given bound as_text compat_given compat_named how_given how_named fill_given check_literal aligned joined_each joined_or_own join labelled_axis joined_index common_kind joined_labels check_dims fitted_set each_of variable_merged merged_or_own merged_pieces common_kind_in coord_merged contents_merged check_fill check_fill_for check_hole check_content literal_for check_fits check_set same_content shared_attrs first_called is_shared int_wrap unless concat_called concat_of alike_given check_alike new_name check_variables check_dimension joining_axis chained_axis index_along chained_index check_kinds check_constant put_together variable_concatenated check_size check_array is_agreed same_coord
a_hole = refl

-- groups in the order of their names, each put together, then merged
two_groups : combine_called (of_sets (set (labelled t (pos 1 ∷ []) ∷ []) (variable x (t ∷ []) Int8 false (Some (pos 9) ∷ []) ∷ []) ∷ set (labelled t (pos 1 ∷ []) ∷ []) (variable v (t ∷ []) Int8 false (Some (pos 8) ∷ []) ∷ []) ∷ [])) ≡ Ok (of.Set (set (labelled t (pos 1 ∷ []) ∷ []) (variable v (t ∷ []) Int8 false (Some (pos 8) ∷ []) ∷ variable x (t ∷ []) Int8 false (Some (pos 9) ∷ []) ∷ [])))
unfolding combine_called combine_of sets_given check_sets group_combined grid_of check_grid grid_concatenated concat_sets check_direction merge_called merge_of named_given check_named list_given bound as_text compat_given compat_named how_given how_named fill_given check_literal aligned joined_each joined_or_own join labelled_axis joined_index common_kind joined_labels check_dims fitted_set each_of variable_merged merged_or_own merged_pieces common_kind_in coord_merged contents_merged check_fill check_fill_for check_hole check_content literal_for check_fits check_set same_content shared_attrs first_called is_shared int_wrap unless concat_called concat_of alike_given check_alike new_name check_variables check_dimension joining_axis chained_axis index_along chained_index check_kinds check_constant put_together variable_concatenated check_size check_array is_agreed same_coord
two_groups = refl
