-- Worked rows of reductions and running sums, as NumPy and xarray give them.
use Rattle.std.proofs.Common.{◌≡◌, ℕ, ℤ, pos, Bool, true, false, List, [], ◌∷◌, Option, Some, None, Ok, Err, refl}
use Rattle.std.specs.Int.{int_wrap}
use Rattle.std.specs.Prelude.{codes}
use Rattle.xr_types.specs.Results.{unless}
use Rattle.xr_types.specs.declared.attr.Attr.{Attr}
use Rattle.xr_types.specs.declared.attr.NcType.TheVariants.{Byte}
use Rattle.xr_types.specs.declared.axis.Axis.{Axis}
use Rattle.xr_types.specs.declared.axis.LabelList.TheVariants.{Numbers}
use Rattle.xr_types.specs.declared.fault.Fault.TheVariants.{BadArgument, EmptyReduce, NoDimension, TooLarge, WrongKind}
use Rattle.xr_types.specs.declared.kind.DType.{DType}
use Rattle.xr_types.specs.declared.kind.DType.TheVariants as kinds
use Rattle.xr_types.specs.declared.operation.FoldKind.TheVariants.{Sum, Prod, Min, Max, ArgMin, ArgMax, Count, Any, All}
use Rattle.xr_defs.specs.declared.value.Content.TheVariants as contents
use Rattle.xr_defs.specs.declared.value.Coord.{Coord}
use Rattle.xr_defs.specs.Arguments.{as_text, only_of}
use Rattle.xr_defs.specs.Building.{bound}
use Rattle.xr_defs.specs.Meanings.{Absent, Given, Number, NoValue, Sequence, Text, Value, With}
use Rattle.xr_defs.specs.Parts.{as_names, texts_in}
use Rattle.xr_defs.specs.Values.{DataArray, Dataset, Variable}
use Rattle.xr_operations.specs.Reductions.{check_cells, check_count, check_dims, check_size, cumsum_array, cumsum_of, cumsum_set, dim_given, dim_option, dims_given, dims_named, distinct_names, reduced, reduced_array, reduced_of, reduced_set, reduction_named, set_over}

abbrev x : ℕ → Axis
x n = record { name = codes "x"; size = n; labels = None }

abbrev y : ℕ → Axis
y n = record { name = codes "y"; size = n; labels = None }

abbrev over : List Axis → DType → Bool → List (Option ℤ) → DataArray
over axes kind masked cells = record { name = None; axes = axes; kind = kind; masked = masked; attrs = []; coords = []; cells = cells }

abbrev all_dims : Given
all_dims = record { plain = []; keyed = [] }

abbrev dim : Value → Given
dim v = record { plain = []; keyed = (codes "dim", v) ∷ [] }

abbrev two : List ℕ → List ℕ → Value
two a b = Sequence (With (With NoValue (Text a)) (Text b))

-- ---- rows 1 2 3 and 4 5 6 over x and y

abbrev t : DataArray
t = over (x 2 ∷ y 3 ∷ []) kinds.Int8 false (Some (pos 1) ∷ Some (pos 2) ∷ Some (pos 3) ∷ Some (pos 4) ∷ Some (pos 5) ∷ Some (pos 6) ∷ [])

sum_of_all : reduced_array Sum t all_dims ≡ Ok (over [] kinds.Int64 false (Some (pos 21) ∷ []))
unfolding reduced_array unless dims_given dim_option bound dims_named check_dims check_cells check_count check_size reduced int_wrap
sum_of_all = refl

sum_along_x : reduced_array Sum t (dim (Text (codes "x"))) ≡ Ok (over (y 3 ∷ []) kinds.Int64 false (Some (pos 5) ∷ Some (pos 7) ∷ Some (pos 9) ∷ []))
unfolding reduced_array unless dims_given dim_option bound dims_named distinct_names as_names check_dims check_cells check_count check_size reduced int_wrap
sum_along_x = refl

-- the order in which dimensions are named says nothing, and `None` is no argument
product_of_both : reduced_array Prod t (dim (two (codes "y") (codes "x"))) ≡ Ok (over [] kinds.Int64 false (Some (pos 720) ∷ []))
unfolding reduced_array unless dims_given dim_option bound dims_named distinct_names as_names texts_in as_text check_dims check_cells check_count check_size reduced int_wrap
product_of_both = refl

greatest : reduced_array Max t (dim Absent) ≡ Ok (over [] kinds.Int8 false (Some (pos 6) ∷ []))
unfolding reduced_array unless dims_given dim_option bound dims_named check_dims check_cells check_count check_size reduced int_wrap
greatest = refl

least_along_y : reduced_array Min t (dim (Text (codes "y"))) ≡ Ok (over (x 2 ∷ []) kinds.Int8 false (Some (pos 1) ∷ Some (pos 4) ∷ []))
unfolding reduced_array unless dims_given dim_option bound dims_named distinct_names as_names check_dims check_cells check_count check_size reduced int_wrap
least_along_y = refl

places_along_y : reduced_array ArgMax t (dim (Text (codes "y"))) ≡ Ok (over (x 2 ∷ []) kinds.Int64 false (Some (pos 2) ∷ Some (pos 2) ∷ []))
unfolding reduced_array unless dims_given dim_option bound dims_named distinct_names as_names check_dims check_cells check_count check_size reduced int_wrap
places_along_y = refl

-- a position has one dimension
place_in_both : reduced_array ArgMin t all_dims ≡ Err BadArgument
unfolding reduced_array unless dims_given dim_option bound dims_named check_dims check_cells check_count
place_in_both = refl

-- over no dimension each cell is folded alone
counts : reduced_array Count t (dim (Sequence NoValue)) ≡ Ok (over (x 2 ∷ y 3 ∷ []) kinds.Int64 false (Some (pos 1) ∷ Some (pos 1) ∷ Some (pos 1) ∷ Some (pos 1) ∷ Some (pos 1) ∷ Some (pos 1) ∷ []))
unfolding reduced_array unless dims_given dim_option bound dims_named distinct_names as_names texts_in check_dims check_cells check_count check_size reduced int_wrap
counts = refl

-- ---- refused: the kind of `dim`, then its value, then the first dimension that isn't there

dim_of_a_number : reduced_array Sum t (dim (Number (pos 0))) ≡ Err WrongKind
unfolding reduced_array unless dims_given dim_option bound dims_named distinct_names as_names
dim_of_a_number = refl

dim_twice : reduced_array Sum t (dim (two (codes "q") (codes "q"))) ≡ Err BadArgument
unfolding reduced_array unless dims_given dim_option bound dims_named distinct_names as_names texts_in as_text
dim_twice = refl

unknown_dims : reduced_array Sum t (dim (two (codes "q") (codes "p"))) ≡ Err (NoDimension (codes "q"))
unfolding reduced_array unless dims_given dim_option bound dims_named distinct_names as_names texts_in as_text check_dims
unknown_dims = refl

surplus : reduced_array Sum t (record { plain = Text (codes "x") ∷ Number (pos 1) ∷ []; keyed = [] }) ≡ Err BadArgument
unfolding reduced_array unless dims_given dim_option bound
surplus = refl

-- chars before any argument
chars : reduced_array Sum (over (x 1 ∷ []) kinds.Char false (Some (pos 65) ∷ [])) (dim (Number (pos 0))) ≡ Err WrongKind
unfolding reduced_array unless
chars = refl

-- ---- cells that are missing, and none at all

abbrev holes : DataArray
holes = over (x 2 ∷ []) kinds.Int64 true (None ∷ None ∷ [])

least_of_holes : reduced_array Min holes all_dims ≡ Ok (over [] kinds.Int64 true (None ∷ []))
unfolding reduced_array unless dims_given dim_option bound dims_named check_dims check_cells check_count check_size reduced int_wrap
least_of_holes = refl

place_of_holes : reduced_array ArgMin holes all_dims ≡ Ok (over [] kinds.Int64 true (None ∷ []))
unfolding reduced_array unless dims_given dim_option bound dims_named check_dims check_cells check_count check_size reduced int_wrap
place_of_holes = refl

all_of_holes : reduced_array All holes all_dims ≡ Ok (over [] kinds.Bool false (Some (pos 1) ∷ []))
unfolding reduced_array unless dims_given dim_option bound dims_named check_dims check_cells check_count check_size reduced int_wrap
all_of_holes = refl

abbrev none : DataArray
none = over (x 0 ∷ []) kinds.Int64 false []

sum_of_none : reduced_array Sum none all_dims ≡ Ok (over [] kinds.Int64 false (Some (pos 0) ∷ []))
unfolding reduced_array unless dims_given dim_option bound dims_named check_dims check_cells check_count check_size reduced int_wrap
sum_of_none = refl

any_of_none : reduced_array Any none all_dims ≡ Ok (over [] kinds.Bool false (Some (pos 0) ∷ []))
unfolding reduced_array unless dims_given dim_option bound dims_named check_dims check_cells check_count check_size reduced int_wrap
any_of_none = refl

least_of_none : reduced_array Min none all_dims ≡ Err EmptyReduce
unfolding reduced_array unless dims_given dim_option bound dims_named check_dims check_cells
least_of_none = refl

-- another dimension without positions leaves no cell to be reduced
least_beside_none : reduced_array Min (over (x 0 ∷ y 3 ∷ []) kinds.Int64 false []) (dim (Text (codes "y"))) ≡ Ok (over (x 0 ∷ []) kinds.Int64 false [])
unfolding reduced_array unless dims_given dim_option bound dims_named distinct_names as_names check_dims check_cells check_count check_size reduced int_wrap
least_beside_none = refl

first_place : reduced_array ArgMin (over (x 3 ∷ []) kinds.Int64 false (Some (pos 3) ∷ Some (pos 1) ∷ Some (pos 1) ∷ [])) all_dims ≡ Ok (over [] kinds.Int64 false (Some (pos 1) ∷ []))
unfolding reduced_array unless dims_given dim_option bound dims_named check_dims check_cells check_count check_size reduced int_wrap
first_place = refl

-- ---- what is kept

abbrev coord : List ℕ → List Axis → List (Option ℤ) → Coord
coord name axes cells = record { name = name; axes = axes; attrs = []; content = contents.Cells (record { kind = kinds.Int64; shape = map_sizes axes; cells = cells }) false }
  where
    map_sizes : List Axis → List ℕ
    map_sizes [] = []
    map_sizes (z ∷ zs) = z.size ∷ map_sizes zs

abbrev fill : Attr
fill = record { name = codes "_FillValue"; kind = Byte; raw = 9 ∷ [] }

abbrev units : Attr
units = record { name = codes "units"; kind = Byte; raw = 7 ∷ [] }

abbrev labelled : Axis
labelled = record { name = codes "x"; size = 2; labels = Some (record { list = Numbers kinds.Int64 (pos 1 ∷ pos 2 ∷ []); attrs = [] }) }

carried : reduced_array Sum (record {
  name = Some (codes "v");
  axes = labelled ∷ y 1 ∷ [];
  kind = kinds.UInt8;
  masked = true;
  attrs = fill ∷ units ∷ [];
  coords = coord (codes "c") (labelled ∷ []) (Some (pos 5) ∷ Some (pos 6) ∷ []) ∷ coord (codes "d") [] (Some (pos 7) ∷ []) ∷ coord (codes "e") (y 1 ∷ []) (Some (pos 8) ∷ []) ∷ [];
  cells = Some (pos 200) ∷ Some (pos 100) ∷ [];
}) (dim (Text (codes "x"))) ≡ Ok (record {
  name = Some (codes "v");
  axes = y 1 ∷ [];
  kind = kinds.UInt64;
  masked = false;
  attrs = units ∷ [];
  coords = coord (codes "d") [] (Some (pos 7) ∷ []) ∷ coord (codes "e") (y 1 ∷ []) (Some (pos 8) ∷ []) ∷ [];
  cells = Some (pos 300) ∷ [];
})
unfolding reduced_array unless dims_given dim_option bound dims_named distinct_names as_names check_dims check_cells check_count check_size reduced int_wrap
carried = refl

-- ---- datasets

abbrev variable : List ℕ → List (List ℕ) → DType → List Attr → List (Option ℤ) → Variable
variable name dims kind attrs cells = record { name = name; dims = dims; kind = kind; masked = false; attrs = attrs; cells = cells }

-- p over x, s without a dimension, and bytes of text over z
abbrev set : Dataset
set = record {
  axes = labelled ∷ y 1 ∷ record { name = codes "z"; size = 1; labels = None } ∷ [];
  coords = coord (codes "c") (labelled ∷ y 1 ∷ []) (Some (pos 5) ∷ Some (pos 6) ∷ []) ∷ [];
  vars =
      variable (codes "p") (codes "x" ∷ []) kinds.Int8 (fill ∷ []) (Some (pos 100) ∷ Some (pos 101) ∷ [])
      ∷ variable (codes "s") [] kinds.Int8 (fill ∷ []) (Some (pos 3) ∷ []) ∷ variable (codes "t") (codes "z" ∷ []) kinds.Char [] (Some (pos 65) ∷ []) ∷ [];
  attrs = fill ∷ units ∷ [];
  skipped = codes "f" ∷ [];
}

-- the scalar variable stays as it is, and the axis y, which the dropped coordinate alone had, is gone
sum_of_set : reduced_set Sum set (dim (Text (codes "x"))) ≡ Ok (record {
  axes = [];
  coords = [];
  vars = variable (codes "p") [] kinds.Int64 [] (Some (pos 201) ∷ []) ∷ variable (codes "s") [] kinds.Int8 (fill ∷ []) (Some (pos 3) ∷ []) ∷ [];
  attrs = units ∷ [];
  skipped = codes "f" ∷ [];
})
unfolding reduced_set reduced_of unless dims_given dim_option bound dims_named distinct_names as_names check_dims check_cells check_size set_over int_wrap
sum_of_set = refl

-- all dimensions where none is named
counts_of_set : reduced_set Count set all_dims ≡ Ok (record {
  axes = [];
  coords = [];
  vars = variable (codes "p") [] kinds.Int64 [] (Some (pos 2) ∷ []) ∷ variable (codes "s") [] kinds.Int8 (fill ∷ []) (Some (pos 3) ∷ []) ∷ [];
  attrs = units ∷ [];
  skipped = codes "f" ∷ [];
})
unfolding reduced_set reduced_of unless dims_given dim_option bound dims_named check_dims check_cells check_size set_over int_wrap
counts_of_set = refl

-- the dimension of bytes of text alone isn't there
dim_of_chars : reduced_set Sum set (dim (Text (codes "z"))) ≡ Err (NoDimension (codes "z"))
unfolding reduced_set reduced_of unless dims_given dim_option bound dims_named distinct_names as_names check_dims
dim_of_chars = refl

place_in_set : reduced_set ArgMin set (dim (Number (pos 0))) ≡ Err WrongKind
unfolding reduced_set unless
place_in_set = refl

-- a dimension without positions that no variable has empties none
abbrev empty : List (List ℕ) → List (Option ℤ) → Dataset
empty dims cells = record {
  axes = record { name = codes "x"; size = 0; labels = Some (record { list = Numbers kinds.Int64 []; attrs = [] }) } ∷ [];
  coords = [];
  vars = variable (codes "v") dims kinds.Int8 [] cells ∷ [];
  attrs = [];
  skipped = [];
}

least_of_empty : reduced_set Min (empty (codes "x" ∷ []) []) all_dims ≡ Err EmptyReduce
unfolding reduced_set reduced_of unless dims_given dim_option bound dims_named check_dims check_cells
least_of_empty = refl

least_without : reduced_set Min (empty [] (Some (pos 4) ∷ [])) all_dims ≡ Ok (record { axes = []; coords = []; vars = variable (codes "v") [] kinds.Int8 [] (Some (pos 4) ∷ []) ∷ []; attrs = []; skipped = [] })
unfolding reduced_set reduced_of unless dims_given dim_option bound dims_named check_dims check_cells check_size set_over
least_without = refl

-- ---- running sums

running : cumsum_array (over (labelled ∷ []) kinds.Int8 true (Some (pos 100) ∷ Some (pos 100) ∷ [])) (dim (Text (codes "x"))) ≡ Ok (over (labelled ∷ []) kinds.Int64 false (Some (pos 100) ∷ Some (pos 200) ∷ []))
unfolding cumsum_array unless dim_given only_of as_text int_wrap
running = refl

-- a missing cell adds nothing
running_over_hole : cumsum_array (over (x 3 ∷ []) kinds.Int64 true (Some (pos 1) ∷ None ∷ Some (pos 2) ∷ [])) (dim (Text (codes "x"))) ≡ Ok (over (x 3 ∷ []) kinds.Int64 false (Some (pos 1) ∷ Some (pos 1) ∷ Some (pos 3) ∷ []))
unfolding cumsum_array unless dim_given only_of as_text int_wrap
running_over_hole = refl

running_along_x : cumsum_array t (dim (Text (codes "x"))) ≡ Ok (over (x 2 ∷ y 3 ∷ []) kinds.Int64 false (Some (pos 1) ∷ Some (pos 2) ∷ Some (pos 3) ∷ Some (pos 5) ∷ Some (pos 7) ∷ Some (pos 9) ∷ []))
unfolding cumsum_array unless dim_given only_of as_text int_wrap
running_along_x = refl

running_nowhere : cumsum_array t all_dims ≡ Err BadArgument
unfolding cumsum_array unless dim_given only_of
running_nowhere = refl

running_elsewhere : cumsum_array t (dim (Text (codes "q"))) ≡ Err (NoDimension (codes "q"))
unfolding cumsum_array unless dim_given only_of as_text
running_elsewhere = refl

running_set : cumsum_set set (dim (Text (codes "x"))) ≡ Ok (record {
  axes = labelled ∷ y 1 ∷ [];
  coords = coord (codes "c") (labelled ∷ y 1 ∷ []) (Some (pos 5) ∷ Some (pos 6) ∷ []) ∷ [];
  vars = variable (codes "p") (codes "x" ∷ []) kinds.Int64 [] (Some (pos 100) ∷ Some (pos 201) ∷ []) ∷ variable (codes "s") [] kinds.Int8 (fill ∷ []) (Some (pos 3) ∷ []) ∷ [];
  attrs = units ∷ [];
  skipped = codes "f" ∷ [];
})
unfolding cumsum_set cumsum_of unless dim_given only_of as_text int_wrap
running_set = refl

-- ---- more cells than an array may have

-- two long dimensions beside one without positions, which is folded away
too_many : reduced_array Sum (over (x 0 ∷ y 8192 ∷ record { name = codes "z"; size = 8192; labels = None } ∷ []) kinds.Int8 false []) (dim (Text (codes "x"))) ≡ Err TooLarge
unfolding reduced_array unless dims_given dim_option bound dims_named distinct_names as_names check_dims check_cells check_count check_size
too_many = refl

-- ---- names

named : reduction_named (codes "argmax") ≡ Some ArgMax
unfolding reduction_named
named = refl

-- the first and last cell are of grouped values alone
unnamed : reduction_named (codes "first") ≡ None
unfolding reduction_named
unnamed = refl
