-- Worked rows of `chunk`, whose value is its receiver, and of `demo`.
use Rattle.std.proofs.Common.{◌≡◌, ℕ, pos, negsuc, false, List, [], ◌∷◌, Some, None, Ok, Err, refl}
use Rattle.std.specs.Prelude.{codes}
use Rattle.xr_types.specs.Results.{unless}
use Rattle.xr_types.specs.declared.axis.Axis.{Axis}
use Rattle.xr_types.specs.declared.fault.Fault.TheVariants.{BadArgument, NoDimension, WrongKind}
use Rattle.xr_types.specs.declared.kind.DType.TheVariants as kinds
use Rattle.xr_times.specs.Times.{days_of_months, days_of_years}
use Rattle.xr_times.specs.Units.{behind_word, date, part, reference, unit, units_of}
use Rattle.xr_defs.specs.Arguments.{check_dimension, only_of}
use Rattle.xr_defs.specs.Meanings.{Array, Given, Number, Set, Text, Value}
use Rattle.xr_defs.specs.Selecting.{as_number}
use Rattle.xr_defs.specs.Values.{DataArray}
use Rattle.xr_chunks.specs.Chunks.{array_pieces, chunk_array, chunk_set, grid_given, size_given, size_of, sizes_given, variable_pieces}
use Rattle.xr_chunks.specs.Demo.{cell, cells, demo, demo_set, hours_since_2000, length_of, times}
use Rattle.xr_runs.specs.Calls.{function_called, function_of_several, function_over_values, method_called, of_both, uncomputed_function, uncomputed_method}

abbrev axis : List ℕ → ℕ → Axis
axis name n = record { name = name; size = n; labels = None }

-- 3 by 0 positions
abbrev a : DataArray
a = record { name = Some (codes "v"); axes = axis (codes "x") 3 ∷ axis (codes "y") 0 ∷ []; kind = kinds.Int16; masked = false; attrs = []; coords = []; cells = [] }

abbrev named : List (List ℕ × Value) → Given
named kvs = record { plain = []; keyed = kvs }

abbrev along : List ℕ → Value → List ℕ × Value
along name v = (name, v)

-- ---- chunk

stays : chunk_array a (named (along (codes "y") (Number (pos 7)) ∷ along (codes "x") (Number (pos 2)) ∷ [])) ≡ Ok a
unfolding chunk_array grid_given sizes_given size_given size_of as_number check_dimension unless
stays = refl

no_dimension : chunk_array a (named []) ≡ Ok a
unfolding chunk_array grid_given sizes_given unless
no_dimension = refl

-- a size of any length is one
past_64_bits : chunk_array a (named (along (codes "x") (Number (pos 18446744073709551616)) ∷ [])) ≡ Ok a
unfolding chunk_array grid_given sizes_given size_given size_of as_number check_dimension unless
past_64_bits = refl

zero_size : chunk_array a (named (along (codes "x") (Number (pos 0)) ∷ [])) ≡ Err BadArgument
unfolding chunk_array grid_given sizes_given size_given size_of as_number check_dimension unless
zero_size = refl

below_zero : chunk_array a (named (along (codes "x") (Number (negsuc 0)) ∷ [])) ≡ Err BadArgument
unfolding chunk_array grid_given sizes_given size_given size_of as_number check_dimension unless
below_zero = refl

-- the arguments in the order in which they are written, each its kind and then its value; dimensions after all of them
kind_first : chunk_array a (named (along (codes "z") (Text (codes "2")) ∷ along (codes "x") (Number (pos 0)) ∷ [])) ≡ Err WrongKind
unfolding chunk_array grid_given sizes_given size_given size_of as_number check_dimension unless
kind_first = refl

value_first : chunk_array a (named (along (codes "z") (Number (pos 0)) ∷ along (codes "x") (Text (codes "2")) ∷ [])) ≡ Err BadArgument
unfolding chunk_array grid_given sizes_given size_given size_of as_number check_dimension unless
value_first = refl

no_such_dimension : chunk_array a (named (along (codes "z") (Number (pos 2)) ∷ [])) ≡ Err (NoDimension (codes "z"))
unfolding chunk_array grid_given sizes_given size_given size_of as_number check_dimension unless
no_such_dimension = refl

plain_size : chunk_array a (record { plain = Number (pos 2) ∷ []; keyed = [] }) ≡ Err BadArgument
unfolding chunk_array grid_given sizes_given size_given size_of as_number check_dimension unless
plain_size = refl

set_stays : chunk_set (demo_set 2) (named (along (codes "y") (Number (pos 1)) ∷ [])) ≡ Ok (demo_set 2)
unfolding chunk_set grid_given sizes_given size_given size_of as_number check_dimension unless
set_stays = refl

-- it is a method of arrays and datasets
called : method_called (Array a) (codes "chunk") (named []) ≡ Ok (Array a)
unfolding method_called uncomputed_method of_both chunk_array grid_given sizes_given unless
called = refl

of_a_number : method_called (Number (pos 1)) (codes "chunk") (named []) ≡ Err WrongKind
unfolding method_called uncomputed_method of_both
of_a_number = refl

-- ---- the grid: a piece of 2 of 3 positions; one of 7, which is the whole axis; one of 7 where there is no position

grid : array_pieces ((codes "x", 2) ∷ []) a.axes ≡ Some 2 ∷ None ∷ []
grid = refl

long_pieces : array_pieces ((codes "y", 7) ∷ (codes "x", 7) ∷ []) a.axes ≡ Some 3 ∷ Some 1 ∷ []
long_pieces = refl

of_a_variable : variable_pieces ((codes "x", 2) ∷ []) a.axes (codes "y" ∷ codes "x" ∷ []) ≡ None ∷ Some 2 ∷ []
of_a_variable = refl

-- ---- demo

-- 0 * 31, 1 * 31, .., 5 * 31 = 155; 32 * 31 = 992, and 33 * 31 = 1023 = 1009 + 14, each less 504
first_cells : cells 1 ≡ Some (negsuc 503) ∷ Some (negsuc 472) ∷ Some (negsuc 441) ∷ Some (negsuc 410) ∷ Some (negsuc 379) ∷ Some (negsuc 348) ∷ []
first_cells = refl

greatest_before : cell 32 ≡ pos 488
greatest_before = refl

begun_anew : cell 33 ≡ negsuc 489
begun_anew = refl

-- the units are those that the text says
units_read : units_of (codes "hours since 2000-01-01") None ≡ Some hours_since_2000
unfolding units_of unit behind_word reference date part days_of_years days_of_months
units_read = refl

third_time : times 3 ≡ pos 946684800 ∷ pos 946706400 ∷ pos 946728000 ∷ []
third_time = refl

abbrev of_length : Value → Given
of_length v = record { plain = v ∷ []; keyed = [] }

one_time : demo (of_length (Number (pos 1))) ≡ Ok (demo_set 1)
unfolding demo only_of as_number length_of unless
one_time = refl

by_keyword : demo (named (along (codes "n") (Number (pos 1)) ∷ [])) ≡ Ok (demo_set 1)
unfolding demo only_of as_number length_of unless
by_keyword = refl

no_times : demo (of_length (Number (pos 0))) ≡ Err BadArgument
unfolding demo only_of as_number length_of unless
no_times = refl

too_many : demo (of_length (Number (pos 1000001))) ≡ Err BadArgument
unfolding demo only_of as_number length_of unless
too_many = refl

below : demo (of_length (Number (negsuc 0))) ≡ Err BadArgument
unfolding demo only_of as_number length_of unless
below = refl

no_number : demo (of_length (Text (codes "2"))) ≡ Err WrongKind
unfolding demo only_of as_number length_of unless
no_number = refl

nothing : demo (named []) ≡ Err BadArgument
unfolding demo only_of
nothing = refl

demo_called : function_called (λ name. None) (codes "demo") (of_length (Number (pos 2))) ≡ Ok (Set (demo_set 2))
unfolding function_called function_of_several function_over_values uncomputed_function demo only_of as_number length_of unless
demo_called = refl
