-- Worked calls over datasets, computed.
use Rattle.std.proofs.Common.{◌≡◌, ℕ, [], ◌∷◌, Some, None, Ok, Err, refl}
use Rattle.std.specs.Prelude.{codes, pos}
use Rattle.xr_types.specs.declared.fault.Fault.TheVariants.{WrongKind, BadArgument, NoFile, WouldPromote}
use Rattle.xr_types.specs.Results.{unless}
use Rattle.xr_defs.specs.declared.write_options.WriteOptions.{WriteOptions}
use Rattle.xr_defs.specs.Meanings.{Value, Text, Number, Set, Given}
use Rattle.xr_defs.specs.Arguments.{as_text}
use Rattle.xr_defs.specs.Building.{bound}
use Rattle.xr_operations.specs.Reductions.{reduction_named}
use Rattle.xr_groups.specs.Calls.{maker_named}
use Rattle.xr_runs.specs.Calls.{open_asked, open_dataset, opened_set, mask_given, text_printed, write_asked, set_written, method_called, uncomputed_method, method_on_cells, move_or_reduction, reduction_called, end_called, end_or_grouping, grouping_called, other_method, of_array, options_given, format_given, fill_given, unlimited_given, format_named}

-- a dataset of nothing is printed as its first line
printed : text_printed (Set (record { axes = []; coords = []; vars = []; attrs = []; skipped = [] })) ≡ Ok (codes "Dataset\n")
unfolding text_printed
printed = refl

abbrev version : ℕ → WriteOptions
version n = record { version = n; fill = None; unlimited = None }

abbrev one : Value → Given
one v = record { plain = v ∷ []; keyed = [] }

abbrev masked : Value → Given
masked v = record { plain = Text (codes "e.nc") ∷ []; keyed = (codes "mask", v) ∷ [] }

missing_file : open_dataset (λ name. None) (one (Text (codes "e.nc"))) ≡ Err (NoFile (codes "e.nc"))
unfolding open_dataset open_asked bound unless as_text mask_given opened_set
missing_file = refl

-- its kind is looked at before the file
mask_of_a_number : open_dataset (λ name. None) (masked (Number (pos 1))) ≡ Err WrongKind
unfolding open_dataset open_asked bound unless as_text mask_given opened_set
mask_of_a_number = refl

no_name : open_dataset (λ name. None) (record { plain = []; keyed = [] }) ≡ Err BadArgument
unfolding open_dataset open_asked bound unless as_text mask_given opened_set
no_name = refl

-- methods that need fractions are told as such on datasets, and arrays alone are renamed
mean : method_called (Set (record { axes = []; coords = []; vars = []; attrs = []; skipped = [] })) (codes "mean") (record { plain = []; keyed = [] }) ≡ Err WouldPromote
unfolding method_called uncomputed_method method_on_cells move_or_reduction reduction_called reduction_named end_or_grouping grouping_called maker_named other_method
mean = refl

renamed_set : method_called (Set (record { axes = []; coords = []; vars = []; attrs = []; skipped = [] })) (codes "rename") (one (Text (codes "v"))) ≡ Err WrongKind
unfolding method_called uncomputed_method of_array
renamed_set = refl

-- those of groups alone, of what isn't grouped
first_of_set : method_called (Set (record { axes = []; coords = []; vars = []; attrs = []; skipped = [] })) (codes "first") (record { plain = []; keyed = [] }) ≡ Err WrongKind
unfolding method_called uncomputed_method method_on_cells move_or_reduction reduction_called reduction_named end_or_grouping end_called
first_of_set = refl

-- an unknown format is a bad argument, and it comes before a fill of another kind
format : set_written (Set (record { axes = []; coords = []; vars = []; attrs = []; skipped = [] })) (record { plain = Text (codes "f") ∷ Text (codes "NETCDF4") ∷ Text (codes "x") ∷ []; keyed = [] }) ≡ Err BadArgument
unfolding set_written write_asked unless bound as_text options_given format_given format_named fill_given unlimited_given
format = refl

-- version 5 where no format is asked for
no_format : options_given (None ∷ None ∷ []) ≡ Ok (version 5)
unfolding options_given format_given format_named as_text fill_given unlimited_given
no_format = refl

classic_format : options_given (None ∷ Some (Text (codes "NETCDF3_CLASSIC")) ∷ []) ≡ Ok (version 1)
unfolding options_given format_given format_named as_text fill_given unlimited_given
classic_format = refl

wide_format : options_given (None ∷ Some (Text (codes "NETCDF3_64BIT_DATA")) ∷ []) ≡ Ok (version 5)
unfolding options_given format_given format_named as_text fill_given unlimited_given
wide_format = refl
