-- A dataset's file, but for the values of its variables.
use Rattle.std.specs.Prelude.{ℕ, Bool, List, ◌++◌, [], map, filter_map, Result, Ok}
use Rattle.xr_types.specs.declared.fault.Fault.{Fault}
use Rattle.xr_types.specs.declared.fault.Fault.TheVariants.{TooLarge}
use Rattle.xr_types.specs.declared.fault.CallFault.{CallFault}
use Rattle.xr_arrays.specs.declared.node.Node.{Node}
use Rattle.xr_files.specs.declared.file.CdfDim.{CdfDim}
use Rattle.xr_files.specs.declared.file.CdfVar.{CdfVar}
use Rattle.xr_files.specs.declared.file.CdfFile.{CdfFile}
use Rattle.xr_defs.specs.declared.write_options.WriteOptions.{WriteOptions}
use Rattle.xr_types.specs.Results.{◌>>=◌, unless, all_of}
use Rattle.xr_files.specs.Canonical.{is_small}
use Rattle.xr_defs.specs.Printing.{by_name}
use Rattle.xr_defs.specs.Encoding.{each_once, index_width, coord_width, coord_names, coordinates_added, records_of, var_of, stored_index, stored_coord, check_unlimited, check_fill, check_fit}
use Rattle.xr_values.specs.declared.dataset.Dataset.{Dataset}
use Rattle.xr_encode.specs.declared.parts.Parts.{Parts}
use Rattle.xr_encode.specs.Outlines.{without_cells}
use Rattle.xr_encode.specs.Checks.{over, names_checked, records_checked}
use Rattle.xr_encode.specs.Walk.{vars_from}
use Rattle.xr_encode.specs.Encoded.{refused, computed_from}
use Rattle.xr_encode.specs.Dimensions.{dims_with}
use Rattle.xr_encode.specs.Sets.{outlines_of, unlisted_by}

abbrev pub parts_of : Dataset → Parts
parts_of s =
    record {
      outlines = outlines_of s;
      widths = each_once [] (filter_map index_width s.axes ++ filter_map coord_width (by_name s.coords));
      unlisted = unlisted_by (outlines_of s) (coord_names (by_name s.coords));
    }

-- the file with these variables
abbrev pub file_with : Dataset → Parts → WriteOptions → List CdfVar → CdfFile
file_with s parts options vars =
    record {
      version = options.version;
      numrecs = records_of (over s.axes) options;
      dims = dims_with s.axes parts.widths options;
      attrs = s.attrs ++ coordinates_added parts.unlisted;
      vars = vars;
    }

abbrev pub frame_of : Dataset → Parts → WriteOptions → CdfFile
frame_of s parts options = file_with s parts options (map (λ o. var_of (dims_with s.axes parts.widths options) options (without_cells o)) parts.outlines)

-- the checks over the parts, one after the other
unfoldable pub parts_checked : Dataset → Parts → WriteOptions → Result (Unit {0}) Fault
parts_checked s parts options =
    check_unlimited (over s.axes) options >>= λ a. names_checked s.axes parts.widths parts.outlines s.attrs parts.unlisted options >>= λ b.
    records_checked s.axes parts.outlines (coord_names s.coords) s.attrs options >>= λ c.
    all_of (check_fill options) (map without_cells parts.outlines) >>= λ d. all_of (check_fit options) (map without_cells parts.outlines)

-- ---- the walk

-- the variables, one by one
unfoldable pub vars_walked : (ℕ → Bool) → List Node → Bool → List CdfDim → WriteOptions → Dataset → Result (List CdfVar) CallFault
vars_walked declines nodes small dims options s =
    refused (vars_from small dims options [] (filter_map stored_index s.axes)) >>= λ a. refused (vars_from small dims options a (map stored_coord (by_name s.coords))) >>= λ b.
    computed_from declines nodes small dims options s.coords b s.vars

-- the checks of the parts, the variables, and the size last
unfoldable pub file_walked : (ℕ → Bool) → List Node → Dataset → Parts → WriteOptions → Result CdfFile CallFault
file_walked declines nodes s parts options =
    refused (parts_checked s parts options) >>= λ a. vars_walked declines nodes (is_small (frame_of s parts options)) (dims_with s.axes parts.widths options) options s >>= λ vars.
    refused (unless (is_small (frame_of s parts options)) TooLarge) >>= λ c. Ok (file_with s parts options vars)
