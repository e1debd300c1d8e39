-- The checks of a dataset that look at no cells, over its parts.
use Rattle.std.specs.Prelude.{ℕ, List, [], not, ◌||◌, ◌&&◌, codes, Result, Bool}
use Rattle.std.specs.List.{list_any, list_all}
use Rattle.xr_types.specs.declared.fault.Fault.{Fault}
use Rattle.xr_types.specs.declared.fault.Fault.TheVariants.{DuplicateName, CannotHold}
use Rattle.xr_types.specs.declared.attr.Attr.{Attr}
use Rattle.xr_types.specs.declared.axis.Axis.{Axis}
use Rattle.xr_defs.specs.declared.write_options.WriteOptions.{WriteOptions}
use Rattle.xr_types.specs.Results.{◌>>=◌, unless}
use Rattle.xr_defs.specs.Values.{Dataset}
use Rattle.xr_defs.specs.Decoding.{is_attr, is_blank}
use Rattle.xr_defs.specs.Encoding.{has_width, are_new, added, coordinates_added, is_that, record_dim, empty_axes, stands_first, attrs_of}
use Rattle.xr_files.specs.Canonical.{has_types}
use Rattle.xr_encode.specs.declared.outline.Outline.{Outline}
use Rattle.xr_encode.specs.Outlines.{without_cells}

-- the dataset of these axes alone
abbrev pub over : List Axis → Dataset
over axes = record { axes = axes; coords = []; vars = []; attrs = []; skipped = [] }

-- where the option's number is in use, the attribute `_FillValue` is new
abbrev pub is_fill_new : Bool → List Attr → Bool
is_fill_new used own = not used || not (list_any (is_attr (codes "_FillValue")) own)

abbrev pub list_none : {X : Type 0} → (X → Bool) → List X → Bool
list_none test xs = not (list_any test xs)

abbrev pub has_new : WriteOptions → Outline → Bool
has_new options o = are_new o.attrs (added options (without_cells o))

unfoldable pub names_checked : List Axis → List ℕ → List Outline → List Attr → List (List ℕ) → WriteOptions → Result (Unit {0}) Fault
names_checked axes widths outlines attrs unlisted options =
    unless (list_all (has_width (over axes)) widths) DuplicateName >>= λ u.
    unless (list_all (has_new options) outlines) DuplicateName >>= λ v.
    unless (are_new attrs (coordinates_added unlisted)) DuplicateName

abbrev pub is_first : List Axis → WriteOptions → Outline → Bool
is_first axes options o = stands_first (record_dim (over axes) options) (without_cells o)

abbrev pub has_blank : List ℕ → Bool
has_blank name = list_any is_blank name

-- the version has the type of each attribute of a variable, as it is written
abbrev pub are_typed : WriteOptions → Outline → Bool
are_typed options o = has_types options.version (attrs_of options (without_cells o))

unfoldable pub places_checked : List Axis → List Outline → List (List ℕ) → WriteOptions → Result (Unit {0}) Fault
places_checked axes outlines names options =
    unless (list_all (is_that (record_dim (over axes) options)) (empty_axes (over axes))) CannotHold >>= λ u.
    unless (list_all (is_first axes options) outlines) CannotHold >>= λ v.
    unless (not (list_any has_blank names)) CannotHold

unfoldable pub records_checked : List Axis → List Outline → List (List ℕ) → List Attr → WriteOptions → Result (Unit {0}) Fault
records_checked axes outlines names attrs options =
    places_checked axes outlines names options >>= λ w. unless (has_types options.version attrs && list_all (are_typed options) outlines) CannotHold
