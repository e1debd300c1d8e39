-- The arrays and datasets that `align` is given, and how each comes to joined axes.
use Rattle.std.specs.Prelude.{◌≡◌, ℤ, Bool, List, map, Option, Result, Ok, if◌then◌else◌}
use Rattle.xr_aligning.specs.Common.{AllByRecursion, Axis, Coord, DType, Fault, IsArrayIn, IsDatasetIn, Node, Value, Variable, all_of, array_in, axes_called, check_content, check_coords, check_fill_for, check_fits, check_hole, check_variables, dataset_in, fitted, fitted_set, literal_for, with_labels}
use Rattle.xr_types.specs.Results.{◌>>=◌}
use Rattle.xr_defs.specs.Meanings as of
use Rattle.xr_aligning.specs.Fits.{fit_of, Arrive}
use Rattle.xr_aligning.specs.Joined.{AreLoose}
use Rattle.xr_aligning.specs.Sets.{KeepsLabels}
use Rattle.xr_aligning.specs.declared.coming.Coming.{Coming}
use Rattle.xr_aligning.specs.declared.fits.Change.{Change}
use Rattle.xr_aligning.specs.declared.labelled.Labelled.{Labelled}
use Rattle.xr_aligning.specs.declared.labelled.Labelled.TheVariants as labelled

-- ---- what is given

abbrev pub labelled_in : List Node → Labelled → Value
labelled_in nodes (labelled.Array a) = of.Array (array_in nodes a.now)
labelled_in nodes (labelled.Set s) = of.Set (dataset_in nodes s.now)

abbrev pub own_axes : Labelled → List Axis
own_axes (labelled.Array a) = a.now.axes
own_axes (labelled.Set s) = s.now.axes

abbrev pub IsLabelledIn : List Node → Labelled → Type 0
IsLabelledIn nodes (labelled.Array a) = IsArrayIn nodes a.now
IsLabelledIn nodes (labelled.Set s) = IsDatasetIn nodes s.now

-- ---- how it comes to joined axes

-- each of its axes comes to the one of those axes, and it is of some plan
pub record Comes (m : Coming) : Type 0 where
  pub fits : m.fits ≡ map (fit_of m.joined) (own_axes m.on)
  pub arrive : Arrive m.joined (own_axes m.on)
  pub nodes : List Node
  pub inside : IsLabelledIn nodes m.on

-- axes that have labels after the join where they have some
abbrev pub KeepsIn : List Axis → List Axis → Type 0
KeepsIn joined own = AllByRecursion (KeepsLabels (with_labels own joined)) own

-- the same in this plan, with axes that are as they have to be, but for their sizes
pub record IsReady (plan : List Node) (m : Coming) : Type 0 where
  pub comes : Comes m
  pub here : IsLabelledIn plan m.on
  pub loose : AreLoose m.joined
  pub keep : AllByRecursion (KeepsLabels m.joined) (own_axes m.on)

-- those axes are the joined ones of the names that have labels
abbrev pub TakesLabels : List Axis → Coming → Type 0
TakesLabels joined m = m.joined ≡ with_labels (own_axes m.on) joined

abbrev pub stands_for : List Node → Coming → Value
stands_for nodes m = labelled_in nodes m.on

-- the same, with a fill, as a change of its axes
pub record IsChangeOf (m : Coming) (fill : Option ℤ) (c : Change) : Type 0 where
  pub joined : c.joined.now ≡ m.joined
  pub own : c.own.now ≡ own_axes m.on
  pub fits : c.fits.now ≡ m.fits
  pub fill_is : c.fill ≡ fill

-- ---- a value over joined axes of its own names

abbrev pub fitted_by : List Axis → Option ℤ → Value → Value
fitted_by js fill (of.Array a) = of.Array (fitted js fill a)
fitted_by js fill (of.Set s) = of.Set (fitted_set js fill s)
fitted_by js fill v = v

unfoldable pub check_coord_by : List Axis → Option Value → Coord → Result (Unit {0}) Fault
check_coord_by js fill c = check_content js fill c.axes c.content

-- of a variable of the program
unfoldable pub check_var_by : List Axis → Option Value → List Axis → Variable → Result (Unit {0}) Fault
check_var_by js fill axes v = check_hole js fill (axes_called axes v.dims) v.kind

abbrev pub check_fill_by : List Axis → Option Value → Value → Result (Unit {0}) Fault
check_fill_by js fill (of.Array a) = check_hole js fill a.axes a.kind >>= λ u. all_of (check_coord_by js fill) a.coords
check_fill_by js fill (of.Set s) = check_variables js fill s.axes s.vars >>= λ u. check_coords js fill s.coords
check_fill_by js fill v = Ok tt

abbrev pub check_number : DType → Value → Result (Unit {0}) Fault
check_number t v = literal_for t v >>= λ n. check_fits t n

abbrev pub check_fill_where : Bool → DType → Option Value → Result (Unit {0}) Fault
check_fill_where hole t fill = if hole then check_fill_for t fill else Ok tt

abbrev pub come : List Node → Option ℤ → Coming → Value
come nodes fill m = fitted_by m.joined fill (stands_for nodes m)
