-- The folds of windows with enough present cells, and a fill in the place of the others. Where an array misses no cell, a window's
-- present cells are as many as its positions. Else truth values tell which cells are present: a window that needs one has enough where
-- some cell is present, and one that needs as many as it can have where each is; the others' present cells are counted. A method that
-- gives nothing of no cell needs no test where a window needs one cell and is missing without.
use Rattle.std.specs.Prelude.{◌≡◌, ◌==◌, ◌&&◌, ◌++◌, ◌^◌, ℕ, ℤ, pos, Bool, true, List, [], ◌∷◌, min, is_none, is_some, Option, Some, None, Result, Ok, if◌then◌else◌}
use Rattle.std.specs.List.{list_any}
use Rattle.xr_types.specs.Names.{axis_names, shape_over}
use Rattle.xr_types.specs.Results.{◌>>=◌, unless}
use Rattle.xr_types.specs.declared.axis.Axis.{Axis}
use Rattle.xr_types.specs.declared.fault.Fault.{Fault}
use Rattle.xr_types.specs.declared.fault.Fault.TheVariants.{BadArgument}
use Rattle.xr_types.specs.declared.kind.DType.{DType}
use Rattle.xr_types.specs.declared.kind.DType.TheVariants.{Bool as truths, Int64}
use Rattle.xr_types.specs.declared.operation.FoldKind.{FoldKind}
use Rattle.xr_types.specs.declared.operation.FoldKind.TheVariants.{All, Any, Count}
use Rattle.xr_types.specs.declared.operation.OpKind.TheVariants.{GreaterEqual, NotNull}
use Rattle.xr_arrays.specs.Arrays.{Array}
use Rattle.xr_arrays.specs.Folds.{folded_kind}
use Rattle.xr_defs.specs.Meanings.{Given}
use Rattle.xr_defs.specs.Values as of
use Rattle.xr_defs.specs.Values.{array_of, without_fills}
use Rattle.xr_defs.specs.declared.grouping.Grouping.TheVariants.{Windows}
use Rattle.xr_formulas.specs.Spread.{has_none, widens}
use Rattle.xr_formulas.specs.declared.chain.Chain.{Chain}
use Rattle.xr_formulas.specs.declared.chain.Start.TheVariants as starts
use Rattle.xr_formulas.specs.declared.chain.Step.{Step}
use Rattle.xr_formulas.specs.declared.chain.Step.TheVariants as step
use Rattle.xr_formulas.specs.declared.made.Formula.{Formula}
use Rattle.xr_formulas.specs.declared.made.Formula.TheVariants.{One, Two, Three}
use Rattle.xr_operations.specs.Reductions.{check_size, needs_cells}
use Rattle.xr_groups.specs.declared.change.Change.{Change}
use Rattle.xr_groups.specs.declared.change.Least.TheVariants.{Fewer}
use Rattle.xr_groups.specs.Groupings.{grouped_changes}
use Rattle.xr_groups.specs.Listed.{axes_by, feeds_by, listed}
use Rattle.xr_groups.specs.Methods.{array_by, check_filled, check_given, fill_cell, of_windows, window_masked}
use Rattle.xr_values.specs.declared.data_array.DataArray.{DataArray}
use Rattle.xr_grouping.specs.declared.windows.WindowsAsked.{WindowsAsked}
use Rattle.xr_grouping.specs.Fills.{has_long, short_filling}
use Rattle.xr_grouping.specs.Mades.{fill_asked}

-- no position
abbrev pub nowhere : List (Option ℕ)
nowhere = None ∷ []

-- a cell, which may be missing, at all points of some axes
abbrev pub spread : List Axis → DType → Option ℤ → Chain
spread axes kind fill =
    if has_none axes
    then record { start = starts.Empty kind (shape_over axes); steps = [] }
    else record { start = starts.Cell kind (pos 0); steps = step.Widen 0 1 ∷ step.Take 0 nowhere fill true ∷ widens axes }

abbrev pub folds_of : FoldKind → List Change → DataArray → Chain
folds_of k cs a = record { start = starts.Node a.node; steps = step.Fold k (feeds_by cs (axis_names a.axes)) ∷ [] }

-- no list has 2^40 cells
abbrev pub enough_cells : ℕ → ℤ
enough_cells m = pos (min m (2 ^ 40))

-- which windows have so many present cells, by their number
abbrev pub counted : List Change → ℕ → List Axis → DataArray → Formula
counted cs m axes a = Two GreaterEqual (folds_of Count cs a) (spread axes Int64 (Some (enough_cells m)))

-- truth values tell which cells are present, and are folded
abbrev pub told_folds : FoldKind → List Change → DataArray → List Step
told_folds k cs a = step.Unary NotNull truths ∷ step.Fold k (feeds_by cs (axis_names a.axes)) ∷ []

-- which windows have a present cell
abbrev pub some_cell : List Change → DataArray → Chain
some_cell cs a = record { start = starts.Node a.node; steps = told_folds Any cs a }

-- which windows have so many positions, and a present cell at each
abbrev pub each_cell : List Change → ℕ → DataArray → Chain
each_cell cs m a = record { start = starts.Node a.node; steps = told_folds All cs a ++ short_filling m cs (axis_names a.axes) (Some (pos 0)) }

-- which windows have so many present cells
abbrev pub enough : List Change → ℕ → List Axis → DataArray → Formula
enough cs m axes a = if m == 1 then One (some_cell cs a) else (if list_any (has_long m) cs then counted cs m axes a else One (each_cell cs m a))

abbrev pub chosen : FoldKind → List Change → Option ℤ → ℕ → List Axis → DataArray → Formula
chosen k cs fill test axes a = Three (record { start = starts.Node test; steps = [] }) (folds_of k cs a) (spread axes (folded_kind k a.kind) fill)

-- whether a window with too few present cells has by itself what is to stand in its place: it has none, its fold is missing, and so is the fill
abbrev pub needs_no_test : FoldKind → ℕ → Option ℤ → Bool
needs_no_test k m fill = needs_cells k && m == 1 && is_none fill

-- of an array that misses no cell
abbrev pub plain : FoldKind → List Change → ℕ → Option ℤ → DataArray → Chain
plain k cs m fill a = record { start = starts.Node a.node; steps = step.Fold k (feeds_by cs (axis_names a.axes)) ∷ short_filling m cs (axis_names a.axes) fill }

unfoldable pub windowed_of : FoldKind → List ℕ → ℕ → Bool → ℕ → of.DataArray → Given → Result of.DataArray Fault
windowed_of k d w center m a g =
    unless (of_windows k) BadArgument >>= λ u. fill_asked (folded_kind k a.kind) g >>= λ fill. grouped_changes (Windows d w center m) a.axes a.coords [] >>= λ cs.
    check_filled (Fewer m) cs (is_some fill) >>= λ v. check_given (folded_kind k a.kind) fill >>= λ x. check_size (shape_over (axes_by cs a.axes)) >>= λ y. Ok (array_by k (Fewer m) true cs fill a)

-- the cells of windows
abbrev pub windows : FoldKind → ℕ → WindowsAsked → of.DataArray → Array
windows k m p a = listed k (Fewer m) (fill_cell p.fill) (feeds_by p.changes (axis_names a.axes)) (array_of a)

-- the array of windows, with the cells of a node
abbrev pub array_at : FoldKind → List Change → Option (Option ℤ) → ℕ → DataArray → DataArray
array_at k cs fill node a =
    record {
      name = a.name;
      axes = axes_by cs a.axes;
      kind = folded_kind k a.kind;
      masked = window_masked a.masked fill;
      attrs = without_fills a.attrs;
      coords = a.coords;
      node = node;
    }

-- windows that nothing refuses
pub record IsAsked (k : FoldKind) (d : List ℕ) (w : ℕ) (center : Bool) (m : ℕ) (a : DataArray) (p : WindowsAsked) : Type 0 where
  pub method : unless (of_windows k) BadArgument ≡ Ok tt
  pub changes : grouped_changes (Windows d w center m) a.axes a.coords [] ≡ Ok p.changes
  pub filled : check_filled (Fewer m) p.changes (is_some p.fill) ≡ Ok tt
  pub suits : check_given (folded_kind k a.kind) p.fill ≡ Ok tt
  pub few : check_size (shape_over (axes_by p.changes a.axes)) ≡ Ok tt
  pub axes : p.axes ≡ axes_by p.changes a.axes

abbrev pub AreAsked : FoldKind → ℕ → DataArray → WindowsAsked → Type 0
AreAsked k m a p = (d : List ℕ) × (w : ℕ) × (center : Bool) × IsAsked k d w center m a p
