-- Methods of arrays in groups and blocks take no argument, and those of arrays in bins and windows a fill.
use Rattle.std.proofs.Common.{◌≡◌, ℕ, Bool, true, false, List, [], Option, None, is_some, Result, Ok, Err, refl}
use Rattle.xr_types.specs.Names.{shape_over}
use Rattle.xr_types.specs.Results.{◌>>=◌, unless}
use Rattle.xr_types.specs.declared.fault.Fault.{Fault}
use Rattle.xr_types.specs.declared.fault.Fault.TheVariants.{BadArgument}
use Rattle.xr_types.specs.declared.operation.FoldKind.{FoldKind}
use Rattle.xr_defs.specs.Arguments.{nothing_given}
use Rattle.xr_defs.specs.Meanings.{Given, Value}
use Rattle.xr_defs.specs.Values.{DataArray}
use Rattle.xr_defs.specs.declared.grouping.Grouping.{Grouping}
use Rattle.xr_defs.specs.declared.grouping.Grouping.TheVariants.{Bins, Blocks, Coordinate, Dates, Windows}
use Rattle.xr_arrays.specs.Folds.{folded_kind}
use Rattle.xr_operations.specs.Moves.{fill_called}
use Rattle.xr_operations.specs.Reductions.{check_size}
use Rattle.xr_groups.specs.declared.change.Least.TheVariants.{Never, Empty, Fewer}
use Rattle.xr_groups.specs.Listed.{axes_by}
use Rattle.xr_groups.specs.Groupings.{grouped_changes}
use Rattle.xr_groups.specs.Methods.{array_by, check_filled, check_given, fill_given, fill_option, grouped_array, least_of, no_fill, of_blocks, of_groups, of_windows}
use Rattle.xr_grouping.specs.Mades.{binned_of, fill_asked, plain_of}
use Rattle.xr_grouping.specs.Windowed.{windowed_of}
use Rattle.xr_times.specs.declared.time.Freq.{Freq}
use Rattle.xr_arrays.specs.declared.node.Node.{Node}
use Rattle.xr_parts.specs.Frames.{IsFrame}
use Rattle.xr_values.specs.declared.data_array.DataArray as held
use Rattle.xr_values.specs.Stands.{IsArrayIn}

pub framed : (nodes : List Node) (a : held.DataArray) → IsArrayIn nodes a → IsFrame a.axes a.coords
framed nodes a is = record { dims = is.formed.axes; over = is.formed.coords; distinct = is.formed.distinct }

module _ (k : FoldKind) (grouping : Grouping) (a : DataArray) where
  plain_same : (m n : Result (Unit {0}) Fault)
      → (m >>= λ u. (n >>= λ u. Ok None) >>= λ v. fill_called (folded_kind k a.kind) v >>= λ fill. grouped_changes grouping a.axes a.coords [] >>= λ cs. check_filled Never cs (is_some fill) >>= λ w. check_given (folded_kind k a.kind) fill >>= λ x.
      check_size (shape_over (axes_by cs a.axes)) >>= λ y. Ok (array_by k Never false cs fill a))
      ≡ (m >>= λ u. n >>= λ v. grouped_changes grouping a.axes a.coords [] >>= λ cs. check_size (shape_over (axes_by cs a.axes)) >>= λ y. Ok (array_by k Never false cs None a))
  unfolding fill_called check_filled check_given unless
  plain_same (Ok u) (Ok v) = refl
  plain_same (Ok u) (Err e) = refl
  plain_same (Err e) n = refl

pub plain_is : (k : FoldKind) (grouping : Grouping) (a : DataArray) (g : Given) → least_of grouping ≡ Never → grouped_array k grouping a g ≡ plain_of k grouping a g
unfolding grouped_array plain_of fill_given no_fill
plain_is k (Dates d field) a g plain = plain_same k (Dates d field) a (unless (of_groups k) BadArgument) (nothing_given g)
plain_is k (Coordinate name) a g plain = plain_same k (Coordinate name) a (unless (of_groups k) BadArgument) (nothing_given g)
plain_is k (Bins d freq) a g plain = absurd cc
plain_is k (Windows d w center m) a g plain = absurd cc
plain_is k (Blocks sizes trim how) a g plain = plain_same k (Blocks sizes trim how) a (unless (of_blocks k) BadArgument) (nothing_given g)

pub binned_is : (k : FoldKind) (d : List ℕ) (freq : Freq) (a : DataArray) (g : Given) → grouped_array k (Bins d freq) a g ≡ binned_of k d freq a g
unfolding grouped_array binned_of fill_given fill_asked
binned_is k d freq a g = by (unless (of_groups k) BadArgument) (fill_option g)
  where
    by : (m : Result (Unit {0}) Fault) (n : Result (Option Value) Fault)
        → (m >>= λ u. n >>= λ v. fill_called (folded_kind k a.kind) v >>= λ fill. grouped_changes (Bins d freq) a.axes a.coords [] >>= λ cs. check_filled Empty cs (is_some fill) >>= λ w. check_given (folded_kind k a.kind) fill >>= λ x.
        check_size (shape_over (axes_by cs a.axes)) >>= λ y. Ok (array_by k Empty false cs fill a))
        ≡ (m >>= λ u. (n >>= λ v. fill_called (folded_kind k a.kind) v) >>= λ fill. grouped_changes (Bins d freq) a.axes a.coords [] >>= λ cs. check_filled Empty cs (is_some fill) >>= λ w. check_given (folded_kind k a.kind) fill >>= λ x.
        check_size (shape_over (axes_by cs a.axes)) >>= λ y. Ok (array_by k Empty false cs fill a))
    by (Ok u) (Ok v) = refl
    by (Ok u) (Err e) = refl
    by (Err e) n = refl

pub windowed_is : (k : FoldKind) (d : List ℕ) (w : ℕ) (center : Bool) (m : ℕ) (a : DataArray) (g : Given) → grouped_array k (Windows d w center m) a g ≡ windowed_of k d w center m a g
unfolding grouped_array windowed_of fill_given fill_asked
windowed_is k d w center m a g = by (unless (of_windows k) BadArgument) (fill_option g)
  where
    by : (s : Result (Unit {0}) Fault) (n : Result (Option Value) Fault)
        → (s >>= λ u. n >>= λ v. fill_called (folded_kind k a.kind) v >>= λ fill. grouped_changes (Windows d w center m) a.axes a.coords [] >>= λ cs. check_filled (Fewer m) cs (is_some fill) >>= λ w. check_given (folded_kind k a.kind) fill >>= λ x.
        check_size (shape_over (axes_by cs a.axes)) >>= λ y. Ok (array_by k (Fewer m) true cs fill a))
        ≡ (s >>= λ u. (n >>= λ v. fill_called (folded_kind k a.kind) v) >>= λ fill. grouped_changes (Windows d w center m) a.axes a.coords [] >>= λ cs. check_filled (Fewer m) cs (is_some fill) >>= λ w. check_given (folded_kind k a.kind) fill >>= λ x.
        check_size (shape_over (axes_by cs a.axes)) >>= λ y. Ok (array_by k (Fewer m) true cs fill a))
    by (Ok u) (Ok v) = refl
    by (Ok u) (Err e) = refl
    by (Err e) n = refl
