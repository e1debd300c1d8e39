-- The dataset of `demo` is one as it has to be.
use Rattle.std.proofs.Common.{◌≡◌, ◌<◌, ◌≤◌, ◌*◌, ◌%◌, ℕ, pos, true, false, [], ◌∷◌, length, map, get_or, Some, is_some, All, refl, ◌∙◌, arith}
use Rattle.std.specs.List.{range_with_len}
use Rattle.std.proofs.lemmas.List.Elements.{All-map}
use Rattle.std.proofs.lemmas.List.FromFn.{get_or-range_with_len, length-map-range_with_len, length-range_with_len}
use Rattle.std.proofs.lemmas.Int.{ints}
use Rattle.std.proofs.lemmas.Nat.{mod_below}
use Rattle.std.specs.Str.{is_utf8, chars}
use lib.Utf8
use Rattle.xr_types.specs.Kinds.{InRange}
use Rattle.xr_types.specs.Points.{size}
use Rattle.xr_types.specs.declared.axis.Calendar.TheVariants.{Civil}
use Rattle.xr_types.specs.declared.kind.DType.TheVariants.{Int32}
use Rattle.xr_arrays.specs.Arrays.{IsCell}
use Rattle.xr_times.specs.Times.{counted, IsTime}
use Rattle.xr_defs.specs.WellFormed.{AreAttributes, AreCells, AreDimensions, IsDataset, IsIndex, IsVariable}
use Rattle.xr_chunks.specs.Demo.{axes, cell, cells, demo_set, hours_since_2000, labels, times, variable}

-- ---- what holds of each number below n holds of all of them

pub each_below : {X : Type 0} (P : X → Type 0) (f : ℕ → X) (n : ℕ) → ((i : ℕ) → i < n → P (f i)) → All P (map f (range_with_len 0 n))
each_below P f n each =
    All-map P f (range_with_len 0 n)
    (λ i d lt. let long = length-range_with_len 0 n in let is = get_or-range_with_len 0 n i d (omega (arith, long, lt)) in each (get_or (range_with_len 0 n) i d) (omega (arith, long, lt, is)))

-- ---- cells

pub cell_in_range : (i : ℕ) → InRange Int32 (cell i)
cell_in_range i = let below : i * 31 % 1009 < 1009 = mod_below (i * 31) 1009 (omega arith) in (omega (arith, ints), omega (arith, ints))

pub cells_count : (n : ℕ) → length (cells n) ≡ size (n ∷ 2 ∷ 3 ∷ [])
cells_count n = length-map-range_with_len (λ i. Some (cell i)) 0 (n * 6) ∙ omega arith

pub cells_in_range : (n : ℕ) → All (IsCell Int32) (cells n)
cells_in_range n = each_below (IsCell Int32) (λ i. Some (cell i)) (n * 6) (λ i lt. cell_in_range i)

are_cells : (n : ℕ) → n ≤ 1000000 → AreCells (n ∷ 2 ∷ 3 ∷ []) Int32 false (cells n)
are_cells n few =
    record {
      whole = cells_count n;
      range = cells_in_range n;
      seen = λ e. each_below (λ c. is_some c ≡ true) (λ i. Some (cell i)) (n * 6) (λ i lt. refl);
      low_rank = omega arith;
      few = omega arith;
    }

-- ---- times

is_time : (i : ℕ) → i < 1000000 → IsTime Civil (counted hours_since_2000 (pos (6 * i)))
is_time i lt = record { from = omega (arith, ints); to = omega (arith, ints) }

pub are_times : (n : ℕ) → n ≤ 1000000 → All (IsTime Civil) (times n)
are_times n few = each_below (IsTime Civil) (λ i. counted hours_since_2000 (pos (6 * i))) n (λ i lt. is_time i (omega arith))

-- ---- the dataset

no_attributes : AreAttributes []
no_attributes = record { each = tt; distinct = refl }

is_index : (n : ℕ) → n ≤ 1000000 → IsIndex n (labels n)
is_index n few = record { whole = length-map-range_with_len (λ i. counted hours_since_2000 (pos (6 * i))) 0 n; range = are_times n few; attrs = no_attributes }

are_dimensions : (n : ℕ) → n ≤ 1000000 → AreDimensions (axes n)
unfolding is_utf8 chars Utf8.encode
are_dimensions n few =
    record {
      each = (record { name = refl; few = omega arith; index = is_index n few }, (record { name = refl; few = omega arith; index = tt }, (record { name = refl; few = omega arith; index = tt }, tt)));
      distinct = refl;
    }

is_variable : (n : ℕ) → n ≤ 1000000 → IsVariable (axes n) (variable n)
unfolding is_utf8 chars Utf8.encode
is_variable n few = record { name = refl; over = (refl, (refl, (refl, tt))); distinct = refl; attrs = no_attributes; cells = are_cells n few }

pub demo_formed : (n : ℕ) → n ≤ 1000000 → IsDataset (demo_set n)
demo_formed n few =
    record {
      axes = are_dimensions n few;
      coords = tt;
      vars = (is_variable n few, tt);
      coords_distinct = refl;
      vars_distinct = refl;
      busy = refl;
      attrs = no_attributes;
      few = omega arith;
    }
