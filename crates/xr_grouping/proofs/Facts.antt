-- A dimension that is grouped is one of those there are, and the axis in its place is one as it has to be.
use Rattle.std.proofs.Common.{◌⊎◌, inl, inr, ◌≡◌, ◌<◌, ◌≤◌, ◌+◌, ◌-◌, ◌==◌, ◌||◌, ◌&&◌, ◌%◌, not, ℕ, zero, suc, ℤ, pos, Bool, true, false, cond, List, [], ◌∷◌, length, map, filter, get_or, min, Option, Some, None, is_some, All, Result, Ok, Err, refl, sym, ap, subst, ◌∙◌, arith}
use Rattle.std.specs.Prelude.{nat_le, nat_lt, ⊤, MatchOption}
use Rattle.std.specs.Str.{bytes_eq, chars, is_utf8}
use lib.Utf8
use Rattle.std.specs.List.{AllByRecursion, range_with_len}
use Rattle.std.specs.Option.{IfSome}
use Rattle.std.specs.Ordering.{int_cmp}
use Rattle.std.proofs.lemmas.Cmp.{int_cmp_total}
use Rattle.std.proofs.lemmas.Int.{ints}
use Rattle.std.proofs.lemmas.Bool.Decides.{nat_tests}
use Rattle.xr_types.specs.Names.{among, axis_names}
use Rattle.xr_types.specs.Results.{◌>>=◌, unless}
use Rattle.xr_types.specs.Kinds.{InRange}
use Rattle.xr_types.specs.declared.axis.Axis.{Axis}
use Rattle.xr_types.specs.declared.axis.Calendar.{Calendar}
use Rattle.xr_types.specs.declared.axis.Calendar.TheVariants.{Civil, NoLeap, Days360}
use Rattle.xr_types.specs.declared.axis.Labels.{Labels}
use Rattle.xr_types.specs.declared.axis.LabelList.{LabelList}
use Rattle.xr_types.specs.declared.axis.LabelList.TheVariants.{Numbers, Times, Texts}
use Rattle.xr_types.specs.declared.fault.Fault.{Fault}
use Rattle.xr_types.specs.declared.fault.Fault.TheVariants.{BadArgument, NoDimension, NotMonotonic, NotTime, TooLarge}
use Rattle.xr_types.specs.declared.kind.DType.TheVariants as kinds
use Rattle.xr_arrays.specs.FeedPositions.{window}
use Rattle.xr_arrays.specs.Nodes.{ArePositions}
use Rattle.xr_arrays.proofs.FeedRanges.{range_positions}
use Rattle.xr_times.specs.Times.{all_days, field_of, days_of_months, days_of_years, day_in_year, day_since, year_at, IsTime}
use Rattle.xr_times.specs.Bins.{bin_count, bin_number, bin_start, bin_starts, bins_of, first_bin, first_midnight, label_bins, rises}
use Rattle.xr_times.specs.declared.bin_list.BinList.{BinList}
use Rattle.xr_times.specs.declared.time.Freq.{Freq}
use Rattle.xr_times.specs.declared.time.Field.{Field}
use Rattle.xr_times.specs.declared.time.Field.TheVariants.{Year, Month, Day, Hour, Minute, Second, DayOfYear, DayOfWeek}
use Rattle.xr_defs.specs.declared.value.Coord.{Coord}
use Rattle.xr_defs.specs.Selecting.{axis_called}
use Rattle.xr_defs.specs.WellFormed.{AreAttributes, AreLabels, IsDimension, IsIndex}
use Rattle.xr_defs.specs.Values.{axis_position, label_count, no_axis}
use Rattle.xr_files.specs.Classic.{is_name}
use Rattle.xr_parts.proofs.Axes.{called_holds}
use Rattle.xr_parts.proofs.Words.{same_text}
use Rattle.xr_values.proofs.Named.{bytes_eq_swap}
use Rattle.xr_groups.specs.declared.change.Change.{Change}
use Rattle.xr_groups.specs.Blocks.{before, behind, windows}
use Rattle.xr_groups.specs.Groupings.{axis_found, bin_change, bins_along, date_change, field_name, has_field, is_free, is_freq, labelled_axis, number_groups, times_along, times_in, window_change, TimeIndex}
use Rattle.xr_groups.specs.Groups.{bin_lists, distinct, field_keys, holders, places_of}
use Rattle.xr_grouping.specs.Changes.{IsChange}
use Rattle.xr_grouping.specs.Found.{found_axis}
use Rattle.xr_grouping.proofs.Dated.{distinct_all, distinct_length, groups_fed, groups_full}
use Rattle.xr_grouping.proofs.Found.{axis_is, told}
use Rattle.xr_grouping.proofs.OneList.{all_mapped, filtered_positions}
use Rattle.xr_grouping.proofs.Starts.{starts_timed}
use Rattle.xr_grouping.proofs.Steps.{all_by, binds, filter_few, mapped_length, ok_same, range_long}

-- ---- the axis

found_some : (d : List ℕ) (o : Option Axis) (x : Axis) → told d o ≡ Ok x → o ≡ Some x
found_some d None x e = absurd cc
found_some d (Some y) x e = ap Some (ok_same y x e)

found_has : (d : List ℕ) (axes : List Axis) (x : Axis) → found_axis d axes ≡ Some x → among (axis_names axes) d ≡ true
found_has d [] x e = absurd cc
found_has d (y ∷ ys) x e = by (bytes_eq y.name d) (bytes_eq_swap d y.name) e (found_has d ys x)
  where
    by : (b : Bool) → bytes_eq d y.name ≡ b → cond b (Some y) (found_axis d ys) ≡ Some x → (found_axis d ys ≡ Some x → among (axis_names ys) d ≡ true) → among (axis_names (y ∷ ys)) d ≡ true
    by true t e rest = ap (λ b. b || among (axis_names ys) d) t
    by false t e rest = ap (λ b. b || among (axis_names ys) d) t ∙ rest e

pub record IsFoundAt (d : List ℕ) (axes : List Axis) (x : Axis) : Type 0 where
  pub has : among (axis_names axes) d ≡ true
  pub called : axis_called axes d ≡ x
  pub formed : IsDimension x
  pub name : x.name ≡ d

pub found_at : (d : List ℕ) (axes : List Axis) (x : Axis) → axis_found d axes ≡ Ok x → AllByRecursion IsDimension axes → IsFoundAt d axes x
unfolding axis_found
found_at d axes x e all =
    let has = found_has d axes x (found_some d (found_axis d axes) x (sym (axis_is d axes (found_axis d axes) refl) ∙ e)) in
    let called = by (axis_position d axes) e in
    let holds = called_holds IsDimension d axes all has in
    record { has = has; called = called; formed = subst IsDimension called holds.0; name = sym (ap (λ (y : Axis). y.name) called) ∙ holds.1 }
  where
    by : (o : Option ℕ) → ◌≡◌ {A = Result Axis Fault} (elim o [ None ↦ Err (NoDimension d) | Some k ↦ Ok (get_or axes k no_axis) ]) (Ok x) → elim o as (λ o. Axis) [ None ↦ no_axis | Some k ↦ get_or axes k no_axis ] ≡ x
    by None e = absurd cc
    by (Some k) e = ok_same (get_or axes k no_axis) x e

-- ---- its times

record AreTimesOf (x : Axis) (t : TimeIndex) : Type 0 where
  long : length t.times ≡ x.size
  each : All (IsTime t.coding.units.calendar) t.times
  attrs : AreAttributes t.attrs
  there : is_some x.labels ≡ true

times_of : (n : ℕ) (l : Labels) (t : TimeIndex) (list : LabelList) → l.list ≡ list → IsIndex n l → ◌≡◌ {A = Result TimeIndex Fault} (elim list [ Numbers kind ns ↦ Err NotTime | Times coding ts ↦ Ok (record { coding = coding; times = ts; attrs = l.attrs }) | Texts ts ↦ Err NotTime ]) (Ok t) → (length t.times ≡ n) × All (IsTime t.coding.units.calendar) t.times × AreAttributes t.attrs
times_of n l t (Numbers kind ns) el is e = absurd cc
times_of n l t (Texts ts) el is e = absurd cc
times_of n l t (Times coding ts) el is e =
    let same : record { coding = coding; times = ts; attrs = l.attrs } ≡ t = ok_same (record { coding = coding; times = ts; attrs = l.attrs }) t e in
    let whole = is.whole in
    let range = is.range in
    subst (λ (u : TimeIndex). (length u.times ≡ n) × All (IsTime u.coding.units.calendar) u.times × AreAttributes u.attrs) same
    (subst (λ (k : LabelList). label_count k ≡ n) el whole, subst AreLabels el range, is.attrs)

times_found : (x : Axis) (t : TimeIndex) → IsDimension x → times_along x ≡ Ok t → AreTimesOf x t
unfolding times_along times_in
times_found x t is e = by x.labels refl is.index e
  where
    by : (o : Option Labels) → x.labels ≡ o → MatchOption o ⊤ (IsIndex x.size) → ◌≡◌ {A = Result TimeIndex Fault} (elim o [ None ↦ Err NotTime | Some l ↦ times_in l ]) (Ok t) → AreTimesOf x t
    by None eo is e = absurd cc
    by (Some l) eo is e = let r = times_of x.size l t l.list refl is e in record { long = r.0; each = r.1; attrs = r.2; there = ap is_some eo }

-- ---- fields are small

few_days : (c : Calendar) → all_days c ≤ 3652059
few_days Civil = omega arith
few_days NoLeap = omega arith
few_days Days360 = omega arith

day_small : (c : Calendar) (t : ℤ) → IsTime c t → day_since c t < 4000000
day_small c t is = let low = is.from in let high = is.to in let few = few_days c in omega (arith, ints, low, high, few)

field_small : (c : Calendar) (t : ℤ) (field : Field) → IsTime c t → field_of c t field ≤ 4000000
unfolding year_at
field_small c t Year is = let le = filter_few (λ y. nat_le (days_of_years c (y - 1)) (day_since c t)) (range_with_len 1 9999) in let n = range_long 1 9999 in omega (arith, le, n)
field_small c t Month is = let le = filter_few (λ m. nat_le (days_of_months c (year_at c (day_since c t)) (m - 1)) (day_in_year c (day_since c t))) (range_with_len 1 12) in let n = range_long 1 12 in omega (arith, le, n)
field_small c t Day is = let small = day_small c t is in omega (arith, small)
field_small c t Hour is = omega arith
field_small c t Minute is = omega arith
field_small c t Second is = omega arith
field_small c t DayOfYear is = let small = day_small c t is in omega (arith, small)
field_small c t DayOfWeek is = omega arith

-- ---- groups by dates

name_ok : (field : Field) → is_name (field_name field) ≡ true
unfolding is_utf8 chars Utf8.encode
name_ok Year = refl
name_ok Month = refl
name_ok Day = refl
name_ok Hour = refl
name_ok Minute = refl
name_ok Second = refl
name_ok DayOfYear = refl
name_ok DayOfWeek = refl

in_range : (m : ℕ) → m ≤ 4000000 → InRange kinds.Int64 (pos m)
in_range m small = (omega (arith, ints, small), omega (arith, ints, small))

keys_in : (c : Calendar) (field : Field) (ts : List ℤ) → All (IsTime c) ts → AllByRecursion (λ key. IfSome key (InRange kinds.Int64)) (field_keys c field ts)
keys_in c field [] each = tt
keys_in c field (t ∷ ts) each = (in_range (field_of c t field) (field_small c t field (each 0 t (omega arith))), keys_in c field ts (λ i y lt. each (suc i) y (omega (arith, lt))))

or_cases : (a b : Bool) → (a || b) ≡ true → (a ≡ true) ⊎ (b ≡ true)
or_cases true b e = inl refl
or_cases false b e = inr e

module _ (axes : List Axis) (coords : List Coord) (others : List (List ℕ)) (all : AllByRecursion IsDimension axes) where
  abbrev Formed : Change → Type 0
  Formed c = IsChange axes coords others c

  -- one that keeps the name of a dimension that has labels
  kept_labels : (d : List ℕ) (x : Axis) → IsFoundAt d axes x → is_some x.labels ≡ true → is_some (axis_called axes d).labels ≡ true
  kept_labels d x at there = ap (λ (y : Axis). is_some y.labels) at.called ∙ there

  fed_along : (d : List ℕ) (x : Axis) (lists : List (List ℕ)) → IsFoundAt d axes x → All (ArePositions x.size 0) lists → All (ArePositions (axis_called axes d).size 0) lists
  fed_along d x lists at fed = subst (λ (y : Axis). All (ArePositions y.size 0) lists) (sym at.called) fed

  module _ (d : List ℕ) (field : Field) (x : Axis) (t : TimeIndex) (at : IsFoundAt d axes x) (of_x : AreTimesOf x t) (free : (bytes_eq (field_name field) d || is_free (field_name field) axes coords others) ≡ true) where
    abbrev keys : List (Option ℤ)
    keys = field_keys t.coding.units.calendar field t.times

    abbrev c : Change
    c = number_groups d (field_name field) kinds.Int64 [] keys

    keys_long : length keys ≡ x.size
    keys_long = mapped_length (λ s. Some (pos (field_of t.coding.units.calendar s field))) t.times ∙ of_x.long

    by_dates : Formed c × All (λ ps. 0 < length ps) c.lists
    by_dates =
        let few = distinct_length int_cmp keys in
        let most = at.formed.few in
        let long = keys_long in (
          record {
            has = at.has;
            axis = record {
              name = name_ok field;
              few = omega (arith, few, most, long);
              index = record {
                whole = refl;
                range = (refl, all_by (InRange kinds.Int64) (distinct int_cmp keys) (distinct_all int_cmp (InRange kinds.Int64) keys (keys_in t.coding.units.calendar field t.times of_x.each)));
                attrs = record { each = tt; distinct = refl };
              };
            };
            sized = sym (mapped_length (λ k. holders int_cmp keys k) (distinct int_cmp keys));
            fed = fed_along d x c.lists at (groups_fed int_cmp keys x.size keys_long);
            named = elim (or_cases (bytes_eq (field_name field) d) (is_free (field_name field) axes coords others) free) [ inl same ↦ inl (same_text (field_name field) d same) | inr none ↦ inr (inl none) ];
            labelled = λ e some. kept_labels d x at of_x.there;
          },
          groups_full int_cmp int_cmp_total keys,
        )

  pub dated : (d : List ℕ) (field : Field) (c : Change) (free : (bytes_eq (field_name field) d || is_free (field_name field) axes coords others) ≡ true) → date_change d field axes ≡ Ok c → Formed c × All (λ ps. 0 < length ps) c.lists
  unfolding date_change
  dated d field c free e =
      let found = binds (axis_found d axes) (λ x. times_along x >>= λ t. unless (has_field t.coding.units.calendar field) BadArgument >>= λ u. Ok (number_groups d (field_name field) kinds.Int64 [] (field_keys t.coding.units.calendar field t.times))) c e in
      let times = binds (times_along found.0) (λ t. unless (has_field t.coding.units.calendar field) BadArgument >>= λ u. Ok (number_groups d (field_name field) kinds.Int64 [] (field_keys t.coding.units.calendar field t.times))) c found.2 in
      let last = binds (unless (has_field times.0.coding.units.calendar field) BadArgument) (λ u. Ok (number_groups d (field_name field) kinds.Int64 [] (field_keys times.0.coding.units.calendar field times.0.times))) c times.2 in
      let at = found_at d axes found.0 found.1 all in
      subst (λ (k : Change). Formed k × All (λ ps. 0 < length ps) k.lists) (ok_same (number_groups d (field_name field) kinds.Int64 [] (field_keys times.0.coding.units.calendar field times.0.times)) c last.2)
      (by_dates d field found.0 times.0 at (times_found found.0 times.0 at.formed times.1) free)

  -- ---- bins

  module _ (d : List ℕ) (freq : Freq) (x : Axis) (t : TimeIndex) (at : IsFoundAt d axes x) (of_x : AreTimesOf x t) (b : BinList) (held : bins_of t.coding.units.calendar freq t.times ≡ Ok b) where
    abbrev cal : Calendar
    cal = t.coding.units.calendar

    abbrev bc : Change
    bc = record { dimension = d; lists = bin_lists (length b.starts) b.bin; axis = labelled_axis d (Times t.coding b.starts) (length b.starts) t.attrs }

    starts_few : (length b.starts ≤ 33554432) × (length b.bin ≡ length t.times)
    starts_few = by (rises t.times) (nat_lt 33554432 (bin_count cal freq t.times)) refl held
      where
        made : BinList
        made = record { starts = bin_starts cal freq t.times; bin = label_bins cal freq t.times }

        by : (r m : Bool) → nat_lt 33554432 (bin_count cal freq t.times) ≡ m → ◌≡◌ {A = Result BinList Fault} (cond r (cond m (Err TooLarge) (Ok (record { starts = bin_starts cal freq t.times; bin = label_bins cal freq t.times }))) (Err NotMonotonic)) (Ok b)
            → (length b.starts ≤ 33554432) × (length b.bin ≡ length t.times)
        by false m em e = absurd cc
        by true true em e = absurd cc
        by true false em e =
            let same : record { starts = bin_starts cal freq t.times; bin = label_bins cal freq t.times } ≡ b = ok_same (record { starts = bin_starts cal freq t.times; bin = label_bins cal freq t.times }) b e in
            let long = mapped_length (bin_start cal freq (first_midnight cal t.times)) (range_with_len (first_bin cal freq t.times) (bin_count cal freq t.times)) in
            let count = range_long (first_bin cal freq t.times) (bin_count cal freq t.times) in
            subst (λ (c : BinList). (length c.starts ≤ 33554432) × (length c.bin ≡ length t.times)) same
            ((let le : bin_count cal freq t.times ≤ 33554432 = grind (arith, nat_tests, em) in omega (arith, long, count, le)), mapped_length (λ s. bin_number cal freq (first_midnight cal t.times) s - first_bin cal freq t.times) t.times)

    place_fed : (j : ℕ) → ArePositions x.size 0 (places_of b.bin j)
    unfolding places_of
    place_fed j =
        let long : length b.bin ≡ x.size = starts_few.1 ∙ of_x.long in
        subst (λ m. ArePositions x.size 0 (filter (λ p. get_or b.bin p 0 == j) (range_with_len 0 m))) (sym long) (filtered_positions (λ p. get_or b.bin p 0 == j) x.size)

    lists_long : length (bin_lists (length b.starts) b.bin) ≡ length b.starts
    unfolding bin_lists
    lists_long = mapped_length (places_of b.bin) (range_with_len 0 (length b.starts)) ∙ range_long 0 (length b.starts)

    lists_fed : All (ArePositions x.size 0) (bin_lists (length b.starts) b.bin)
    unfolding bin_lists
    lists_fed = all_mapped (ArePositions x.size 0) (places_of b.bin) (range_with_len 0 (length b.starts)) place_fed

    by_bins : Formed bc
    by_bins = record {
      has = at.has;
      axis = record {
        name = ap is_name (sym at.name) ∙ at.formed.name;
        few = starts_few.0;
        index = record { whole = refl; range = starts_timed cal freq t.times b of_x.each held; attrs = of_x.attrs };
      };
      sized = sym lists_long;
      fed = fed_along d x (bin_lists (length b.starts) b.bin) at lists_fed;
      named = inl refl;
      labelled = λ e some. kept_labels d x at of_x.there;
    }

  pub binned : (d : List ℕ) (freq : Freq) (c : Change) → bin_change d freq axes ≡ Ok c → Formed c
  unfolding bin_change bins_along
  binned d freq c e =
      let wide = binds (unless (is_freq freq) BadArgument) (λ u. axis_found d axes >>= λ x. times_along x >>= λ t. bins_along d freq t) c e in
      let found = binds (axis_found d axes) (λ x. times_along x >>= λ t. bins_along d freq t) c wide.2 in
      let times = binds (times_along found.0) (λ t. bins_along d freq t) c found.2 in
      let held = binds (bins_of times.0.coding.units.calendar freq times.0.times) (λ (b : BinList). Ok (record { dimension = d; lists = bin_lists (length b.starts) b.bin; axis = labelled_axis d (Times times.0.coding b.starts) (length b.starts) times.0.attrs })) c times.2 in
      let at = found_at d axes found.0 found.1 all in
      let own : Change = record { dimension = d; lists = bin_lists (length held.0.starts) held.0.bin; axis = labelled_axis d (Times times.0.coding held.0.starts) (length held.0.starts) times.0.attrs } in
      subst Formed (ok_same own c held.2) (by_bins d freq found.0 times.0 at (times_found found.0 times.0 at.formed times.1) held.0 held.1)

  -- ---- windows

  least_below : (a n : ℕ) → min a n ≤ n
  least_below a n = grind arith

  window_fed : (n u v i : ℕ) → i < n → ArePositions n 0 (window n u v i)
  window_fed n u v i lt =
      let most = least_below (i + v + 1) n in
      let more : (i - u) + (min (i + v + 1) n - (i - u)) ≤ n = omega (arith, most, lt) in
      from_zero n (i - u) (min (i + v + 1) n - (i - u)) more
    where
      weaker : (n a b : ℕ) (ps : List ℕ) → b ≤ a → ArePositions n a ps → ArePositions n b ps
      weaker n a b [] le are = tt
      weaker n a b (p ∷ ps) le are = let low = are.0 in (omega (arith, low, le), are.1, are.2)

      from_zero : (n a m : ℕ) → a + m ≤ n → ArePositions n 0 (range_with_len a m)
      from_zero n a m le = weaker n a 0 (range_with_len a m) (omega arith) (range_positions n a m le)

  windows_fed : (n u v a m : ℕ) → a + m ≤ n → All (ArePositions n 0) (map (window n u v) (range_with_len a m))
  windows_fed n u v a zero le i d lt = absurd (omega (arith, lt))
  windows_fed n u v a (suc m) le zero d lt = window_fed n u v a (omega (arith, le))
  windows_fed n u v a (suc m) le (suc i) d lt = windows_fed n u v (a + 1) m (omega (arith, le)) i d (omega (arith, lt))

  pub record IsWindowed (d : List ℕ) (w : ℕ) (center : Bool) (c : Change) : Type 0 where
    pub formed : Formed c
    pub dimension : c.dimension ≡ d
    pub same : c.axis ≡ axis_called axes d
    pub lists : c.lists ≡ windows (axis_called axes d).size w center

  pub windowed : (d : List ℕ) (w : ℕ) (center : Bool) (c : Change) → window_change d w center axes ≡ Ok c → IsWindowed d w center c
  unfolding window_change
  windowed d w center c e =
      let found = binds (axis_found d axes) (λ x. unless (not (center && (w % 2 == 0))) BadArgument >>= λ u. Ok (record { dimension = d; lists = windows x.size w center; axis = x })) c e in
      let last = binds (unless (not (center && (w % 2 == 0))) BadArgument) (λ u. Ok (record { dimension = d; lists = windows found.0.size w center; axis = found.0 })) c found.2 in
      let at = found_at d axes found.0 found.1 all in
      let x : Axis = found.0 in
      let own : Change = record { dimension = d; lists = windows x.size w center; axis = x } in
      subst (IsWindowed d w center) (ok_same own c last.2) (record {
        formed = record {
          has = at.has;
          axis = at.formed;
          sized = sym (mapped_length (window x.size (before w center) (behind w center)) (range_with_len 0 x.size) ∙ range_long 0 x.size);
          fed = fed_along d x (windows x.size w center) at (windows_fed x.size (before w center) (behind w center) 0 x.size (omega arith));
          named = inl at.name;
          labelled = λ e some. kept_labels d x at some;
        };
        dimension = refl;
        same = sym at.called;
        lists = ap (λ (y : Axis). windows y.size w center) (sym at.called);
      })
