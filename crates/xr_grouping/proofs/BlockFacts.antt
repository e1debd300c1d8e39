-- A dimension in blocks is as it has to be.
use Rattle.std.proofs.Common.{inl, ◌≡◌, ◌<◌, ◌≤◌, ◌+◌, ◌-◌, ◌*◌, ◌/◌, ◌||◌, ◌&&◌, not, ℕ, zero, suc, ℤ, pos, Bool, true, false, cond, List, [], ◌∷◌, length, map, get_or, Option, Some, None, is_some, option_map, option_and_then, All, Result, Ok, Err, refl, sym, ap, subst, ◌∙◌, arith}
use Rattle.std.proofs.Math.Nat.{div-le_self, div-mul-le_self}
use Rattle.std.specs.Prelude.{int_lt, nat_lt, ⊤, MatchOption}
use Rattle.std.specs.Int.{int_max, int_min}
use Rattle.std.specs.List.{AllByRecursion, list_all, range_with_len}
use Rattle.std.specs.Option.{IfSome}
use Rattle.std.proofs.lemmas.Bool.{and_parts}
use Rattle.std.proofs.lemmas.Bool.Decides.{nat_tests}
use Rattle.xr_types.specs.Names.{among, axis_names}
use Rattle.xr_types.specs.Results.{◌>>=◌, all_of, unless}
use Rattle.xr_types.specs.Kinds.{is_unsigned, wrap_to, InRange}
use Rattle.xr_types.specs.declared.axis.Axis.{Axis}
use Rattle.xr_types.specs.declared.axis.Labels.{Labels}
use Rattle.xr_types.specs.declared.axis.LabelList.{LabelList}
use Rattle.xr_types.specs.declared.axis.LabelList.TheVariants.{Numbers, Times, Texts}
use Rattle.xr_types.specs.declared.fault.Fault.{Fault}
use Rattle.xr_types.specs.declared.fault.Fault.TheVariants.{BadArgument, LabelKind}
use Rattle.xr_types.specs.declared.kind.DType.{DType}
use Rattle.xr_types.specs.declared.kind.DType.TheVariants as kinds
use Rattle.xr_types.specs.declared.operation.FoldKind.{FoldKind}
use Rattle.xr_types.specs.declared.operation.FoldKind.TheVariants.{Sum, Prod, Min, Max, First, Last, ArgMin, ArgMax, Count, Any, All as every}
use Rattle.xr_arrays.specs.FeedPositions.{block}
use Rattle.xr_arrays.specs.Folds.{folded_kind, greatest, least, numbers, of_both, present, sum_of, total_kind}
use Rattle.xr_arrays.specs.Nodes.{ArePositions}
use Rattle.xr_arrays.proofs.FeedPositions.{block_ends}
use Rattle.xr_arrays.proofs.FeedRanges.{range_positions}
use Rattle.plan_core.proofs.ElementRanges.{wrap_in}
use Rattle.xr_times.specs.Times.{IsTime}
use Rattle.xr_defs.specs.Building.{is_integer_kind}
use Rattle.xr_defs.specs.Selecting.{axis_called}
use Rattle.xr_defs.specs.Values.{label_count}
use Rattle.xr_defs.specs.WellFormed.{AreLabels, IsDimension, IsIndex}
use Rattle.xr_defs.specs.declared.grouping.BlockSize.{BlockSize}
use Rattle.xr_defs.specs.declared.value.Coord.{Coord}
use Rattle.xr_files.specs.Classic.{is_name}
use Rattle.xr_groups.specs.declared.change.Change.{Change}
use Rattle.xr_groups.specs.Blocks.{block_axis, block_labels, block_list, block_number, block_text, blocks, number_or_zero, numbers_at}
use Rattle.xr_groups.specs.Groupings.{are_numbers, axis_found, block_change, block_changes, check_labels, check_multiple, check_sums, check_there, has_sum, have_size, is_func, is_sum}
use Rattle.xr_grouping.specs.Changes.{IsChange, Stays}
use Rattle.xr_grouping.specs.Labelled.{numbers_in}
use Rattle.xr_grouping.specs.Sizes.{HasIndex}
use Rattle.xr_grouping.proofs.Facts.{found_at, IsFoundAt}
use Rattle.xr_grouping.proofs.Labelled.{greatest_is, least_is}
use Rattle.xr_grouping.proofs.Steps.{binds, mapped_length, ok_same, passed, range_long}

-- ---- as many labels as positions

pub has_index : (x : Axis) → IsDimension x → HasIndex x
has_index x is = by x.labels is.index
  where
    by : (o : Option Labels) → MatchOption o ⊤ (IsIndex x.size) → MatchOption o ⊤ (λ l. label_count l.list ≡ x.size)
    by None i = tt
    by (Some l) i = i.whole

pub index_long : (x : Axis) (w : ℕ) → 0 < w → HasIndex x → MatchOption x.labels ⊤ (λ l. x.size / w * w ≤ label_count l.list)
index_long x w some has = by x.labels has
  where
    within : x.size / w * w ≤ x.size
    within = div-mul-le_self x.size w

    by : (o : Option Labels) → MatchOption o ⊤ (λ l. label_count l.list ≡ x.size) → MatchOption o ⊤ (λ l. x.size / w * w ≤ label_count l.list)
    by None i = tt
    by (Some l) i = let here = within in omega (arith, here, i)

-- ---- blocks of positions

module _ (n w : ℕ) (some : 0 < w) where
  within : n / w * w ≤ n
  within = div-mul-le_self n w

  few : n / w ≤ n
  few = div-le_self n w

  weaker : (a b : ℕ) (ps : List ℕ) → b ≤ a → ArePositions n a ps → ArePositions n b ps
  weaker a b [] le are = tt
  weaker a b (p ∷ ps) le are = let low = are.0 in (omega (arith, low, le), are.1, are.2)

  -- each is within the axis, and has a position
  abbrev pub IsInside : List ℕ → Type 0
  IsInside ps = ArePositions n 0 ps × (0 < length ps)

  one_block : (i : ℕ) → i < n / w → IsInside (block w i)
  one_block i lt =
      let ends = block_ends (n / w) w i lt in
      let here = within in
      let long = range_long (i * w) w in
      (weaker (i * w) 0 (block w i) (omega arith) (range_positions n (i * w) w (omega (arith, ends, here))), omega (arith, long, some))

  inside_from : (a m : ℕ) → a + m ≤ n / w → AllByRecursion IsInside (map (block w) (range_with_len a m))
  inside_from a zero le = tt
  inside_from a (suc m) le = (one_block a (omega (arith, le)), inside_from (a + 1) m (omega (arith, le)))

  pub inside : AllByRecursion IsInside (blocks n w)
  inside = inside_from 0 (n / w) (omega arith)

  pub blocks_long : length (blocks n w) ≡ n / w
  blocks_long = mapped_length (block w) (range_with_len 0 (n / w)) ∙ range_long 0 (n / w)

all_parts : (P : List ℕ → Type 0) (Q : List ℕ → Type 0) → ((ps : List ℕ) → P ps → Q ps) → (lists : List (List ℕ)) → AllByRecursion P lists → All Q lists
all_parts P Q gives [] all i y lt = absurd (omega arith)
all_parts P Q gives (ps ∷ lists) all zero y lt = gives ps all.0
all_parts P Q gives (ps ∷ lists) all (suc i) y lt = all_parts P Q gives lists all.1 i y (omega (arith, lt))

-- ---- labels

module _ (P : ℤ → Type 0) where
  best_of : (f : ℤ → ℤ → ℤ) → ((x y : ℤ) → P x → P y → P (f x y)) → (x : ℤ) (o : Option ℤ) → P x → IfSome o P → IfSome (of_both f (Some x) o) P
  best_of f gives x None one rest = one
  best_of f gives x (Some y) one rest = gives x y one rest

  chosen : (b : Bool) (x y : ℤ) → P x → P y → P (cond b x y)
  chosen true x y one other = one
  chosen false x y one other = other

  least_holds : (xs : List ℤ) → AllByRecursion P xs → IfSome (least xs) P
  least_holds [] all = tt
  least_holds (x ∷ xs) all = best_of int_min (λ a b one other. chosen (int_lt b a) b a other one) x (least xs) all.0 (least_holds xs all.1)

  greatest_holds : (xs : List ℤ) → AllByRecursion P xs → IfSome (greatest xs) P
  greatest_holds [] all = tt
  greatest_holds (x ∷ xs) all = best_of int_max (λ a b one other. chosen (int_lt b a) a b one other) x (greatest xs) all.0 (greatest_holds xs all.1)

  found_both : (f : ℤ → ℤ → ℤ) (x : ℤ) (o : Option ℤ) → IfSome (of_both f (Some x) o) P → P (number_or_zero (of_both f (Some x) o))
  found_both f x None is = is
  found_both f x (Some y) is = is

  at_positions : (ns : List ℤ) (n from : ℕ) (ps : List ℕ) → length ns ≡ n → All P ns → ArePositions n from ps → AllByRecursion P (numbers_in ns ps)
  at_positions ns n from [] long all are = tt
  at_positions ns n from (p ∷ ps) long all are = let below = are.1 in (all p (pos 0) (omega (arith, below, long)), at_positions ns n (suc p) ps long all are.2)

  least_label : (t : DType) (ns : List ℤ) (n : ℕ) (ps : List ℕ) → length ns ≡ n → All P ns → ArePositions n 0 ps → 0 < length ps → P (block_number Min t ns ps)
  least_label t ns n [] long all are some = absurd (omega (arith, some))
  least_label t ns n (p ∷ ps) long all are some =
      subst P (least_is t ns (p ∷ ps)) (found_both int_min (get_or ns p (pos 0)) (least (numbers_in ns ps)) (least_holds (numbers_in ns (p ∷ ps)) (at_positions ns n 0 (p ∷ ps) long all are)))

  greatest_label : (t : DType) (ns : List ℤ) (n : ℕ) (ps : List ℕ) → length ns ≡ n → All P ns → ArePositions n 0 ps → 0 < length ps → P (block_number Max t ns ps)
  greatest_label t ns n [] long all are some = absurd (omega (arith, some))
  greatest_label t ns n (p ∷ ps) long all are some =
      subst P (greatest_is t ns (p ∷ ps)) (found_both int_max (get_or ns p (pos 0)) (greatest (numbers_in ns ps)) (greatest_holds (numbers_in ns (p ∷ ps)) (at_positions ns n 0 (p ∷ ps) long all are)))

all_labels : (P : ℤ → Type 0) (Q : List ℕ → Type 0) (f : List ℕ → ℤ) → ((ps : List ℕ) → Q ps → P (f ps)) → (lists : List (List ℕ)) → AllByRecursion Q lists → All P (map f lists)
all_labels P Q f gives [] all i y lt = absurd (omega arith)
all_labels P Q f gives (ps ∷ lists) all zero y lt = gives ps all.0
all_labels P Q f gives (ps ∷ lists) all (suc i) y lt = all_labels P Q f gives lists all.1 i y (omega (arith, lt))

total_is : (t : DType) → is_integer_kind (total_kind t) ≡ true
total_is t = by (is_unsigned t)
  where
    by : (b : Bool) → is_integer_kind (cond b kinds.UInt64 kinds.Int64) ≡ true
    by true = refl
    by false = refl

module _ (n w : ℕ) (some : 0 < w) where
  abbrev lists : List (List ℕ)
  lists = blocks n w

  are_labels : (k : FoldKind) (list : LabelList) → is_func (Some k) ≡ true → (not (is_sum (Some k)) || are_numbers list) ≡ true → label_count list ≡ n → AreLabels list → AreLabels (block_list k lists list)
  are_labels Min (Numbers kind ns) func sums long range = (range.0, all_labels (InRange kind) (IsInside n w some) (block_number Min kind ns) (λ ps is. least_label (InRange kind) kind ns n ps long range.1 is.0 is.1) lists (inside n w some))
  are_labels Max (Numbers kind ns) func sums long range = (range.0, all_labels (InRange kind) (IsInside n w some) (block_number Max kind ns) (λ ps is. greatest_label (InRange kind) kind ns n ps long range.1 is.0 is.1) lists (inside n w some))
  are_labels Sum (Numbers kind ns) func sums long range = (total_is kind, all_labels (InRange (total_kind kind)) (IsInside n w some) (block_number Sum kind ns) (λ ps is. wrap_in (total_kind kind) (sum_of (numbers (present (numbers_at ns ps))))) lists (inside n w some))
  are_labels Min (Times coding ts) func sums long range = all_labels (IsTime coding.units.calendar) (IsInside n w some) (block_number Min kinds.Int64 ts) (λ ps is. least_label (IsTime coding.units.calendar) kinds.Int64 ts n ps long range is.0 is.1) lists (inside n w some)
  are_labels Max (Times coding ts) func sums long range = all_labels (IsTime coding.units.calendar) (IsInside n w some) (block_number Max kinds.Int64 ts) (λ ps is. greatest_label (IsTime coding.units.calendar) kinds.Int64 ts n ps long range is.0 is.1) lists (inside n w some)
  are_labels Sum (Times coding ts) func sums long range = absurd cc
  are_labels Min (Texts ts) func sums long range = tt
  are_labels Max (Texts ts) func sums long range = tt
  are_labels Sum (Texts ts) func sums long range = tt
  are_labels Prod list func sums long range = absurd cc
  are_labels First list func sums long range = absurd cc
  are_labels Last list func sums long range = absurd cc
  are_labels ArgMin list func sums long range = absurd cc
  are_labels ArgMax list func sums long range = absurd cc
  are_labels Count list func sums long range = absurd cc
  are_labels Any list func sums long range = absurd cc
  are_labels every list func sums long range = absurd cc

  as_many : (k : FoldKind) (list : LabelList) → label_count (block_list k lists list) ≡ n / w
  as_many k (Numbers kind ns) = mapped_length (block_number k kind ns) lists ∙ blocks_long n w some
  as_many k (Times coding ts) = mapped_length (block_number k kinds.Int64 ts) lists ∙ blocks_long n w some
  as_many k (Texts ts) = mapped_length (block_text k ts) lists ∙ blocks_long n w some

  -- a sum of numbers
  index_of : (x : Axis) (how : Option FoldKind) → x.size ≡ n → is_func how ≡ true → (not (is_sum how) || has_sum x) ≡ true → MatchOption x.labels ⊤ (IsIndex x.size) → MatchOption (option_and_then (block_labels how lists) x.labels) ⊤ (IsIndex (n / w))
  index_of x how es func sums is = by how x.labels func sums is
    where
      by : (how : Option FoldKind) (o : Option Labels) → is_func how ≡ true → (not (is_sum how) || elim o [ None ↦ true | Some l ↦ are_numbers l.list ]) ≡ true → MatchOption o ⊤ (IsIndex x.size) → MatchOption (option_and_then (block_labels how lists) o) ⊤ (IsIndex (n / w))
      by how None func sums is = tt
      by None (Some l) func sums is = tt
      by (Some k) (Some l) func sums is = record { whole = as_many k l.list; range = are_labels k l.list func sums (is.whole ∙ es) is.range; attrs = is.attrs }

labels_there : (how : Option FoldKind) (lists : List (List ℕ)) (o : Option Labels) → is_some (option_and_then (block_labels how lists) o) ≡ true → is_some o ≡ true
labels_there how lists None e = absurd cc
labels_there how lists (Some l) e = refl

-- ---- a dimension

abbrev IsChecked : {K : Type 0} → (K → Result (Unit {0}) Fault) → K → Type 0
IsChecked check k = (u : Unit {0}) × (check k ≡ Ok u)

each_of : {K : Type 0} (check : K → Result (Unit {0}) Fault) (ks : List K) (u : Unit {0}) → all_of check ks ≡ Ok u → AllByRecursion (IsChecked check) ks
each_of check [] u e = tt
each_of check (k ∷ ks) u e = let first = binds (check k) (λ v. all_of check ks) u e in ((first.0, first.1), each_of check ks u first.2)

module _ (axes : List Axis) (coords : List Coord) (others : List (List ℕ)) (all : AllByRecursion IsDimension axes) (how : Option FoldKind) (func : is_func how ≡ true) where
  abbrev pub IsBlocked : Change → Type 0
  IsBlocked c = IsChange axes coords others c × Stays axes c

  one : (b : BlockSize) → 0 < b.size → IsChecked (check_there axes) b → IsChecked (check_sums how axes) b → IsBlocked (block_change how axes b)
  unfolding check_there check_sums
  one b some there sums =
      let found = binds (axis_found b.dimension axes) (λ x. Ok tt) there.0 there.1 in
      let at = found_at b.dimension axes found.0 found.1 all in
      let x : Axis = axis_called axes b.dimension in
      let is : IsDimension x = subst IsDimension (sym at.called) at.formed in
      let named : x.name ≡ b.dimension = ap (λ (y : Axis). y.name) at.called ∙ at.name in
      let summed = passed (not (is_sum how) || has_sum x) LabelKind sums.0 sums.1 in
      let small = few x.size b.size some in
      let most = is.few in
      let axis : IsDimension (block_axis how b.size x) = record { name = is.name; few = omega (arith, small, most); index = index_of x.size b.size some x how refl func summed is.index } in
      let fed = all_parts (IsInside x.size b.size some) (ArePositions x.size 0) (λ ps i. i.0) (blocks x.size b.size) (inside x.size b.size some) in (
        record { has = at.has; axis = axis; sized = sym (blocks_long x.size b.size some); fed = fed; named = inl named; labelled = λ e there. labels_there how (blocks x.size b.size) x.labels there },
        record { axis = axis; name = named; sized = sym (blocks_long x.size b.size some); fed = fed; full = all_parts (IsInside x.size b.size some) (λ ps. 0 < length ps) (λ ps i. i.1) (blocks x.size b.size) (inside x.size b.size some) },
      )

  each : (sizes : List BlockSize) → have_size sizes ≡ true → AllByRecursion (IsChecked (check_there axes)) sizes → AllByRecursion (IsChecked (check_sums how axes)) sizes → AllByRecursion IsBlocked (map (block_change how axes) sizes)
  each [] sized there sums = tt
  each (b ∷ bs) sized there sums =
      let parts = and_parts (nat_lt 0 b.size) (have_size bs) sized in
      let first = parts.0 in
      (one b (grind (arith, nat_tests, first)) there.0 sums.0, each bs parts.1 there.1 sums.1)

pub blocked : (axes : List Axis) (coords : List Coord) (others : List (List ℕ)) → AllByRecursion IsDimension axes → (sizes : List BlockSize) (trim : Bool) (how : Option FoldKind) (cs : List Change) → block_changes sizes trim how axes ≡ Ok cs
    → AllByRecursion (λ c. IsChange axes coords others c × Stays axes c) cs
unfolding block_changes
blocked axes coords others all sizes trim how cs e =
    let made : List Change = map (block_change how axes) sizes in
    let first = binds (unless (is_func how && have_size sizes) BadArgument) (λ t. all_of (check_there axes) sizes >>= λ u. all_of (check_multiple trim axes) sizes >>= λ v. all_of (check_labels how axes) sizes >>= λ w. all_of (check_sums how axes) sizes >>= λ x. Ok made) cs e in
    let there = binds (all_of (check_there axes) sizes) (λ u. all_of (check_multiple trim axes) sizes >>= λ v. all_of (check_labels how axes) sizes >>= λ w. all_of (check_sums how axes) sizes >>= λ x. Ok made) cs first.2 in
    let multiple = binds (all_of (check_multiple trim axes) sizes) (λ v. all_of (check_labels how axes) sizes >>= λ w. all_of (check_sums how axes) sizes >>= λ x. Ok made) cs there.2 in
    let labels = binds (all_of (check_labels how axes) sizes) (λ w. all_of (check_sums how axes) sizes >>= λ x. Ok made) cs multiple.2 in
    let sums = binds (all_of (check_sums how axes) sizes) (λ x. Ok made) cs labels.2 in
    let tests = and_parts (is_func how) (have_size sizes) (passed (is_func how && have_size sizes) BadArgument first.0 first.1) in
    subst (AllByRecursion (λ c. IsChange axes coords others c × Stays axes c)) (ok_same made cs sums.2)
    (each axes coords others all how tests.0 sizes tests.1 (each_of (check_there axes) sizes there.0 there.1) (each_of (check_sums how axes) sizes sums.0 sums.1))
