-- An array that is written out has what its node and its limits ask.
use Rattle.xr_building.proofs.Common.{All, All-cons, All-nil, AreSeen, Args, BadArgument, Bool, Held, List, Node, Ok, SizeConflict, Some, TextBytes, Value, WrongKind, [], all_of, and_parts, ap, are_distinct, argument, axis_names, bare_axes, bound, check_elements, check_entry, check_place, coords_held, dims_given, element_cell, elements, entries_given, entries_held, false, first_item, given, given_value, header_of, is_missing, is_nested, is_regular, is_some, is_truth_cell, is_whole_cell, length, length-map, list_all, list_any, map, nested_shape, not, option, or_comm, or_parts, parameters, plain_array, plain_given, plain_over, refl, required, shape_over, size, subst, suc, sym, texts_in, true, unless, with_key, zero, ℕ, ◌&&◌, ◌==◌, ◌||◌, ◌∙◌, ◌∷◌, ◌≡◌, MeantArray, Number, Sequence, Truth, AllByRecursion, IsOpenAxis, arith, is_name, NoValue, Values, With, elements_of, items, length-append, list_all-append, nat_tests, ◌*◌, ◌++◌, ◌+◌, first_passes, passes, same_value, unless_holds, AnswersArray, Axis, CallFault, DataArray, Declined, Err, Fault, FollowsArray, Frame, IsFilled, IsFrame, IsOpen, NoMemory, Option, Refused, Result, Stays, TooLarge, append-nil, array_written, check_array, check_fit, check_numbers, entries_in, fits_kind, frame_of_array, framed, limited, most_dimensions, nat_le, over, refused, with_written, ℤ, ◌>>=◌, Header}
use Rattle.xr_building.proofs.Called.{rank}
use Rattle.xr_building.proofs.Tables.{coords_same, entries_checked, entries_same}

-- ---- as many elements as the shape has points

one_element : (v : Value) → is_nested 0 v ≡ true → length (elements v) ≡ 1
unfolding elements
one_element (Sequence vs) is = absurd cc
one_element v is = refl

none : (n : ℕ) → 0 ≡ 0 * n
none n = omega arith

-- each item has so many elements
items_whole : (nested regular : Value → Bool) (n : ℕ) → ((v : Value) → nested v ≡ true → regular v ≡ true → length (elements v) ≡ n)
    → (vs : Values) → list_all nested (items vs) ≡ true → list_all regular (items vs) ≡ true → length (elements_of vs) ≡ length (items vs) * n
unfolding elements
items_whole nested regular n each NoValue deep even = none n
items_whole nested regular n each (With vs v) deep even =
    let p = and_parts (list_all nested (items vs)) (nested v && true) (sym (list_all-append nested (items vs) (v ∷ [])) ∙ deep) in
    let q = and_parts (list_all regular (items vs)) (regular v && true) (sym (list_all-append regular (items vs) (v ∷ [])) ∙ even) in
    let before = items_whole nested regular n each vs p.0 q.0 in
    let last = each v (and_parts (nested v) true p.1).0 (and_parts (regular v) true q.1).0 in
    let long : length (items vs ++ v ∷ []) ≡ length (items vs) + 1 = length-append (items vs) (v ∷ []) in
    length-append (elements_of vs) (elements v) ∙ by (length (items vs)) (length (elements_of vs)) (length (elements v)) before last ∙ ap (λ k. k * n) (sym long)
  where
    by : (k a b : ℕ) → a ≡ k * n → b ≡ n → a + b ≡ (k + 1) * n
    by k a b before last = rw (before, last) (grind arith)

-- the items of a list, nested one less
nested_items : (k : ℕ) (vs : Values) → is_nested (suc k) (Sequence vs) ≡ true → list_all (is_nested k) (items vs) ≡ true
nested_items zero vs is = is
nested_items (suc k) NoValue is = absurd cc
nested_items (suc k) (With vs v) is = is

not_nested : (k : ℕ) (v : Value) → is_nested (suc k) v ≡ true → (vs : Values) × (v ≡ Sequence vs)
not_nested k (Sequence vs) is = (vs, refl)
not_nested zero v is = absurd cc
not_nested (suc k) v is = absurd cc

pub whole : (ns : List ℕ) (v : Value) → is_nested (length ns) v ≡ true → is_regular ns v ≡ true → length (elements v) ≡ size ns
unfolding elements
whole [] v deep even = one_element v deep
whole (n ∷ ns) v deep even =
    let list = not_nested (length ns) v deep in
    by list.0 list.1 (ap (is_nested (suc (length ns))) (sym list.1) ∙ deep) (ap (is_regular (n ∷ ns)) (sym list.1) ∙ even) (λ u. whole ns u)
  where
    by : (vs : Values) → v ≡ Sequence vs → is_nested (suc (length ns)) (Sequence vs) ≡ true → is_regular (n ∷ ns) (Sequence vs) ≡ true
        → ((u : Value) → is_nested (length ns) u ≡ true → is_regular ns u ≡ true → length (elements u) ≡ size ns) → length (elements v) ≡ n * size ns
    by vs same deep even each =
        let p = and_parts (length (items vs) == n) (list_all (is_regular ns) (items vs)) even in
        let counted = p.0 in
        let count : length (items vs) ≡ n = grind (arith, nat_tests) in
        ap (λ u. length (elements u)) same ∙ items_whole (is_nested (length ns)) (is_regular ns) (size ns) each vs (nested_items (length ns) vs deep) p.1 ∙ ap (λ k. k * size ns) count

-- ---- axes without labels

pub bare_names : (dims : List (List ℕ)) (shape : List ℕ) → length dims ≡ length shape → axis_names (bare_axes dims shape) ≡ dims
bare_names [] shape long = refl
bare_names (d ∷ dims) [] long = absurd (omega arith)
bare_names (d ∷ dims) (n ∷ shape) long = ap (λ ns. d ∷ ns) (bare_names dims shape (omega arith))

pub bare_sizes : (dims : List (List ℕ)) (shape : List ℕ) → length dims ≡ length shape → shape_over (bare_axes dims shape) ≡ shape
bare_sizes [] [] long = refl
bare_sizes (d ∷ dims) (n ∷ shape) long = ap (λ ns. n ∷ ns) (bare_sizes dims shape (omega arith))
bare_sizes dims shape long = absurd (omega arith)

pub bare_open : (dims : List (List ℕ)) (shape : List ℕ) → list_all is_name dims ≡ true → AllByRecursion IsOpenAxis (bare_axes dims shape)
bare_open (d ∷ dims) (n ∷ shape) named = let p = and_parts (is_name d) (list_all is_name dims) named in (record { name = p.0; index = tt }, bare_open dims shape p.1)
bare_open dims shape named = tt

pub nested-length : (k : ℕ) (m : Value) → length (nested_shape k m) ≡ k
nested-length zero m = refl
nested-length (suc k) m = ap suc (nested-length k (first_item m))

pub bare_rank : (dims : List (List ℕ)) (m : Value) → length (bare_axes dims (nested_shape (length dims) m)) ≡ length dims
bare_rank dims m =
    let long = nested-length (length dims) m in
    sym (rank (bare_axes dims (nested_shape (length dims) m))) ∙ ap length (bare_sizes dims (nested_shape (length dims) m) (sym long)) ∙ long

seen_cell : (v : Value) → (is_whole_cell v || is_truth_cell v) ≡ true → is_missing v ≡ false → is_some (element_cell v) ≡ true
seen_cell (Number n) is there = refl
seen_cell (Truth b) is there = refl
seen_cell v is there = absurd cc

all_seen : (test : Value → Bool) → ((v : Value) → test v ≡ true → is_missing v ≡ false → is_some (element_cell v) ≡ true) → (vs : List Value) → list_all test vs ≡ true → list_any is_missing vs ≡ false → All (λ c. is_some c ≡ true) (map element_cell vs)
all_seen test each [] all none = All-nil (λ c. is_some c ≡ true)
all_seen test each (v ∷ vs) all none =
    let p = and_parts (test v) (list_all test vs) all in
    let q = or_parts (is_missing v) (list_any is_missing vs) none in
    All-cons (λ c. is_some c ≡ true) (element_cell v) (map element_cell vs) (each v p.0 q.0) (all_seen test each vs p.1 q.1)

seen_gathered : (vs : List Value) (whole truths : Bool) → list_all is_whole_cell vs ≡ whole → list_all is_truth_cell vs ≡ truths → (whole || truths) ≡ true → AreSeen (list_any is_missing vs) (map element_cell vs)
seen_gathered vs true truths w t either none = all_seen is_whole_cell (λ v is. seen_cell v (ap (λ b. b || is_truth_cell v) is)) vs w none
seen_gathered vs false true w t either none = all_seen is_truth_cell (λ v is. seen_cell v (ap (λ b. is_whole_cell v || b) is ∙ or_comm (is_whole_cell v) true)) vs t none
seen_gathered vs false false w t either none = absurd cc

dims_distinct : (d : Value) (dims : List (List ℕ)) → dims_given (Some d) ≡ Ok dims → are_distinct dims ≡ true
unfolding dims_given
dims_distinct (Sequence vs) dims is =
    let p = passes (texts_in vs) _ dims is in
    let q = first_passes (unless (are_distinct p.0 && list_all (λ n. not (length n == 0)) p.0) BadArgument) (Ok p.0) dims p.2 in
    ap are_distinct (sym (same_value (Ok p.0) p.0 dims refl q.1)) ∙ (and_parts (are_distinct p.0) _ (unless_holds _ BadArgument q.0)).0
dims_distinct v dims is = absurd cc

-- ---- what the definitions say of an array over axes without labels, and of its entries

pub record IsPlain (nodes : List Node) (kvs : List (TextBytes × Held)) (a : MeantArray) : Type 0 where
  pub checked : all_of (check_entry a.axes) (map (with_key nodes) kvs) ≡ Ok tt
  pub placed : all_of (check_place a.axes) (map (with_key nodes) kvs) ≡ Ok tt
  pub distinct : are_distinct (axis_names a.axes) ≡ true
  pub whole : length a.cells ≡ size (shape_over a.axes)
  pub seen : AreSeen a.masked a.cells

pub described : (nodes : List Node) (args : Args) (a : MeantArray) → plain_given (given nodes args) ≡ Ok a → IsPlain nodes (entries_held (coords_held args)) a
unfolding plain_given plain_over check_elements
described nodes args a told =
    let vs = passes (bound parameters (given nodes args)) _ a told in
    let content = passes (required (argument vs.0 0)) _ a vs.2 in
    let d = passes (required (argument vs.0 1)) _ a content.2 in
    let m = content.0 in
    let alike = first_passes (unless (list_all is_whole_cell (elements m) || list_all is_truth_cell (elements m)) WrongKind) _ a d.2 in
    let named = passes (dims_given (Some d.0)) _ a alike.1 in
    let dims = named.0 in
    let nested = first_passes (unless (is_nested (length dims) m) BadArgument) _ a named.2 in
    let shape = nested_shape (length dims) m in
    let axes = bare_axes dims shape in
    let es = passes (entries_given axes (given_value (argument vs.0 2))) _ a nested.1 in
    let h = passes (header_of (elements m) (option vs.0 3) (option vs.0 4)) _ a es.2 in
    let placed = first_passes (all_of (check_place axes) es.0) _ a h.2 in
    let even = first_passes (unless (is_regular shape m) SizeConflict) _ a placed.1 in
    let same = same_value (Ok (plain_array axes h.0.name h.0.kind (elements m))) (plain_array axes h.0.name h.0.kind (elements m)) a refl even.1 in
    let long = nested-length (length dims) m in
    let kvs = entries_same nodes axes es.0 (coords_held args) (ap (λ o. entries_given axes (given_value o)) (coords_same nodes args vs.0 vs.1) ∙ es.1) in
    subst (IsPlain nodes (entries_held (coords_held args))) same
    (record {
      checked = ap (all_of (check_entry axes)) (sym kvs) ∙ entries_checked axes _ es.0 es.1;
      placed = ap (all_of (check_place axes)) (sym kvs) ∙ placed.0;
      distinct = ap are_distinct (bare_names dims shape (sym long)) ∙ dims_distinct d.0 dims named.1;
      whole =
          length-map (elements m) element_cell ∙ whole shape m (ap (λ k. is_nested k m) long ∙ unless_holds _ BadArgument nested.0) (unless_holds _ SizeConflict even.0) ∙ ap size (sym (bare_sizes dims shape (sym long)));
      seen = seen_gathered (elements m) (list_all is_whole_cell (elements m)) (list_all is_truth_cell (elements m)) refl refl (unless_holds _ WrongKind alike.0);
    })

-- ---- the steps by which an array is written out come to what the definitions say

-- a call that computes nothing
pub follows_array : (nodes : List Node) (r : Result DataArray CallFault) (means : Result MeantArray Fault) → AnswersArray nodes r means → FollowsArray nodes r (refused means)
follows_array nodes (Ok a) means is = (ap refused is.0, is.1)
follows_array nodes (Err (Refused f)) means is = ap refused is
follows_array nodes (Err (Declined n)) means is = absurd is
follows_array nodes (Err NoMemory) means is = tt

-- as many dimensions as the limits allow, of as many as there were
pub fits : (declines : ℕ → Bool) (nodes : List Node) (args : Args) (a : MeantArray) → plain_given (given nodes args) ≡ Ok a → (f : Frame) → entries_in declines nodes [] (frame_of_array a) (entries_held (coords_held args)) ≡ Ok f
    → list_all (fits_kind a.kind) a.cells ≡ true → all_of check_numbers (map (with_key nodes) (entries_held (coords_held args))) ≡ Ok (tt {0}) → shape_over f.axes ≡ shape_over a.axes → array_written declines nodes args ≡ refused (limited (framed a f))
unfolding array_written check_fit unless check_array
fits declines nodes args a plain f put fit numbers same = rw (plain, put, fit, numbers) (by (nat_le (length a.axes) most_dimensions) refl)
  where
    ranked : nat_le (length (shape_over f.axes)) most_dimensions ≡ nat_le (length a.axes) most_dimensions
    ranked = ap (λ n. nat_le n most_dimensions) (ap length same ∙ rank a.axes)

    by : (b : Bool) → nat_le (length a.axes) most_dimensions ≡ b → (refused (unless b TooLarge) >>= λ u. refused (limited (framed a f))) ≡ refused (limited (framed a f))
    by true few = refl
    by false many = rw (ranked ∙ many) refl

-- entries leave the cells as they are
pub filled_after : (nodes : List Node) (kvs : List (TextBytes × Held)) (h : Header) (axes : List Axis) (cells : List (Option ℤ)) (f : Frame) → IsPlain nodes kvs (with_written h (over axes []) cells) → IsOpen h axes → (IsFrame axes [] → Stays [] (over axes []) f) → IsFilled (with_written h f cells)
filled_after nodes kvs h axes cells f is bare left =
    let stays = left (record { each = bare.each; axes_distinct = is.distinct; over = tt; distinct = ap are_distinct (append-nil (axis_names axes)) ∙ is.distinct }) in
    record { frame = stays.frame; name = bare.name; kind = bare.kind; whole = is.whole ∙ ap size (sym stays.sizes); seen = is.seen }
