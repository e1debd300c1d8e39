-- Axes and coordinates stay as they have to be while entries are put in.
use Rattle.xr_building.proofs.Common.{All, All-cons, All-head, All-nil, All-tail, AllByRecursion, AreAttributes, AreCells, AreLabels, Array, Axis, Bool, Coord, DoesNotFit, DuplicateName, Err, Fault, Frame, Held, IfOk, IsCell, IsCoordinate, IsDataArray, IsEntryIn, IsFrame, IsIndex, IsLayerIn, IsOpenAxis, IsThere, IsValueIn, LabelList, Labels, List, NoDimension, Node, Number, Numbers, Ok, Result, Sequence, SizeConflict, Some, Stays, Text, TextBytes, Texts, Value, Value-F, WrongKind, [], absent_both, absent_left, absent_parts, all_of, among, and_parts, ap, append-nil, are_distinct, arith, as_labels, axis_called, axis_names, both_hold, bytes_eq, bytes_eq_swap, called_holds, check_axis, check_coordinate, check_entry, check_labels, check_numbers, check_place, computed, cond, cond_both, coord_kept, coord_relabelled, coordinate_given, distinct_cons, distinct_parts, each_map, entries_in, entry_in, false, frame_labelled, if◌then◌else◌, in_range, is_dimension, is_integer_kind, is_name, is_number, is_some, is_text, is_there, kept_absent, label_count, label_total, labelled, labels_given, layer, length, length-map, list_all, map, map-map, meaning, meaning_out, name_called, names_kept, neither, not, not-true, numbers_in, or_parts, out-Value, over, over_called, own_axes, refl, refused, relabelled, same_text, shape_over, sizes_kept, subst, sym, texts_in, true, unless, value_out, with_coord, with_coordinate, with_entry, with_key, with_labels, ℕ, ℤ, ⊤, ◌++◌, ◌==◌, ◌>>=◌, ◌∙◌, ◌∷◌, ◌≡◌, array_of, Int64, MeantTimes, LayerArray, LayerTimes, ContentCells, coord_names as names_of, each_value as all_values, Times, label_numbers as labels_of, unless_holds, passes, first_passes, not_refused, equal}
use Rattle.xr_building.proofs.After.{label_name, label_size}
use Rattle.xr_building.proofs.Names.{absent_behind}
use Rattle.xr_building.proofs.Called.{dimension_named}
use Rattle.xr_building.proofs.Fitting.{fits_in_range, fit_in_range, present_in}

-- ---- labels of one axis

module _ (name : List ℕ) (l : Labels) where
  pub axes_on : (axes : List Axis) → axis_names (map (relabelled name l) axes) ≡ axis_names axes
  axes_on = names_kept (relabelled name l) (label_name name l) (label_size name l)

  pub names_on : (coords : List Coord) → names_of (map (coord_relabelled name l) coords) ≡ names_of coords
  names_on = map-map (λ (c : Coord). c.name) (coord_relabelled name l)

  open_on : (axes : List Axis) → IsIndex (axis_called axes name).size l → (x : Axis) → IsOpenAxis x → IsThere axes x → IsOpenAxis (relabelled name l x)
  open_on axes index x is there =
      cond_both (bytes_eq x.name name) (record x { labels = Some l }) x IsOpenAxis
      (λ same. record { name = is.name; index = subst (λ (y : Axis). IsIndex y.size l) (ap (axis_called axes) (sym (same_text x.name name same)) ∙ there.1) index }) (λ other. is)

  pub index_frame : (axes : List Axis) (coords : List Coord) → IsIndex (axis_called axes name).size l → IsFrame axes coords → IsFrame (map (relabelled name l) axes) (map (coord_relabelled name l) coords)
  index_frame axes coords index is =
      record {
        each =
            each_map (λ x. IsOpenAxis (relabelled name l x)) IsOpenAxis (relabelled name l) axes (λ x is. is)
            (both_hold IsOpenAxis (IsThere axes) (λ x. IsOpenAxis (relabelled name l x)) axes (open_on axes index) is.each (own_axes axes is.axes_distinct));
        axes_distinct = ap are_distinct (axes_on axes) ∙ is.axes_distinct;
        over =
            each_map (IsCoordinate axes) (IsCoordinate (map (relabelled name l) axes)) (coord_relabelled name l) coords (coord_kept (relabelled name l) (label_name name l) (label_size name l) axes) is.over;
        distinct = ap (λ ns. are_distinct (ns ++ names_of (map (coord_relabelled name l) coords))) (axes_on axes) ∙ ap (λ ns. are_distinct (axis_names axes ++ ns)) (names_on coords) ∙ is.distinct;
      }

-- ---- a coordinate in the place of one of its name, or at the end

module _ (d : Coord) where
  all_with : (P : Coord → Type 0) (coords : List Coord) → P d → AllByRecursion P coords → AllByRecursion P (with_coord coords d)
  all_with P [] one all = (one, tt)
  all_with P (c ∷ coords) one all =
      cond_both (bytes_eq c.name d.name) (d ∷ coords) (c ∷ with_coord coords d) (AllByRecursion P) (λ same. (one, all.1)) (λ other. (all.0, all_with P coords one all.1))

  -- with names behind
  absent_with : (ys : List (List ℕ)) (n : List ℕ) → bytes_eq n d.name ≡ false → (coords : List Coord) → among (names_of coords ++ ys) n ≡ false → among (names_of (with_coord coords d) ++ ys) n ≡ false
  absent_with ys n other [] absent = neither (bytes_eq n d.name) (among ys n) other absent
  absent_with ys n other (c ∷ coords) absent =
      let parts = or_parts (bytes_eq n c.name) (among (names_of coords ++ ys) n) absent in
      cond_both (bytes_eq c.name d.name) (d ∷ coords) (c ∷ with_coord coords d) (λ cs. among (names_of cs ++ ys) n ≡ false) (λ same. neither (bytes_eq n d.name) (among (names_of coords ++ ys) n) other parts.1)
      (λ differ. neither (bytes_eq n c.name) (among (names_of (with_coord coords d) ++ ys) n) parts.0 (absent_with ys n other coords parts.1))

  distinct_with : (ys : List (List ℕ)) → among ys d.name ≡ false → (coords : List Coord) → are_distinct (names_of coords ++ ys) ≡ true → are_distinct (names_of (with_coord coords d) ++ ys) ≡ true
  distinct_with ys absent [] all = distinct_cons d.name ys absent all
  distinct_with ys absent (c ∷ coords) all =
      let parts = distinct_parts c.name (names_of coords ++ ys) all in
      cond_both (bytes_eq c.name d.name) (d ∷ coords) (c ∷ with_coord coords d) (λ cs. are_distinct (names_of cs ++ ys) ≡ true)
      (λ same. ap (λ n. are_distinct (n ∷ names_of coords ++ ys)) (sym (same_text c.name d.name same)) ∙ all)
      (λ other. distinct_cons c.name (names_of (with_coord coords d) ++ ys) (absent_with ys c.name other coords parts.0) (distinct_with ys absent coords parts.1))

  -- and with names before
  named_apart : (xs ys : List (List ℕ)) (coords : List Coord) → among xs d.name ≡ false → among ys d.name ≡ false → are_distinct (xs ++ (names_of coords ++ ys)) ≡ true → are_distinct (xs ++ (names_of (with_coord coords d) ++ ys)) ≡ true
  named_apart [] ys coords before behind all = distinct_with ys behind coords all
  named_apart (x ∷ xs) ys coords before behind all =
      let parts = distinct_parts x (xs ++ (names_of coords ++ ys)) all in
      let lacks = or_parts (bytes_eq d.name x) (among xs d.name) before in
      let absent = absent_parts xs (names_of coords ++ ys) x parts.0 in
      distinct_cons x (xs ++ (names_of (with_coord coords d) ++ ys)) (absent_both xs (names_of (with_coord coords d) ++ ys) x absent.0 (absent_with ys x (bytes_eq_swap x d.name ∙ lacks.0) coords absent.1))
      (named_apart xs ys coords lacks.1 behind parts.1)

  pub coord_frame : (axes : List Axis) (coords : List Coord) → is_dimension axes d.name ≡ false → IsCoordinate axes d → IsFrame axes coords → IsFrame axes (with_coord coords d)
  coord_frame axes coords other one is =
      record {
        each = is.each;
        axes_distinct = is.axes_distinct;
        over = all_with (IsCoordinate axes) coords one is.over;
        distinct =
            ap (λ ns. are_distinct (axis_names axes ++ ns)) (sym (append-nil (names_of (with_coord coords d))))
            ∙ named_apart (axis_names axes) [] coords (sym (dimension_named axes d.name) ∙ other) refl (ap (λ ns. are_distinct (axis_names axes ++ ns)) (append-nil (names_of coords)) ∙ is.distinct);
      }

-- ---- the names of indexes, coordinates and variables

abbrev has_labels : Axis → Bool
has_labels x = is_some x.labels

-- what stands behind an axis that has labels isn't named so
behind_labels : (x : Axis) (xs : List Axis) (ns : List (List ℕ)) (b : Bool) → are_distinct (axis_names (cond b (x ∷ labelled xs) (labelled xs)) ++ ns) ≡ true
    → (b ≡ true → among ns x.name ≡ false) × (are_distinct (axis_names (labelled xs) ++ ns) ≡ true)
behind_labels x xs ns true all = let p = distinct_parts x.name (axis_names (labelled xs) ++ ns) all in (λ e. (absent_parts (axis_names (labelled xs)) ns x.name p.0).1, p.1)
behind_labels x xs ns false all = (λ e. absurd cc, all)

labelled_apart : (name : List ℕ) (l : Labels) (ns : List (List ℕ)) → among ns name ≡ false → (axes : List Axis) → are_distinct (axis_names axes) ≡ true → are_distinct (axis_names (labelled axes) ++ ns) ≡ true
    → are_distinct (axis_names (labelled (map (relabelled name l) axes)) ++ ns) ≡ true
labelled_apart name l ns absent [] distinct all = all
labelled_apart name l ns absent (x ∷ xs) distinct all =
    let parts = distinct_parts x.name (axis_names xs) distinct in
    let kept = behind_labels x xs ns (is_some x.labels) all in
    let others = map (relabelled name l) xs in
    let rest = labelled_apart name l ns absent xs parts.1 kept.1 in
    let first = λ (none : among ns x.name ≡ false).
    distinct_cons x.name (axis_names (labelled others) ++ ns) (kept_absent has_labels others ns x.name (absent_both (axis_names others) ns x.name (ap (λ ms. among ms x.name) (axes_on name l xs) ∙ parts.0) none)) rest in
    cond_both (bytes_eq x.name name) (record x { labels = Some l }) x (λ (y : Axis). are_distinct (axis_names (cond (is_some y.labels) (y ∷ labelled others) (labelled others)) ++ ns) ≡ true)
    (λ same. first (ap (among ns) (same_text x.name name same) ∙ absent))
    (λ other. cond_both (is_some x.labels) (x ∷ labelled others) (labelled others) (λ ys. are_distinct (axis_names ys ++ ns) ≡ true) (λ has. first (kept.0 has)) (λ none. rest))

-- ---- an array and times that are given are as they have to be

abbrev pub IsWhole : Value → Type 0
IsWhole (Array a) = IsDataArray a
IsWhole (MeantTimes coding ts) = AreLabels (Times coding ts)
IsWhole v = ⊤

whole_layer : (nodes : List Node) (x : Value-F Held) → IsLayerIn nodes x → IsWhole (layer nodes x)
whole_layer nodes (LayerArray a) is = is.formed
whole_layer nodes (LayerTimes coding times) is = is
whole_layer nodes x is = tt

whole_in : (nodes : List Node) (v : Held) → IsValueIn nodes v → IsWhole (meaning nodes v)
whole_in nodes v is = subst IsWhole (sym (meaning_out nodes v)) (whole_layer nodes (out-Value v) (value_out nodes v is))

-- ---- what an entry gives

no_attrs : AreAttributes []
no_attrs = record { each = tt; distinct = refl }

count_is : (l : LabelList) → length (labels_of l) ≡ label_count l
count_is (Numbers k ns) = length-map ns _
count_is (Times coding ts) = length-map ts _
count_is (Texts ts) = length-map ts _

abbrev Ready : Labels → Type 0
Ready l = AreLabels l.list × AreAttributes l.attrs

given_index : (name : List ℕ) (v : Value) → IsWhole v → check_labels name v ≡ Ok tt → check_numbers (name, v) ≡ Ok tt → IfOk (labels_given v) Ready
unfolding as_labels check_labels check_numbers
given_index name (Array a) whole is fit =
    ((unless_holds (is_integer_kind a.kind) WrongKind (first_passes (unless (is_integer_kind a.kind) WrongKind) _ tt is).0, present_in a.kind a.cells whole.cells.range), whole.attrs)
given_index name (Sequence vs) whole is fit = by (all_values is_number vs) (all_values is_text vs) (texts_in vs)
  where
    by : (p t : Bool) (r : Result (List (List ℕ)) Fault) → IfOk ((if p then Ok (Numbers Int64 (numbers_in vs)) else if t then (r >>= λ ts. Ok (Texts ts)) else Err WrongKind) >>= λ l. Ok (record { list = l; attrs = [] })) Ready
    by true t r = ((refl, fit_in_range Int64 (numbers_in vs) (unless_holds _ DoesNotFit fit)), no_attrs)
    by false true (Ok ts) = (tt, no_attrs)
    by n t r = tt
given_index name (MeantTimes coding times) whole is fit = (whole, no_attrs)
given_index name v whole is fit = tt

-- ---- a coordinate

called_shape : (axes xs : List Axis) → all_of (check_axis axes) xs ≡ Ok tt → shape_over (map (λ (x : Axis). axis_called axes x.name) xs) ≡ shape_over xs
unfolding check_axis
called_shape axes [] all = refl
called_shape axes (x ∷ xs) all =
    let p = first_passes (check_axis axes x) (all_of (check_axis axes) xs) tt all in
    let q = first_passes (unless (x.size == (axis_called axes x.name).size) SizeConflict) _ tt p.0 in
    ap (λ n. n ∷ shape_over (map (λ (x : Axis). axis_called axes x.name) xs)) (sym (equal x.size (axis_called axes x.name).size (unless_holds _ SizeConflict q.0)))
    ∙ ap (λ ns. x.size ∷ ns) (called_shape axes xs p.1)

all_there : (axes xs : List Axis) → all_of (is_there axes) xs ≡ Ok tt → AllByRecursion (λ (x : Axis). among (axis_names axes) x.name ≡ true) xs
all_there axes [] all = tt
all_there axes (x ∷ xs) all =
    let p = first_passes (is_there axes x) (all_of (is_there axes) xs) tt all in
    (sym (dimension_named axes x.name) ∙ unless_holds (is_dimension axes x.name) (NoDimension x.name) p.0, all_there axes xs p.1)

called_names : (axes xs : List Axis) → AllByRecursion (λ (x : Axis). among (axis_names axes) x.name ≡ true) xs → axis_names (map (λ (x : Axis). axis_called axes x.name) xs) ≡ axis_names xs
called_names axes [] all = refl
called_names axes (x ∷ xs) all = ap (λ n. n ∷ axis_names (map (λ (x : Axis). axis_called axes x.name) xs)) (name_called axes x.name all.0) ∙ ap (λ ns. x.name ∷ ns) (called_names axes xs all.1)

number_cells : (n : ℤ) → in_range Int64 n ≡ true → AreCells [] Int64 false (Some n ∷ [])
number_cells n fit =
    record {
      whole = refl;
      range = All-cons (IsCell Int64) (Some n) [] (fits_in_range Int64 n fit) (All-nil (IsCell Int64));
      seen = λ bare. All-cons (λ c. is_some c ≡ true) (Some n) [] refl (All-nil (λ c. is_some c ≡ true));
      low_rank = omega arith;
      few = omega arith;
    }

abbrev Named : List Axis → List ℕ → Coord → Type 0
Named axes name c = IsCoordinate axes c × (c.name ≡ name)

given_coordinate : (axes : List Axis) (name : List ℕ) (v : Value) → are_distinct (axis_names axes) ≡ true → IsWhole v → is_name name ≡ true → check_place axes (name, v) ≡ Ok tt → check_numbers (name, v) ≡ Ok tt → IfOk (coordinate_given axes name v) (Named axes name)
unfolding check_place check_numbers coordinate_given
given_coordinate axes name (Number n) distinct whole named place fit =
    (record { name = named; over = tt; distinct = refl; attrs = no_attrs; content = (refl, number_cells n (unless_holds (in_range Int64 n) DoesNotFit fit)) }, refl)
given_coordinate axes name (Text t) distinct whole named place fit = (record { name = named; over = tt; distinct = refl; attrs = no_attrs; content = refl }, refl)
given_coordinate axes name (Array a) distinct whole named place fit = by (all_of (check_axis axes) a.axes) refl
  where
    by : (r : Result (Unit {0}) Fault) → all_of (check_axis axes) a.axes ≡ r
        → IfOk (r >>= λ u. Ok (over_called axes (record { name = name; axes = a.axes; attrs = a.attrs; content = ContentCells (array_of a) a.masked }))) (Named axes name)
    by (Err e) fits = tt
    by (Ok u) fits =
        let shape = sym (called_shape axes a.axes fits) in
        let there = all_there axes a.axes place in (
          record {
            name = named;
            over = each_map (λ (x : Axis). among (axis_names axes) x.name ≡ true) (IsThere axes) (λ (x : Axis). axis_called axes x.name) a.axes (λ x has. (called_holds (IsThere axes) x.name axes (own_axes axes distinct) has).0) there;
            distinct = ap are_distinct (called_names axes a.axes there) ∙ whole.axes.distinct;
            attrs = whole.attrs;
            content = (shape, subst (λ s. AreCells s a.kind a.masked a.cells) shape whole.cells);
          },
          refl,
        )
given_coordinate axes name v distinct whole named place fit = tt

-- ---- an entry

entry_frame : (variables : List (List ℕ)) (f g : Frame) (kv : List ℕ × Value) → IsWhole kv.1 → is_name kv.0 ≡ true → check_entry f.axes kv ≡ Ok tt → check_place f.axes kv ≡ Ok tt → check_numbers kv ≡ Ok tt → with_entry variables f kv ≡ Ok g → IsFrame f.axes f.coords → Stays variables f g
unfolding check_entry with_entry with_labels with_coordinate
entry_frame variables f g kv whole named is place fit told frame =
    let put = passes (if is_dimension f.axes kv.0 then with_labels f kv.0 kv.1 else with_coordinate f kv.0 kv.1) _ g told in
    let free = first_passes (unless (not (among variables kv.0)) DuplicateName) _ g put.2 in
    by (is_dimension f.axes kv.0) refl is (put.1 ∙ free.1) (not-true (among variables kv.0) (unless_holds (not (among variables kv.0)) DuplicateName free.0))
  where
    by : (b : Bool) → is_dimension f.axes kv.0 ≡ b → (if b then check_labels kv.0 kv.1 else check_coordinate kv.1) ≡ Ok tt → (if b then with_labels f kv.0 kv.1 else with_coordinate f kv.0 kv.1) ≡ Ok g → among variables kv.0 ≡ false → Stays variables f g
    by true there checked told untaken =
        let given = passes (labels_given kv.1) _ g told in
        let l = given.0 in
        let ready : Ready l = subst (λ r. IfOk r Ready) given.1 (given_index kv.0 kv.1 whole checked fit) in
        let p = first_passes (unless (label_total l.list == (axis_called f.axes kv.0).size) SizeConflict) _ g given.2 in
        let long = equal (label_total l.list) (axis_called f.axes kv.0).size (unless_holds _ SizeConflict p.0) in
        let same : frame_labelled f kv.0 l ≡ g = let q = p.1 in cc in
        let absent = absent_both (names_of f.coords) variables kv.0 (absent_behind (axis_names f.axes) (names_of f.coords) kv.0 frame.distinct (sym (dimension_named f.axes kv.0) ∙ there)) untaken in
        subst (Stays variables f) same
        (record {
          frame = index_frame kv.0 l f.axes f.coords (record { whole = sym (count_is l.list) ∙ long; range = ready.0; attrs = ready.1 }) frame;
          names = axes_on kv.0 l f.axes;
          sizes = sizes_kept (relabelled kv.0 l) (label_name kv.0 l) (label_size kv.0 l) f.axes;
          apart = λ all. ap (λ ns. are_distinct (axis_names (labelled (map (relabelled kv.0 l) f.axes)) ++ (ns ++ variables))) (names_on kv.0 l f.coords) ∙ labelled_apart kv.0 l (names_of f.coords ++ variables) absent f.axes frame.axes_distinct all;
        })
    by false other checked told untaken =
        let given = passes (coordinate_given f.axes kv.0 kv.1) _ g told in
        let c = given.0 in
        let one : Named f.axes kv.0 c = subst (λ r. IfOk r (Named f.axes kv.0)) given.1 (given_coordinate f.axes kv.0 kv.1 frame.axes_distinct whole named place fit) in
        let same : over f.axes (with_coord f.coords c) ≡ g = let q = given.2 in cc in
        let unlike = ap (is_dimension f.axes) one.1 ∙ other in
        let before = absent_left (λ (x : Axis). x.name) has_labels f.axes c.name (sym (dimension_named f.axes c.name) ∙ unlike) in
        subst (Stays variables f) same (record { frame = coord_frame c f.axes f.coords unlike one.0 frame; names = refl; sizes = refl; apart = named_apart c (axis_names (labelled f.axes)) variables f.coords before (ap (among variables) one.1 ∙ untaken) })

-- ---- the entries behind it

module _ (axes xs : List Axis) (named : axis_names axes ≡ axis_names xs) where
  same : (n : List ℕ) → is_dimension axes n ≡ is_dimension xs n
  same n = dimension_named axes n ∙ ap (λ ns. among ns n) named ∙ sym (dimension_named xs n)

  entries_still : (kvs : List (List ℕ × Value)) → all_of (check_entry axes) kvs ≡ all_of (check_entry xs) kvs
  unfolding check_entry
  entries_still kvs = λ i. all_of (λ (kv : List ℕ × Value). if same kv.0 i then check_labels kv.0 kv.1 else check_coordinate kv.1) kvs

  place_still : (kv : List ℕ × Value) → check_place axes kv ≡ check_place xs kv
  unfolding check_place
  place_still (name, Sequence vs) = ap (λ b. unless b (NoDimension name)) (same name)
  place_still (name, Array a) = λ i. all_of (λ (x : Axis). unless (same x.name i) (NoDimension x.name)) a.axes
  place_still (name, v) = refl

  places_still : (kvs : List (List ℕ × Value)) → all_of (check_place axes) kvs ≡ all_of (check_place xs) kvs
  places_still kvs = λ i. all_of (λ (kv : List ℕ × Value). place_still kv i) kvs

module _ (declines : ℕ → Bool) (nodes : List Node) (variables : List (List ℕ)) where
  pub entries_frame : (f g : Frame) (kvs : List (TextBytes × Held)) → All (IsEntryIn nodes) kvs → list_all (λ (kv : TextBytes × Held). is_name kv.0) kvs ≡ true → all_of (check_entry f.axes) (map (with_key nodes) kvs) ≡ Ok tt → all_of (check_place f.axes) (map (with_key nodes) kvs) ≡ Ok tt
      → all_of check_numbers (map (with_key nodes) kvs) ≡ Ok tt → entries_in declines nodes variables f kvs ≡ Ok g → IsFrame f.axes f.coords → Stays variables f g
  unfolding entries_in entry_in
  entries_frame f g [] inside named checked placed fits told frame =
      let same : f ≡ g = cc in
      subst (Stays variables f) same (record { frame = frame; names = refl; sizes = refl; apart = λ all. all })
  entries_frame f g (kv ∷ kvs) inside named checked placed fits told frame =
      let p = first_passes (check_entry f.axes (with_key nodes kv)) _ tt checked in
      let q = first_passes (check_place f.axes (with_key nodes kv)) _ tt placed in
      let n = first_passes (check_numbers (with_key nodes kv)) _ tt fits in
      let t = and_parts (is_name kv.0) (list_all (λ (kv : TextBytes × Held). is_name kv.0) kvs) named in
      let on = passes (entry_in declines nodes variables f kv) _ g told in
      let h = on.0 in
      let put = passes (refused (with_entry variables f (with_key nodes kv))) _ h on.1 in
      let done = passes (computed declines kv.1) _ h put.2 in
      let here = entry_frame variables f h (with_key nodes kv) (whole_in nodes kv.1 (All-head (IsEntryIn nodes) kv kvs inside)) t.0 p.0 q.0 n.0 (not_refused (with_entry variables f (with_key nodes kv)) h (put.1 ∙ done.2)) frame in
      let rest = entries_frame h g kvs (All-tail (IsEntryIn nodes) kv kvs inside) t.1 (entries_still h.axes f.axes here.names (map (with_key nodes) kvs) ∙ p.1) (places_still h.axes f.axes here.names (map (with_key nodes) kvs) ∙ q.1) n.1 on.2 here.frame in
      record { frame = rest.frame; names = rest.names ∙ here.names; sizes = rest.sizes ∙ here.sizes; apart = λ all. rest.apart (here.apart all) }
