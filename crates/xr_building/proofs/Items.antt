-- Items and elements of lists of values.
use Rattle.xr_building.proofs.Common.{Absent, Bool, Elements, Err, Fault, Held as Value, LabelList, Labels, List, NoValue, Node, Numbers, Ok, Option, Result, Sequence, Texts, Values, With, WrongKind, [], all_more, all_values as listed, and-true, and_assoc, and_parts, ap, append-nil, append_assoc, arith, as_labels, drop, drop_all, element_cell, elements, elements_of, false, first_item, fits_whole, get_or, is_missing, is_nested, is_number, is_regular, is_text, is_truth_cell, is_whole_cell, item_count, items, labels_given, length, length-map, list_all, list_all-append, list_any, list_any-append, map, map-append, meaning, nat_tests, nested_shape, nil_from_length, numbers_in, or-false, or_assoc, refl, suc, sym, take, take_all, texts_in, texts_put, true, with_elements, with_number, zero, ℕ, ℤ, ◌&&◌, ◌++◌, ◌+◌, ◌-◌, ◌<◌, ◌==◌, ◌>>=◌, ◌||◌, ◌∙◌, ◌∷◌, ◌≡◌, ◌≤◌, Int64, Text, Value as Meant, each_value as all_values, if◌then◌else◌, values_behind as values}
use Rattle.std.proofs.Math.Seq.{drop-cons}
use Rattle.xr_defs.specs.Arguments.{as_text}
use Rattle.xr_arguments.proofs.Listed.{take_one}

-- ---- items

items_from : (ws : Values) (vs : List Meant) → items (values ws vs) ≡ items ws ++ vs
items_from ws [] = sym (append-nil (items ws))
items_from ws (v ∷ vs) = items_from (With ws v) vs ∙ append_assoc (items ws) (v ∷ []) vs

pub items_all : (nodes : List Node) (vs : List Value) → items (listed nodes vs) ≡ map (meaning nodes) vs
unfolding listed
items_all nodes vs = items_from NoValue (map (meaning nodes) vs)

pub item_count_list : (nodes : List Node) (vs : List Value) → item_count (Sequence (listed nodes vs)) ≡ length vs
item_count_list nodes vs = ap length (items_all nodes vs) ∙ length-map vs (meaning nodes)

pub first_item_list : (nodes : List Node) (vs : List Value) → first_item (Sequence (listed nodes vs)) ≡ get_or (map (meaning nodes) vs) 0 Absent
first_item_list nodes vs = ap (λ ws. get_or ws 0 Absent) (items_all nodes vs)

-- ---- elements behind others

elements_more : (nodes : List Node) (vs : List Value) (i : ℕ) (v : Value) → i < length vs → v ≡ get_or vs i v
    → elements_of (listed nodes (take (i + 1) vs)) ≡ elements_of (listed nodes (take i vs)) ++ elements (meaning nodes v)
unfolding elements
elements_more nodes vs i v lt is = ap (λ us. elements_of (listed nodes us)) (take_one vs i v lt is) ∙ ap elements_of (all_more nodes (take i vs) v)

abbrev built : List (Option ℤ) → Bool → Bool → Bool → Elements
built cells whole truths missing = record { cells = cells; whole = whole; truths = truths; missing = missing }

same : {a b : List (Option ℤ)} {c d f g h i : Bool} → a ≡ b → c ≡ d → f ≡ g → h ≡ i → built a c f h ≡ built b d g i
same p q r s = cc

joined : (e : Elements) (vs ws : List Meant) → with_elements (with_elements e vs) ws ≡ with_elements e (vs ++ ws)
joined e vs ws =
    same (append_assoc e.cells (map element_cell vs) (map element_cell ws) ∙ ap (λ cs. e.cells ++ cs) (sym (map-append element_cell vs ws)))
    (and_assoc e.whole (list_all is_whole_cell vs) (list_all is_whole_cell ws) ∙ ap (λ b. e.whole && b) (sym (list_all-append is_whole_cell vs ws)))
    (and_assoc e.truths (list_all is_truth_cell vs) (list_all is_truth_cell ws) ∙ ap (λ b. e.truths && b) (sym (list_all-append is_truth_cell vs ws)))
    (or_assoc e.missing (list_any is_missing vs) (list_any is_missing ws) ∙ ap (λ b. e.missing || b) (sym (list_any-append is_missing vs ws)))

pub none_gathered : (e : Elements) → with_elements e [] ≡ e
none_gathered e = same (append-nil e.cells) (and-true e.whole) (and-true e.truths) (or-false e.missing)

pub gathered_on : (nodes : List Node) (start now next : Elements) (vs : List Value) (i : ℕ) (v : Value) → i < length vs → v ≡ get_or vs i v
    → now ≡ with_elements start (elements_of (listed nodes (take i vs))) → next ≡ with_elements now (elements (meaning nodes v))
    → next ≡ with_elements start (elements_of (listed nodes (take (i + 1) vs)))
gathered_on nodes start now next vs i v lt is so_far here =
    here ∙ ap (λ e. with_elements e (elements (meaning nodes v))) so_far ∙ joined start (elements_of (listed nodes (take i vs))) (elements (meaning nodes v))
    ∙ ap (with_elements start) (sym (elements_more nodes vs i v lt is))

-- ---- a list of numbers, or of texts

module _ (all : Values → Bool) (test : Meant → Bool) (more : (ws : Values) (v : Meant) → all (With ws v) ≡ (all ws && test v)) where
  all_from : (ws : Values) (vs : List Meant) → all (values ws vs) ≡ (all ws && list_all test vs)
  all_from ws [] = sym (and-true (all ws))
  all_from ws (v ∷ vs) = all_from (With ws v) vs ∙ ap (λ b. b && list_all test vs) (more ws v) ∙ and_assoc (all ws) (test v) (list_all test vs)

pub all_are : (test : Meant → Bool) (nodes : List Node) (vs : List Value) → all_values test (listed nodes vs) ≡ list_all test (map (meaning nodes) vs)
unfolding listed
all_are test nodes vs = all_from (all_values test) test (λ ws v. refl) NoValue (map (meaning nodes) vs)

-- ---- the labels of a list

abbrev plain : LabelList → Labels
plain list = record { list = list; attrs = [] }

module _ (nodes : List Node) (vs : List Value) where
  abbrev chosen : Bool → Bool → Result (List (List ℕ)) Fault → Result Labels Fault
  chosen n t r = if n then Ok (plain (Numbers Int64 (numbers_in (listed nodes vs)))) else if t then texts_put r else Err WrongKind

  pub labels_listed : labels_given (Sequence (listed nodes vs)) ≡ chosen (list_all is_number (map (meaning nodes) vs)) (list_all is_text (map (meaning nodes) vs)) (texts_in (listed nodes vs))
  unfolding as_labels
  labels_listed =
      by (all_values is_number (listed nodes vs)) (all_values is_text (listed nodes vs)) (texts_in (listed nodes vs)) ∙ ap (λ n. chosen n (all_values is_text (listed nodes vs)) (texts_in (listed nodes vs))) (all_are is_number nodes vs)
      ∙ ap (λ t. chosen (list_all is_number (map (meaning nodes) vs)) t (texts_in (listed nodes vs))) (all_are is_text nodes vs)
    where
      by : (n t : Bool) (r : Result (List (List ℕ)) Fault) → ((if n then Ok (Numbers Int64 (numbers_in (listed nodes vs))) else if t then (r >>= λ ts. Ok (Texts ts)) else Err WrongKind) >>= λ l. Ok (plain l)) ≡ chosen n t r
      by false true (Ok ts) = refl
      by n t r = refl

-- ---- the numbers of a list

pub number_on : (nodes : List Node) (vs : List Value) (i : ℕ) (v : Value) (o : Option ℤ) (numbers new : List ℤ) → i < length vs → v ≡ get_or vs i v → ((ws : Values) → numbers_in (With ws (meaning nodes v)) ≡ with_number (numbers_in ws) o)
    → numbers ≡ numbers_in (listed nodes (take i vs)) → new ≡ with_number numbers o → new ≡ numbers_in (listed nodes (take (i + 1) vs))
number_on nodes vs i v o numbers new lt is here so_far pushed =
    pushed ∙ ap (λ ns. with_number ns o) so_far ∙ sym (ap (λ us. numbers_in (listed nodes us)) (take_one vs i v lt is) ∙ ap numbers_in (all_more nodes (take i vs) v) ∙ here (listed nodes (take i vs)))

text_is : (v : Meant) → is_text v ≡ true → (t : List ℕ) × (v ≡ Text t)
text_is (Text t) is = (t, refl)
text_is v is = absurd cc

texts_are : (vs : Values) → all_values is_text vs ≡ true → (ts : List (List ℕ)) × (texts_in vs ≡ Ok ts)
unfolding texts_in as_text
texts_are NoValue is = ([], refl)
texts_are (With vs v) is =
    let p = and_parts (all_values is_text vs) (is_text v) is in
    let before = texts_are vs p.0 in
    let last = text_is v p.1 in
    (before.0 ++ last.0 ∷ [], ap (λ m. texts_in (With vs m)) last.1 ∙ ap (λ r. r >>= λ ts. Ok (ts ++ last.0 ∷ [])) before.1)

-- texts have no numbers
texts_fit : (vs : Values) → all_values is_text vs ≡ true → fits_whole (Sequence vs) ≡ true
texts_fit NoValue is = refl
texts_fit (With vs v) is =
    let p = and_parts (all_values is_text vs) (is_text v) is in
    let last = text_is v p.1 in
    ap (λ m. fits_whole (Sequence (With vs m))) last.1 ∙ texts_fit vs p.0

pub texts_whole : (nodes : List Node) (vs : List Value) → list_all is_text (map (meaning nodes) vs) ≡ true → fits_whole (Sequence (listed nodes vs)) ≡ true
texts_whole nodes vs is = texts_fit (listed nodes vs) (all_are is_text nodes vs ∙ is)

checked : (vs : Values) (numbers texts : Bool) → all_values is_number vs ≡ numbers → all_values is_text vs ≡ texts → (as_labels vs >>= λ l. Ok (tt {0})) ≡ (if numbers || texts then Ok (tt {0}) else Err WrongKind)
unfolding as_labels
checked vs true texts n t = rw n refl
checked vs false true n t = let r = texts_are vs t in rw (n, t) (ap (λ o. (o >>= λ ts. Ok (Texts ts)) >>= λ l. Ok (tt {0})) r.1)
checked vs false false n t = rw (n, t) refl

pub labels_checked : (nodes : List Node) (vs : List Value) → (as_labels (listed nodes vs) >>= λ l. Ok (tt {0})) ≡ (if list_all is_number (map (meaning nodes) vs) || list_all is_text (map (meaning nodes) vs) then Ok (tt {0}) else Err WrongKind)
labels_checked nodes vs = checked (listed nodes vs) (list_all is_number (map (meaning nodes) vs)) (list_all is_text (map (meaning nodes) vs)) (all_are is_number nodes vs) (all_are is_text nodes vs)

-- ---- nested lists

nested_values : (k : ℕ) (ws : Values) → 0 < k → 0 < length (items ws) → is_nested k (Sequence ws) ≡ list_all (is_nested (k - 1)) (items ws)
nested_values zero ws deep some = absurd (omega arith)
nested_values (suc zero) ws deep some = refl
nested_values (suc (suc k)) NoValue deep some = absurd (omega arith)
nested_values (suc (suc k)) (With ws v) deep some = let e : suc k ≡ suc (suc k) - 1 = omega arith in ap (λ j. list_all (is_nested j) (items (With ws v))) e

pub nested_list : (nodes : List Node) (m : Meant) (vs : List Value) (k : ℕ) → m ≡ Sequence (listed nodes vs) → 0 < k → 0 < length vs → is_nested k m ≡ list_all (is_nested (k - 1)) (map (meaning nodes) vs)
nested_list nodes m vs k is deep some =
    let all = items_all nodes vs in
    let long : length (items (listed nodes vs)) ≡ length vs = ap length all ∙ length-map vs (meaning nodes) in
    ap (is_nested k) is ∙ nested_values k (listed nodes vs) deep (omega arith) ∙ ap (list_all (is_nested (k - 1))) all

pub nested_none : (nodes : List Node) (m : Meant) (vs : List Value) (k : ℕ) → m ≡ Sequence (listed nodes vs) → 0 < k → length vs ≡ 0 → is_nested k m ≡ (k == 1)
unfolding listed
nested_none nodes m vs k is deep none = ap (is_nested k) (is ∙ ap (λ us. Sequence (listed nodes us)) (nil_from_length vs none)) ∙ by k deep
  where
    by : (j : ℕ) → 0 < j → is_nested j (Sequence NoValue) ≡ (j == 1)
    by zero deep = absurd (omega arith)
    by (suc zero) deep = refl
    by (suc (suc j)) deep = let e : (suc (suc j) == 1) ≡ false = grind (arith, nat_tests) in sym e

pub regular_list : (nodes : List Node) (m : Meant) (vs : List Value) (n : ℕ) (ns : List ℕ) → m ≡ Sequence (listed nodes vs) → is_regular (n ∷ ns) m ≡ ((length vs == n) && list_all (is_regular ns) (map (meaning nodes) vs))
regular_list nodes m vs n ns is =
    let all = items_all nodes vs in
    ap (is_regular (n ∷ ns)) is ∙ ap (λ us. (length us == n) && list_all (is_regular ns) us) all ∙ ap (λ j. (j == n) && list_all (is_regular ns) (map (meaning nodes) vs)) (length-map vs (meaning nodes))

-- ---- tests of each item

module _ {X Y : Type 0} (test : Y → Bool) (m : X → Y) where
  pub fails_at : (xs : List X) (i : ℕ) (x : X) → i < length xs → x ≡ get_or xs i x → test (m x) ≡ false → list_all test (map m (drop i xs)) ≡ list_all test (map m xs) → list_all test (map m xs) ≡ false
  fails_at xs i x lt is fails so_far =
      sym so_far ∙ ap (λ us. list_all test (map m us)) (drop-cons xs i x lt) ∙ ap (λ b. b && list_all test (map m (drop (suc i) xs))) (ap (λ y. test (m y)) (sym is) ∙ fails)

  pub passes : (xs : List X) (i : ℕ) → length xs ≤ i → list_all test (map m (drop i xs)) ≡ list_all test (map m xs) → list_all test (map m xs) ≡ true
  passes xs i le so_far = sym so_far ∙ ap (λ us. list_all test (map m us)) (drop_all i xs le)

pub first_rest : {X : Type 0} (xs : List X) (d : X) → 1 ≤ length xs → xs ≡ get_or xs 0 d ∷ take (length xs - 1) (drop 1 xs)
first_rest [] d long = absurd (omega arith)
first_rest (x ∷ xs) d long = ap (λ t. x ∷ t) (sym (take_all (length (x ∷ xs) - 1) xs (omega arith)))

module _ (nodes : List Node) (m : Meant) (vs : List Value) (shape : List ℕ) (is : m ≡ Sequence (listed nodes vs)) (long : 1 ≤ length shape) where
  by_parts : is_regular shape m ≡ ((length vs == get_or shape 0 0) && list_all (is_regular (take (length shape - 1) (drop 1 shape))) (map (meaning nodes) vs))
  by_parts = ap (λ s. is_regular s m) (first_rest shape 0 long) ∙ regular_list nodes m vs (get_or shape 0 0) (take (length shape - 1) (drop 1 shape)) is

  pub regular_when : (b : Bool) → length vs ≡ get_or shape 0 0 → list_all (is_regular (take (length shape - 1) (drop 1 shape))) (map (meaning nodes) vs) ≡ b → is_regular shape m ≡ b
  regular_when b same all =
      let even : (length vs == get_or shape 0 0) ≡ true = grind (arith, nat_tests) in
      by_parts ∙ ap (λ t. t && list_all (is_regular (take (length shape - 1) (drop 1 shape))) (map (meaning nodes) vs)) even ∙ all

  pub not_regular : (length vs ≡ get_or shape 0 0 → ⊥) → is_regular shape m ≡ false
  not_regular other =
      let odd : (length vs == get_or shape 0 0) ≡ false = grind (arith, nat_tests) in
      by_parts ∙ ap (λ t. t && list_all (is_regular (take (length shape - 1) (drop 1 shape))) (map (meaning nodes) vs)) odd

-- ---- elements of a whole list

pub gathered_none : (nodes : List Node) (e : Elements) (vs : List Value) → e ≡ with_elements e (elements_of (listed nodes (take 0 vs)))
unfolding elements listed
gathered_none nodes e vs = sym (none_gathered e)

pub gathered_all : (nodes : List Node) (start now : Elements) (vs : List Value) (i : ℕ) (m : Meant) → length vs ≤ i → m ≡ Sequence (listed nodes vs) → now ≡ with_elements start (elements_of (listed nodes (take i vs))) → now ≡ with_elements start (elements m)
unfolding elements
gathered_all nodes start now vs i m le is so_far =
    so_far ∙ ap (λ us. with_elements start (elements_of (listed nodes us))) (take_all i vs le) ∙ ap (λ v. with_elements start (elements v)) (sym is)

-- ---- the first item, and the lengths of first items

pub first_none : (nodes : List Node) (m : Meant) (vs : List Value) → m ≡ Sequence (listed nodes vs) → length vs < 1 → first_item m ≡ Absent
first_none nodes m vs is none = ap first_item is ∙ first_item_list nodes vs ∙ ap (λ us. get_or (map (meaning nodes) us) 0 Absent) (nil_from_length vs (omega arith))

pub first_some : (nodes : List Node) (m : Meant) (vs : List Value) (v : Value) → m ≡ Sequence (listed nodes vs) → 1 ≤ length vs → v ≡ get_or vs 0 v → first_item m ≡ meaning nodes v
first_some nodes m [] v is some at = absurd (omega arith)
first_some nodes m (w ∷ vs) v is some at = ap first_item is ∙ first_item_list nodes (w ∷ vs) ∙ ap (meaning nodes) (sym at)

pub shape_on : (k n count : ℕ) (shape new whole : List ℕ) (m next : Meant) → n < k → new ≡ shape ++ count ∷ [] → count ≡ item_count m → next ≡ first_item m → shape ++ nested_shape (k - n) m ≡ whole → new ++ nested_shape (k - (n + 1)) next ≡ whole
shape_on k n count shape new whole m next lt pushed counted firsts so_far =
    let e : suc (k - (n + 1)) ≡ k - n = omega arith in
    ap (λ s. s ++ nested_shape (k - (n + 1)) next) pushed ∙ append_assoc shape (count ∷ []) (nested_shape (k - (n + 1)) next) ∙ ap (λ c. shape ++ c ∷ nested_shape (k - (n + 1)) next) counted
    ∙ ap (λ v. shape ++ item_count m ∷ nested_shape (k - (n + 1)) v) firsts ∙ ap (λ i. shape ++ nested_shape i m) e ∙ so_far
