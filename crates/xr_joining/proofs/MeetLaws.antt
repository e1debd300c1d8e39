-- The join of two axes by the labels that both have: of each position there is one of either axis, and the joined axis is a
-- dimension as it has to be.
use Rattle.std.proofs.Common.{◌≡◌, ◌<◌, ◌≤◌, ◌==◌, ℕ, ℤ, zero, suc, Bool, true, false, not, ◌||◌, ◌&&◌, cond, List, [], ◌∷◌, length, map, get_or, Option, Some, None, Result, Ok, Err, refl, sym, ap, subst, ◌∙◌, arith}
use Rattle.std.specs.Prelude.{is_none, is_some, ⊤}
use Rattle.std.specs.List.{All, filter, list_any, list_all, range_with_len}
use Rattle.std.specs.Result.{result_ok}
use Rattle.std.proofs.lemmas.Bool.{and_parts, eqb-true}
use Rattle.std.proofs.lemmas.List.{length-map}
use Rattle.std.proofs.lemmas.List.Elements.{All-filter}
use Rattle.std.proofs.lemmas.List.FromFn.{get_or-map-range_with_len, length-map-range_with_len}
use Rattle.xr_types.specs.Kinds.{promoted, InRange}
use Rattle.xr_types.specs.Results.{◌>>=◌, unless}
use Rattle.xr_types.specs.declared.axis.Axis.{Axis}
use Rattle.xr_types.specs.declared.axis.Label.{Label}
use Rattle.xr_types.specs.declared.axis.Label.TheVariants.{Int, Time, Text}
use Rattle.xr_types.specs.declared.axis.Labels.{Labels}
use Rattle.xr_types.specs.declared.axis.LabelList.{LabelList}
use Rattle.xr_types.specs.declared.axis.LabelList.TheVariants.{Numbers, Times, Texts}
use Rattle.xr_types.specs.declared.fault.Fault.{Fault}
use Rattle.xr_types.specs.declared.fault.Fault.TheVariants.{LabelKind, NotUnique, SizeConflict, WouldPromote}
use Rattle.xr_types.specs.declared.kind.DType.{DType}
use Rattle.xr_types.specs.declared.operation.How.TheVariants.{Inner}
use Rattle.xr_arrays.specs.Labels.{labels_of, place, repeats}
use Rattle.xr_arrays.specs.Nodes.{IsBelow}
use Rattle.xr_times.specs.Times.{IsTime}
use Rattle.xr_defs.specs.Building.{is_integer_kind, same_labels}
use Rattle.xr_defs.specs.Limits.{most_cells}
use Rattle.xr_defs.specs.Values.{label_count}
use Rattle.xr_files.specs.Classic.{is_name}
use Rattle.xr_defs.specs.WellFormed.{AreAttributes, AreLabels, IsDimension, IsIndex}
use Rattle.xr_operations.specs.Alignment.{are_kin, common_kind, each_position, found, has_all, has_size, holds_label, indexes, join, joined_by, joined_index, joined_labels, labelled_axis, number_kind, number_of, text_of, relisted, sources, sources_by}
use Rattle.align_join.specs.Joined.{stays}
use Rattle.align_join.proofs.Found.{place_within}
use Rattle.align_join.proofs.Relisted.{numbers_again, times_again, texts_again}
use Rattle.align_join.proofs.Told.{stays_each}
use Rattle.xr_joining.specs.Fitted.{Comes, Meet}
use Rattle.xr_joining.proofs.Promoted.{in_promoted}
use Rattle.xr_joining.proofs.Counted.{all_same, fewer_held, fewer_pass, same_length}

-- ---- steps that went well

pub bind_ok : {A B E : Type 0} (m : Result A E) (f : A → Result B E) (y : B) → (m >>= f) ≡ Ok y → (x : A) × (m ≡ Ok x) × (f x ≡ Ok y)
bind_ok (Ok x) f y is = (x, refl, is)
bind_ok (Err e) f y is = absurd cc

pub unless_ok : {E : Type 0} (b : Bool) (e : E) (u : Unit {0}) → unless b e ≡ Ok u → b ≡ true
unfolding unless
unless_ok true e u is = refl
unless_ok false e u is = absurd cc

abbrev pub fine : {A : Type 0} → A → Result A Fault
fine x = Ok x

pub inner : {A : Type 0} (x y : A) → fine x ≡ fine y → x ≡ y
inner x y is = cc

-- ---- positions

pub each_long : (n : ℕ) → length (each_position n) ≡ n
each_long n = length-map (range_with_len 0 n) Some ∙ long n
  where
    long : (n : ℕ) → length (range_with_len 0 n) ≡ n
    long n = sym (length-map (range_with_len 0 n) (λ (k : ℕ). k)) ∙ length-map-range_with_len (λ (k : ℕ). k) 0 n

pub each_at : (n k : ℕ) → k < n → get_or (each_position n) k None ≡ Some k
each_at n k lt = get_or-map-range_with_len Some 0 n k k None lt (omega arith)

some_whole : (o : Option ℕ) → is_some o ≡ true → is_none o ≡ false
some_whole None e = absurd cc
some_whole (Some k) e = refl

all_whole : (s : List (Option ℕ)) → list_all is_some s ≡ true → list_any is_none s ≡ false
all_whole [] e = refl
all_whole (o ∷ s) e =
    let parts = and_parts (is_some o) (list_all is_some s) e in
    ap (λ b. b || list_any is_none s) (some_whole o parts.0) ∙ all_whole s parts.1

each_below : (n : ℕ) → All (IsBelow n) (each_position n)
each_below n k d lt =
    let less : k < n = (let long = each_long n in omega arith) in
    subst (IsBelow n) (sym (get_or-map-range_with_len Some 0 n k k d less (omega arith))) less

each_whole : (n : ℕ) → list_any is_none (each_position n) ≡ false
each_whole n = none (range_with_len 0 n)
  where
    none : (ks : List ℕ) → list_any is_none (map Some ks) ≡ false
    none [] = refl
    none (k ∷ ks) = none ks

-- an axis whose positions stay
pub comes_stay : (x j : Axis) → j.name ≡ x.name → stays x.labels j.labels ≡ true → x.size ≡ j.size → Comes x j
comes_stay x j name stay size =
    let is = stays_each x j stay in
    record {
      name = name;
      long = ap length is ∙ each_long j.size;
      below = subst (All (IsBelow x.size)) (sym is) (subst (λ n. All (IsBelow n) (each_position j.size)) (sym size) (each_below j.size));
      whole = ap (list_any is_none) is ∙ each_whole j.size;
      fewer = omega arith;
      kept = λ e. size;
    }

-- ---- positions by labels

found_below : (ls : List Label) (l : Label) → IsBelow (length ls) (found ls l)
found_below ls l = by (place ls l) refl
  where
    by : (r : Result ℕ Fault) → place ls l ≡ r → IsBelow (length ls) (result_ok r)
    by (Ok p) e = place_within ls l p e
    by (Err f) e = tt

all_found : (ls ms : List Label) → All (IsBelow (length ls)) (map (found ls) ms)
all_found ls [] k d lt = absurd (omega arith)
all_found ls (m ∷ ms) zero d lt = found_below ls m
all_found ls (m ∷ ms) (suc k) d lt = all_found ls ms k d (omega arith)

-- an axis with labels
comes_labelled : (x j : Axis) (l m : Labels) → x.labels ≡ Some l → j.labels ≡ Some m → j.name ≡ x.name → length (labels_of l.list) ≡ x.size → length (labels_of m.list) ≡ j.size
    → length (labels_of m.list) ≤ length (labels_of l.list) → has_all j x ≡ true → Comes x j
comes_labelled x j l m own theirs name long size fewer all = by (same_labels (labels_of l.list) (labels_of m.list)) refl
  where
    stay : stays x.labels j.labels ≡ same_labels (labels_of l.list) (labels_of m.list)
    stay = (λ i. stays (own i) (theirs i))

    by : (b : Bool) → same_labels (labels_of l.list) (labels_of m.list) ≡ b → Comes x j
    by true e =
        let same = same_length (labels_of l.list) (labels_of m.list) e in
        comes_stay x j name (stay ∙ e) (omega arith)
    by false e =
        let is : sources x j ≡ map (found (labels_of l.list)) (labels_of m.list) = (λ i. sources_by (own i) (theirs i) j.size) ∙ ap (λ b. cond b (each_position j.size) (map (found (labels_of l.list)) (labels_of m.list))) e in
        record {
          name = name;
          long = ap length is ∙ length-map (labels_of m.list) (found (labels_of l.list)) ∙ size;
          below = subst (All (IsBelow x.size)) (sym is) (subst (λ n. All (IsBelow n) (map (found (labels_of l.list)) (labels_of m.list))) long (all_found (labels_of l.list) (labels_of m.list)));
          whole = all_whole (sources x j) all;
          fewer = omega arith;
          kept = λ s. absurd (never (sym s ∙ stay ∙ e));
        }
      where
        never : true ≡ false → ⊥
        never e = cc

-- ---- labels that are left

filter_of : {X : Type 0} (f : X → Label) (p : Label → Bool) (xs : List X) → filter p (map f xs) ≡ map f (filter (λ x. p (f x)) xs)
filter_of f p [] = refl
filter_of f p (x ∷ xs) = by (p (f x)) (filter_of f p xs)
  where
    by : (b : Bool) → filter p (map f xs) ≡ map f (filter (λ x. p (f x)) xs) → cond b (f x ∷ filter p (map f xs)) (filter p (map f xs)) ≡ map f (cond b (x ∷ filter (λ x. p (f x)) xs) (filter (λ x. p (f x)) xs))
    by true rest = ap (λ ls. f x ∷ ls) rest
    by false rest = rest

-- those that pass, whole numbers as those of a kind
abbrev kept_list : DType → (Label → Bool) → LabelList → LabelList
kept_list t p (Numbers kind ns) = Numbers t (filter (λ n. p (Int n)) ns)
kept_list t p (Times coding ts) = Times coding (filter (λ n. p (Time n)) ts)
kept_list t p (Texts ts) = Texts (filter (λ n. p (Text n)) ts)

relist : (t : DType) (p : Label → Bool) (list : LabelList) → relisted t list (filter p (labels_of list)) ≡ kept_list t p list
relist t p (Numbers kind ns) = ap (λ ls. Numbers t (map number_of ls)) (filter_of Int p ns) ∙ ap (Numbers t) (numbers_again (filter (λ n. p (Int n)) ns))
relist t p (Times coding ts) = ap (λ ls. Times coding (map number_of ls)) (filter_of Time p ts) ∙ ap (Times coding) (times_again (filter (λ n. p (Time n)) ts))
relist t p (Texts ts) = ap (λ ls. Texts (map text_of ls)) (filter_of Text p ts) ∙ ap Texts (texts_again (filter (λ n. p (Text n)) ts))

kept_labels : (t : DType) (p : Label → Bool) (list : LabelList) → labels_of (kept_list t p list) ≡ filter p (labels_of list)
kept_labels t p (Numbers kind ns) = sym (filter_of Int p ns)
kept_labels t p (Times coding ts) = sym (filter_of Time p ts)
kept_labels t p (Texts ts) = sym (filter_of Text p ts)

pub counted : (list : LabelList) → length (labels_of list) ≡ label_count list
counted (Numbers kind ns) = length-map ns Int
counted (Times coding ts) = length-map ts Time
counted (Texts ts) = length-map ts Text

-- whole numbers of a list are of a kind too
abbrev AreOf : DType → LabelList → Type 0
AreOf t (Numbers kind ns) = (is_integer_kind t ≡ true) × ((n : ℤ) → InRange kind n → InRange t n)
AreOf t (Times coding ts) = ⊤
AreOf t (Texts ts) = ⊤

kept_range : (t : DType) (p : Label → Bool) (list : LabelList) → AreOf t list → AreLabels list → AreLabels (kept_list t p list)
kept_range t p (Numbers kind ns) of_kind are = (of_kind.0, All-filter (λ n. p (Int n)) (InRange t) ns (λ k d lt. of_kind.1 (get_or ns k d) (are.1 k d lt)))
kept_range t p (Times coding ts) of_kind are = All-filter (λ n. p (Time n)) (IsTime coding.units.calendar) ts are
kept_range t p (Texts ts) of_kind are = tt

all_pass : {X : Type 0} (xs : List X) → filter (λ x. true) xs ≡ xs
all_pass [] = refl
all_pass (x ∷ xs) = ap (λ ys. x ∷ ys) (all_pass xs)

-- ---- the index

-- an index of labels that two others have
record Left (l m n : Labels) : Type 0 where
  fewer : length (labels_of n.list) ≤ length (labels_of l.list)
  less : length (labels_of n.list) ≤ length (labels_of m.list)
  range : AreLabels n.list
  attrs : n.attrs ≡ l.attrs

left_by : (l m : Labels) (t : DType) (p : Label → Bool) (labels : List Label) (n : Labels) → labels ≡ filter p (labels_of l.list) → length labels ≤ length (labels_of m.list) → AreOf t l.list → AreLabels l.list
    → record { list = relisted t l.list labels; attrs = l.attrs } ≡ n → Left l m n
left_by l m t p labels n is less of_kind are made =
    let listed : relisted t l.list labels ≡ kept_list t p l.list = ap (relisted t l.list) is ∙ relist t p l.list in
    let same : labels_of (relisted t l.list labels) ≡ labels = ap labels_of listed ∙ kept_labels t p l.list ∙ sym is in
    let long = ap length same in
    let few = ap length is in
    let pass = fewer_pass p (labels_of l.list) in
    subst (Left l m) made (record {
      fewer = omega arith;
      less = omega arith;
      range = subst AreLabels (sym listed) (kept_range t p l.list of_kind are);
      attrs = refl;
    })

and_true : (b : Bool) → (b && true) ≡ b
and_true true = refl
and_true false = refl

abbrev Both : List Label → List Label → List Label → Type 0
Both ls ms labels = (p : Label → Bool) × (labels ≡ filter p ls) × (length labels ≤ length ms)

held : (ls ms labels : List Label) → repeats ls ≡ false → filter (λ l. holds_label ms l && true) ls ≡ labels → Both ls ms labels
held ls ms labels once is =
    let less = fewer_held ms ls once in
    let same : filter (holds_label ms) ls ≡ labels = (λ i. filter (λ l. sym (and_true (holds_label ms l)) i) ls) ∙ is in
    let long = ap length same in
    (holds_label ms, sym same, omega arith)

-- the labels that both lists have
both_labels : (ls ms labels : List Label) → joined_labels Inner ls (ms ∷ []) ≡ Ok labels → Both ls ms labels
unfolding joined_labels unless
both_labels ls ms labels is = by (same_labels ls ms) refl is
  where
    others : (b c : Bool) → repeats ls ≡ b → (unless (not (b || (c || false))) NotUnique >>= λ v. Ok (joined_by Inner ls (ms ∷ []))) ≡ Ok labels → Both ls ms labels
    others true c e is = absurd cc
    others false true e is = absurd cc
    others false false e is = held ls ms labels e cc

    by : (b : Bool) → same_labels ls ms ≡ b → cond (b && true) (Ok ls) (unless (not (list_any repeats (ls ∷ ms ∷ []))) NotUnique >>= λ v. Ok (joined_by Inner ls (ms ∷ []))) ≡ Ok labels → Both ls ms labels
    by true e is =
        let whole : ls ≡ labels = cc in
        let long = ap length whole in
        let same = same_length ls ms e in
        ((λ x. true), sym whole ∙ sym (all_pass ls), omega arith)
    by false e is = others (repeats ls) (repeats ms) refl is

kinds_of : (list other : LabelList) (t : DType) → (are_kin list other && true) ≡ true → common_kind (number_kind list) (other ∷ []) ≡ Ok t → AreLabels list → AreLabels other → AreOf t list
unfolding common_kind
kinds_of (Numbers k ns) (Numbers u ms) t kin is own their = by (promoted k u) refl is
  where
    by : (o : Option DType) → promoted k u ≡ o → elim o as (λ o. Result DType Fault) [ None ↦ Err WouldPromote | Some v ↦ Ok v ] ≡ Ok t → AreOf t (Numbers k ns)
    by None e is = absurd cc
    by (Some v) e is = let same : v ≡ t = cc in in_promoted k u t own.0 their.0 (e ∙ ap Some same)
kinds_of (Numbers k ns) (Times coding ts) t kin is own their = absurd cc
kinds_of (Numbers k ns) (Texts ts) t kin is own their = absurd cc
kinds_of (Times coding ts) other t kin is own their = tt
kinds_of (Texts ts) other t kin is own their = tt

own_kind : (list : LabelList) → AreLabels list → AreOf (number_kind list) list
own_kind (Numbers k ns) are = (are.0, λ n in_range. in_range)
own_kind (Times coding ts) are = tt
own_kind (Texts ts) are = tt

index_of_two : (l m n : Labels) → joined_index Inner l (m ∷ []) ≡ Ok n → AreLabels l.list → AreLabels m.list → Left l m n
unfolding joined_index
index_of_two l m n is own their =
    let s1 = bind_ok (unless (are_kin l.list m.list && true) LabelKind) (λ u. common_kind (number_kind l.list) (m.list ∷ []) >>= λ t. joined_labels Inner (labels_of l.list) (labels_of m.list ∷ []) >>= λ labels. Ok (record { list = relisted t l.list labels; attrs = l.attrs })) n is in
    let s2 = bind_ok (common_kind (number_kind l.list) (m.list ∷ [])) (λ t. joined_labels Inner (labels_of l.list) (labels_of m.list ∷ []) >>= λ labels. Ok (record { list = relisted t l.list labels; attrs = l.attrs })) n s1.2 in
    let s3 = bind_ok (joined_labels Inner (labels_of l.list) (labels_of m.list ∷ [])) (λ labels. Ok (record { list = relisted s2.0 l.list labels; attrs = l.attrs })) n s2.2 in
    let both = both_labels (labels_of l.list) (labels_of m.list) s3.0 s3.1 in
    let made : record { list = relisted s2.0 l.list s3.0; attrs = l.attrs } ≡ n = inner (record { list = relisted s2.0 l.list s3.0; attrs = l.attrs }) n s3.2 in
    left_by l m s2.0 both.0 s3.0 n both.1 both.2 (kinds_of l.list m.list s2.0 (unless_ok (are_kin l.list m.list && true) LabelKind s1.0 s1.1) s2.1 own their) own made

index_of_one : (l n : Labels) → joined_index Inner l [] ≡ Ok n → AreLabels l.list → Left l l n
unfolding joined_index joined_labels common_kind unless
index_of_one l n is own =
    left_by l l (number_kind l.list) (λ x. true) (labels_of l.list) n (sym (all_pass (labels_of l.list))) (omega arith) (own_kind l.list own) own (inner (record { list = relisted (number_kind l.list) l.list (labels_of l.list); attrs = l.attrs }) n is)

-- ---- the axis

abbrev axis : List ℕ → ℕ → Option Labels → Axis
axis name size labels = record { name = name; size = size; labels = labels }

abbrev indexed : List ℕ → Labels → Axis
indexed name n = axis name (length (labels_of n.list)) (Some n)

index_formed : (name : List ℕ) (n : Labels) → is_name name ≡ true → length (labels_of n.list) ≤ most_cells → AreLabels n.list → AreAttributes n.attrs → IsDimension (indexed name n)
index_formed name n is few range attrs = record { name = is; few = few; index = record { whole = sym (counted n.list); range = range; attrs = attrs } }

module _ (a b : List ℕ) (s r : ℕ) (j : Axis) (named : b ≡ a) where
  abbrev Fitting : Option Labels → Option Labels → Type 0
  Fitting o p =
      IsDimension (axis a s o) → IsDimension (axis b r p) → labelled_axis Inner (axis a s o) (indexes (axis a s o ∷ axis b r p ∷ [])) ≡ Ok j
      → (has_size j (axis a s o) && (has_size j (axis b r p) && true)) ≡ true → (has_all j (axis a s o) && (has_all j (axis b r p) && true)) ≡ true → Meet (axis a s o) (axis b r p) j

  meet_by : (o p : Option Labels) → Fitting o p
  unfolding labelled_axis
  meet_by None None one two is sized all =
      let same : axis a s None ≡ j = inner (axis a s None) j is in
      let called : j.name ≡ a = sym (ap (λ (x : Axis). x.name) same) in
      let sizes = and_parts (s == j.size) ((r == j.size) && true) sized in
      let size = and_parts (r == j.size) true sizes.1 in
      record {
        first = comes_stay (axis a s None) j called refl (eqb-true s j.size sizes.0);
        second = comes_stay (axis b r None) j (called ∙ sym named) refl (eqb-true r j.size size.0);
        formed = subst IsDimension same one;
      }
  meet_by (Some l) None one two is sized all =
      let step = bind_ok (joined_index Inner l []) (λ m. Ok (indexed a m)) j is in
      let index : IsIndex s l = one.index in
      let left = index_of_one l step.0 step.1 index.range in
      let same : indexed a step.0 ≡ j = inner (indexed a step.0) j step.2 in
      let called : j.name ≡ a = sym (ap (λ (x : Axis). x.name) same) in
      let size = and_parts (r == j.size) true sized in
      let long : length (labels_of l.list) ≡ s = counted l.list ∙ index.whole in
      let few = one.few in
      let fewer = left.fewer in
      let held = and_parts (has_all j (axis a s (Some l))) (has_all j (axis b r None) && true) all in
      record {
        first = comes_labelled (axis a s (Some l)) j l step.0 refl (sym (ap (λ (x : Axis). x.labels) same)) called long (ap (λ (x : Axis). x.size) same) left.fewer held.0;
        second = comes_stay (axis b r None) j (called ∙ sym named) refl (eqb-true r j.size size.0);
        formed = subst IsDimension same (index_formed a step.0 one.name (omega arith) left.range (subst AreAttributes (sym left.attrs) index.attrs));
      }
  meet_by None (Some l) one two is sized all =
      let step = bind_ok (joined_index Inner l []) (λ m. Ok (indexed a m)) j is in
      let index : IsIndex r l = two.index in
      let left = index_of_one l step.0 step.1 index.range in
      let same : indexed a step.0 ≡ j = inner (indexed a step.0) j step.2 in
      let called : j.name ≡ a = sym (ap (λ (x : Axis). x.name) same) in
      let size = and_parts (s == j.size) true sized in
      let long : length (labels_of l.list) ≡ r = counted l.list ∙ index.whole in
      let few = two.few in
      let fewer = left.fewer in
      let held = and_parts (has_all j (axis a s None)) (has_all j (axis b r (Some l)) && true) all in
      let held2 = and_parts (has_all j (axis b r (Some l))) true held.1 in
      record {
        first = comes_stay (axis a s None) j called refl (eqb-true s j.size size.0);
        second = comes_labelled (axis b r (Some l)) j l step.0 refl (sym (ap (λ (x : Axis). x.labels) same)) (called ∙ sym named) long (ap (λ (x : Axis). x.size) same) left.fewer held2.0;
        formed = subst IsDimension same (index_formed a step.0 one.name (omega arith) left.range (subst AreAttributes (sym left.attrs) index.attrs));
      }
  meet_by (Some l) (Some m) one two is sized all =
      let step = bind_ok (joined_index Inner l (m ∷ [])) (λ k. Ok (indexed a k)) j is in
      let index : IsIndex s l = one.index in
      let other : IsIndex r m = two.index in
      let left = index_of_two l m step.0 step.1 index.range other.range in
      let same : indexed a step.0 ≡ j = inner (indexed a step.0) j step.2 in
      let called : j.name ≡ a = sym (ap (λ (x : Axis). x.name) same) in
      let long : length (labels_of l.list) ≡ s = counted l.list ∙ index.whole in
      let longer : length (labels_of m.list) ≡ r = counted m.list ∙ other.whole in
      let few = one.few in
      let fewer = left.fewer in
      let held = and_parts (has_all j (axis a s (Some l))) (has_all j (axis b r (Some m)) && true) all in
      let held2 = and_parts (has_all j (axis b r (Some m))) true held.1 in
      record {
        first = comes_labelled (axis a s (Some l)) j l step.0 refl (sym (ap (λ (x : Axis). x.labels) same)) called long (ap (λ (x : Axis). x.size) same) left.fewer held.0;
        second = comes_labelled (axis b r (Some m)) j m step.0 refl (sym (ap (λ (x : Axis). x.labels) same)) (called ∙ sym named) longer (ap (λ (x : Axis). x.size) same) left.less held2.0;
        formed = subst IsDimension same (index_formed a step.0 one.name (omega arith) left.range (subst AreAttributes (sym left.attrs) index.attrs));
      }

-- the join of two
pub meet : (x y j : Axis) → IsDimension x → IsDimension y → y.name ≡ x.name → join Inner false (x ∷ y ∷ []) ≡ Ok j → Meet x y j
unfolding join
meet x y j one two named is =
    let xs : List Axis = x ∷ y ∷ [] in
    let s1 = bind_ok (labelled_axis Inner x (indexes xs)) (λ joined. unless (list_all (has_size joined) xs) SizeConflict >>= λ u. unless (false || list_all (has_all joined) xs) WouldPromote >>= λ v. Ok joined) j is in
    let s2 = bind_ok (unless (list_all (has_size s1.0) xs) SizeConflict) (λ u. unless (false || list_all (has_all s1.0) xs) WouldPromote >>= λ v. Ok s1.0) j s1.2 in
    let s3 = bind_ok (unless (false || list_all (has_all s1.0) xs) WouldPromote) (λ v. Ok s1.0) j s2.2 in
    let same : s1.0 ≡ j = inner s1.0 j s3.2 in
    meet_by x.name y.name x.size y.size j named x.labels y.labels one two (s1.1 ∙ ap Ok same)
    (ap (λ k. list_all (has_size k) xs) (sym same) ∙ unless_ok (list_all (has_size s1.0) xs) SizeConflict s2.0 s2.1)
    (ap (λ k. list_all (has_all k) xs) (sym same) ∙ unless_ok (list_all (has_all s1.0) xs) WouldPromote s3.0 s3.1)

-- an axis alone
pub comes_itself : (x : Axis) → Comes x x
comes_itself x = comes_stay x x refl (by x.labels) refl
  where
    by : (o : Option Labels) → stays o o ≡ true
    by None = refl
    by (Some l) = all_same (labels_of l.list)
