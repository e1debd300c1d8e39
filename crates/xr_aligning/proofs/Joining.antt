-- Joined axes are as they have to be, but for their sizes: their labels are labels of the axes that are joined.
use Rattle.xr_aligning.proofs.Common.{All-from_recursion, AllByRecursion, AreAttributes, AreLabels, AreLoose, Axis, Bool, Calendar, DType, Equal, Err, Fault, Greater, How, InRange, Int, IsDimension, IsIndex, IsLoose, IsTime, Label, LabelKind, LabelList, Labels, Less, List, None, NotAligned, NotUnique, Numbers, Ok, Option, Ordering, Result, SizeConflict, Some, Text, Texts, Time, Times, WouldPromote, [], aligned, all_names, all_of_lists, among, among_both, and_parts, ap, are_distinct, are_kin, ascending, axes_named, axis_names, axis_of, bind_ok, bytes_eq, common_kind, cond, counted, each_left, each_map, false, fold, has_all, has_size, holds_label, in_promoted, indexes, inner, insert_key, is_empty, is_exact, is_integer_kind, itself, join, joined_by, joined_each, joined_index, joined_labels, joined_or_own, labelled_axis, labels_of, last_of, length, list_all, list_any, listed, map, match_ordering, names_once, not, number_kind, number_of, of_called, of_holds, once_among, once_distinct, order, outer_of, promoted, recursion_from_All, refl, relisted, repeats, same_calendar, same_labels, subst, sym, true, unless, unless_ok, ℕ, ℤ, ⊤, ◌++◌, ◌>>=◌, ◌||◌, ◌∙◌, ◌∷◌, ◌≡◌}
use Rattle.std.specs.List.{All, filter}
use Rattle.xr_types.specs.declared.operation.How.TheVariants as how
use Rattle.xr_types.specs.declared.axis.Calendar.TheVariants as calendars
use Rattle.xr_aligning.proofs.Swapped.{swapped}

-- ---- the joined labels are labels of the lists

module _ (P : Label → Type 0) where
  abbrev Each : List Label → Type 0
  Each ls = AllByRecursion P ls

  abbrev EachList : List (List Label) → Type 0
  EachList lists = AllByRecursion Each lists

  both : (xs ys : List Label) → Each xs → Each ys → Each (xs ++ ys)
  both [] ys one two = two
  both (x ∷ xs) ys one two = (one.0, both xs ys one.1 two)

  all_lists : (lists : List (List Label)) → EachList lists → Each (all_of_lists lists)
  all_lists [] all = tt
  all_lists (ls ∷ lists) all = both ls (all_of_lists lists) all.0 (all_lists lists all.1)

  put : (ls : List Label) (l : Label) → Each ls → P l → Each (insert_key order ls l)
  put [] l all is = (is, tt)
  put (m ∷ ls) l all is = by (order l m) (put ls l all.1 is)
    where
      by : (o : Ordering) → Each (insert_key order ls l) → Each (match_ordering o (l ∷ m ∷ ls) (m ∷ ls) (m ∷ insert_key order ls l))
      by Less rest = (is, all)
      by Equal rest = all
      by Greater rest = (all.0, rest)

  put_all : (out ls : List Label) → Each out → Each ls → Each (fold (insert_key order) out ls)
  put_all out [] have all = have
  put_all out (l ∷ ls) have all = put_all (insert_key order out l) ls (put out l have all.0) all.1

  outer : (lists : List (List Label)) → EachList lists → Each (outer_of lists)
  outer [] all = tt
  outer (ls ∷ lists) all = by (list_all (same_labels ls) lists)
    where
      by : (b : Bool) → Each (cond b ls (ascending (ls ++ all_of_lists lists)))
      by true = all.0
      by false = put_all [] (ls ++ all_of_lists lists) tt (both ls (all_of_lists lists) all.0 (all_lists lists all.1))

  last : (ls : List Label) (lists : List (List Label)) → Each ls → EachList lists → Each (last_of ls lists)
  last ls [] one all = one
  last ls (ms ∷ lists) one all = last ms lists all.0 all.1

  by_how : (j : How) (ls : List Label) (lists : List (List Label)) → Each ls → EachList lists → Each (joined_by j ls lists)
  by_how how.Exact ls lists one all = one
  by_how how.Inner ls lists one all = each_left P P (λ l. list_all (λ ms. holds_label ms l) lists) (λ x e is. is) ls one
  by_how how.Outer ls lists one all = outer (filter (λ ms. not (is_empty ms)) (ls ∷ lists)) (each_left Each Each (λ ms. not (is_empty ms)) (λ x e is. is) (ls ∷ lists) (one, all))
  by_how how.Left ls lists one all = one
  by_how how.Right ls lists one all = last ls lists one all

  of_lists : (j : How) (ls labels : List Label) (lists : List (List Label)) → joined_labels j ls lists ≡ Ok labels → Each ls → EachList lists → Each labels
  unfolding joined_labels
  of_lists j ls labels lists is one all = by (list_all (same_labels ls) lists) is
    where
      by : (b : Bool) → cond b (Ok ls) (unless (not (is_exact j)) NotAligned >>= λ u. unless (not (list_any repeats (ls ∷ lists))) NotUnique >>= λ v. Ok (joined_by j ls lists)) ≡ Ok labels → Each labels
      by true is = subst Each (inner ls labels is) one
      by false is =
          let s1 = bind_ok (unless (not (is_exact j)) NotAligned) (λ u. unless (not (list_any repeats (ls ∷ lists))) NotUnique >>= λ v. Ok (joined_by j ls lists)) labels is in
          let s2 = bind_ok (unless (not (list_any repeats (ls ∷ lists))) NotUnique) (λ v. Ok (joined_by j ls lists)) labels s1.2 in
          subst Each (inner (joined_by j ls lists) labels s2.2) (by_how j ls lists one all)

-- ---- labels of a kind

-- a label that a list of the sort of this one can hold
abbrev Suits : DType → LabelList → Label → Type 0
Suits t (Numbers kind ns) l = InRange t (number_of l)
Suits t (Times coding ts) l = IsTime coding.units.calendar (number_of l)
Suits t (Texts ts) l = ⊤

-- whole numbers of a list are of the kind
abbrev IsUp : DType → LabelList → Type 0
IsUp t (Numbers u ns) = (n : ℤ) → InRange u n → InRange t n
IsUp t (Times coding ts) = ⊤
IsUp t (Texts ts) = ⊤

numbers_in : (P : Label → Type 0) (Q : ℤ → Type 0) (f : ℤ → Label) (ns : List ℤ) → ((n : ℤ) → Q n → P (f n)) → All Q ns → AllByRecursion P (map f ns)
numbers_in P Q f ns each all = each_map Q P f ns each (recursion_from_All Q ns all)

texts_in : (P : Label → Type 0) (ts : List (List ℕ)) → ((t : List ℕ) → P (Text t)) → AllByRecursion P (map Text ts)
texts_in P [] each = tt
texts_in P (t ∷ ts) each = (each t, texts_in P ts each)

same_calendars : (a b : Calendar) → same_calendar a b ≡ true → a ≡ b
same_calendars calendars.Civil calendars.Civil is = refl
same_calendars calendars.Civil calendars.NoLeap is = absurd cc
same_calendars calendars.Civil calendars.Days360 is = absurd cc
same_calendars calendars.NoLeap calendars.Civil is = absurd cc
same_calendars calendars.NoLeap calendars.NoLeap is = refl
same_calendars calendars.NoLeap calendars.Days360 is = absurd cc
same_calendars calendars.Days360 calendars.Civil is = absurd cc
same_calendars calendars.Days360 calendars.NoLeap is = absurd cc
same_calendars calendars.Days360 calendars.Days360 is = refl

suit : (t : DType) (first list : LabelList) → are_kin first list ≡ true → AreLabels list → IsUp t list → AllByRecursion (Suits t first) (labels_of list)
suit t (Numbers k ns) (Numbers u ms) kin are up = numbers_in (Suits t (Numbers k ns)) (InRange u) Int ms up are.1
suit t (Numbers k ns) (Times c ts) kin are up = absurd cc
suit t (Numbers k ns) (Texts ts) kin are up = absurd cc
suit t (Times d us) (Numbers u ms) kin are up = absurd cc
suit t (Times d us) (Times c ts) kin are up =
    numbers_in (Suits t (Times d us)) (IsTime c.units.calendar) Time ts (λ n is. subst (λ k. IsTime k n) (sym (same_calendars d.units.calendar c.units.calendar kin)) is) are
suit t (Times d us) (Texts ts) kin are up = absurd cc
suit t (Texts us) (Numbers u ms) kin are up = absurd cc
suit t (Texts us) (Times c ts) kin are up = absurd cc
suit t (Texts us) (Texts ts) kin are up = texts_in (Suits t (Texts us)) ts (λ s. tt)

suit_own : (t : DType) (list : LabelList) → AreLabels list → IsUp t list → AllByRecursion (Suits t list) (labels_of list)
suit_own t (Numbers k ns) are up = numbers_in (Suits t (Numbers k ns)) (InRange k) Int ns up are.1
suit_own t (Times d us) are up = numbers_in (Suits t (Times d us)) (IsTime d.units.calendar) Time us (λ n is. is) are
suit_own t (Texts us) are up = texts_in (Suits t (Texts us)) us (λ s. tt)

suit_each : (t : DType) (first : LabelList) (lists : List LabelList) → list_all (are_kin first) lists ≡ true → AllByRecursion AreLabels lists → AllByRecursion (IsUp t) lists
    → AllByRecursion (λ ls. AllByRecursion (Suits t first) ls) (map labels_of lists)
suit_each t first [] kin are up = tt
suit_each t first (l ∷ lists) kin are up =
    let parts = and_parts (are_kin first l) (list_all (are_kin first) lists) kin in
    (suit t first l parts.0 are.0 up.0, suit_each t first lists parts.1 are.1 up.1)

-- the promoted kind has the numbers of all
record Ups (t v : DType) (lists : List LabelList) : Type 0 where
  whole : is_integer_kind v ≡ true
  own : (n : ℤ) → InRange t n → InRange v n
  each : AllByRecursion (IsUp v) lists

ups : (t v : DType) (lists : List LabelList) → is_integer_kind t ≡ true → AllByRecursion AreLabels lists → common_kind t lists ≡ Ok v → Ups t v lists
unfolding common_kind
ups t v [] whole all is = let same : t ≡ v = inner t v is in record { whole = ap is_integer_kind (sym same) ∙ whole; own = λ n range. subst (λ u. InRange u n) same range; each = tt }
ups t v (Numbers u ns ∷ lists) whole all is = by (promoted t u) refl is (λ w. ups w v lists)
  where
    by : (o : Option DType) → promoted t u ≡ o → elim o as (λ o. Result DType Fault) [ None ↦ Err WouldPromote | Some w ↦ common_kind w lists ] ≡ Ok v
        → ((w : DType) → is_integer_kind w ≡ true → AllByRecursion AreLabels lists → common_kind w lists ≡ Ok v → Ups w v lists) → Ups t v (Numbers u ns ∷ lists)
    by None e is more = absurd cc
    by (Some w) e is more =
        let one = in_promoted t u w whole all.0.0 e in
        let two = in_promoted u t w all.0.0 whole (swapped u t all.0.0 whole ∙ e) in
        let rest = more w one.0 all.1 is in
        record { whole = rest.whole; own = λ n range. rest.own n (one.1 n range); each = (λ n range. rest.own n (two.1 n range), rest.each) }
ups t v (Times coding ts ∷ lists) whole all is = let rest = ups t v lists whole all.1 is in record { whole = rest.whole; own = rest.own; each = (tt, rest.each) }
ups t v (Texts ts ∷ lists) whole all is = let rest = ups t v lists whole all.1 is in record { whole = rest.whole; own = rest.own; each = (tt, rest.each) }

-- lists of times or of texts have no kind
others_up : (t : DType) (first : LabelList) (lists : List LabelList) → ((u : DType) (ms : List ℤ) → are_kin first (Numbers u ms) ≡ false) → list_all (are_kin first) lists ≡ true → AllByRecursion (IsUp t) lists
others_up t first [] never kin = tt
others_up t first (Numbers u ms ∷ lists) never kin = absurd (let parts = and_parts (are_kin first (Numbers u ms)) (list_all (are_kin first) lists) kin in let first_is = parts.0 in let none = never u ms in cc)
others_up t first (Times c ts ∷ lists) never kin = (tt, others_up t first lists never (and_parts (are_kin first (Times c ts)) (list_all (are_kin first) lists) kin).1)
others_up t first (Texts ts ∷ lists) never kin = (tt, others_up t first lists never (and_parts (are_kin first (Texts ts)) (list_all (are_kin first) lists) kin).1)

relisted_formed : (t : DType) (list : LabelList) (labels : List Label) → (is_integer_kind t ≡ true) → AllByRecursion (Suits t list) labels → AreLabels (relisted t list labels)
relisted_formed t (Numbers k ns) labels whole all = (whole, All-from_recursion (InRange t) (map number_of labels) (each_map (Suits t (Numbers k ns)) (InRange t) number_of labels (λ l is. is) all))
relisted_formed t (Times d us) labels whole all = All-from_recursion (IsTime d.units.calendar) (map number_of labels) (each_map (Suits t (Times d us)) (IsTime d.units.calendar) number_of labels (λ l is. is) all)
relisted_formed t (Texts us) labels whole all = tt

-- ---- the index

abbrev IsFormed : Labels → Type 0
IsFormed l = AreLabels l.list × AreAttributes l.attrs

lists_formed : (ls : List Labels) → AllByRecursion IsFormed ls → AllByRecursion AreLabels (listed ls)
lists_formed [] all = tt
lists_formed (l ∷ ls) all = (all.0.0, lists_formed ls all.1)

index_labels : (j : How) (t : DType) (first : LabelList) (lists : List LabelList) (labels : List Label) → AreLabels first → AllByRecursion AreLabels lists → list_all (are_kin first) lists ≡ true
    → common_kind (number_kind first) lists ≡ Ok t → joined_labels j (labels_of first) (map labels_of lists) ≡ Ok labels → AreLabels (relisted t first labels)
index_labels j t (Numbers k ns) lists labels own all kin common is =
    let first : LabelList = Numbers k ns in
    let up = ups k t lists own.0 all common in
    relisted_formed t first labels up.whole (of_lists (Suits t first) j (labels_of first) labels (map labels_of lists) is (suit_own t first own up.own) (suit_each t first lists kin all up.each))
index_labels j t (Times d us) lists labels own all kin common is =
    let first : LabelList = Times d us in
    let up = others_up t first lists (λ u ms. refl) kin in
    All-from_recursion (IsTime d.units.calendar) (map number_of labels) (each_map (Suits t first) (IsTime d.units.calendar) number_of labels (λ l here. here) (of_lists (Suits t first) j (labels_of first) labels (map labels_of lists) is (suit_own t first own tt) (suit_each t first lists kin all up)))
index_labels j t (Texts us) lists labels own all kin common is = tt

index_formed : (j : How) (l m : Labels) (ls : List Labels) → joined_index j l ls ≡ Ok m → IsFormed l → AllByRecursion IsFormed ls → IsFormed m
unfolding joined_index
index_formed j l m ls is own all =
    let s1 = bind_ok (unless (list_all (are_kin l.list) (listed ls)) LabelKind) (λ u. common_kind (number_kind l.list) (listed ls) >>= λ t. joined_labels j (labels_of l.list) (map labels_of (listed ls)) >>= λ labels. Ok (record { list = relisted t l.list labels; attrs = l.attrs })) m is in
    let s2 = bind_ok (common_kind (number_kind l.list) (listed ls)) (λ t. joined_labels j (labels_of l.list) (map labels_of (listed ls)) >>= λ labels. Ok (record { list = relisted t l.list labels; attrs = l.attrs })) m s1.2 in
    let s3 = bind_ok (joined_labels j (labels_of l.list) (map labels_of (listed ls))) (λ labels. Ok (record { list = relisted s2.0 l.list labels; attrs = l.attrs })) m s2.2 in
    let made : record { list = relisted s2.0 l.list s3.0; attrs = l.attrs } ≡ m = inner (record { list = relisted s2.0 l.list s3.0; attrs = l.attrs }) m s3.2 in
    subst IsFormed made (index_labels j s2.0 l.list (listed ls) s3.0 own.0 (lists_formed ls all) (unless_ok (list_all (are_kin l.list) (listed ls)) LabelKind s1.0 s1.1) s2.1 s3.1, own.1)

-- ---- the joined axis of a name

abbrev IsNamed : List ℕ → Axis → Type 0
IsNamed n x = IsDimension x × (x.name ≡ n)

record Loosely (n : List ℕ) (j : Axis) : Type 0 where
  name : j.name ≡ n
  loose : IsLoose j

formed_all : (n : List ℕ) (xs : List Axis) → AllByRecursion (IsNamed n) xs → AllByRecursion IsFormed (indexes xs)
formed_all n [] named = tt
formed_all n (x ∷ xs) named = by x.name x.size x.labels named.0.0 (formed_all n xs named.1)
  where
    by : (m : List ℕ) (s : ℕ) (o : Option Labels) → IsDimension (record { name = m; size = s; labels = o }) → AllByRecursion IsFormed (indexes xs) → AllByRecursion IsFormed (indexes (record { name = m; size = s; labels = o } ∷ xs))
    by m s None dim rest = rest
    by m s (Some l) dim rest = let index : IsIndex s l = dim.index in ((index.range, index.attrs), rest)

of_indexes : (n : List ℕ) (j : How) (x m : Axis) (ls : List Labels) → IsNamed n x → AllByRecursion IsFormed ls → labelled_axis j x ls ≡ Ok m → Loosely n m
unfolding labelled_axis
of_indexes n j x m [] named all made =
    let same : x ≡ m = inner x m made in
    subst (Loosely n) same (record { name = named.1; loose = record { name = named.0.name; index = named.0.index } })
of_indexes n j x m (l ∷ ls) named all made =
    let step = bind_ok (joined_index j l ls) (λ k. Ok (record x { size = length (labels_of k.list); labels = Some k })) m made in
    let k : Labels = step.0 in
    let formed = index_formed j l k ls step.1 all.0 all.1 in
    let same : record x { size = length (labels_of k.list); labels = Some k } ≡ m = inner (record x { size = length (labels_of k.list); labels = Some k }) m step.2 in
    subst (Loosely n) same (record { name = named.1; loose = record { name = named.0.name; index = record { whole = sym (counted k.list); range = formed.0; attrs = formed.1 } } })

of_join : (n : List ℕ) (j : How) (filled : Bool) (x m : Axis) (xs : List Axis) → AllByRecursion (IsNamed n) (x ∷ xs) → join j filled (x ∷ xs) ≡ Ok m → Loosely n m
unfolding join
of_join n j filled x m xs named is =
    let all : List Axis = x ∷ xs in
    let s1 = bind_ok (labelled_axis j x (indexes all)) (λ joined. unless (list_all (has_size joined) all) SizeConflict >>= λ u. unless (filled || list_all (has_all joined) all) WouldPromote >>= λ v. Ok joined) m is in
    let s2 = bind_ok (unless (list_all (has_size s1.0) all) SizeConflict) (λ u. unless (filled || list_all (has_all s1.0) all) WouldPromote >>= λ v. Ok s1.0) m s1.2 in
    let s3 = bind_ok (unless (filled || list_all (has_all s1.0) all) WouldPromote) (λ v. Ok s1.0) m s2.2 in
    let same : s1.0 ≡ m = inner s1.0 m s3.2 in
    of_indexes n j x m (indexes all) named.0 (formed_all n all named) (s1.1 ∙ ap Ok same)

of_named : (n : List ℕ) (j : How) (filled : Bool) (xs : List Axis) (m : Axis) → (xs ≡ [] → ⊥) → AllByRecursion (IsNamed n) xs → joined_or_own j filled xs ≡ Ok m → Loosely n m
unfolding joined_or_own
of_named n j filled [] m some named is = absurd (some refl)
of_named n j filled (x ∷ []) m some named is = subst (Loosely n) (inner x m is) (record { name = named.0.1; loose = record { name = named.0.0.name; index = named.0.0.index } })
of_named n j filled (x ∷ y ∷ xs) m some named is = of_join n j filled x m (y ∷ xs) named is

-- ---- all names

or_parts_of : (b c : Bool) → (b || c) ≡ true → b ≡ false → c ≡ true
or_parts_of b c e f = cc

some_named : (n : List ℕ) (lists : List (List Axis)) → among (all_names lists) n ≡ true → axes_named n lists ≡ [] → ⊥
some_named n [] has none = absurd cc
some_named n (xs ∷ lists) has none = by (axis_of n xs) refl none (some_named n lists)
  where
    absent : (b : Bool) → among (axis_names xs) n ≡ b → axis_of n xs ≡ None → b ≡ false
    absent true e none = absurd (let there = of_called n xs e in cc)
    absent false e none = refl

    by : (o : Option Axis) → axis_of n xs ≡ o → elim o as (λ o. List Axis) [ None ↦ axes_named n lists | Some x ↦ x ∷ axes_named n lists ] ≡ [] → (among (all_names lists) n ≡ true → axes_named n lists ≡ [] → ⊥) → ⊥
    by None e none rest = rest (or_parts_of (among (axis_names xs) n) (among (all_names lists) n) (sym (among_both (axis_names xs) (all_names lists) n) ∙ has) (absent (among (axis_names xs) n) refl e)) none
    by (Some x) e none rest = cc

all_named : (n : List ℕ) (lists : List (List Axis)) → AllByRecursion (λ (xs : List Axis). AllByRecursion IsDimension xs) lists → AllByRecursion (IsNamed n) (axes_named n lists)
all_named n [] dims = tt
all_named n (xs ∷ lists) dims = by (axis_of n xs) refl (all_named n lists dims.1)
  where
    by : (o : Option Axis) → axis_of n xs ≡ o → AllByRecursion (IsNamed n) (axes_named n lists) → AllByRecursion (IsNamed n) (elim o as (λ o. List Axis) [ None ↦ axes_named n lists | Some x ↦ x ∷ axes_named n lists ])
    by None e rest = rest
    by (Some x) e rest = (of_holds IsDimension n xs x dims.0 e, rest)

or_right : (b c : Bool) → c ≡ true → (b || c) ≡ true
or_right true c e = refl
or_right false c e = e

module _ (j : How) (filled : Bool) (lists : List (List Axis)) (dims : AllByRecursion (λ (xs : List Axis). AllByRecursion IsDimension xs) lists) where
  abbrev Stands : List ℕ → Type 0
  Stands n = among (all_names lists) n ≡ true

  record EachLoose (names : List (List ℕ)) (axes : List Axis) : Type 0 where
    called : axis_names axes ≡ names
    each : AllByRecursion IsLoose axes

  each_joined : (names : List (List ℕ)) (axes : List Axis) → AllByRecursion Stands names → joined_each j filled lists names ≡ Ok axes → EachLoose names axes
  unfolding joined_each
  each_joined [] axes all is = subst (EachLoose []) (inner [] axes is) (record { called = refl; each = tt })
  each_joined (n ∷ ns) axes all is =
      let s1 = bind_ok (joined_or_own j filled (axes_named n lists)) (λ x. joined_each j filled lists ns >>= λ xs. Ok (x ∷ xs)) axes is in
      let s2 = bind_ok (joined_each j filled lists ns) (λ xs. Ok (s1.0 ∷ xs)) axes s1.2 in
      let same : s1.0 ∷ s2.0 ≡ axes = inner (s1.0 ∷ s2.0) axes s2.2 in
      let here = of_named n j filled (axes_named n lists) s1.0 (some_named n lists all.0) (all_named n lists dims) s1.1 in
      let rest = each_joined ns s2.0 all.1 s2.1 in
      subst (EachLoose (n ∷ ns)) same (record { called = (λ i. here.name i ∷ rest.called i); each = (here.loose, rest.each) })

  stand : (ns : List (List ℕ)) → ((n : List ℕ) → among ns n ≡ true → Stands n) → AllByRecursion Stands ns
  stand [] sub = tt
  stand (n ∷ ns) sub = (sub n (ap (λ b. b || among ns n) (itself n)), stand ns (λ m e. sub m (or_right (bytes_eq m n) (among ns m) e)))

  pub are_loose : (axes : List Axis) → aligned j filled lists ≡ Ok axes → AreLoose axes
  unfolding aligned
  are_loose axes is =
      let all = each_joined (names_once (all_names lists)) axes (stand (names_once (all_names lists)) (λ n e. sym (once_among [] (all_names lists) n) ∙ e)) is in
      record { each = all.each; distinct = ap are_distinct all.called ∙ once_distinct [] (all_names lists) refl }

  pub names_are : (axes : List Axis) → aligned j filled lists ≡ Ok axes → axis_names axes ≡ names_once (all_names lists)
  unfolding aligned
  names_are axes is = (each_joined (names_once (all_names lists)) axes (stand (names_once (all_names lists)) (λ n e. sym (once_among [] (all_names lists) n) ∙ e)) is).called
