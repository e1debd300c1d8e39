-- Axes joined by `exact`: each comes to the joined one in its own size.
use Rattle.std.proofs.Common.{◌≡◌, ◌≤◌, ◌||◌, ◌&&◌, ℕ, ℤ, Bool, true, false, not, cond, List, [], ◌∷◌, length, map, Option, Some, None, Result, Ok, Err, refl, sym, ap, subst, ◌∙◌, arith}
use Rattle.std.specs.Prelude.{MatchOption, ⊤}
use Rattle.std.specs.List.{list_all, AllByRecursion}
use Rattle.std.proofs.lemmas.Bool.{and_from, and_parts, eqb-true}
use Rattle.xr_types.specs.Kinds.{promoted, InRange}
use Rattle.xr_types.specs.Results.{◌>>=◌, unless}
use Rattle.xr_types.specs.declared.axis.Axis.{Axis}
use Rattle.xr_types.specs.declared.axis.Label.{Label}
use Rattle.xr_types.specs.declared.axis.Labels.{Labels}
use Rattle.xr_types.specs.declared.axis.LabelList.{LabelList}
use Rattle.xr_types.specs.declared.axis.LabelList.TheVariants.{Numbers, Times, Texts}
use Rattle.xr_types.specs.declared.fault.Fault.{Fault}
use Rattle.xr_types.specs.declared.fault.Fault.TheVariants.{LabelKind, NotAligned, NotUnique, SizeConflict, WouldPromote}
use Rattle.xr_types.specs.declared.kind.DType.{DType}
use Rattle.xr_types.specs.declared.operation.How.TheVariants.{Exact}
use Rattle.xr_arrays.specs.Labels.{labels_of, repeats, same}
use Rattle.xr_defs.specs.Building.{is_integer_kind, same_labels}
use Rattle.xr_defs.specs.Limits.{most_cells}
use Rattle.xr_defs.specs.WellFormed.{AreAttributes, AreLabels, IsDimension, IsIndex}
use Rattle.xr_operations.specs.Alignment.{are_kin, common_kind, has_all, has_size, indexes, is_exact, join, joined_by, joined_index, joined_labels, labelled_axis, listed, number_kind, relisted}
use Rattle.align_join.specs.Joined.{stays}
use Rattle.align_join.proofs.Relisted.{numbers_again, times_again, texts_again}
use Rattle.xr_joining.specs.Fitted.{Comes}
use Rattle.xr_joining.proofs.Counted.{all_same, same_length, same_swap}
use Rattle.xr_joining.proofs.MeetLaws.{bind_ok, comes_stay, counted, inner, unless_ok}
use Rattle.xr_joining.proofs.Promoted.{in_promoted}

-- ---- equal labels

swapped : (ls ms : List Label) → same_labels ls ms ≡ true → same_labels ms ls ≡ true
swapped [] [] e = e
swapped [] (m ∷ ms) e = e
swapped (l ∷ ls) [] e = e
swapped (l ∷ ls) (m ∷ ms) e =
    let parts = and_parts (same l m) (same_labels ls ms) e in
    and_from (same m l) (same_labels ms ls) (same_swap l m parts.0) (swapped ls ms parts.1)

exact_labels : (ls labels : List Label) (lists : List (List Label)) → joined_labels Exact ls lists ≡ Ok labels → (ls ≡ labels) × (list_all (same_labels ls) lists ≡ true)
unfolding joined_labels unless
exact_labels ls labels lists is = by (list_all (same_labels ls) lists) refl is
  where
    by : (b : Bool) → list_all (same_labels ls) lists ≡ b → cond b (Ok ls) (unless (not (is_exact Exact)) NotAligned >>= λ u. unless (not (repeats ls || false)) NotUnique >>= λ v. Ok (joined_by Exact ls lists)) ≡ Ok labels
        → (ls ≡ labels) × (list_all (same_labels ls) lists ≡ true)
    by true e is = (inner ls labels is, e)
    by false e is = absurd cc

-- whole numbers of a list as those of a kind
abbrev as_kind : DType → LabelList → LabelList
as_kind t (Numbers kind ns) = Numbers t ns
as_kind t (Times coding ts) = Times coding ts
as_kind t (Texts ts) = Texts ts

relist : (t : DType) (list : LabelList) → relisted t list (labels_of list) ≡ as_kind t list
relist t (Numbers kind ns) = ap (Numbers t) (numbers_again ns)
relist t (Times coding ts) = ap (Times coding) (times_again ts)
relist t (Texts ts) = ap Texts (texts_again ts)

same_list : (t : DType) (list : LabelList) → labels_of (as_kind t list) ≡ labels_of list
same_list t (Numbers kind ns) = refl
same_list t (Times coding ts) = refl
same_list t (Texts ts) = refl

-- the promoted kind has the numbers of the first
promoted_all : (t v : DType) (lists : List LabelList) → is_integer_kind t ≡ true → AllByRecursion AreLabels lists → common_kind t lists ≡ Ok v → (is_integer_kind v ≡ true) × ((n : ℤ) → InRange t n → InRange v n)
unfolding common_kind
promoted_all t v [] whole all is = let same : t ≡ v = inner t v is in (ap is_integer_kind (sym same) ∙ whole, λ n range. subst (λ u. InRange u n) same range)
promoted_all t v (Numbers u ns ∷ lists) whole all is = by (promoted t u) refl is (λ w. promoted_all w v lists)
  where
    by : (o : Option DType) → promoted t u ≡ o → elim o as (λ o. Result DType Fault) [ None ↦ Err WouldPromote | Some w ↦ common_kind w lists ] ≡ Ok v
        → ((w : DType) → is_integer_kind w ≡ true → AllByRecursion AreLabels lists → common_kind w lists ≡ Ok v → (is_integer_kind v ≡ true) × ((n : ℤ) → InRange w n → InRange v n)) → (is_integer_kind v ≡ true) × ((n : ℤ) → InRange t n → InRange v n)
    by None e is more = absurd cc
    by (Some w) e is more =
        let one = in_promoted t u w whole all.0.0 e in
        let rest = more w one.0 all.1 is in
        (rest.0, λ n range. rest.1 n (one.1 n range))
promoted_all t v (Times coding ts ∷ lists) whole all is = promoted_all t v lists whole all.1 is
promoted_all t v (Texts ts ∷ lists) whole all is = promoted_all t v lists whole all.1 is

range_of : (list : LabelList) (t : DType) (lists : List LabelList) → AreLabels list → AllByRecursion AreLabels lists → common_kind (number_kind list) lists ≡ Ok t → AreLabels (as_kind t list)
range_of (Numbers kind ns) t lists are all is = let up = promoted_all kind t lists are.0 all is in (up.0, λ k d lt. up.1 _ (are.1 k d lt))
range_of (Times coding ts) t lists are all is = are
range_of (Texts ts) t lists are all is = are

-- ---- the index

record Index (l n : Labels) (ls : List Labels) : Type 0 where
  labels : labels_of n.list ≡ labels_of l.list
  range : AreLabels n.list
  attrs : n.attrs ≡ l.attrs
  equal : list_all (same_labels (labels_of l.list)) (map labels_of (listed ls)) ≡ true

index_of : (l n : Labels) (ls : List Labels) → joined_index Exact l ls ≡ Ok n → AreLabels l.list → AllByRecursion AreLabels (listed ls) → Index l n ls
unfolding joined_index
index_of l n ls is own all =
    let s1 = bind_ok (unless (list_all (are_kin l.list) (listed ls)) LabelKind) (λ u. common_kind (number_kind l.list) (listed ls) >>= λ t. joined_labels Exact (labels_of l.list) (map labels_of (listed ls)) >>= λ labels. Ok (record { list = relisted t l.list labels; attrs = l.attrs })) n is in
    let s2 = bind_ok (common_kind (number_kind l.list) (listed ls)) (λ t. joined_labels Exact (labels_of l.list) (map labels_of (listed ls)) >>= λ labels. Ok (record { list = relisted t l.list labels; attrs = l.attrs })) n s1.2 in
    let s3 = bind_ok (joined_labels Exact (labels_of l.list) (map labels_of (listed ls))) (λ labels. Ok (record { list = relisted s2.0 l.list labels; attrs = l.attrs })) n s2.2 in
    let exact = exact_labels (labels_of l.list) s3.0 (map labels_of (listed ls)) s3.1 in
    let made : record { list = relisted s2.0 l.list s3.0; attrs = l.attrs } ≡ n = inner (record { list = relisted s2.0 l.list s3.0; attrs = l.attrs }) n s3.2 in
    let list : n.list ≡ as_kind s2.0 l.list = ap (λ (m : Labels). m.list) (sym made) ∙ ap (relisted s2.0 l.list) (sym exact.0) ∙ relist s2.0 l.list in
    record {
      labels = ap labels_of list ∙ same_list s2.0 l.list;
      range = subst AreLabels (sym list) (range_of l.list s2.0 (listed ls) own all s2.1);
      attrs = ap (λ (m : Labels). m.attrs) (sym made);
      equal = exact.1;
    }

-- ---- one axis that comes to the joined one

abbrev axis : List ℕ → ℕ → Option Labels → Axis
axis name size labels = record { name = name; size = size; labels = labels }

-- in its own size
abbrev pub Rests : Axis → Axis → Type 0
Rests j x = Comes x j × (x.size ≡ j.size)

-- labels that stay those of the joined axis
abbrev Settled : Axis → Axis → Type 0
Settled j y = MatchOption y.labels ⊤ (λ k. (stays (Some k) j.labels ≡ true) × (length (labels_of k.list) ≡ j.size))

rests : (j y : Axis) → IsDimension y → j.name ≡ y.name → Settled j y → has_size j y ≡ true → Rests j y
rests j y dim name settled sized = by y.name y.size y.labels dim name settled sized
  where
    by : (n : List ℕ) (s : ℕ) (o : Option Labels) → IsDimension (axis n s o) → j.name ≡ n → Settled j (axis n s o) → has_size j (axis n s o) ≡ true → Rests j (axis n s o)
    by n s None dim name settled sized = let same = eqb-true s j.size sized in (comes_stay (axis n s None) j name refl same, same)
    by n s (Some k) dim name settled sized =
        let index : IsIndex s k = dim.index in
        let long = counted k.list in
        let whole = index.whole in
        let last = settled.1 in
        let same : s ≡ j.size = omega arith in
        (comes_stay (axis n s (Some k)) j name settled.0 same, same)

-- ---- the joined axis of a name

abbrev pub IsNamed : List ℕ → Axis → Type 0
IsNamed n x = IsDimension x × (x.name ≡ n)

pub record Exactly (n : List ℕ) (j : Axis) (xs : List Axis) : Type 0 where
  pub name : j.name ≡ n
  pub formed : IsDimension j
  pub each : AllByRecursion (Rests j) xs

each_rests : (n : List ℕ) (j : Axis) (xs : List Axis) → j.name ≡ n → AllByRecursion (IsNamed n) xs → AllByRecursion (Settled j) xs → list_all (has_size j) xs ≡ true → AllByRecursion (Rests j) xs
each_rests n j [] name named settled sized = tt
each_rests n j (x ∷ xs) name named settled sized =
    let parts = and_parts (has_size j x) (list_all (has_size j) xs) sized in
    (rests j x named.0.0 (name ∙ sym named.0.1) settled.0 parts.0, each_rests n j xs name named.1 settled.1 parts.1)

-- without labels
bare : (j : Axis) (xs : List Axis) → indexes xs ≡ [] → AllByRecursion (Settled j) xs
bare j [] none = tt
bare j (x ∷ xs) none = by x.name x.size x.labels none (bare j xs)
  where
    by : (n : List ℕ) (s : ℕ) (o : Option Labels) → indexes (axis n s o ∷ xs) ≡ [] → (indexes xs ≡ [] → AllByRecursion (Settled j) xs) → AllByRecursion (Settled j) (axis n s o ∷ xs)
    by n s None none rest = (tt, rest none)
    by n s (Some l) none rest = absurd cc

-- labels equal to those of the joined axis
labelled : (j : Axis) (m : Labels) (L : List Label) (xs : List Axis) → j.labels ≡ Some m → labels_of m.list ≡ L → length L ≡ j.size → list_all (same_labels L) (map labels_of (listed (indexes xs))) ≡ true → AllByRecursion (Settled j) xs
labelled j m L [] has is size equal = tt
labelled j m L (x ∷ xs) has is size equal = by x.name x.size x.labels equal (labelled j m L xs has is size)
  where
    by : (n : List ℕ) (s : ℕ) (o : Option Labels) → list_all (same_labels L) (map labels_of (listed (indexes (axis n s o ∷ xs)))) ≡ true → (list_all (same_labels L) (map labels_of (listed (indexes xs))) ≡ true → AllByRecursion (Settled j) xs) → AllByRecursion (Settled j) (axis n s o ∷ xs)
    by n s None equal rest = (tt, rest equal)
    by n s (Some k) equal rest =
        let parts = and_parts (same_labels L (labels_of k.list)) (list_all (same_labels L) (map labels_of (listed (indexes xs)))) equal in
        let stay : stays (Some k) j.labels ≡ true = ap (stays (Some k)) has ∙ ap (same_labels (labels_of k.list)) is ∙ swapped L (labels_of k.list) parts.0 in
        let long = same_length L (labels_of k.list) parts.0 in
        ((stay, omega arith), rest parts.1)

-- an index among those of axes as they have to be
abbrev IsFormed : Labels → Type 0
IsFormed l = AreLabels l.list × AreAttributes l.attrs × (length (labels_of l.list) ≤ most_cells)

formed_all : (n : List ℕ) (xs : List Axis) → AllByRecursion (IsNamed n) xs → AllByRecursion IsFormed (indexes xs)
formed_all n [] named = tt
formed_all n (x ∷ xs) named = by x.name x.size x.labels named.0.0 (formed_all n xs named.1)
  where
    by : (m : List ℕ) (s : ℕ) (o : Option Labels) → IsDimension (axis m s o) → AllByRecursion IsFormed (indexes xs) → AllByRecursion IsFormed (indexes (axis m s o ∷ xs))
    by m s None dim rest = rest
    by m s (Some l) dim rest =
        let index : IsIndex s l = dim.index in
        let long = counted l.list in
        let whole = index.whole in
        let few = dim.few in
        ((index.range, index.attrs, omega arith), rest)

lists_formed : (ls : List Labels) → AllByRecursion IsFormed ls → AllByRecursion AreLabels (listed ls)
lists_formed [] all = tt
lists_formed (l ∷ ls) all = (all.0.0, lists_formed ls all.1)

joined_axis : (n : List ℕ) (x j : Axis) (xs : List Axis) (ls : List Labels) → IsNamed n x → indexes (x ∷ xs) ≡ ls → AllByRecursion IsFormed ls → labelled_axis Exact x ls ≡ Ok j → (j.name ≡ n) × IsDimension j × AllByRecursion (Settled j) (x ∷ xs)
unfolding labelled_axis
joined_axis n x j xs [] named is all made =
    let same : x ≡ j = inner x j made in
    (ap (λ (y : Axis). y.name) (sym same) ∙ named.1, subst IsDimension same named.0, bare j (x ∷ xs) is)
joined_axis n x j xs (l ∷ ls) named is all made =
    let step = bind_ok (joined_index Exact l ls) (λ m. Ok (record x { size = length (labels_of m.list); labels = Some m })) j made in
    let m : Labels = step.0 in
    let index = index_of l m ls step.1 all.0.0 (lists_formed ls all.1) in
    let same : record x { size = length (labels_of m.list); labels = Some m } ≡ j = inner (record x { size = length (labels_of m.list); labels = Some m }) j step.2 in
    let size : length (labels_of l.list) ≡ j.size = ap length (sym index.labels) ∙ ap (λ (y : Axis). y.size) same in
    let has : j.labels ≡ Some m = sym (ap (λ (y : Axis). y.labels) same) in
    let equal : list_all (same_labels (labels_of l.list)) (map labels_of (listed (l ∷ ls))) ≡ true = ap (λ b. b && list_all (same_labels (labels_of l.list)) (map labels_of (listed ls))) (all_same (labels_of l.list)) ∙ index.equal in
    let few = all.0.2 in
    let long = ap length index.labels in (
      ap (λ (y : Axis). y.name) (sym same) ∙ named.1,
      subst IsDimension same (record { name = named.0.name; few = omega arith; index = record { whole = sym (counted m.list); range = index.range; attrs = subst AreAttributes (sym index.attrs) all.0.1 } }),
      labelled j m (labels_of l.list) (x ∷ xs) has index.labels size (ap (λ ks. list_all (same_labels (labels_of l.list)) (map labels_of (listed ks))) is ∙ equal),
    )

pub exact_join : (n : List ℕ) (x j : Axis) (xs : List Axis) → AllByRecursion (IsNamed n) (x ∷ xs) → join Exact false (x ∷ xs) ≡ Ok j → Exactly n j (x ∷ xs)
unfolding join
exact_join n x j xs named is =
    let all : List Axis = x ∷ xs in
    let s1 = bind_ok (labelled_axis Exact x (indexes all)) (λ joined. unless (list_all (has_size joined) all) SizeConflict >>= λ u. unless (false || list_all (has_all joined) all) WouldPromote >>= λ v. Ok joined) j is in
    let s2 = bind_ok (unless (list_all (has_size s1.0) all) SizeConflict) (λ u. unless (false || list_all (has_all s1.0) all) WouldPromote >>= λ v. Ok s1.0) j s1.2 in
    let s3 = bind_ok (unless (false || list_all (has_all s1.0) all) WouldPromote) (λ v. Ok s1.0) j s2.2 in
    let same : s1.0 ≡ j = inner s1.0 j s3.2 in
    let joined = joined_axis n x j xs (indexes all) named.0 refl (formed_all n all named) (s1.1 ∙ ap Ok same) in
    let sized : list_all (has_size j) all ≡ true = ap (λ k. list_all (has_size k) all) (sym same) ∙ unless_ok (list_all (has_size s1.0) all) SizeConflict s2.0 s2.1 in
    record { name = joined.0; formed = joined.1; each = each_rests n j all joined.0 named joined.2 sized }
