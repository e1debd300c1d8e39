-- The steps of a join one after the other.
use Rattle.std.proofs.Common.{cond, ◌≡◌, ◌<◌, ◌||◌, ℕ, Bool, true, false, List, [], ◌∷◌, map, length, get_or, Option, Some, None, Result, Ok, Err, refl, sym, ap, subst, ◌∙◌, arith}
use Rattle.std.specs.List.{list_all, range_with_len}
use Rattle.std.specs.Option.{is_some}
use Rattle.xr_types.specs.Results.{◌>>=◌, unless, Answers}
use Rattle.xr_types.specs.declared.axis.Axis.{Axis}
use Rattle.xr_types.specs.declared.axis.Labels.{Labels}
use Rattle.xr_types.specs.declared.fault.CallFault.{CallFault}
use Rattle.xr_types.specs.declared.fault.CallFault.TheVariants.{Refused, Declined, NoMemory}
use Rattle.xr_types.specs.declared.fault.Fault.{Fault}
use Rattle.xr_types.specs.declared.fault.Fault.TheVariants.{LabelKind, SizeConflict, WouldPromote}
use Rattle.xr_types.specs.declared.operation.How.{How}
use Rattle.xr_arrays.specs.Labels.{labels_of}
use Rattle.xr_operations.specs.Alignment.{each_position, found, sources_by, are_kin, common_kind, has_all, has_size, indexes, join, joined_index, joined_labels, labelled_axis, listed, number_kind, relisted, sources}
use Rattle.align_join.specs.Joined.{stays, checked, head, indexed, joined_lists}

-- a fault of the first step is that of the whole
pub fails : {A B C D : Type 0} (v : A → B) (w : C → D) (r : Result C CallFault) (e : CallFault) (told : Result B Fault) (k : B → Result D Fault) (whole : Result D Fault) → r ≡ Err e → whole ≡ (told >>= k) → Answers v (Err e) told → Answers w r whole
fails v w r e told k whole same is h = subst (λ q. Answers w q whole) (sym same) (by e h)
  where
    by : (e : CallFault) → Answers v (Err e) told → Answers w (Err e) whole
    by (Refused f) h = is ∙ ap (λ q. q >>= k) h
    by (Declined n) h = h
    by NoMemory h = tt

bind_bind : {A B C : Type 0} (m : Result A Fault) (f : A → Result B Fault) (g : B → Result C Fault) → ((m >>= f) >>= g) ≡ (m >>= λ x. f x >>= g)
bind_bind (Ok x) f g = refl
bind_bind (Err e) f g = refl

-- ---- the index

pub axis_told : (j : How) (x : Axis) (ls : List Labels) (l : Labels) → Some l ≡ head ls → labelled_axis j x ls ≡ (joined_lists j (listed ls) >>= λ list. Ok (indexed x l.attrs list))
unfolding labelled_axis joined_index
axis_told j x [] l h = cc
axis_told j x (m ∷ ms) l h =
    let e : m ≡ l = cc in
    by (unless (list_all (are_kin m.list) (listed ms)) LabelKind) (common_kind (number_kind m.list) (listed ms)) (joined_labels j (labels_of m.list) (map labels_of (listed ms))) ∙ ap (λ n. joined_lists j (listed (m ∷ ms)) >>= λ list. Ok (indexed x n.attrs list)) e
  where
    by : (a : Result (Unit {0}) Fault) (b : Result _ Fault) (d : Result _ Fault) →
        ((a >>= λ u. b >>= λ t. d >>= λ labels. Ok (record { list = relisted t m.list labels; attrs = m.attrs })) >>= λ n. Ok (record x { size = length (labels_of n.list); labels = Some n }))
        ≡ ((a >>= λ u. b >>= λ t. d >>= λ labels. Ok (relisted t m.list labels)) >>= λ list. Ok (indexed x m.attrs list))
    by (Ok u) (Ok t) (Ok labels) = refl
    by (Ok u) (Ok t) (Err e) = refl
    by (Ok u) (Err e) d = refl
    by (Err e) b d = refl

pub bare_told : (j : How) (x : Axis) (ls : List Labels) → None ≡ head ls → labelled_axis j x ls ≡ Ok x
unfolding labelled_axis
bare_told j x [] h = refl
bare_told j x (m ∷ ms) h = cc

-- ---- the checks

all_some : (ns : List ℕ) → list_all is_some (map Some ns) ≡ true
all_some [] = refl
all_some (n ∷ ns) = all_some ns

pub stays_each : (old new : Axis) → stays old.labels new.labels ≡ true → sources old new ≡ each_position new.size
stays_each old new h = by old.labels new.labels h
  where
    by : (own joined : Option Labels) → stays own joined ≡ true → sources_by own joined new.size ≡ each_position new.size
    by None joined h = refl
    by (Some l) None h = refl
    by (Some l) (Some m) h = ap (λ b. cond b (each_position new.size) (map (found (labels_of l.list)) (labels_of m.list))) h

pub stays_whole : (old new : Axis) → stays old.labels new.labels ≡ true → has_all new old ≡ true
stays_whole old new h = ap (list_all is_some) (stays_each old new h) ∙ all_some (range_with_len 0 new.size)

pub missized : (filled : Bool) (joined : Axis) (xs : List Axis) → list_all (has_size joined) xs ≡ false → checked filled joined xs ≡ Err SizeConflict
unfolding unless
missized filled joined xs p = ap (λ a. unless a SizeConflict >>= λ u. unless (filled || list_all (has_all joined) xs) WouldPromote) p

pub covered : (filled : Bool) (joined : Axis) (xs : List Axis) → list_all (has_size joined) xs ≡ true → (filled || list_all (has_all joined) xs) ≡ true → checked filled joined xs ≡ Ok tt
unfolding unless
covered filled joined xs p q = ap (λ a. unless a SizeConflict >>= λ u. unless (filled || list_all (has_all joined) xs) WouldPromote) p ∙ ap (λ b. unless b WouldPromote) q

pub uncovered : (filled : Bool) (joined : Axis) (xs : List Axis) → list_all (has_size joined) xs ≡ true → (filled || list_all (has_all joined) xs) ≡ false → checked filled joined xs ≡ Err WouldPromote
unfolding unless
uncovered filled joined xs p q = ap (λ a. unless a SizeConflict >>= λ u. unless (filled || list_all (has_all joined) xs) WouldPromote) p ∙ ap (λ b. unless b WouldPromote) q

-- ---- the join

pub join_told : {Y : Type 0} (f : Y → Axis) (j : How) (filled : Bool) (ys : List Y) (y : Y) → 0 < length ys → y ≡ get_or ys 0 y → join j filled (map f ys) ≡ (labelled_axis j (f y) (indexes (map f ys)) >>= λ joined. checked filled joined (map f ys) >>= λ v. Ok joined)
unfolding join
join_told f j filled [] y some is = absurd (omega arith)
join_told f j filled (z ∷ zs) y some is =
    let xs : List Axis = map f (z ∷ zs) in
    (λ i. labelled_axis j (f z) (indexes xs) >>= λ joined. sym (bind_bind (unless (list_all (has_size joined) xs) SizeConflict) (λ u. unless (filled || list_all (has_all joined) xs) WouldPromote) (λ v. Ok joined)) i)
    ∙ ap (λ w. labelled_axis j (f w) (indexes xs) >>= λ joined. checked filled joined xs >>= λ v. Ok joined) (sym is)
