-- Entries that are put in their places, as the definitions say.
use Rattle.xr_building.proofs.Common.{Answers, Array, Axis, BadArgument, Bool, CallFault, Coord, DataArray, Declined, DoesNotFit, DuplicateName, Err, Fault, Follows, Frame, Global, Held as Value, IsAlone, IsPlain, List, NoMemory, Node, None, Numbers, Ok, Option, Put, Refused, Result, SizeConflict, Some, TextBytes, Value-F, WrongKind, [], all_of, among, and_parts, ap, array_checks, array_in, array_of, array_put, array_told, axis_called, axis_names, check_axis, check_coordinate, check_entry, check_labels, check_numbers, check_put, computed, coordinate_given, entries_in, entry_in, false, fits_whole, frame_labelled, if◌then◌else◌, is_along, is_array, is_dimension, is_free, is_integer_kind, label_total, length, map, meaning, node_of, not, not-true, out-Value, out-roll-Value, over_called, present, put_fits, put_on, refl, refused, roll-Value, roll-out-Value, subst, sym, true, unless, with_coord, with_coordinate, with_entry, with_key, with_labels, ℕ, ◌&&◌, ◌++◌, ◌>>=◌, ◌∙◌, ◌∷◌, ◌≡◌, MeantArray, LayerArray, ContentCells, HeldArray, ◌==◌, equal, first_passes, unless_holds}
use Rattle.std.specs.declared.rc.Rc.{Rc}
use Rattle.xr_building.proofs.Fitting.{numbers_checked}

-- ---- what is computed

abbrev node_computed : (ℕ → Bool) → Option ℕ → Result (Unit {0}) CallFault
node_computed declines o = elim o as (λ o. Result (Unit {0}) CallFault) [ None ↦ Ok tt | Some n ↦ unless (not (declines n)) (Declined n) ]

computed_array : (declines : ℕ → Bool) (v : Value) (a : Rc DataArray Global) → v ≡ HeldArray a → computed declines v ≡ unless (not (declines a.value.node)) (Declined a.value.node)
unfolding computed roll-Value denote.Hole.Carrier.roll
computed_array declines v a is = ap (λ y. node_computed declines (node_of y)) (ap (λ w. out-Value w) is ∙ out-roll-Value (LayerArray a))

plain_layer : (x : Value-F Value) → ((a : Rc DataArray Global) → x ≡ LayerArray a → ⊥) → node_of x ≡ None
plain_layer (LayerArray a) other = absurd (other a refl)
plain_layer x other = refl

pub plain : (v : Value) → ((a : Rc DataArray Global) → v ≡ HeldArray a → ⊥) → IsPlain v
unfolding roll-Value denote.Hole.Carrier.roll
plain v other = plain_layer (out-Value v) (λ a e. other a (sym (roll-out-Value v) ∙ ap (λ y. roll-Value y) e))

-- ---- an entry that is no array

pub plain_told : (declines : ℕ → Bool) (nodes : List Node) (variables : List (List ℕ)) (f : Frame) (kv : TextBytes × Value) (r : Result Put CallFault) → IsPlain kv.1 → Answers (put_on f) r (with_entry variables f (with_key nodes kv)) → Follows (put_on f) r (entry_in declines nodes variables f kv)
unfolding entry_in computed
plain_told declines nodes variables f kv r other is = by r (with_entry variables f (with_key nodes kv)) (computed declines kv.1) (ap (node_computed declines) other) is
  where
    by : (r : Result Put CallFault) (w : Result Frame Fault) (c : Result (Unit {0}) CallFault) → c ≡ Ok tt → Answers (put_on f) r w → Follows (put_on f) r (refused w >>= λ g. c >>= λ u. Ok g)
    by (Ok p) w c done told = rw (told, done) refl
    by (Err (Refused e)) w c done told = rw told refl
    by (Err (Declined n)) w c done told = absurd told
    by (Err NoMemory) w c done told = tt

-- ---- an array

module _ (variables : List (List ℕ)) (f : Frame) (name : List ℕ) (a : MeantArray) where
  array_entry : with_entry variables f (name, Array a) ≡ (is_free variables name (array_checks f name a) >>= λ u. Ok (array_put f name a))
  unfolding with_entry with_labels with_coordinate coordinate_given
  array_entry = by (is_dimension f.axes name) (unless (not (among variables name)) DuplicateName)
    where
      on : (r : Result (Unit {0}) Fault) (g : Frame) (t : Result (Unit {0}) Fault) → ((r >>= λ u. Ok g) >>= λ h. t >>= λ u. Ok h) ≡ ((r >>= λ u. t) >>= λ u. Ok g)
      on (Ok u) g t = refl
      on (Err e) g t = refl

      onto : (r : Result (Unit {0}) Fault) (c : Coord) (g : Coord → Frame) → ((r >>= λ u. Ok c) >>= λ d. Ok (g d)) ≡ (r >>= λ u. Ok (g c))
      onto (Ok u) c g = refl
      onto (Err e) c g = refl

      by : (b : Bool) (t : Result (Unit {0}) Fault)
          → ((if b then with_labels f name (Array a) else with_coordinate f name (Array a)) >>= λ g. t >>= λ u. Ok g)
          ≡ (((if b then unless (label_total (Numbers a.kind (present a.cells)) == (axis_called f.axes name).size) SizeConflict else all_of (check_axis f.axes) a.axes) >>= λ u. t) >>= λ u.
          Ok (if b then frame_labelled f name (record { list = Numbers a.kind (present a.cells); attrs = a.attrs })
          else record f { coords = with_coord f.coords (over_called f.axes (record { name = name; axes = a.axes; attrs = a.attrs; content = ContentCells (array_of a) a.masked })) }))
      by true t = on (unless (label_total (Numbers a.kind (present a.cells)) == (axis_called f.axes name).size) SizeConflict) _ t
      by false t = ap (λ r. r >>= λ g. t >>= λ u. Ok g) (onto (all_of (check_axis f.axes) a.axes) _ (λ c. record f { coords = with_coord f.coords c })) ∙ on (all_of (check_axis f.axes) a.axes) _ t

pub array_is : (declines : ℕ → Bool) (nodes : List Node) (variables : List (List ℕ)) (f : Frame) (kv : TextBytes × Value) (a : Rc DataArray Global) (x : DataArray) → kv.1 ≡ HeldArray a → x ≡ a.value
    → entry_in declines nodes variables f kv ≡ array_told declines nodes variables f kv.0 x
unfolding entry_in
array_is declines nodes variables f kv a x is same =
    ap (λ m. refused (with_entry variables f (kv.0, m)) >>= λ g. computed declines kv.1 >>= λ u. Ok g) (is_array nodes kv.1 a is ∙ ap (λ (y : DataArray). Array (array_in nodes y)) (sym same))
    ∙ ap (λ r. refused r >>= λ g. computed declines kv.1 >>= λ u. Ok g) (array_entry variables f kv.0 (array_in nodes x))
    ∙ by (is_free variables kv.0 (array_checks f kv.0 (array_in nodes x))) (computed declines kv.1) (array_put f kv.0 (array_in nodes x))
    ∙ ap (λ c. refused (is_free variables kv.0 (array_checks f kv.0 (array_in nodes x))) >>= λ u. c >>= λ w. Ok (array_put f kv.0 (array_in nodes x))) (computed_array declines kv.1 a is ∙ ap (λ (y : DataArray). unless (not (declines y.node)) (Declined y.node)) (sym same))
  where
    by : (r : Result (Unit {0}) Fault) (c : Result (Unit {0}) CallFault) (g : Frame) → (refused (r >>= λ u. Ok g) >>= λ h. c >>= λ u. Ok h) ≡ (refused r >>= λ u. c >>= λ w. Ok g)
    by (Ok u) c g = refl
    by (Err e) c g = refl

-- labels that are checked lie along their dimension alone
pub alone : (nodes : List Node) (axes : List Axis) (kv : TextBytes × Value) (a : Rc DataArray Global) (x : DataArray) → kv.1 ≡ HeldArray a → x ≡ a.value → check_entry axes (with_key nodes kv) ≡ Ok (tt {0}) → is_dimension axes kv.0 ≡ true → IsAlone x
unfolding check_entry check_labels
alone nodes axes kv a x is same checked there =
    let m : meaning nodes kv.1 ≡ Array (array_in nodes x) = is_array nodes kv.1 a is ∙ ap (λ (y : DataArray). Array (array_in nodes y)) (sym same) in
    let along : check_labels kv.0 (Array (array_in nodes x)) ≡ Ok (tt {0}) = ap (check_labels kv.0) (sym m) ∙ sym (ap (λ b. if b then check_labels kv.0 (meaning nodes kv.1) else check_coordinate (meaning nodes kv.1)) there) ∙ checked in
    let tests = unless_holds (not x.masked && is_along kv.0 (array_in nodes x)) BadArgument (first_passes (unless (is_integer_kind x.kind) WrongKind) _ tt along).1 in
    let p = and_parts (not x.masked) (is_along kv.0 (array_in nodes x)) tests in
    (not-true x.masked p.0, equal (length x.axes) 1 (and_parts (length x.axes == 1) (among (axis_names x.axes) kv.0) p.1).0)

-- ---- one entry after the other

pub rest_checked : (nodes : List Node) (axes : List Axis) (kv : TextBytes × Value) (rest kvs : List (TextBytes × Value)) → kvs ≡ kv ∷ rest → all_of (check_entry axes) (map (with_key nodes) kvs) ≡ Ok (tt {0}) → all_of (check_entry axes) (map (with_key nodes) rest) ≡ Ok (tt {0})
rest_checked nodes axes kv rest kvs is checked = (first_passes (check_entry axes (with_key nodes kv)) (all_of (check_entry axes) (map (with_key nodes) rest)) tt (ap (λ ks. all_of (check_entry axes) (map (with_key nodes) ks)) (sym is) ∙ checked)).1

module _ (d : ℕ → Bool) (nodes : List Node) (variables : List (List ℕ)) (f : Frame) (kv : TextBytes × Value) where
  pub entry_from : (e : ℕ → Bool) → ((n : ℕ) → e n ≡ d n) → (new : List Node) → new ≡ nodes → entry_in e new variables f kv ≡ entry_in d nodes variables f kv
  entry_from e same new plan = (λ i. entry_in (λ n. same n i) new variables f kv) ∙ ap (λ ns. entry_in d ns variables f kv) plan

  module _ (rest kvs : List (TextBytes × Value)) (is : kvs ≡ kv ∷ rest) (whole : Result Frame CallFault) (so_far : entries_in d nodes variables f kvs ≡ whole) where
    begins : (entry_in d nodes variables f kv >>= λ h. entries_in d nodes variables h rest) ≡ whole
    unfolding entries_in
    begins = ap (entries_in d nodes variables f) (sym is) ∙ so_far

    pub one_more : (g : Frame) → entry_in d nodes variables f kv ≡ Ok g → entries_in d nodes variables g rest ≡ whole
    one_more g told = sym (ap (λ r. r >>= λ h. entries_in d nodes variables h rest) told) ∙ begins

    pub none_more : {A B : Type 0} (view : A → Frame) (last : B → Frame) (r : Result B CallFault) (e : CallFault) → r ≡ Err e → Follows view (Err e) (entry_in d nodes variables f kv) → Follows last r whole
    none_more view last r e here given = subst (λ s. Follows last s whole) (sym here) (by e given)
      where
        on : (x : CallFault) → entry_in d nodes variables f kv ≡ Err x → whole ≡ Err x
        on x told = sym begins ∙ ap (λ r. r >>= λ h. entries_in d nodes variables h rest) told

        by : (e : CallFault) → Follows view (Err e) (entry_in d nodes variables f kv) → Follows last (Err e) whole
        by (Refused x) told = on (Refused x) told
        by (Declined n) told = on (Declined n) told
        by NoMemory told = tt

  -- the numbers of the entries before it fit or not, and then those of this one
  pub numbers_on : (p : Put) (ps new : List Put) (rest kvs : List (TextBytes × Value)) (whole : Result (Unit {0}) Fault) → kvs ≡ kv ∷ rest → new ≡ ps ++ p ∷ [] → put_fits p ≡ fits_whole (meaning nodes kv.1)
      → whole ≡ (all_of check_put ps >>= λ u. all_of check_numbers (map (with_key nodes) kvs)) → whole ≡ (all_of check_put new >>= λ u. all_of check_numbers (map (with_key nodes) rest))
  numbers_on p ps new rest kvs whole is pushed fits so_far =
      so_far ∙ ap (λ ks. all_of check_put ps >>= λ u. all_of check_numbers (map (with_key nodes) ks)) is
      ∙ ap (λ r. all_of check_put ps >>= λ u. r >>= λ v. left) (numbers_checked (with_key nodes kv) ∙ ap (λ b. unless b DoesNotFit) (sym fits)) ∙ by ps ∙ ap (λ qs. all_of check_put qs >>= λ u. left) (sym pushed)
    where
      left : Result (Unit {0}) Fault
      left = all_of check_numbers (map (with_key nodes) rest)

      one : (r : Result (Unit {0}) Fault) → (r >>= λ v. left) ≡ ((r >>= λ u. Ok (tt {0})) >>= λ v. left)
      one (Ok u) = refl
      one (Err e) = refl

      on : (r s t k : Result (Unit {0}) Fault) → (s >>= λ u. k) ≡ (t >>= λ v. left) → ((r >>= λ u. s) >>= λ u. k) ≡ ((r >>= λ u. t) >>= λ v. left)
      on (Ok u) s t k same = same
      on (Err e) s t k same = refl

      by : (qs : List Put) → (all_of check_put qs >>= λ u. check_put p >>= λ v. left) ≡ (all_of check_put (qs ++ p ∷ []) >>= λ v. left)
      by [] = one (check_put p)
      by (q ∷ qs) = on (check_put q) (all_of check_put qs) (all_of check_put (qs ++ p ∷ [])) (check_put p >>= λ v. left) (by qs)
