-- Where no node is declined, calls answer as the definitions say.
use Rattle.xr_building.proofs.Common.{AnswersArray, AnswersSet, Args, Axis, BadArgument, Bool, CallFault, DType, DataArray, Dataset, Declined, DoesNotFit, Err, Fault, FollowsArray, FollowsSet, Frame, Held as Value, List, NoMemory, Node, None, Ok, Option, Refused, Result, SizeConflict, Some, TextBytes, TooLarge, Value as Meant, WrongKind, [], all_of, ap, argument, array_assigned, array_built, array_in, array_written, assigned_to_array, assigned_to_set, bare_axes, bound, check_elements, check_entry, check_fit, check_numbers, check_place, check_set, computed, coords_assigned, coords_held, data_array, dataset_in, dims_given, element_cell, elements, entries_assigned, entries_given, entries_held, entries_in, entry_in, false, fits_kind, frame_in, frame_of_array, framed, given, given_value, header_of, is_nested, is_regular, kind_for, kind_given, length, length-map, limited, list_all, list_all-map, map, meaning, most_dimensions, name_given, nat_le, nested_shape, node_of, not, option, out-Value, over, parameters, plain_array, plain_given, plain_over, refl, refused, required, set_assigned, suits, sym, unless, variable_names, with_entries, with_entry, with_key, without_idle, ℕ, ◌>>=◌, ◌∙◌, ◌∷◌, ◌≡◌, MeantArray, MeantSet, ◌==◌}
use Rattle.xr_building.proofs.Described.{bare_rank}
use Rattle.xr_building.proofs.Tables.{coords_same, entries_same}

-- a step of the definitions, and what comes behind it
lift : {A B : Type 0} (r : Result A Fault) (f : A → Result B CallFault) (h : A → Result B Fault) → ((a : A) → r ≡ Ok a → f a ≡ refused (h a)) → (refused r >>= f) ≡ refused (r >>= h)
lift (Ok a) f h each = each a refl
lift (Err e) f h each = refl

then_kept : {A : Type 0} (r : Result A CallFault) → (r >>= λ a. Ok a) ≡ r
then_kept (Ok a) = refl
then_kept (Err e) = refl

with_check : {A : Type 0} (r : Result (Unit {0}) Fault) (a : A) → (refused r >>= λ u. Ok a) ≡ refused (r >>= λ u. Ok a)
with_check (Ok u) a = refl
with_check (Err e) a = refl

module _ (declines : ℕ → Bool) (none : (n : ℕ) → declines n ≡ false) (nodes : List Node) (variables : List (List ℕ)) where
  computed_all : (v : Value) → computed declines v ≡ Ok tt
  unfolding computed unless
  computed_all v = by (node_of (out-Value v))
    where
      by : (o : Option ℕ) → elim o as (λ o. Result (Unit {0}) CallFault) [ None ↦ Ok tt | Some n ↦ unless (not (declines n)) (Declined n) ] ≡ Ok tt
      by None = refl
      by (Some n) = ap (λ b. unless (not b) (Declined n)) (none n)

  entry_all : (f : Frame) (kv : TextBytes × Value) → entry_in declines nodes variables f kv ≡ refused (with_entry variables f (with_key nodes kv))
  unfolding entry_in
  entry_all f kv = ap (λ c. refused (with_entry variables f (with_key nodes kv)) >>= λ g. c >>= λ u. Ok g) (computed_all kv.1) ∙ then_kept (refused (with_entry variables f (with_key nodes kv)))

  entries_all : (f : Frame) (kvs : List (TextBytes × Value)) → entries_in declines nodes variables f kvs ≡ refused (with_entries variables f (map (with_key nodes) kvs))
  unfolding entries_in with_entries
  entries_all f [] = refl
  entries_all f (kv ∷ kvs) = ap (λ r. r >>= λ g. entries_in declines nodes variables g kvs) (entry_all f kv) ∙ lift (with_entry variables f (with_key nodes kv)) _ _ (λ g is. entries_all g kvs)

  frame_all : (f : Frame) (args : Args) → frame_in declines nodes variables f args ≡ refused (coords_assigned variables f (given nodes args))
  unfolding frame_in coords_assigned entries_assigned given
  frame_all f args =
      ap (λ n. refused (unless (length args.plain.items == 0) BadArgument) >>= λ a. refused (all_of (check_entry f.axes) kvs) >>= λ b. refused (all_of (check_place f.axes) kvs) >>= λ c. n >>= λ g. refused (all_of check_numbers kvs) >>= λ d. Ok g) (entries_all f args.keyed.items)
      ∙ ap (λ k. refused (unless (k == 0) BadArgument) >>= λ a. refused (all_of (check_entry f.axes) kvs) >>= λ b. refused (all_of (check_place f.axes) kvs) >>= λ c. refused (with_entries variables f kvs) >>= λ g. refused (all_of check_numbers kvs) >>= λ d. Ok g) (sym (length-map args.plain.items (meaning nodes)))
      ∙ by (unless (length (map (meaning nodes) args.plain.items) == 0) BadArgument) (all_of (check_entry f.axes) kvs) (all_of (check_place f.axes) kvs) (with_entries variables f kvs) (all_of check_numbers kvs)
    where
      kvs : List (List ℕ × Meant)
      kvs = map (with_key nodes) args.keyed.items

      by : (p c q : Result (Unit {0}) Fault) (w : Result Frame Fault) (n : Result (Unit {0}) Fault)
          → (refused p >>= λ a. refused c >>= λ b. refused q >>= λ c. refused w >>= λ g. refused n >>= λ d. Ok g) ≡ refused (p >>= λ u. c >>= λ v. (q >>= λ u. w >>= λ g. n >>= λ v. Ok g))
      by (Ok u) (Ok v) (Ok x) (Ok g) (Ok y) = refl
      by p c q w n = refl

array_all : (declines : ℕ → Bool) (nodes : List Node) (a : DataArray) (args : Args) → ((n : ℕ) → declines n ≡ false) → array_assigned declines nodes a args ≡ refused (assigned_to_array (array_in nodes a) (given nodes args))
unfolding array_assigned assigned_to_array
array_all declines nodes a args none =
    ap (λ r. r >>= λ f. Ok (record (array_in nodes a) { axes = f.axes; coords = f.coords })) (frame_all declines none nodes [] (frame_of_array (array_in nodes a)) args)
    ∙ lift (coords_assigned [] (frame_of_array (array_in nodes a)) (given nodes args)) _ _ (λ f is. refl)

set_all : (declines : ℕ → Bool) (nodes : List Node) (s : Dataset) (args : Args) → ((n : ℕ) → declines n ≡ false) → set_assigned declines nodes s args ≡ refused (assigned_to_set (dataset_in nodes s) (given nodes args))
unfolding set_assigned assigned_to_set
set_all declines nodes s args none =
    ap (λ r. r >>= λ f. Ok (left f) >>= λ t. refused (check_set t) >>= λ u. Ok t) (frame_all declines none nodes (variable_names (dataset_in nodes s)) (record { axes = s.axes; coords = s.coords }) args)
    ∙ lift (coords_assigned (variable_names (dataset_in nodes s)) (record { axes = s.axes; coords = s.coords }) (given nodes args)) _ _ (λ f is. with_check (check_set (left f)) (left f))
  where
    left : Frame → MeantSet
    left f = without_idle (record (dataset_in nodes s) { axes = f.axes; coords = f.coords })

-- ---- arrays that are written out

-- a step of the definitions before an array is plain, and the same step of all
through : {A B C : Type 0} (r : Result A Fault) (f : A → Result B Fault) (k : B → Result C CallFault) (h : A → Result C Fault) → ((a : A) → r ≡ Ok a → (refused (f a) >>= k) ≡ refused (h a)) → (refused (r >>= f) >>= k) ≡ refused (r >>= h)
through (Ok a) f k h each = each a refl
through (Err e) f k h each = refl

-- with more behind all
through_to : {A B C D : Type 0} (r : Result A Fault) (f : A → Result B Fault) (k : B → Result D CallFault) (h : A → Result C Fault) (last : C → Result D Fault) → ((a : A) → r ≡ Ok a → (refused (f a) >>= k) ≡ refused (h a >>= last)) → (refused (r >>= f) >>= k) ≡ refused ((r >>= h) >>= last)
through_to (Ok a) f k h last each = each a refl
through_to (Err e) f k h last each = refl

-- and as the first step of several
through_in : {A B C D E : Type 0} (r : Result A Fault) (f : A → Result B Fault) (g : B → Result C Fault) (k : C → Result E CallFault) (h : A → Result D Fault) (last : D → Result E Fault)
    → ((a : A) → r ≡ Ok a → (refused (f a >>= g) >>= k) ≡ refused (h a >>= last)) → (refused ((r >>= f) >>= g) >>= k) ≡ refused ((r >>= h) >>= last)
through_in (Ok a) f g k h last each = each a refl
through_in (Err e) f g k h last each = refl

written_all : (declines : ℕ → Bool) (nodes : List Node) (args : Args) → ((n : ℕ) → declines n ≡ false) → array_written declines nodes args ≡ refused (data_array (given nodes args))
unfolding array_written data_array plain_given plain_over header_of array_built check_fit
written_all declines nodes args none =
    through (bound parameters (given nodes args)) _ _ _ (λ vs told. through (required (argument vs 0)) _ _ _ (λ content a. through (required (argument vs 1)) _ _ _ (λ dimensions b. through (check_elements (elements content)) _ _ _ (λ u c.
    through (dims_given (Some dimensions)) _ _ _ (λ dims d. through (unless (is_nested (length dims) content) BadArgument) _ _ _ (λ v e.
    through_to (entries_given (axes content dims) (option vs 2)) _ _ _ limited (λ es given. through_in (name_given (option vs 3)) _ _ _ _ limited (λ name f. through_in (kind_given (option vs 4)) _ _ _ _ limited (λ dtype g.
    through_in (unless (suits (kind_for (elements content) dtype) (elements content)) WrongKind) _ _ _ _ limited (λ w h. through_to (all_of (check_place (axes content dims)) es) _ _ _ limited (λ x i.
    through_to (unless (is_regular (nested_shape (length dims) content) content) SizeConflict) _ _ _ limited (λ y j.
    put content dims name (kind_for (elements content) dtype) es (entries_same nodes (axes content dims) es (coords_held args) (ap (λ o. entries_given (axes content dims) (given_value o)) (coords_same nodes args vs told) ∙ given))))))))))))))
  where
    kvs : List (TextBytes × Value)
    kvs = entries_held (coords_held args)

    axes : Meant → List (List ℕ) → List Axis
    axes content dims = bare_axes dims (nested_shape (length dims) content)

    last : (w : Result Frame Fault) (p q r : Result (Unit {0}) Fault) (x : Frame → MeantArray) → (refused w >>= λ f. refused (p >>= λ u. q >>= λ v. r) >>= λ u. refused (limited (x f))) ≡ refused ((w >>= λ f. p >>= λ d. q >>= λ e. r >>= λ g. Ok (x f)) >>= limited)
    last (Ok f) (Ok u) (Ok v) (Ok w) x = refl
    last w p q r x = refl

    put : (content : Meant) (dims : List (List ℕ)) (name : Option (List ℕ)) (kind : DType) (es : List (List ℕ × Meant)) → es ≡ map (with_key nodes) kvs
        → (entries_in declines nodes [] (over (axes content dims) []) kvs >>= λ f. refused (check_fit (plain_array (axes content dims) name kind (elements content)) (map (with_key nodes) kvs)) >>= λ u.
        refused (limited (framed (plain_array (axes content dims) name kind (elements content)) f)))
        ≡ refused ((with_entries [] (over (axes content dims) []) es >>= λ f. unless (list_all (λ v. fits_kind kind (element_cell v)) (elements content)) DoesNotFit >>= λ d. all_of check_numbers es >>= λ e.
        unless (nat_le (length dims) most_dimensions) TooLarge >>= λ g. Ok (record (plain_array f.axes name kind (elements content)) { coords = f.coords })) >>= limited)
    put content dims name kind es same =
        let start : Frame = over (axes content dims) [] in
        let a : MeantArray = plain_array (axes content dims) name kind (elements content) in
        let ends = λ (p : Bool) (n : ℕ). refused ((with_entries [] start es >>= λ f. unless p DoesNotFit >>= λ d. all_of check_numbers es >>= λ e. unless (nat_le n most_dimensions) TooLarge >>= λ g. Ok (framed a f)) >>= limited) in
        ap (λ r. r >>= λ f. refused (check_fit a (map (with_key nodes) kvs)) >>= λ u. refused (limited (framed a f))) (entries_all declines none nodes [] start kvs)
        ∙ ap (λ ws. refused (with_entries [] start ws) >>= λ f. refused (check_fit a ws) >>= λ u. refused (limited (framed a f))) (sym same)
        ∙ last (with_entries [] start es) (unless (list_all (fits_kind kind) a.cells) DoesNotFit) (all_of check_numbers es) (unless (nat_le (length a.axes) most_dimensions) TooLarge) (framed a)
        ∙ ap (λ p. ends p (length a.axes)) (list_all-map (fits_kind kind) element_cell (elements content)) ∙ ap (ends (list_all (λ v. fits_kind kind (element_cell v)) (elements content))) (bare_rank dims content)

-- ---- what a call answers

-- what the definitions tell of a call that declines nothing
answers_array : (nodes : List Node) (r : Result DataArray CallFault) (told : Result MeantArray CallFault) (means : Result MeantArray Fault) → FollowsArray nodes r told → told ≡ refused means → AnswersArray nodes r means
answers_array nodes (Ok a) told (Ok x) is same = (let e = is.0 in cc, is.1)
answers_array nodes (Ok a) told (Err e) is same = absurd (let f = is.0 in cc)
answers_array nodes (Err (Refused f)) told (Err e) is same = cc
answers_array nodes (Err NoMemory) told means is same = tt
answers_array nodes r told (Ok x) is same = absurd cc
answers_array nodes r told (Err e) is same = absurd cc

pub array_answers : (declines : ℕ → Bool) (nodes : List Node) (a : DataArray) (args : Args) (r : Result DataArray CallFault) → FollowsArray nodes r (array_assigned declines nodes a args) → ((n : ℕ) → declines n ≡ false) → AnswersArray nodes r (assigned_to_array (array_in nodes a) (given nodes args))
array_answers declines nodes a args r told none = answers_array nodes r _ _ told (array_all declines nodes a args none)

pub written_answers : (declines : ℕ → Bool) (old new : List Node) (args : Args) (r : Result DataArray CallFault) → FollowsArray new r (array_written declines old args) → ((n : ℕ) → declines n ≡ false) → AnswersArray new r (data_array (given old args))
written_answers declines old new args r told none = answers_array new r _ _ told (written_all declines old args none)

answers_set : (nodes : List Node) (r : Result Dataset CallFault) (told : Result MeantSet CallFault) (means : Result MeantSet Fault) → FollowsSet nodes r told → told ≡ refused means → AnswersSet nodes r means
answers_set nodes (Ok s) told (Ok x) is same = (let e = is.0 in cc, is.1)
answers_set nodes (Ok s) told (Err e) is same = absurd (let f = is.0 in cc)
answers_set nodes (Err (Refused f)) told (Err e) is same = cc
answers_set nodes (Err NoMemory) told means is same = tt
answers_set nodes r told (Ok x) is same = absurd cc
answers_set nodes r told (Err e) is same = absurd cc

pub set_answers : (declines : ℕ → Bool) (nodes : List Node) (s : Dataset) (args : Args) (r : Result Dataset CallFault) → FollowsSet nodes r (set_assigned declines nodes s args) → ((n : ℕ) → declines n ≡ false) → AnswersSet nodes r (assigned_to_set (dataset_in nodes s) (given nodes args))
set_answers declines nodes s args r told none = answers_set nodes r _ _ told (set_all declines nodes s args none)
