-- Coordinates and data variables, one variable of the file after the other.
use Rattle.std.proofs.Common.{◌≡◌, ◌+◌, ◌<◌, ◌||◌, ℕ, zero, suc, Bool, true, false, cond, not, List, [], ◌∷◌, ◌++◌, length, map, filter, take, get_or, ◌≤◌, Ok, Err, is_some, nat_le, refl, sym, ap, subst, ◌∙◌, arith, length-append}
use Rattle.xr_types.specs.declared.axis.Axis.{Axis}
use Rattle.xr_types.specs.declared.fault.Fault.TheVariants.{TooLarge}
use Rattle.xr_defs.specs.Limits.{most_variables}
use Rattle.xr_types.specs.Results.{◌>>=◌, unless}
use Rattle.xr_types.specs.Names.{axis_names}
use Rattle.std.specs.Str.{bytes_eq}
use Rattle.std.proofs.lemmas.Bool.{and_parts, and_from, or_parts, or_from, not-true, not_from_false}
use Rattle.std.specs.List.{list_any}
use Rattle.std.proofs.lemmas.Bool.{le-leb, lt-leb}
use Rattle.std.proofs.lemmas.List.{map-append, take_more, length-map}
use Rattle.std.proofs.lemmas.List.Filters.{length-filter_both}
use Rattle.std.proofs.lemmas.List.Elements.{filter-append}
use Rattle.xr_files.specs.declared.file.CdfVar.{CdfVar}
use Rattle.xr_files.specs.declared.file.CdfFile.{CdfFile}
use Rattle.xr_arrays.specs.declared.node.Node.{Node}
use Rattle.xr_defs.specs.declared.value.Coord.{Coord}
use Rattle.xr_types.specs.Names.{among}
use Rattle.xr_types.specs.Names.{are_distinct}
use Rattle.xr_defs.specs.Values as of
use Rattle.xr_defs.specs.Decoding.{is_skipped, is_index, is_coordinate, loaded_in, others_in, coordinates_in, variables_in, coordinate_of, variable_of, variable_as_stored, as_truths, is_bool, var_dims, is_kept, dataset_in, check_count, set_of}
use Rattle.plan_core.specs.Plans.{Grows}
use Rattle.plan_core.proofs.Plans.{grown_value}
use Rattle.xr_values.specs.declared.variable.Variable.{Variable}
use Rattle.xr_values.specs.Stands.{variable_in}
use Rattle.xr_values.specs.Variables.{names_of}
use Rattle.xr_values.proofs.Grown.{node_kept}
use Rattle.xr_values.proofs.Named.{put_behind}
use Rattle.xr_decode.specs.declared.role.Role.{Role}
use Rattle.xr_decode.specs.declared.role.Role.TheVariants.{Skipped, Index, Coordinate, Data}
use Rattle.xr_decode.specs.Held.{data_in, IsHeld, AreHeld, Adds, stays}
use Rattle.xr_decode.specs.Readable.{var_names}
use Rattle.xr_decode.specs.Roles.{IsRole, is_counted}

-- ---- one list behind another

others_append : (f : CdfFile) (xs ys : List CdfVar) → others_in f (xs ++ ys) ≡ others_in f xs ++ others_in f ys
others_append f xs ys =
    ap (filter (λ v. not (is_index f v))) (filter-append (λ v. not (is_skipped f v)) xs ys) ∙ filter-append (λ v. not (is_index f v)) (loaded_in f xs) (loaded_in f ys)

coordinates_append : (f : CdfFile) (m : Bool) (xs ys : List CdfVar) → coordinates_in f m (xs ++ ys) ≡ coordinates_in f m xs ++ coordinates_in f m ys
coordinates_append f m xs ys =
    ap (λ vs. map (coordinate_of f m) (filter (is_coordinate f) vs)) (others_append f xs ys)
    ∙ ap (map (coordinate_of f m)) (filter-append (is_coordinate f) (others_in f xs) (others_in f ys))
    ∙ map-append (coordinate_of f m) (filter (is_coordinate f) (others_in f xs)) (filter (is_coordinate f) (others_in f ys))

data_append : (f : CdfFile) (xs ys : List CdfVar) → data_in f (xs ++ ys) ≡ data_in f xs ++ data_in f ys
data_append f xs ys =
    ap (filter (λ v. not (is_coordinate f v))) (others_append f xs ys) ∙ filter-append (λ v. not (is_coordinate f v)) (others_in f xs) (others_in f ys)

-- ---- one variable

kept_one : (p : CdfVar → Bool) (v : CdfVar) → p v ≡ true → filter p (v ∷ []) ≡ v ∷ []
kept_one p v e = ap (λ b. cond b (v ∷ []) []) e

left_one : (p : CdfVar → Bool) (v : CdfVar) → p v ≡ false → filter p (v ∷ []) ≡ []
left_one p v e = ap (λ b. cond b (v ∷ []) []) e

others_none : (f : CdfFile) (v : CdfVar) → is_skipped f v ≡ true → others_in f (v ∷ []) ≡ []
others_none f v e = ap (filter (λ w. not (is_index f w))) (left_one (λ w. not (is_skipped f w)) v (ap not e))

others_index : (f : CdfFile) (v : CdfVar) → is_skipped f v ≡ false → is_index f v ≡ true → others_in f (v ∷ []) ≡ []
others_index f v e i = ap (filter (λ w. not (is_index f w))) (kept_one (λ w. not (is_skipped f w)) v (ap not e)) ∙ left_one (λ w. not (is_index f w)) v (ap not i)

others_other : (f : CdfFile) (v : CdfVar) → is_skipped f v ≡ false → is_index f v ≡ false → others_in f (v ∷ []) ≡ v ∷ []
others_other f v e i = ap (filter (λ w. not (is_index f w))) (kept_one (λ w. not (is_skipped f w)) v (ap not e)) ∙ kept_one (λ w. not (is_index f w)) v (ap not i)

others_one : (f : CdfFile) (v : CdfVar) (role : Role) → IsRole f v role → length (others_in f (v ∷ [])) ≡ cond (is_counted role) 1 0
others_one f v Skipped r = ap length (others_none f v r)
others_one f v Index r = ap length (others_index f v r.0 r.1)
others_one f v Coordinate r = ap length (others_other f v r.0 r.1)
others_one f v Data r = ap length (others_other f v r.0 r.1)

abbrev pub coordinates_as : CdfFile → Bool → CdfVar → Role → List Coord
coordinates_as f m v Skipped = []
coordinates_as f m v Index = []
coordinates_as f m v Coordinate = coordinate_of f m v ∷ []
coordinates_as f m v Data = []

pub coordinates_one : (f : CdfFile) (m : Bool) (v : CdfVar) (role : Role) → IsRole f v role → coordinates_in f m (v ∷ []) ≡ coordinates_as f m v role
coordinates_one f m v Skipped r = ap (λ vs. map (coordinate_of f m) (filter (is_coordinate f) vs)) (others_none f v r)
coordinates_one f m v Index r = ap (λ vs. map (coordinate_of f m) (filter (is_coordinate f) vs)) (others_index f v r.0 r.1)
coordinates_one f m v Coordinate r = ap (λ vs. map (coordinate_of f m) (filter (is_coordinate f) vs)) (others_other f v r.0 r.1) ∙ ap (map (coordinate_of f m)) (kept_one (is_coordinate f) v r.2)
coordinates_one f m v Data r = ap (λ vs. map (coordinate_of f m) (filter (is_coordinate f) vs)) (others_other f v r.0 r.1) ∙ ap (map (coordinate_of f m)) (left_one (is_coordinate f) v r.2)

abbrev pub data_as : CdfVar → Role → List CdfVar
data_as v Skipped = []
data_as v Index = []
data_as v Coordinate = []
data_as v Data = v ∷ []

pub data_one : (f : CdfFile) (v : CdfVar) (role : Role) → IsRole f v role → data_in f (v ∷ []) ≡ data_as v role
data_one f v Skipped r = ap (filter (λ w. not (is_coordinate f w))) (others_none f v r)
data_one f v Index r = ap (filter (λ w. not (is_coordinate f w))) (others_index f v r.0 r.1)
data_one f v Coordinate r = ap (filter (λ w. not (is_coordinate f w))) (others_other f v r.0 r.1) ∙ left_one (λ w. not (is_coordinate f w)) v (ap not r.2)
data_one f v Data r = ap (filter (λ w. not (is_coordinate f w))) (others_other f v r.0 r.1) ∙ kept_one (λ w. not (is_coordinate f w)) v (ap not r.2)

-- ---- one variable more

pub others_more : (f : CdfFile) (vs : List CdfVar) (i : ℕ) (v : CdfVar) (role : Role) → i < length vs → v ≡ get_or vs i v → IsRole f v role
    → length (others_in f (take (i + 1) vs)) ≡ length (others_in f (take i vs)) + cond (is_counted role) 1 0
others_more f vs i v role lt is r =
    ap (λ ws. length (others_in f ws)) (take_more vs i v lt ∙ ap (λ w. take i vs ++ w ∷ []) (sym is)) ∙ ap length (others_append f (take i vs) (v ∷ []))
    ∙ length-append (others_in f (take i vs)) (others_in f (v ∷ [])) ∙ ap (λ n. length (others_in f (take i vs)) + n) (others_one f v role r)

pub coordinates_more : (f : CdfFile) (m : Bool) (vs : List CdfVar) (i : ℕ) (v : CdfVar) → i < length vs → v ≡ get_or vs i v
    → coordinates_in f m (take i vs) ++ coordinates_in f m (v ∷ []) ≡ coordinates_in f m (take (i + 1) vs)
coordinates_more f m vs i v lt is =
    sym (ap (coordinates_in f m) (take_more vs i v lt ∙ ap (λ w. take i vs ++ w ∷ []) (sym is)) ∙ coordinates_append f m (take i vs) (v ∷ []))

pub data_more : (f : CdfFile) (vs : List CdfVar) (i : ℕ) (v : CdfVar) → i < length vs → v ≡ get_or vs i v → data_in f (take i vs) ++ data_in f (v ∷ []) ≡ data_in f (take (i + 1) vs)
data_more f vs i v lt is = sym (ap (data_in f) (take_more vs i v lt ∙ ap (λ w. take i vs ++ w ∷ []) (sym is)) ∙ data_append f (take i vs) (v ∷ []))

-- ---- names that stay different

pub among_filter : {X : Type 0} (name : X → List ℕ) (p : X → Bool) (xs : List X) (n : List ℕ) → among (map name xs) n ≡ false → among (map name (filter p xs)) n ≡ false
among_filter name p [] n e = refl
among_filter name p (x ∷ xs) n e =
    let parts = or_parts (bytes_eq n (name x)) (among (map name xs) n) e in
    by (p x) parts (among_filter name p xs n parts.1)
  where
    by : (b : Bool) → (bytes_eq n (name x) ≡ false) × (among (map name xs) n ≡ false) → among (map name (filter p xs)) n ≡ false → among (map name (cond b (x ∷ filter p xs) (filter p xs))) n ≡ false
    by true parts rest = or_from (bytes_eq n (name x)) (among (map name (filter p xs)) n) parts.0 rest
    by false parts rest = rest

pub distinct_filter : {X : Type 0} (name : X → List ℕ) (p : X → Bool) (xs : List X) → are_distinct (map name xs) ≡ true → are_distinct (map name (filter p xs)) ≡ true
distinct_filter name p [] e = refl
distinct_filter name p (x ∷ xs) e =
    let parts = and_parts (not (among (map name xs) (name x))) (are_distinct (map name xs)) e in
    by (p x) parts (distinct_filter name p xs parts.1)
  where
    by : (b : Bool) → (not (among (map name xs) (name x)) ≡ true) × (are_distinct (map name xs) ≡ true) → are_distinct (map name (filter p xs)) ≡ true
        → are_distinct (map name (cond b (x ∷ filter p xs) (filter p xs))) ≡ true
    by true parts rest =
        and_from (not (among (map name (filter p xs)) (name x))) (are_distinct (map name (filter p xs)))
        (not_from_false (among (map name (filter p xs)) (name x)) (among_filter name p xs (name x) (not-true (among (map name xs) (name x)) parts.0))) rest
    by false parts rest = rest

among_take : {X : Type 0} (name : X → List ℕ) (k : ℕ) (xs : List X) (n : List ℕ) → among (map name xs) n ≡ false → among (map name (take k xs)) n ≡ false
among_take name k [] n e = by k
  where
    by : (k : ℕ) → among (map name (take k [])) n ≡ false
    by zero = refl
    by (suc k) = refl
among_take name zero (x ∷ xs) n e = refl
among_take name (suc k) (x ∷ xs) n e = let parts = or_parts (bytes_eq n (name x)) (among (map name xs) n) e in or_from (bytes_eq n (name x)) (among (map name (take k xs)) n) parts.0 (among_take name k xs n parts.1)

distinct_take : {X : Type 0} (name : X → List ℕ) (k : ℕ) (xs : List X) → are_distinct (map name xs) ≡ true → are_distinct (map name (take k xs)) ≡ true
distinct_take name k [] e = by k
  where
    by : (k : ℕ) → are_distinct (map name (take k [])) ≡ true
    by zero = refl
    by (suc k) = refl
distinct_take name zero (x ∷ xs) e = refl
distinct_take name (suc k) (x ∷ xs) e =
    let parts = and_parts (not (among (map name xs) (name x))) (are_distinct (map name xs)) e in
    and_from (not (among (map name (take k xs)) (name x))) (are_distinct (map name (take k xs)))
    (not_from_false (among (map name (take k xs)) (name x)) (among_take name k xs (name x) (not-true (among (map name xs) (name x)) parts.0))) (distinct_take name k xs parts.1)

pub distinct_data : (f : CdfFile) (vs : List CdfVar) → are_distinct (var_names vs) ≡ true → are_distinct (var_names (data_in f vs)) ≡ true
distinct_data f vs e =
    let name = λ (v : CdfVar). v.name in
    distinct_filter name (λ v. not (is_coordinate f v)) (others_in f vs) (distinct_filter name (λ v. not (is_index f v)) (loaded_in f vs) (distinct_filter name (λ v. not (is_skipped f v)) vs e))

-- ---- variables that are kept

pub variable_name : (f : CdfFile) (m : Bool) (v : CdfVar) → (variable_of f m v).name ≡ v.name
variable_name f m v = by (is_bool v)
  where
    by : (b : Bool) → (cond b (as_truths (variable_as_stored f m v)) (variable_as_stored f m v)).name ≡ v.name
    by true = refl
    by false = refl

pub variable_dims : (f : CdfFile) (m : Bool) (v : CdfVar) → (variable_of f m v).dims ≡ var_dims f v
variable_dims f m v = by (is_bool v)
  where
    by : (b : Bool) → (cond b (as_truths (variable_as_stored f m v)) (variable_as_stored f m v)).dims ≡ var_dims f v
    by true = refl
    by false = refl

held_names : (f : CdfFile) (m : Bool) (nodes : List Node) (xs : List Variable) (vs : List CdfVar) → AreHeld f m nodes xs vs → names_of xs ≡ var_names vs
held_names f m nodes [] [] h = refl
held_names f m nodes [] (v ∷ vs) h = absurd h
held_names f m nodes (x ∷ xs) [] h = absurd h
held_names f m nodes (x ∷ xs) (v ∷ vs) h =
    ap (λ n. n ∷ names_of xs) (ap (λ (w : of.Variable). w.name) h.0.stands ∙ variable_name f m v) ∙ ap (λ ns. v.name ∷ ns) (held_names f m nodes xs vs h.1)

stays_held : (f : CdfFile) (m : Bool) (old new : List Node) (x : Variable) (v : CdfVar) → Grows old new → IsHeld f m old x v → IsHeld f m new x v
stays_held f m old new x v g h =
    record {
      stands = ap (λ a. record { name = x.name; dims = x.dims; kind = x.kind; masked = x.masked; attrs = x.attrs; cells = a.cells }) (grown_value old new x.node g h.node.placed) ∙ h.stands;
      node = node_kept old new x.node _ x.kind g h.node;
    }

held_on : (f : CdfFile) (m : Bool) (old new : List Node) (xs : List Variable) (vs : List CdfVar) → Grows old new → AreHeld f m old xs vs → AreHeld f m new xs vs
held_on f m old new [] [] g h = tt
held_on f m old new [] (v ∷ vs) g h = absurd h
held_on f m old new (x ∷ xs) [] g h = absurd h
held_on f m old new (x ∷ xs) (v ∷ vs) g h = (stays_held f m old new x v g h.0, held_on f m old new xs vs g h.1)

held_append : (f : CdfFile) (m : Bool) (nodes : List Node) (xs ys : List Variable) (vs ws : List CdfVar) → AreHeld f m nodes xs vs → AreHeld f m nodes ys ws → AreHeld f m nodes (xs ++ ys) (vs ++ ws)
held_append f m nodes [] ys [] ws h k = k
held_append f m nodes [] ys (v ∷ vs) ws h k = absurd h
held_append f m nodes (x ∷ xs) ys [] ws h k = absurd h
held_append f m nodes (x ∷ xs) ys (v ∷ vs) ws h k = (h.0, held_append f m nodes xs ys vs ws h.1 k)

-- what one variable more adds
pub held_more : (f : CdfFile) (m : Bool) (old new : List Node) (kept next : List Variable) (vs : List CdfVar) (i : ℕ) (v : CdfVar) → are_distinct (var_names vs) ≡ true → i < length vs → v ≡ get_or vs i v
    → Grows old new → AreHeld f m old kept (data_in f (take i vs)) → Adds f m new kept next v → AreHeld f m new next (data_in f (take (i + 1) vs))
held_more f m old new kept next vs i v distinct lt is g h a =
    let before = held_on f m old new kept (data_in f (take i vs)) g h in
    let all : AreHeld f m new (kept ++ a.more) (data_in f (take (i + 1) vs)) =
    subst (AreHeld f m new (kept ++ a.more)) (data_more f vs i v lt is) (held_append f m new kept a.more (data_in f (take i vs)) (data_in f (v ∷ [])) before a.held) in
    let apart : are_distinct (names_of (kept ++ a.more)) ≡ true =
    ap are_distinct (held_names f m new (kept ++ a.more) (data_in f (take (i + 1) vs)) all)
    ∙ distinct_data f (take (i + 1) vs) (distinct_take (λ (w : CdfVar). w.name) (i + 1) vs distinct) in
    subst (λ xs. AreHeld f m new xs (data_in f (take (i + 1) vs))) (sym (a.put ∙ put_behind kept a.more apart)) all

-- the variables stand for those of the file
pub held_stand : (f : CdfFile) (m : Bool) (nodes : List Node) (xs : List Variable) (vs : List CdfVar) → AreHeld f m nodes xs vs → map (variable_in nodes) xs ≡ map (variable_of f m) vs
held_stand f m nodes [] [] h = refl
held_stand f m nodes [] (v ∷ vs) h = absurd h
held_stand f m nodes (x ∷ xs) [] h = absurd h
held_stand f m nodes (x ∷ xs) (v ∷ vs) h = ap (λ w. w ∷ map (variable_in nodes) xs) h.0.stands ∙ ap (λ ws. variable_of f m v ∷ ws) (held_stand f m nodes xs vs h.1)

-- ---- the dataset of a file

split : (f : CdfFile) (m : Bool) → length (coordinates_in f m f.vars) + length (variables_in f m f.vars) ≡ length (others_in f f.vars)
split f m =
    let cs = filter (is_coordinate f) (others_in f f.vars) in
    let vs = data_in f f.vars in
    ap (λ n. n + length (variables_in f m f.vars)) (length-map cs (coordinate_of f m)) ∙ ap (λ n. length cs + n) (length-map vs (variable_of f m))
    ∙ length-filter_both (is_coordinate f) (λ v. not (is_coordinate f v)) (λ v. refl) (others_in f f.vars)

pub count_few : (f : CdfFile) (m : Bool) → length (others_in f f.vars) ≤ most_variables → length (coordinates_in f m f.vars) + length (variables_in f m f.vars) ≤ most_variables
count_few f m few = let e = split f m in omega arith

checked : (f : CdfFile) (m : Bool) (b : Bool) → nat_le (length (coordinates_in f m f.vars) + length (variables_in f m f.vars)) most_variables ≡ b → set_of f m ≡ (unless b TooLarge >>= λ u. Ok (dataset_in f m))
unfolding set_of check_count
checked f m b e = ap (λ t. unless t TooLarge >>= λ u. Ok (dataset_in f m)) e

pub set_is : (f : CdfFile) (m : Bool) → length (others_in f f.vars) ≤ most_variables → set_of f m ≡ Ok (dataset_in f m)
unfolding unless
set_is f m few = checked f m true (le-leb _ most_variables (count_few f m few))

pub set_too_large : (f : CdfFile) (m : Bool) → most_variables < length (others_in f f.vars) → set_of f m ≡ Err TooLarge
unfolding unless
set_too_large f m many = checked f m false (let e = split f m in lt-leb (length (coordinates_in f m f.vars) + length (variables_in f m f.vars)) most_variables (omega arith))

-- ---- axes that stay

any_held : (nodes : List Node) (xs : List Variable) (n : List ℕ) → list_any (λ (x : Variable). among x.dims n) xs ≡ list_any (λ (w : of.Variable). among w.dims n) (map (variable_in nodes) xs)
any_held nodes [] n = refl
any_held nodes (x ∷ xs) n = ap (λ b. among x.dims n || b) (any_held nodes xs n)

pub stays_same : (nodes : List Node) (coords : List Coord) (xs : List Variable) (ys : List of.Variable) → map (variable_in nodes) xs ≡ ys → (x : Axis) → stays coords xs x ≡ is_kept coords ys x
stays_same nodes coords xs ys e x =
    ap (λ b. (is_some x.labels || list_any (λ (c : Coord). among (axis_names c.axes) x.name) coords) || b)
    (any_held nodes xs x.name ∙ ap (λ ws. list_any (λ (w : of.Variable). among w.dims x.name) ws) e)
