-- The checks over the parts of a dataset are those over the dataset.
use Rattle.std.proofs.Common.{◌≡◌, ℕ, Bool, true, false, cond, Option, Some, None, List, [], ◌∷◌, ◌++◌, map, Result, Ok, Err, All, refl, sym, ap, ◌∙◌}
use Rattle.std.specs.Prelude.{not, filter, option_map, ◌||◌, ◌&&◌}
use Rattle.std.specs.List.{list_any, list_all, filter_map, cons_option, AllByRecursion}
use Rattle.std.proofs.lemmas.List.Elements.{All-head, All-tail}
use Rattle.std.proofs.lemmas.List.{map-append}
use Rattle.std.proofs.lemmas.List.Folds.{list_any-append}
use Rattle.xr_types.specs.declared.fault.Fault.{Fault}
use Rattle.xr_types.specs.declared.fault.Fault.TheVariants.{DuplicateName, CannotHold}
use Rattle.xr_types.specs.declared.axis.Axis.{Axis}
use Rattle.xr_types.specs.declared.attr.Attr.{Attr}
use Rattle.xr_types.specs.declared.axis.Labels.{Labels}
use Rattle.xr_types.specs.declared.axis.LabelList.{LabelList}
use Rattle.xr_types.specs.declared.axis.LabelList.TheVariants.{Numbers, Times, Texts}
use Rattle.xr_defs.specs.declared.value.Content.{Content}
use Rattle.xr_defs.specs.declared.value.Content.TheVariants as contents
use Rattle.xr_arrays.specs.declared.node.Node.{Node}
use Rattle.xr_defs.specs.declared.value.Coord.{Coord}
use Rattle.xr_defs.specs.declared.write_options.WriteOptions.{WriteOptions}
use Rattle.xr_files.specs.Canonical.{has_types}
use Rattle.xr_types.specs.Results.{◌>>=◌, unless, all_of}
use Rattle.xr_defs.specs.Printing.{by_name, put_coord, is_below}
use Rattle.xr_types.specs.Names.{among}
use Rattle.xr_defs.specs.Values as of
use Rattle.xr_defs.specs.Encoding.{Stored, stored, stored_index, stored_labels, stored_content, stored_coord, stored_variable, coord_names, has_width, text_widths, are_new, added, coordinates_added, listed_by_none, is_listed, listed_by, is_that, record_dim, empty_axes, stands_first, attrs_of, check_unlimited, check_names, check_records, check_fill, check_fit}
use Rattle.xr_values.specs.declared.variable.Variable.{Variable}
use Rattle.xr_values.specs.declared.dataset.Dataset.{Dataset}
use Rattle.xr_values.specs.Stands.{variable_in, dataset_in, shape_named, IsNodeOf, IsDatasetIn}
use Rattle.xr_defs.specs.WellFormed.{IsCoordinate, IsVariable}
use Rattle.xr_encode.specs.declared.outline.Outline.{Outline}
use Rattle.xr_encode.specs.Outlines.{without_cells, outline_of, index_outlines, coord_outlines}
use Rattle.xr_encode.specs.Checks.{over, has_new, has_blank, is_first, are_typed, names_checked, places_checked, records_checked}
use Rattle.xr_encode.specs.Sets.{variable_outline, outlines_of, lists_name, unlisted_by}
use Rattle.xr_encode.specs.Walk.{HasContent}
use Rattle.xr_encode.specs.Encoded.{check_outlines, IsReady}
use Rattle.xr_encode.specs.declared.parts.Parts.{Parts}
use Rattle.xr_encode.proofs.Nodes.{first_ok}
use Rattle.xr_encode.specs.Frames.{parts_of, parts_checked}
use Rattle.xr_encode.proofs.Written.{same_fit, same_fill}

pub map-map : {A B C : Type 0} (f : B → C) (g : A → B) (xs : List A) → map f (map g xs) ≡ map (λ x. f (g x)) xs
map-map f g [] = refl
map-map f g (x ∷ xs) = ap (λ l. f (g x) ∷ l) (map-map f g xs)

-- ---- the variables but for their cells

of_variables : (nodes : List Node) (s : Dataset) (vs : List Variable) → map outline_of (map (stored_variable (dataset_in nodes s)) (map (variable_in nodes) vs)) ≡ map (variable_outline s.coords) vs
of_variables nodes s [] = refl
of_variables nodes s (v ∷ vs) = ap (λ l. variable_outline s.coords v ∷ l) (of_variables nodes s vs)

pub outlines_are : (nodes : List Node) (s : Dataset) → outlines_of s ≡ map outline_of (stored (dataset_in nodes s))
outlines_are nodes s =
    let indexes : List Stored = filter_map stored_index s.axes in
    let coords : List Stored = map stored_coord (by_name s.coords) in
    let vars : List Stored = map (stored_variable (dataset_in nodes s)) (map (variable_in nodes) s.vars) in
    ap (λ l. index_outlines s.axes ++ (coord_outlines (by_name s.coords) ++ l)) (sym (of_variables nodes s s.vars))
    ∙ ap (λ l. index_outlines s.axes ++ (l ++ map outline_of vars)) (sym (map-map outline_of stored_coord (by_name s.coords)))
    ∙ ap (λ l. index_outlines s.axes ++ l) (sym (map-append outline_of coords vars)) ∙ sym (map-append outline_of indexes (coords ++ vars))

all_stored : (t : Outline → Bool) (u : Stored → Bool) → ((o : Stored) → t (outline_of o) ≡ u o) → (os : List Stored) → list_all t (map outline_of os) ≡ list_all u os
all_stored t u same [] = refl
all_stored t u same (o ∷ os) = ap (λ b. b && list_all t (map outline_of os)) (same o) ∙ ap (λ b. u o && b) (all_stored t u same os)

checks_stored : (c : Stored → Result (Unit {0}) Fault) → ((o : Stored) → c (without_cells (outline_of o)) ≡ c o) → (os : List Stored) → all_of c (map without_cells (map outline_of os)) ≡ all_of c os
checks_stored c same [] = refl
checks_stored c same (o ∷ os) = ap (λ r. r >>= λ u. all_of c (map without_cells (map outline_of os))) (same o) ∙ ap (λ r. c o >>= λ u. r) (checks_stored c same os)

-- ---- the coordinates that no variable lists

index_lists : (n name : List ℕ) (attrs : List Attr) (l : LabelList) → among (stored_labels name attrs l).lists n ≡ false
index_lists n name attrs (Numbers kind ns) = refl
index_lists n name attrs (Times coding ts) = refl
index_lists n name attrs (Texts ts) = refl

one_index : (n name : List ℕ) (o : Option Labels) (axes : List Axis) → list_any (lists_name n) (index_outlines axes) ≡ false
    → list_any (lists_name n) (map outline_of (cons_option (option_map (λ (l : Labels). stored_labels name l.attrs l.list) o) (filter_map stored_index axes))) ≡ false
one_index n name None axes rest = rest
one_index n name (Some l) axes rest = ap (λ b. b || list_any (lists_name n) (index_outlines axes)) (index_lists n name l.attrs l.list) ∙ rest

any_indexes : (n : List ℕ) (axes : List Axis) → list_any (lists_name n) (index_outlines axes) ≡ false
any_indexes n [] = refl
any_indexes n (x ∷ axes) = one_index n x.name x.labels axes (any_indexes n axes)

coord_lists : (n : List ℕ) (c : Coord) (content : Content) → among (stored_content c content).lists n ≡ false
coord_lists n c (contents.Cells a masked) = refl
coord_lists n c (contents.Text text) = refl
coord_lists n c (contents.Time coding t) = refl

any_coords : (n : List ℕ) (cs : List Coord) → list_any (lists_name n) (coord_outlines cs) ≡ false
any_coords n [] = refl
any_coords n (c ∷ cs) = ap (λ b. b || list_any (lists_name n) (coord_outlines cs)) (coord_lists n c c.content) ∙ any_coords n cs

any_variables : (nodes : List Node) (s : Dataset) (n : List ℕ) (vs : List Variable) → list_any (lists_name n) (map (variable_outline s.coords) vs) ≡ list_any (λ v. among (listed_by (dataset_in nodes s) v) n) (map (variable_in nodes) vs)
any_variables nodes s n [] = refl
any_variables nodes s n (v ∷ vs) = ap (λ b. among (listed_by (dataset_in nodes s) (variable_in nodes v)) n || b) (any_variables nodes s n vs)

listed_is : (nodes : List Node) (s : Dataset) (n : List ℕ) → list_any (lists_name n) (outlines_of s) ≡ is_listed (dataset_in nodes s) n
listed_is nodes s n =
    let t : Outline → Bool = lists_name n in
    let rest : List Outline = map (variable_outline s.coords) s.vars in
    list_any-append t (index_outlines s.axes) (coord_outlines (by_name s.coords) ++ rest) ∙ ap (λ b. b || list_any t (coord_outlines (by_name s.coords) ++ rest)) (any_indexes n s.axes)
    ∙ list_any-append t (coord_outlines (by_name s.coords)) rest ∙ ap (λ b. b || list_any t rest) (any_coords n (by_name s.coords)) ∙ any_variables nodes s n s.vars

same_filter : {X : Type 0} (t u : X → Bool) → ((x : X) → t x ≡ u x) → (xs : List X) → filter t xs ≡ filter u xs
same_filter t u same [] = refl
same_filter t u same (x ∷ xs) = ap (λ b. cond b (x ∷ filter t xs) (filter t xs)) (same x) ∙ ap (λ l. cond (u x) (x ∷ l) l) (same_filter t u same xs)

pub unlisted_are : (nodes : List Node) (s : Dataset) → unlisted_by (outlines_of s) (coord_names (by_name s.coords)) ≡ listed_by_none (dataset_in nodes s)
unlisted_are nodes s =
    same_filter (λ n. not (list_any (lists_name n) (outlines_of s))) (λ n. not (is_listed (dataset_in nodes s) n)) (λ n. ap not (listed_is nodes s n)) (coord_names (by_name s.coords))

-- ---- the checks

names_are : (nodes : List Node) (s : Dataset) (options : WriteOptions) → names_checked s.axes (parts_of s).widths (parts_of s).outlines s.attrs (parts_of s).unlisted options ≡ check_names (dataset_in nodes s) options
unfolding names_checked check_names
names_are nodes s options =
    let set : of.Dataset = dataset_in nodes s in
    let new : list_all (has_new options) (outlines_of s) ≡ list_all (λ o. are_new o.attrs (added options o)) (stored set) =
    ap (list_all (has_new options)) (outlines_are nodes s) ∙ all_stored (has_new options) (λ o. are_new o.attrs (added options o)) (λ o. refl) (stored set) in
    ap (λ b. unless (list_all (has_width set) (text_widths set)) DuplicateName >>= λ u. unless b DuplicateName >>= λ v. unless (are_new s.attrs (coordinates_added (parts_of s).unlisted)) DuplicateName) new
    ∙ ap (λ ns. unless (list_all (has_width set) (text_widths set)) DuplicateName >>= λ u. unless (list_all (λ o. are_new o.attrs (added options o)) (stored set)) DuplicateName >>= λ v. unless (are_new s.attrs (coordinates_added ns)) DuplicateName) (unlisted_are nodes s)

three_first : {E : Type 0} (a b c : Bool) (e : E) (last : Result (Unit {0}) E) → ((unless a e >>= λ u. unless b e >>= λ v. unless c e) >>= λ w. last) ≡ (unless a e >>= λ u. unless b e >>= λ v. unless c e >>= λ w. last)
unfolding unless
three_first true true true e last = refl
three_first true true false e last = refl
three_first true false c e last = refl
three_first false b c e last = refl

records_are : (nodes : List Node) (s : Dataset) (options : WriteOptions) → records_checked s.axes (outlines_of s) (coord_names s.coords) s.attrs options ≡ check_records (dataset_in nodes s) options
unfolding records_checked places_checked check_records
records_are nodes s options =
    let set : of.Dataset = dataset_in nodes s in
    let empty : Bool = list_all (is_that (record_dim set options)) (empty_axes set) in
    let named : Bool = not (list_any has_blank (coord_names s.coords)) in
    let first : list_all (is_first s.axes options) (outlines_of s) ≡ list_all (stands_first (record_dim set options)) (stored set) =
    ap (list_all (is_first s.axes options)) (outlines_are nodes s) ∙ all_stored (is_first s.axes options) (stands_first (record_dim set options)) (λ o. refl) (stored set) in
    let typed : list_all (are_typed options) (outlines_of s) ≡ list_all (λ o. has_types options.version (attrs_of options o)) (stored set) =
    ap (list_all (are_typed options)) (outlines_are nodes s) ∙ all_stored (are_typed options) (λ o. has_types options.version (attrs_of options o)) (λ o. refl) (stored set) in
    three_first empty (list_all (is_first s.axes options) (outlines_of s)) named CannotHold (unless (has_types options.version s.attrs && list_all (are_typed options) (outlines_of s)) CannotHold)
    ∙ ap (λ a. unless empty CannotHold >>= λ u. unless a CannotHold >>= λ v. unless named CannotHold >>= λ w. unless (has_types options.version s.attrs && list_all (are_typed options) (outlines_of s)) CannotHold) first
    ∙ ap (λ b. unless empty CannotHold >>= λ u. unless (list_all (stands_first (record_dim set options)) (stored set)) CannotHold >>= λ v. unless named CannotHold >>= λ w. unless (has_types options.version s.attrs && b) CannotHold) typed

pub fills_are : (nodes : List Node) (s : Dataset) (options : WriteOptions) → all_of (check_fill options) (map without_cells (outlines_of s)) ≡ all_of (check_fill options) (stored (dataset_in nodes s))
fills_are nodes s options = ap (λ os. all_of (check_fill options) (map without_cells os)) (outlines_are nodes s) ∙ checks_stored (check_fill options) (same_fill options) (stored (dataset_in nodes s))

pub fits_are : (nodes : List Node) (s : Dataset) (options : WriteOptions) → all_of (check_fit options) (map without_cells (outlines_of s)) ≡ all_of (check_fit options) (stored (dataset_in nodes s))
fits_are nodes s options = ap (λ os. all_of (check_fit options) (map without_cells os)) (outlines_are nodes s) ∙ checks_stored (check_fit options) (same_fit options) (stored (dataset_in nodes s))

unlimited_is : (nodes : List Node) (s : Dataset) (options : WriteOptions) → check_unlimited (over s.axes) options ≡ check_unlimited (dataset_in nodes s) options
unfolding check_unlimited
unlimited_is nodes s options = refl

pub parts_are : (nodes : List Node) (s : Dataset) (options : WriteOptions) → parts_checked s (parts_of s) options ≡ check_outlines (dataset_in nodes s) options
unfolding parts_checked check_outlines
parts_are nodes s options =
    let chain : Result (Unit {0}) Fault → Result (Unit {0}) Fault → Result (Unit {0}) Fault → Result (Unit {0}) Fault → Result (Unit {0}) Fault → Result (Unit {0}) Fault =
    λ a b c d e. a >>= λ u. b >>= λ v. c >>= λ w. d >>= λ x. e in
    let set : of.Dataset = dataset_in nodes s in
    ap (λ r. chain r (names_checked s.axes (parts_of s).widths (outlines_of s) s.attrs (parts_of s).unlisted options) (records_checked s.axes (outlines_of s) (coord_names s.coords) s.attrs options) (all_of (check_fill options) (map without_cells (outlines_of s))) (all_of (check_fit options) (map without_cells (outlines_of s)))) (unlimited_is nodes s options)
    ∙ ap (λ r. chain (check_unlimited set options) r (records_checked s.axes (outlines_of s) (coord_names s.coords) s.attrs options) (all_of (check_fill options) (map without_cells (outlines_of s))) (all_of (check_fit options) (map without_cells (outlines_of s)))) (names_are nodes s options)
    ∙ ap (λ r. chain (check_unlimited set options) (check_names set options) r (all_of (check_fill options) (map without_cells (outlines_of s))) (all_of (check_fit options) (map without_cells (outlines_of s)))) (records_are nodes s options)
    ∙ ap (λ r. chain (check_unlimited set options) (check_names set options) (check_records set options) r (all_of (check_fit options) (map without_cells (outlines_of s)))) (fills_are nodes s options)
    ∙ ap (λ r. chain (check_unlimited set options) (check_names set options) (check_records set options) (all_of (check_fill options) (stored set)) r) (fits_are nodes s options)

-- ---- what the checks of the parts tell of fill numbers

last_ok : {E : Type 0} (a b c d e : Result (Unit {0}) E) → (a >>= λ u. b >>= λ v. c >>= λ w. d >>= λ x. e) ≡ Ok tt → e ≡ Ok tt
last_ok (Ok t) (Ok u) (Ok v) (Ok w) e is = is
last_ok (Ok t) (Ok u) (Ok v) (Err w) e is = cc
last_ok (Ok t) (Ok u) (Err v) d e is = cc
last_ok (Ok t) (Err u) c d e is = cc
last_ok (Err t) b c d e is = cc

pub parts_fit : (s : Dataset) (parts : Parts) (options : WriteOptions) → parts_checked s parts options ≡ Ok tt → all_of (check_fit options) (map without_cells parts.outlines) ≡ Ok tt
unfolding parts_checked
parts_fit s parts options ok =
    last_ok (check_unlimited (over s.axes) options) (names_checked s.axes parts.widths parts.outlines s.attrs parts.unlisted options) (records_checked s.axes parts.outlines (coord_names s.coords) s.attrs options) (all_of (check_fill options) (map without_cells parts.outlines))
    (all_of (check_fit options) (map without_cells parts.outlines)) ok

halves_ok : {X E : Type 0} (c : X → Result (Unit {0}) E) (xs ys : List X) → all_of c (xs ++ ys) ≡ Ok tt → (all_of c xs ≡ Ok tt) × (all_of c ys ≡ Ok tt)
halves_ok c [] ys ok = (refl, ok)
halves_ok c (x ∷ xs) ys ok =
    let both = first_ok (c x) (all_of c (xs ++ ys)) ok in
    let rest = halves_ok c xs ys both.1 in
    (ap (λ r. r >>= λ u. all_of c xs) both.0 ∙ rest.0, rest.1)

coords_fit_one : (options : WriteOptions) (cs : List Coord) → all_of (check_fit options) (map without_cells (coord_outlines cs)) ≡ all_of (check_fit options) (map stored_coord cs)
coords_fit_one options [] = refl
coords_fit_one options (c ∷ cs) =
    ap (λ r. r >>= λ u. all_of (check_fit options) (map without_cells (coord_outlines cs))) (same_fit options (stored_coord c)) ∙ ap (λ r. check_fit options (stored_coord c) >>= λ u. r) (coords_fit_one options cs)

behind_indexes : (options : WriteOptions) (s : Dataset) → all_of (check_fit options) (map without_cells (outlines_of s)) ≡ Ok tt → all_of (check_fit options) (map without_cells (coord_outlines (by_name s.coords) ++ map (variable_outline s.coords) s.vars)) ≡ Ok tt
behind_indexes options s ok =
    let rest : List Outline = coord_outlines (by_name s.coords) ++ map (variable_outline s.coords) s.vars in
    (halves_ok (check_fit options) (map without_cells (index_outlines s.axes)) (map without_cells rest) (ap (all_of (check_fit options)) (sym (map-append without_cells (index_outlines s.axes) rest)) ∙ ok)).1

both_fit : (options : WriteOptions) (s : Dataset) → all_of (check_fit options) (map without_cells (outlines_of s)) ≡ Ok tt
    → (all_of (check_fit options) (map without_cells (coord_outlines (by_name s.coords))) ≡ Ok tt) × (all_of (check_fit options) (map without_cells (map (variable_outline s.coords) s.vars)) ≡ Ok tt)
both_fit options s ok =
    let coords : List Outline = coord_outlines (by_name s.coords) in
    let vars : List Outline = map (variable_outline s.coords) s.vars in
    halves_ok (check_fit options) (map without_cells coords) (map without_cells vars) (ap (all_of (check_fit options)) (sym (map-append without_cells coords vars)) ∙ behind_indexes options s ok)

pub coords_fit : (options : WriteOptions) (s : Dataset) → all_of (check_fit options) (map without_cells (outlines_of s)) ≡ Ok tt → all_of (check_fit options) (map stored_coord (by_name s.coords)) ≡ Ok tt
coords_fit options s ok = sym (coords_fit_one options (by_name s.coords)) ∙ (both_fit options s ok).0

pub variables_fit : (options : WriteOptions) (s : Dataset) → all_of (check_fit options) (map without_cells (outlines_of s)) ≡ Ok tt → all_of (check_fit options) (map (λ v. without_cells (variable_outline s.coords v)) s.vars) ≡ Ok tt
variables_fit options s ok = ap (all_of (check_fit options)) (sym (map-map without_cells (variable_outline s.coords) s.vars)) ∙ (both_fit options s ok).1

-- ---- a dataset of the plan

coord_kept : (P : Coord → Type 0) (c d : Coord) (ds : List Coord) (b : Bool) → P c → P d → AllByRecursion P ds → (P c → AllByRecursion P ds → AllByRecursion P (put_coord c ds)) → AllByRecursion P (cond b (d ∷ put_coord c ds) (c ∷ d ∷ ds))
coord_kept P c d ds true pc pd all goes = (pd, goes pc all)
coord_kept P c d ds false pc pd all goes = (pc, (pd, all))

put_kept : (P : Coord → Type 0) (c : Coord) (ds : List Coord) → P c → AllByRecursion P ds → AllByRecursion P (put_coord c ds)
put_kept P c [] pc all = (pc, tt)
put_kept P c (d ∷ ds) pc all = coord_kept P c d ds (is_below d.name c.name) pc all.0 all.1 (put_kept P c ds)

-- what holds of coordinates holds of them by their names
pub sorted_kept : (P : Coord → Type 0) (cs : List Coord) → AllByRecursion P cs → AllByRecursion P (by_name cs)
sorted_kept P [] all = tt
sorted_kept P (c ∷ cs) all = put_kept P c (by_name cs) all.0 (sorted_kept P cs all.1)

have_content : (axes : List Axis) (cs : List Coord) → AllByRecursion (IsCoordinate axes) cs → AllByRecursion HasContent cs
have_content axes [] all = tt
have_content axes (c ∷ cs) all = (all.0.content, have_content axes cs all.1)

pub contents_held : (nodes : List Node) (s : Dataset) → IsDatasetIn nodes s → AllByRecursion HasContent (by_name s.coords)
contents_held nodes s is = sorted_kept HasContent s.coords (have_content s.axes s.coords is.formed.coords)

each_ready : (nodes : List Node) (s : Dataset) (vs : List Variable) → All (λ (v : Variable). IsNodeOf nodes v.node (shape_named s v) v.kind) vs → AllByRecursion (IsVariable s.axes) (map (variable_in nodes) vs) → AllByRecursion (IsReady nodes) vs
each_ready nodes s [] all formed = tt
each_ready nodes s (v ∷ vs) all formed =
    let node = All-head (λ (v : Variable). IsNodeOf nodes v.node (shape_named s v) v.kind) v vs all in (
      record { placed = node.placed; has_kind = node.has_kind; range = formed.0.cells.range; seen = formed.0.cells.seen },
      each_ready nodes s vs (All-tail (λ (v : Variable). IsNodeOf nodes v.node (shape_named s v) v.kind) v vs all) formed.1,
    )

pub vars_ready : (nodes : List Node) (s : Dataset) → IsDatasetIn nodes s → AllByRecursion (IsReady nodes) s.vars
vars_ready nodes s is = each_ready nodes s s.vars is.nodes_of is.formed.vars
