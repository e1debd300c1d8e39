-- The walk over the variables, and the whole of the definition.
use Rattle.std.proofs.Common.{◌≡◌, ℕ, Bool, true, false, List, [], ◌∷◌, ◌++◌, map, Result, Ok, Err, refl, sym, ap, ◌∙◌, append_assoc}
use Rattle.std.specs.Prelude.{not}
use Rattle.std.specs.List.{filter_map}
use Rattle.std.proofs.lemmas.List.{append-nil, map-append}
use Rattle.xr_types.specs.declared.fault.Fault.{Fault}
use Rattle.xr_types.specs.declared.fault.Fault.TheVariants.{TooLarge}
use Rattle.xr_types.specs.declared.fault.CallFault.{CallFault}
use Rattle.xr_types.specs.declared.fault.CallFault.TheVariants.{Refused, Declined, NoMemory}
use Rattle.xr_files.specs.declared.file.CdfDim.{CdfDim}
use Rattle.xr_files.specs.declared.file.CdfVar.{CdfVar}
use Rattle.xr_files.specs.declared.file.CdfFile.{CdfFile}
use Rattle.xr_arrays.specs.declared.node.Node.{Node}
use Rattle.xr_defs.specs.declared.write_options.WriteOptions.{WriteOptions}
use Rattle.xr_types.specs.Results.{◌>>=◌, unless, all_of, Answers}
use Rattle.xr_arrays.specs.Arrays.{Array}
use Rattle.xr_arrays.specs.Nodes.{value}
use Rattle.xr_files.specs.Canonical.{is_small}
use Rattle.xr_defs.specs.Printing.{by_name}
use Rattle.xr_defs.specs.Values as of
use Rattle.xr_defs.specs.Encoding.{Stored, stored, stored_index, stored_coord, stored_variable, encoded, var_of, dims_of, check_unlimited, check_names, check_records, check_fill, check_fit, check_cells, file_of}
use Rattle.xr_values.specs.declared.variable.Variable.{Variable}
use Rattle.xr_values.specs.declared.dataset.Dataset.{Dataset}
use Rattle.xr_values.specs.Stands.{variable_in, dataset_in}
use Rattle.xr_encode.specs.Outlines.{filled_with}
use Rattle.xr_encode.specs.Sets.{variable_outline}
use Rattle.xr_encode.specs.Walk.{cells_if, var_checked, vars_from}
use Rattle.xr_encode.specs.Encoded.{refused, stored_held, node_cells, check_computed, check_outlines, computed_var, computed_from, vars_in, file_in, Follows}
use Rattle.xr_encode.specs.Frames.{parts_of, frame_of, file_with, vars_walked, file_walked}
use Rattle.xr_encode.proofs.Told.{parts_are}
use Rattle.xr_encode.proofs.Bare.{frame_small, file_is}

-- ---- those that the dataset holds itself

one_told : {A E : Type 0} (r s : Result (Unit {0}) E) (w : A) (F : A → Result (List A) E) (l : List A) → F w ≡ (s >>= λ u. Ok l) → ((r >>= λ u. Ok w) >>= F) ≡ ((r >>= λ u. s) >>= λ u. Ok l)
one_told (Ok u) s w F l e = e
one_told (Err f) s w F l e = refl

vars_told : (small : Bool) (dims : List CdfDim) (options : WriteOptions) (done : List CdfVar) (os : List Stored)
    → vars_from small dims options done os ≡ (all_of (check_cells options) os >>= λ u. Ok (done ++ map (λ o. var_of dims options (cells_if small o)) os))
unfolding var_checked
vars_told small dims options done [] = ap Ok (sym (append-nil done))
vars_told small dims options done (o ∷ os) =
    let w : CdfVar = var_of dims options (cells_if small o) in
    let rest : List CdfVar = map (λ o. var_of dims options (cells_if small o)) os in
    one_told (check_cells options o) (all_of (check_cells options) os) w (λ v. vars_from small dims options (done ++ v ∷ []) os) (done ++ w ∷ rest)
    (vars_told small dims options (done ++ w ∷ []) os ∙ ap (λ l. all_of (check_cells options) os >>= λ u. Ok l) (append_assoc done (w ∷ []) rest))

both_walks : {A B C E : Type 0} (r : Result A E) (f : A → Result B E) (g : B → Result C E) → ((r >>= f) >>= g) ≡ (r >>= λ a. f a >>= g)
both_walks (Ok a) f g = refl
both_walks (Err e) f g = refl

step_both : (small : Bool) (dims : List CdfDim) (options : WriteOptions) (done : List CdfVar) (bs xs : List Stored) (r : Result CdfVar Fault)
    → ((v : CdfVar) → vars_from small dims options (done ++ v ∷ []) (xs ++ bs) ≡ (vars_from small dims options (done ++ v ∷ []) xs >>= λ d. vars_from small dims options d bs))
    → (r >>= λ v. vars_from small dims options (done ++ v ∷ []) (xs ++ bs)) ≡ ((r >>= λ v. vars_from small dims options (done ++ v ∷ []) xs) >>= λ d. vars_from small dims options d bs)
step_both small dims options done bs xs (Ok v) goes = goes v
step_both small dims options done bs xs (Err e) goes = refl

pub vars_both : (small : Bool) (dims : List CdfDim) (options : WriteOptions) (done : List CdfVar) (xs bs : List Stored) → vars_from small dims options done (xs ++ bs) ≡ (vars_from small dims options done xs >>= λ d. vars_from small dims options d bs)
vars_both small dims options done [] bs = refl
vars_both small dims options done (a ∷ xs) bs = step_both small dims options done bs xs (var_checked small dims options a) (λ v. vars_both small dims options (done ++ v ∷ []) xs bs)

-- ---- those whose cells are computed

passed_on : {A B : Type 0} (r : Result A Fault) (w : B) → refused (r >>= λ u. Ok w) ≡ (refused r >>= λ u. Ok w)
passed_on (Ok u) w = refl
passed_on (Err f) w = refl

computed_by : (b : Bool) (n : ℕ) (a : Array) (q : Result (Unit {0}) Fault) (w : CdfVar) (F : Array → Result CdfVar CallFault) → F a ≡ (refused q >>= λ u. Ok w)
    → ((unless b (Declined n) >>= λ u. Ok a) >>= F) ≡ ((unless b (Declined n) >>= λ u. refused q) >>= λ u. Ok w)
unfolding unless
computed_by true n a q w F e = e
computed_by false n a q w F e = refl

var_told : (declines : ℕ → Bool) (nodes : List Node) (small : Bool) (dims : List CdfDim) (options : WriteOptions) (s : Dataset) (v : Variable)
    → computed_var declines nodes small dims options s.coords v ≡ (check_computed declines nodes (dataset_in nodes s) options v >>= λ u. Ok (var_of dims options (cells_if small (stored_variable (dataset_in nodes s) (variable_in nodes v)))))
unfolding computed_var node_cells check_computed var_checked
var_told declines nodes small dims options s v =
    let o : Stored = stored_variable (dataset_in nodes s) (variable_in nodes v) in
    computed_by (not (declines v.node)) v.node (value nodes v.node) (check_cells options o) (var_of dims options (cells_if small o)) (λ a. refused (check_cells options (filled_with a.cells (variable_outline s.coords v)) >>= λ u. Ok (var_of dims options (cells_if small (filled_with a.cells (variable_outline s.coords v))))))
    (passed_on (check_cells options o) (var_of dims options (cells_if small o)))

computed_told : (declines : ℕ → Bool) (nodes : List Node) (small : Bool) (dims : List CdfDim) (options : WriteOptions) (s : Dataset) (done : List CdfVar) (vs : List Variable)
    → computed_from declines nodes small dims options s.coords done vs
    ≡ (all_of (check_computed declines nodes (dataset_in nodes s) options) vs >>= λ u. Ok (done ++ map (λ v. var_of dims options (cells_if small (stored_variable (dataset_in nodes s) (variable_in nodes v)))) vs))
computed_told declines nodes small dims options s done [] = ap Ok (sym (append-nil done))
computed_told declines nodes small dims options s done (v ∷ vs) =
    let check = check_computed declines nodes (dataset_in nodes s) options in
    let w : CdfVar = var_of dims options (cells_if small (stored_variable (dataset_in nodes s) (variable_in nodes v))) in
    let rest : List CdfVar = map (λ v. var_of dims options (cells_if small (stored_variable (dataset_in nodes s) (variable_in nodes v)))) vs in
    ap (λ r. r >>= λ x. computed_from declines nodes small dims options s.coords (done ++ x ∷ []) vs) (var_told declines nodes small dims options s v)
    ∙ one_told (check v) (all_of check vs) w (λ x. computed_from declines nodes small dims options s.coords (done ++ x ∷ []) vs) (done ++ w ∷ rest)
    (computed_told declines nodes small dims options s (done ++ w ∷ []) vs ∙ ap (λ l. all_of check vs >>= λ u. Ok l) (append_assoc done (w ∷ []) rest))

-- ---- all variables

map_variables : (nodes : List Node) (s : Dataset) (f : Stored → CdfVar) (vs : List Variable) → map (λ v. f (stored_variable (dataset_in nodes s) (variable_in nodes v))) vs ≡ map f (map (stored_variable (dataset_in nodes s)) (map (variable_in nodes) vs))
map_variables nodes s f [] = refl
map_variables nodes s f (v ∷ vs) = ap (λ l. f (stored_variable (dataset_in nodes s) (variable_in nodes v)) ∷ l) (map_variables nodes s f vs)

all_vars : (nodes : List Node) (s : Dataset) (f : Stored → CdfVar) → map f (stored_held (dataset_in nodes s)) ++ map (λ v. f (stored_variable (dataset_in nodes s) (variable_in nodes v))) s.vars ≡ map f (stored (dataset_in nodes s))
all_vars nodes s f =
    let set = dataset_in nodes s in
    let held : List Stored = stored_held set in
    let vars : List Stored = map (stored_variable set) set.vars in
    ap (λ l. map f held ++ l) (map_variables nodes s f s.vars) ∙ sym (map-append f held vars) ∙ ap (map f) (append_assoc (filter_map stored_index s.axes) (map stored_coord (by_name s.coords)) vars)

held_then : (r : Result (Unit {0}) Fault) (l : List CdfVar) (F : List CdfVar → Result (List CdfVar) CallFault) (q : Result (Unit {0}) CallFault) (m : List CdfVar) → F l ≡ (q >>= λ u. Ok m)
    → (refused (r >>= λ u. Ok l) >>= F) ≡ (refused r >>= λ a. q >>= λ c. Ok m)
held_then (Ok u) l F q m e = e
held_then (Err f) l F q m e = refl

vars_are : (declines : ℕ → Bool) (nodes : List Node) (small : Bool) (dims : List CdfDim) (options : WriteOptions) (s : Dataset)
    → vars_in declines nodes small dims options s
    ≡ (refused (all_of (check_cells options) (stored_held (dataset_in nodes s))) >>= λ a. all_of (check_computed declines nodes (dataset_in nodes s) options) s.vars >>= λ c. Ok (map (λ o. var_of dims options (cells_if small o)) (stored (dataset_in nodes s))))
vars_are declines nodes small dims options s =
    let set = dataset_in nodes s in
    let f : Stored → CdfVar = λ o. var_of dims options (cells_if small o) in
    let F : List CdfVar → Result (List CdfVar) CallFault = λ held. computed_from declines nodes small dims options s.coords held s.vars in
    ap (λ r. refused r >>= F) (vars_told small dims options [] (stored_held set))
    ∙ held_then (all_of (check_cells options) (stored_held set)) (map f (stored_held set)) F (all_of (check_computed declines nodes set options) s.vars) (map f (stored set))
    (computed_told declines nodes small dims options s (map f (stored_held set)) s.vars ∙ ap (λ l. all_of (check_computed declines nodes set options) s.vars >>= λ u. Ok l) (all_vars nodes s f))

refused_on : {A B : Type 0} (r : Result A Fault) (f : A → Result B Fault) → refused (r >>= f) ≡ (refused r >>= λ a. refused (f a))
refused_on (Ok a) f = refl
refused_on (Err e) f = refl

-- ---- the whole

walk_is : (declines : ℕ → Bool) (nodes : List Node) (small : Bool) (dims : List CdfDim) (options : WriteOptions) (s : Dataset) → vars_walked declines nodes small dims options s ≡ vars_in declines nodes small dims options s
unfolding vars_walked
walk_is declines nodes small dims options s =
    let indexes : List Stored = filter_map stored_index s.axes in
    let coords : List Stored = map stored_coord (by_name s.coords) in
    let F : List CdfVar → Result (List CdfVar) CallFault = λ held. computed_from declines nodes small dims options s.coords held s.vars in
    sym (both_walks (refused (vars_from small dims options [] indexes)) (λ a. refused (vars_from small dims options a coords)) F)
    ∙ ap (λ r. r >>= F) (sym (refused_on (vars_from small dims options [] indexes) (λ a. vars_from small dims options a coords)) ∙ ap refused (sym (vars_both small dims options [] indexes coords)))

all_kept : (dims : List CdfDim) (options : WriteOptions) (os : List Stored) → map (λ o. var_of dims options (cells_if true o)) os ≡ map (var_of dims options) os
all_kept dims options [] = refl
all_kept dims options (o ∷ os) = ap (λ l. var_of dims options o ∷ l) (all_kept dims options os)

end_is : (b : Bool) (e f : CdfFile) → (b ≡ true → f ≡ e) → (refused (unless b TooLarge) >>= λ c. Ok f) ≡ (refused (unless b TooLarge) >>= λ d. Ok e)
unfolding unless
end_is true e f same = ap Ok (same refl)
end_is false e f same = refl

rest_is : {A B E : Type 0} (x y : Result (Unit {0}) E) (w : A) (G : A → Result B E) (z : Result B E) → G w ≡ z → ((x >>= λ a. y >>= λ c. Ok w) >>= G) ≡ (x >>= λ a. y >>= λ c. z)
rest_is (Ok u) (Ok v) w G z e = e
rest_is (Ok u) (Err f) w G z e = refl
rest_is (Err f) y w G z e = refl

-- the walk over the parts is what the definition says
pub walked_is : (declines : ℕ → Bool) (nodes : List Node) (s : Dataset) (options : WriteOptions) → file_walked declines nodes s (parts_of s) options ≡ file_in declines nodes s options
unfolding file_walked file_in
walked_is declines nodes s options =
    let set = dataset_in nodes s in
    let dims : List CdfDim = dims_of set options in
    let small : Bool = is_small (frame_of s (parts_of s) options) in
    let G : Bool → List CdfVar → Result CdfFile CallFault = λ b vars. refused (unless b TooLarge) >>= λ c. Ok (file_with s (parts_of s) options vars) in
    let W : Bool → List CdfVar = λ b. map (λ o. var_of dims options (cells_if b o)) (stored set) in
    let end : Result CdfFile CallFault = refused (unless (is_small (encoded set options)) TooLarge) >>= λ d. Ok (encoded set options) in
    let x = refused (all_of (check_cells options) (stored_held set)) in
    let y = all_of (check_computed declines nodes set options) s.vars in
    let whole : (b : Bool) → b ≡ true → file_with s (parts_of s) options (W b) ≡ encoded set options =
    λ b is. ap (λ c. file_with s (parts_of s) options (W c)) is ∙ ap (file_with s (parts_of s) options) (all_kept dims options (stored set)) ∙ file_is nodes s options in
    ap (λ r. refused r >>= λ a. vars_walked declines nodes small dims options s >>= G small) (parts_are nodes s options)
    ∙ ap (λ r. refused (check_outlines set options) >>= λ a. r)
    (ap (λ r. r >>= G small) (walk_is declines nodes small dims options s ∙ vars_are declines nodes small dims options s)
    ∙ ap (λ b. (x >>= λ a. y >>= λ c. Ok (W b)) >>= G b) (frame_small nodes s options)
    ∙ rest_is x y (W (is_small (encoded set options))) (G (is_small (encoded set options))) end (end_is (is_small (encoded set options)) (encoded set options) (file_with s (parts_of s) options (W (is_small (encoded set options)))) (whole (is_small (encoded set options)))))

-- ---- where nothing is declined

asked : {A : Type 0} (b : Bool) (n : ℕ) (r : Result A CallFault) → b ≡ false → (unless (not b) (Declined n) >>= λ u. r) ≡ r
unfolding unless
asked true n r e = cc
asked false n r e = refl

computed_checks : (declines : ℕ → Bool) (nodes : List Node) (set : of.Dataset) (options : WriteOptions) (vs : List Variable) → ((n : ℕ) → declines n ≡ false)
    → all_of (check_computed declines nodes set options) vs ≡ refused (all_of (check_cells options) (map (stored_variable set) (map (variable_in nodes) vs)))
unfolding check_computed
computed_checks declines nodes set options [] none = refl
computed_checks declines nodes set options (v ∷ vs) none =
    let o : Stored = stored_variable set (variable_in nodes v) in
    let rest : Result (Unit {0}) Fault = all_of (check_cells options) (map (stored_variable set) (map (variable_in nodes) vs)) in
    ap (λ r. r >>= λ u. all_of (check_computed declines nodes set options) vs) (asked (declines v.node) v.node (refused (check_cells options o)) (none v.node))
    ∙ ap (λ r. refused (check_cells options o) >>= λ u. r) (computed_checks declines nodes set options vs none) ∙ sym (refused_on (check_cells options o) (λ u. rest))

all_both : (c : Stored → Result (Unit {0}) Fault) (xs bs : List Stored) → all_of c (xs ++ bs) ≡ (all_of c xs >>= λ u. all_of c bs)
all_both c [] bs = refl
all_both c (a ∷ xs) bs = ap (λ r. c a >>= λ u. r) (all_both c xs bs) ∙ sym (both_walks (c a) (λ u. all_of c xs) (λ u. all_of c bs))

cells_are : (declines : ℕ → Bool) (nodes : List Node) (s : Dataset) (options : WriteOptions) → ((n : ℕ) → declines n ≡ false)
    → (refused (all_of (check_cells options) (stored_held (dataset_in nodes s))) >>= λ b. all_of (check_computed declines nodes (dataset_in nodes s) options) s.vars) ≡ refused (all_of (check_cells options) (stored (dataset_in nodes s)))
cells_are declines nodes s options none =
    let set = dataset_in nodes s in
    let held : List Stored = stored_held set in
    let vars : List Stored = map (stored_variable set) set.vars in
    ap (λ r. refused (all_of (check_cells options) held) >>= λ b. r) (computed_checks declines nodes set options s.vars none) ∙ sym (refused_on (all_of (check_cells options) held) (λ u. all_of (check_cells options) vars))
    ∙ ap refused (sym (all_both (check_cells options) held vars)) ∙ ap (λ os. refused (all_of (check_cells options) os)) (append_assoc (filter_map stored_index s.axes) (map stored_coord (by_name s.coords)) vars)

parts_first : (a b c d e f : Result (Unit {0}) Fault) (z : Result CdfFile Fault) → ((a >>= λ u. b >>= λ u. c >>= λ u. d >>= λ u. e) >>= λ u. f >>= λ u. z) ≡ (a >>= λ u. b >>= λ u. c >>= λ u. d >>= λ u. e >>= λ u. f >>= λ u. z)
parts_first (Ok t) (Ok u) (Ok v) (Ok w) e f z = refl
parts_first (Ok t) (Ok u) (Ok v) (Err w) e f z = refl
parts_first (Ok t) (Ok u) (Err v) d e f z = refl
parts_first (Ok t) (Err u) c d e f z = refl
parts_first (Err t) b c d e f z = refl

-- the file is that of the dataset by itself
pub is_file_of : (declines : ℕ → Bool) (nodes : List Node) (s : Dataset) (options : WriteOptions) → ((n : ℕ) → declines n ≡ false) → file_in declines nodes s options ≡ refused (file_of (dataset_in nodes s) options)
unfolding file_in file_of check_outlines
is_file_of declines nodes s options none =
    let set = dataset_in nodes s in
    let first : Result (Unit {0}) Fault = check_outlines set options in
    let cells : Result (Unit {0}) Fault = all_of (check_cells options) (stored set) in
    let end : Result CdfFile Fault = unless (is_small (encoded set options)) TooLarge >>= λ g. Ok (encoded set options) in
    ap (λ r. refused first >>= λ a. r)
    (sym (both_walks (refused (all_of (check_cells options) (stored_held set))) (λ b. all_of (check_computed declines nodes set options) s.vars) (λ c. refused (unless (is_small (encoded set options)) TooLarge) >>= λ d. Ok (encoded set options)))
    ∙ ap (λ r. r >>= λ c. refused (unless (is_small (encoded set options)) TooLarge) >>= λ d. Ok (encoded set options)) (cells_are declines nodes s options none)
    ∙ ap (λ r. refused cells >>= λ c. r) (sym (refused_on (unless (is_small (encoded set options)) TooLarge) (λ d. Ok (encoded set options)))) ∙ sym (refused_on cells (λ c. end)))
    ∙ sym (refused_on first (λ a. cells >>= λ c. end))
    ∙ ap refused (parts_first (check_unlimited set options) (check_names set options) (check_records set options) (all_of (check_fill options) (stored set)) (all_of (check_fit options) (stored set)) cells end)

-- ---- answers

pub answers_of : {A : Type 0} (r : Result A CallFault) (told : Result A Fault) → Follows r (refused told) → Answers (λ a. a) r told
answers_of (Ok a) (Ok b) e = let same : b ≡ a = cc in ap Ok same
answers_of (Ok a) (Err f) e = cc
answers_of (Err (Refused f)) (Ok b) e = cc
answers_of (Err (Refused f)) (Err h) e = let same : h ≡ f = cc in ap Err same
answers_of (Err (Declined n)) (Ok b) e = absurd cc
answers_of (Err (Declined n)) (Err h) e = absurd cc
answers_of (Err NoMemory) told e = tt

-- a file that is given passed the checks, and is small
passed_all : {A : Type 0} (p x : Result (Unit {0}) Fault) (y : Result (Unit {0}) CallFault) (small : Bool) (e f : A) → (refused p >>= λ a. refused x >>= λ b. y >>= λ c. refused (unless small TooLarge) >>= λ d. Ok e) ≡ Ok f → (p ≡ Ok tt) × ((small ≡ true) × (f ≡ e))
unfolding unless
passed_all (Ok t) (Ok u) (Ok v) true e f is = (refl, (refl, cc))
passed_all (Ok t) (Ok u) (Ok v) false e f is = absurd cc
passed_all (Ok t) (Ok u) (Err v) small e f is = absurd cc
passed_all (Ok t) (Err u) y small e f is = absurd cc
passed_all (Err t) x y small e f is = absurd cc

pub given_file : (declines : ℕ → Bool) (nodes : List Node) (s : Dataset) (options : WriteOptions) (f : CdfFile) → file_in declines nodes s options ≡ Ok f
    → (check_outlines (dataset_in nodes s) options ≡ Ok tt) × ((is_small (encoded (dataset_in nodes s) options) ≡ true) × (f ≡ encoded (dataset_in nodes s) options))
unfolding file_in
given_file declines nodes s options f is =
    let set = dataset_in nodes s in
    passed_all (check_outlines set options) (all_of (check_cells options) (stored_held set)) (all_of (check_computed declines nodes set options) s.vars) (is_small (encoded set options)) (encoded set options) f is
