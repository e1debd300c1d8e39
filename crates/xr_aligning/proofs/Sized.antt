-- The limits of values over joined axes, by their sizes.
use Rattle.xr_aligning.proofs.Common.{AllByRecursion, Arrive, Axis, Bool, Bor, Comes, Coming, DataArray, Dataset, Err, IfOk, IsDatasetIn, IsLabelledIn, IsVarHere, List, Node, Ok, Option, Result, TooLarge, Variable, [], ap, are_few, are_vars_within, are_within, arith, array_in, check_size, come, dataset_in, false, fitted, fitted_by, fitted_coord, fitted_set, fitted_variable, is_within, joined_in, labelled_in, length, length-map, list_all, map, most_cells, most_variables, nat_le, nat_tests, own_axes, refl, shape_over, subst, sym, true, unless, variable_array, variable_in, ℕ, ℤ, ◌&&◌, ◌+◌, ◌∙◌, ◌∷◌, ◌≡◌, ◌≤◌}
use Rattle.xr_defs.specs.Meanings as of
use Rattle.xr_defs.specs.Values as sets
use Rattle.xr_aligning.specs.declared.labelled.Labelled.TheVariants as labelled
use Rattle.xr_aligning.proofs.SetsAfter.{sizes_new, vars_of}

pub array_size : (nodes : List Node) (joined : List Axis) (fill : Option ℤ) (a : DataArray)
    → check_size (of.Array (fitted joined fill (array_in nodes a))) ≡ unless (is_within (shape_over (map (joined_in joined) a.axes)) && are_within (map (fitted_coord joined fill) a.coords)) TooLarge
unfolding check_size Rattle.xr_defs.specs.Selecting.check_array fitted
array_size nodes joined fill a = refl

short_axes : (joined xs : List Axis) → list_all (λ (x : Axis). nat_le x.size most_cells) (map (joined_in joined) xs) ≡ list_all (λ n. nat_le n most_cells) (shape_over (map (joined_in joined) xs))
short_axes joined [] = refl
short_axes joined (x ∷ xs) = ap (λ b. nat_le (joined_in joined x).size most_cells && b) (short_axes joined xs)

and_true : (b : Bool) → (b && true) ≡ b
and_true true = refl
and_true false = refl

at_most : (m n : ℕ) → m ≤ n → nat_le m n ≡ true
at_most m n le = grind (arith, nat_tests)

module _ (nodes : List Node) (joined own : List Axis) (fill : Option ℤ) (all : Arrive joined own) where
  -- the limits of the variables, by the sizes of the joined axes that they name
  vars_within : (vs : List Variable) (inside : List Node) → AllByRecursion (IsVarHere inside own) vs
      → list_all (λ (v : sets.Variable). is_within (variable_array (map (joined_in joined) own) v).shape) (map (fitted_variable joined own fill) (map (variable_in nodes) vs)) ≡ are_vars_within joined own vs
  vars_within [] inside here = refl
  vars_within (v ∷ vs) inside here = (λ i. is_within (sym (sizes_new joined own all v.dims here.0.formed.over) i) && vars_within vs inside here.1 i)

pub set_size : (nodes inside : List Node) (joined : List Axis) (fill : Option ℤ) (s : Dataset) → Arrive joined s.axes → IsDatasetIn inside s
    → check_size (of.Set (fitted_set joined fill (dataset_in nodes s)))
    ≡ unless (list_all (λ (x : Axis). nat_le x.size most_cells) (map (joined_in joined) s.axes) && (are_within (map (fitted_coord joined fill) s.coords) && are_vars_within joined s.axes s.vars)) TooLarge
unfolding check_size Rattle.xr_defs.specs.Selecting.check_set fitted_set
set_size nodes inside joined fill s all is =
    let short = list_all (λ (x : Axis). nat_le x.size most_cells) (map (joined_in joined) s.axes) in
    let coords = are_within (map (fitted_coord joined fill) s.coords) in
    let counted : length (map (fitted_coord joined fill) s.coords) + length (map (fitted_variable joined s.axes fill) (map (variable_in nodes) s.vars)) ≡ length s.coords + length (map (variable_in inside) s.vars) =
    (λ i. length-map s.coords (fitted_coord joined fill) i + (length-map (map (variable_in nodes) s.vars) (fitted_variable joined s.axes fill) ∙ length-map s.vars (variable_in nodes) ∙ sym (length-map s.vars (variable_in inside))) i) in
    let few : nat_le (length (map (fitted_coord joined fill) s.coords) + length (map (fitted_variable joined s.axes fill) (map (variable_in nodes) s.vars))) most_variables ≡ true =
    ap (λ n. nat_le n most_variables) counted ∙ at_most (length s.coords + length (map (variable_in inside) s.vars)) most_variables is.formed.few in
    ap (λ b. unless (short && (coords && b)) TooLarge)
    ((λ i. vars_within nodes joined s.axes fill all s.vars inside (vars_of inside s is) i && few i) ∙ and_true (are_vars_within joined s.axes s.vars))

-- ---- the same, of a dataset whatever its names

joined_tests : (a b c d : Bool) → ((a && (b && c)) && d) ≡ (a && (b && (c && d)))
joined_tests true true c d = refl
joined_tests true false c d = refl
joined_tests false b c d = refl

pub set_over : (nodes : List Node) (joined : List Axis) (fill : Option ℤ) (s : Dataset) (own : List Axis) (within few : Bool) → own ≡ s.axes → Arrive joined own → AllByRecursion (IsVarHere nodes s.axes) s.vars
    → within ≡ (list_all (λ (x : Axis). nat_le x.size most_cells) (map (joined_in joined) s.axes) && (are_within (map (fitted_coord joined fill) s.coords) && are_vars_within joined s.axes s.vars))
    → few ≡ nat_le (length s.coords + length s.vars) most_variables
    → Rattle.xr_defs.specs.Selecting.check_set (fitted_set joined fill (dataset_in nodes s)) ≡ unless (within && few) TooLarge
unfolding Rattle.xr_defs.specs.Selecting.check_set fitted_set
set_over nodes joined fill s own within few own_is arrive here within_is few_is =
    let short = list_all (λ (x : Axis). nat_le x.size most_cells) (map (joined_in joined) s.axes) in
    let coords = are_within (map (fitted_coord joined fill) s.coords) in
    let all : Arrive joined s.axes = subst (Arrive joined) own_is arrive in
    let counted : length (map (fitted_coord joined fill) s.coords) + length (map (fitted_variable joined s.axes fill) (map (variable_in nodes) s.vars)) ≡ length s.coords + length s.vars =
    (λ i. length-map s.coords (fitted_coord joined fill) i + (length-map (map (variable_in nodes) s.vars) (fitted_variable joined s.axes fill) ∙ length-map s.vars (variable_in nodes)) i) in
    ap (λ b. unless b TooLarge)
    ((λ i. short && (coords && (vars_within nodes joined s.axes fill all s.vars nodes here i && (ap (λ n. nat_le n most_variables) counted ∙ sym few_is) i)))
    ∙ sym (joined_tests short coords (are_vars_within joined s.axes s.vars) few) ∙ ap (λ b. b && few) (sym within_is))

-- ---- the same, of a value that comes to joined axes

pub array_limits : (nodes : List Node) (fill : Option ℤ) (m : Coming) (a : Bor DataArray) (js : List Axis) (b : Bool) → m.on ≡ labelled.Array a → js ≡ m.joined → b ≡ (is_within (shape_over (map (joined_in js) a.now.axes)) && are_within (map (fitted_coord js fill) a.now.coords))
    → check_size (come nodes fill m) ≡ unless b TooLarge
array_limits nodes fill m a js b is same told =
    ap (λ l. check_size (fitted_by m.joined fill (labelled_in nodes l))) is ∙ array_size nodes m.joined fill a.now
    ∙ ap (λ xs. unless (is_within (shape_over (map (joined_in xs) a.now.axes)) && are_within (map (fitted_coord xs fill) a.now.coords)) TooLarge) (sym same) ∙ ap (λ c. unless c TooLarge) (sym told)

pub set_limits : (nodes : List Node) (fill : Option ℤ) (m : Coming) (s : Bor Dataset) (js : List Axis) (b : Bool) → m.on ≡ labelled.Set s → js ≡ m.joined → Comes m
    → b ≡ (list_all (λ (x : Axis). nat_le x.size most_cells) (map (joined_in js) s.now.axes) && (are_within (map (fitted_coord js fill) s.now.coords) && are_vars_within js s.now.axes s.now.vars)) → check_size (come nodes fill m) ≡ unless b TooLarge
set_limits nodes fill m s js b is same comes told =
    ap (λ l. check_size (fitted_by m.joined fill (labelled_in nodes l))) is
    ∙ set_size nodes comes.nodes m.joined fill s.now (subst (λ l. Arrive m.joined (own_axes l)) is comes.arrive) (subst (IsLabelledIn comes.nodes) is comes.inside)
    ∙ ap (λ xs. unless (list_all (λ (x : Axis). nat_le x.size most_cells) (map (joined_in xs) s.now.axes) && (are_within (map (fitted_coord xs fill) s.now.coords) && are_vars_within xs s.now.axes s.now.vars)) TooLarge) (sym same) ∙ ap (λ c. unless c TooLarge) (sym told)

pub array_answered : {E : Type 0} (nodes : List Node) (fill : Option ℤ) (m : Coming) (a : Bor DataArray) (js : List Axis) (r : Result Bool E) → m.on ≡ labelled.Array a → js ≡ m.joined
    → IfOk r (λ b. b ≡ (is_within (shape_over (map (joined_in js) a.now.axes)) && are_within (map (fitted_coord js fill) a.now.coords))) → IfOk r (λ b. check_size (come nodes fill m) ≡ unless b TooLarge)
array_answered nodes fill m a js (Ok b) is same told = array_limits nodes fill m a js b is same told
array_answered nodes fill m a js (Err e) is same told = tt

pub set_answered : {E : Type 0} (nodes : List Node) (fill : Option ℤ) (m : Coming) (s : Bor Dataset) (js : List Axis) (r : Result Bool E) → m.on ≡ labelled.Set s → js ≡ m.joined → Comes m
    → IfOk r (λ b. b ≡ (list_all (λ (x : Axis). nat_le x.size most_cells) (map (joined_in js) s.now.axes) && (are_within (map (fitted_coord js fill) s.now.coords) && are_vars_within js s.now.axes s.now.vars))) → IfOk r (λ b. check_size (come nodes fill m) ≡ unless b TooLarge)
set_answered nodes fill m s js (Ok b) is same comes told = set_limits nodes fill m s js b is same comes told
set_answered nodes fill m s js (Err e) is same comes told = tt
