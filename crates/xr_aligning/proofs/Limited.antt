-- The limits of a dataset of the program are those of the dataset that it stands for.
use Rattle.xr_aligning.proofs.Common.{Axis, Dataset, Err, List, Node, Ok, TooLarge, Variable, [], and_parts, ap, are_variables_within, are_within, arith, check_set, dataset_in, false, is_set_within, is_within, length, length-map, list_all, map, most_cells, most_variables, nat_le, nat_tests, refl, sizes_called, true, unless, variable_array, variable_in, ℕ, ◌&&◌, ◌+◌, ◌∙◌, ◌∷◌, ◌≡◌, ◌≤◌}
use Rattle.xr_defs.specs.Values as of

pub sizes_rank : (axes : List Axis) (dims : List (List ℕ)) → length (sizes_called axes dims) ≡ length dims
sizes_rank axes dims = length-map dims (λ d. (Rattle.xr_defs.specs.Selecting.axis_called axes d).size)

vars_same : (nodes : List Node) (axes : List Axis) (vs : List Variable) → list_all (λ (v : of.Variable). is_within (variable_array axes v).shape) (map (variable_in nodes) vs) ≡ are_variables_within axes vs
vars_same nodes axes [] = refl
vars_same nodes axes (v ∷ vs) = ap (λ b. is_within (sizes_called axes v.dims) && b) (vars_same nodes axes vs)

tested : (nodes : List Node) (s : Dataset) → (list_all (λ (x : Axis). nat_le x.size most_cells) s.axes && (are_within s.coords && (list_all (λ (v : of.Variable). is_within (variable_array s.axes v).shape) (map (variable_in nodes) s.vars) && nat_le (length s.coords + length (map (variable_in nodes) s.vars)) most_variables))) ≡ is_set_within s
tested nodes s = (λ i. list_all (λ (x : Axis). nat_le x.size most_cells) s.axes && (are_within s.coords && (vars_same nodes s.axes s.vars i && nat_le (length s.coords + length-map s.vars (variable_in nodes) i) most_variables)))

pub set_checked : (nodes : List Node) (s : Dataset) → is_set_within s ≡ true → check_set (dataset_in nodes s) ≡ Ok tt
unfolding check_set unless
set_checked nodes s e = ap (λ b. unless b TooLarge) (tested nodes s ∙ e)

pub set_refused : (nodes : List Node) (s : Dataset) → is_set_within s ≡ false → check_set (dataset_in nodes s) ≡ Err TooLarge
unfolding check_set unless
set_refused nodes s e = ap (λ b. unless b TooLarge) (tested nodes s ∙ e)

up_to : (m n : ℕ) → nat_le m n ≡ true → m ≤ n
up_to m n e = grind (arith, nat_tests)

pub set_few : (s : Dataset) → is_set_within s ≡ true → length s.coords + length s.vars ≤ most_variables
set_few s e =
    let one = and_parts (list_all (λ (x : Axis). nat_le x.size most_cells) s.axes) (are_within s.coords && (are_variables_within s.axes s.vars && nat_le (length s.coords + length s.vars) most_variables)) e in
    let two = and_parts (are_within s.coords) (are_variables_within s.axes s.vars && nat_le (length s.coords + length s.vars) most_variables) one.1 in
    let three = and_parts (are_variables_within s.axes s.vars) (nat_le (length s.coords + length s.vars) most_variables) two.1 in
    up_to (length s.coords + length s.vars) most_variables three.1
