-- What is checked on the way.
use Rattle.std.proofs.Common.{◌≡◌, ◌∙◌, ◌+◌, ◌&&◌, ℕ, Bool, true, false, not, List, [], ◌∷◌, length, map, Option, is_some, Result, Ok, Err, refl, sym, ap, subst}
use Rattle.std.specs.Prelude.{nat_le}
use Rattle.std.specs.List.{list_all}
use Rattle.std.proofs.lemmas.List.{length-map}
use Rattle.xr_types.specs.Results.{◌>>=◌, unless, all_of}
use Rattle.xr_types.specs.declared.attr.Attr.{Attr}
use Rattle.xr_types.specs.declared.axis.Axis.{Axis}
use Rattle.xr_types.specs.declared.fault.Fault.{Fault}
use Rattle.xr_types.specs.declared.fault.Fault.TheVariants.{TooLarge}
use Rattle.xr_arrays.specs.declared.node.Node.{Node}
use Rattle.xr_aligning.specs.Limits.{are_variables_within, is_set_within, sizes_called}
use Rattle.xr_defs.specs.Limits.{most_cells, most_variables}
use Rattle.xr_defs.specs.Selecting.{are_within, check_set, is_within, variable_array}
use Rattle.xr_defs.specs.Values as of
use Rattle.xr_values.specs.Stands.{dataset_in, variable_in}
use Rattle.xr_values.specs.declared.dataset.Dataset.{Dataset}
use Rattle.xr_values.specs.declared.variable.Variable.{Variable}

vars_same : (nodes : List Node) (axes : List Axis) (vs : List Variable) → list_all (λ (v : of.Variable). is_within (variable_array axes v).shape) (map (variable_in nodes) vs) ≡ are_variables_within axes vs
vars_same nodes axes [] = refl
vars_same nodes axes (v ∷ vs) = ap (λ b. is_within (sizes_called axes v.dims) && b) (vars_same nodes axes vs)

tested : (nodes : List Node) (s : Dataset) → (list_all (λ (x : Axis). nat_le x.size most_cells) s.axes && (are_within s.coords && (list_all (λ (v : of.Variable). is_within (variable_array s.axes v).shape) (map (variable_in nodes) s.vars) && nat_le (length s.coords + length (map (variable_in nodes) s.vars)) most_variables))) ≡ is_set_within s
tested nodes s = (λ i. list_all (λ (x : Axis). nat_le x.size most_cells) s.axes && (are_within s.coords && (vars_same nodes s.axes s.vars i && nat_le (length s.coords + length-map s.vars (variable_in nodes) i) most_variables)))

pub set_checked : (nodes : List Node) (s : Dataset) → is_set_within s ≡ true → check_set (dataset_in nodes s) ≡ Ok tt
unfolding check_set unless
set_checked nodes s e = ap (λ b. unless b TooLarge) (tested nodes s ∙ e)

pub set_refused : (nodes : List Node) (s : Dataset) → is_set_within s ≡ false → check_set (dataset_in nodes s) ≡ Err TooLarge
unfolding check_set unless
set_refused nodes s e = ap (λ b. unless b TooLarge) (tested nodes s ∙ e)
