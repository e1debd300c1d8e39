-- Arrays over some axes spread over more of them, by their names.
use Rattle.std.specs.Prelude.{◌≡◌, ℕ, suc, true, not, List, [], ◌∷◌, ◌++◌, map, filter, if◌then◌else◌}
use Rattle.std.specs.Str.{bytes_eq}
use Rattle.std.specs.List.{AllByRecursion}
use Rattle.xr_types.specs.declared.axis.Axis.{Axis}
use Rattle.xr_arrays.specs.Arrays.{Array, at, made}
use Rattle.xr_types.specs.Names.{among}
use Rattle.xr_defs.specs.Selecting.{axis_called}
use Rattle.xr_types.specs.Names.{axis_names, shape_over}
use Rattle.xr_operations.specs.Arithmetic.{point_along}
use Rattle.xr_formulas.specs.declared.chain.Step.{Step}
use Rattle.xr_formulas.specs.declared.chain.Step.TheVariants.{Widen, Reorder}

-- ---- the cell at a point is that at the positions along the axes that the array has

abbrev pub spread : List Axis → List Axis → Array → Array
spread axes own a = made a.kind (shape_over axes) (λ p. at a (point_along axes own p))

-- each of these axes is there, in its size
abbrev pub AreSizedIn : List Axis → List Axis → Type 0
AreSizedIn axes own = AllByRecursion (λ (x : Axis). (among (axis_names axes) x.name ≡ true) × ((axis_called axes x.name).size ≡ x.size)) own

-- ---- the steps: the other axes come in front, and then all in their order

abbrev pub new_axes : List Axis → List Axis → List Axis
new_axes own axes = filter (λ (x : Axis). not (among (axis_names own) x.name)) axes

abbrev pub widens : List Axis → List Step
widens [] = []
widens (x ∷ xs) = widens xs ++ Widen 0 x.size ∷ []

abbrev pub place_in : List (List ℕ) → List ℕ → ℕ
place_in [] name = 0
place_in (n ∷ ns) name = if bytes_eq n name then 0 else suc (place_in ns name)

abbrev pub order_in : List (List ℕ) → List Axis → List ℕ
order_in names axes = map (λ (x : Axis). place_in names x.name) axes

abbrev pub spreading : List Axis → List Axis → List Step
spreading axes own = widens (new_axes own axes) ++ Reorder (order_in (axis_names (new_axes own axes ++ own)) axes) ∷ []
