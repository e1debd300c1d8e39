-- A dataset that is as it has to be is within the limits, but for the count of its coordinates and variables.
use Rattle.xr_parts.proofs.Common.{AllByRecursion, Axis, Bool, Coord, IsContent, IsCoordinate, IsDimension, IsThere, IsVariable, List, TooLarge, [], and_from, ap, are_few, arith, axis_called, axis_names, check_set, is_within, le-leb, length, list_all, map, most_cells, most_dimensions, nat_le, refl, shape_over, size, subst, sym, true, unless, variable_array, ℕ, ◌&&◌, ◌∙◌, ◌∷◌, ◌≡◌, ◌≤◌}
use Rattle.xr_defs.specs.declared.value.Content.{Content}
use Rattle.xr_defs.specs.declared.value.Content.TheVariants as contents
use Rattle.xr_defs.specs.Values.{Dataset, Variable}
use Rattle.xr_parts.proofs.Words.{AreAmong, all_hold}
use Rattle.xr_parts.proofs.Axes.{called_holds, names_there, sizes_again, the_axes}

abbrev are_short : List ℕ → Bool
are_short shape = list_all (λ n. nat_le n most_cells) shape

shape_within : (shape : List ℕ) → are_short shape ≡ true → (length shape ≤ most_dimensions) × (size shape ≤ most_cells) → is_within shape ≡ true
shape_within shape short small =
    and_from (nat_le (length shape) most_dimensions) (are_short shape && nat_le (size shape) most_cells) (le-leb (length shape) most_dimensions small.0) (and_from (are_short shape) (nat_le (size shape) most_cells) short (le-leb (size shape) most_cells small.1))

content_small : (shape : List ℕ) (content : Content) → IsContent shape content → (length shape ≤ most_dimensions) × (size shape ≤ most_cells)
content_small shape (contents.Cells a masked) is = (is.1.low_rank, is.1.few)
content_small shape (contents.Text text) is = subst (λ s. (length s ≤ most_dimensions) × (size s ≤ most_cells)) (sym is) (omega arith, omega arith)
content_small shape (contents.Time coding t) is = subst (λ s. (length s ≤ most_dimensions) × (size s ≤ most_cells)) (sym is.0) (omega arith, omega arith)

module _ (axes : List Axis) (each : AllByRecursion IsDimension axes) where
  named_short : (dims : List (List ℕ)) → AreAmong (axis_names axes) dims → are_short (map (λ d. (axis_called axes d).size) dims) ≡ true
  named_short [] over = refl
  named_short (d ∷ ds) over = and_from (nat_le (axis_called axes d).size most_cells) (are_short (map (λ d. (axis_called axes d).size) ds)) (le-leb _ most_cells (called_holds IsDimension d axes each over.0).0.few) (named_short ds over.1)

  sizes_short : (xs : List Axis) → AllByRecursion (IsThere axes) xs → are_short (shape_over xs) ≡ true
  sizes_short xs there = ap (λ ys. are_short (shape_over ys)) (sym (the_axes axes xs there)) ∙ ap are_short (sizes_again axes (axis_names xs)) ∙ named_short (axis_names xs) (names_there axes xs there)

  coord_small : (c : Coord) → IsCoordinate axes c → is_within (shape_over c.axes) ≡ true
  coord_small c is = shape_within (shape_over c.axes) (sizes_short c.axes is.over) (content_small (shape_over c.axes) c.content is.content)

  var_small : (v : Variable) → IsVariable axes v → is_within (variable_array axes v).shape ≡ true
  var_small v is = shape_within (map (λ d. (axis_called axes d).size) v.dims) (named_short v.dims is.over) (is.cells.low_rank, is.cells.few)

pub set_within : (s : Dataset) → AllByRecursion IsDimension s.axes → AllByRecursion (IsCoordinate s.axes) s.coords → AllByRecursion (IsVariable s.axes) s.vars → check_set s ≡ unless (are_few s) TooLarge
unfolding check_set
set_within s each coords vars =
    ap (λ t. unless t TooLarge)
    (all_three _ _ _ (are_few s) (all_hold IsDimension (λ (x : Axis). nat_le x.size most_cells) (λ x is. le-leb x.size most_cells is.few) s.axes each) (all_hold (IsCoordinate s.axes) (λ (c : Coord). is_within (shape_over c.axes)) (coord_small s.axes each) s.coords coords)
    (all_hold (IsVariable s.axes) (λ v. is_within (variable_array s.axes v).shape) (var_small s.axes each) s.vars vars))
  where
    all_three : (p q r b : Bool) → p ≡ true → q ≡ true → r ≡ true → (p && (q && (r && b))) ≡ b
    all_three p q r b ep eq er = rw (ep, eq, er) refl
