-- Axes of which each is changed, but for its name and its size.
use Rattle.xr_building.proofs.Common.{Axis, Bool, List, None, Option, Some, [], among, ap, axis_called, axis_names, axis_or_none, axis_position, bytes_eq, bytes_eq_swap, called_cons, cond, false, find, get_or, if◌then◌else◌, is_dimension, is_some, length, name_called, no_axis, refl, shape_over, suc, sym, true, ℕ, ◌+◌, ◌||◌, ◌∙◌, ◌∷◌, ◌≡◌, option_map}

-- the first axis of a name, where there is one
abbrev named : List ℕ → List Axis → Option Axis
named name axes = find (λ (x : Axis). bytes_eq x.name name) axes

pub called_found : (axes : List Axis) (name : List ℕ) → axis_called axes name ≡ axis_or_none (find (λ (x : Axis). bytes_eq x.name name) axes)
called_found [] name = refl
called_found (x ∷ xs) name = called_cons x xs name ∙ by (bytes_eq x.name name) (called_found xs name)
  where
    by : (b : Bool) → axis_called xs name ≡ axis_or_none (named name xs) → cond b x (axis_called xs name) ≡ axis_or_none (cond b (Some x) (named name xs))
    by true rest = refl
    by false rest = rest

pub dimension_found : (axes : List Axis) (name : List ℕ) → is_dimension axes name ≡ is_some (find (λ (x : Axis). bytes_eq x.name name) axes)
dimension_found [] name = refl
dimension_found (x ∷ xs) name = by (bytes_eq x.name name) (axis_position name xs) (dimension_found xs name)
  where
    by : (b : Bool) (o : Option ℕ) → is_some o ≡ is_some (named name xs) → is_some (if b then Some 0 else option_map (λ n. n + 1) o) ≡ is_some (cond b (Some x) (named name xs))
    by true o rest = refl
    by false None rest = rest
    by false (Some k) rest = rest

pub not_called : (axes : List Axis) (name : List ℕ) → is_dimension axes name ≡ false → axis_called axes name ≡ no_axis
not_called axes name gone = by (axis_position name axes) gone
  where
    by : (o : Option ℕ) → is_some o ≡ false → elim o as (λ o. Axis) [ None ↦ no_axis | Some k ↦ get_or axes k no_axis ] ≡ no_axis
    by None e = refl
    by (Some k) e = absurd cc

-- as many sizes as axes
pub rank : (axes : List Axis) → length (shape_over axes) ≡ length axes
rank [] = refl
rank (x ∷ axes) = ap suc (rank axes)

-- a dimension is among the names
pub dimension_named : (axes : List Axis) (n : List ℕ) → is_dimension axes n ≡ among (axis_names axes) n
dimension_named [] n = refl
dimension_named (x ∷ axes) n = by (bytes_eq x.name n) (bytes_eq_swap n x.name) (dimension_named axes n)
  where
    some_on : (o : Option ℕ) → is_some (option_map (λ j. j + 1) o) ≡ is_some o
    some_on None = refl
    some_on (Some k) = refl

    by : (b : Bool) → bytes_eq n x.name ≡ b → is_some (axis_position n axes) ≡ among (axis_names axes) n → is_some (if b then Some 0 else option_map (λ j. j + 1) (axis_position n axes)) ≡ (bytes_eq n x.name || among (axis_names axes) n)
    by true same rest = sym (ap (λ b. b || among (axis_names axes) n) same)
    by false other rest = some_on (axis_position n axes) ∙ rest ∙ sym (ap (λ b. b || among (axis_names axes) n) other)

pub called_name : (axes : List Axis) (n : List ℕ) → is_dimension axes n ≡ true → (axis_called axes n).name ≡ n
called_name axes n is = name_called axes n (sym (dimension_named axes n) ∙ is)
