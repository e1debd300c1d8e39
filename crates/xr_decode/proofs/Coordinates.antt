-- Coordinates of variables.
use Rattle.std.proofs.Common.{◌≡◌, ◌<◌, ℕ, Bool, true, false, cond, List, [], ◌∷◌, length, map, Option, Some, None, refl, sym, ap, ◌∙◌}
use Rattle.std.specs.Prelude.{All}
use Rattle.std.proofs.lemmas.List.{get_or-map}
use Rattle.std.proofs.lemmas.List.Elements.{All-head, All-tail}
use Rattle.xr_types.specs.declared.attr.Attr.{Attr}
use Rattle.xr_types.specs.declared.axis.Axis.{Axis}
use Rattle.xr_files.specs.declared.file.CdfVar.{CdfVar}
use Rattle.xr_files.specs.declared.file.CdfFile.{CdfFile}
use Rattle.xr_defs.specs.declared.value.Content.TheVariants as contents
use Rattle.xr_defs.specs.declared.value.Coord.{Coord}
use Rattle.xr_arrays.specs.Arrays.{Array}
use Rattle.xr_files.specs.Classic.{dim_at, no_dim}
use Rattle.xr_types.specs.Names.{shape_over}
use Rattle.xr_defs.specs.Values.{chosen, no_axis}
use Rattle.xr_defs.specs.Decoding.{axis_in, var_axes, var_shape, variable_of, variable_as_stored, as_truths, is_bool, is_masked, unlisted, scalar_text, coordinate_over, coordinate_of}
use Rattle.xr_decode.specs.Cells.{array_in, attrs_as}

-- the axes of a variable, from those of its file
pub chosen_axes : (f : CdfFile) (ids : List ℕ) → All (λ i. i < length f.dims) ids → chosen no_axis (map (axis_in f) f.dims) ids ≡ map (λ i. axis_in f (dim_at f.dims i)) ids
chosen_axes f [] below = refl
chosen_axes f (i ∷ ids) below =
    ap (λ x. x ∷ chosen no_axis (map (axis_in f) f.dims) ids) (get_or-map (axis_in f) f.dims i no_dim no_axis (All-head (λ i. i < length f.dims) i ids below))
    ∙ ap (λ xs. axis_in f (dim_at f.dims i) ∷ xs) (chosen_axes f ids (All-tail (λ i. i < length f.dims) i ids below))

sizes_at : (f : CdfFile) (ids : List ℕ) → shape_over (map (λ i. axis_in f (dim_at f.dims i)) ids) ≡ map (λ i. (axis_in f (dim_at f.dims i)).size) ids
sizes_at f [] = refl
sizes_at f (i ∷ ids) = ap (λ ns. (axis_in f (dim_at f.dims i)).size ∷ ns) (sizes_at f ids)

pub axes_shape : (f : CdfFile) (v : CdfVar) → shape_over (var_axes f v) ≡ var_shape f v
axes_shape f v = sizes_at f v.dims

pub coordinate_same : (f : CdfFile) (m : Bool) (v : CdfVar) (name : List ℕ) (axes : List Axis) (attrs : List Attr) (array : Array) (masked : Bool)
    → name ≡ v.name → axes ≡ var_axes f v → attrs ≡ attrs_as (is_bool v) v → array ≡ array_in f m v → masked ≡ is_masked m v
    → record { name = name; axes = axes; attrs = attrs; content = contents.Cells array masked } ≡ coordinate_over (var_axes f v) (variable_of f m v)
coordinate_same f m v name axes attrs array masked is_name are_axes are_attrs is_array is_masked = by (is_bool v) are_attrs is_array
  where
    shape : shape_over (var_axes f v) ≡ var_shape f v
    shape = axes_shape f v

    by : (b : Bool) → let x = cond b (as_truths (variable_as_stored f m v)) (variable_as_stored f m v) in attrs ≡ attrs_as b v → array ≡ record { kind = x.kind; shape = var_shape f v; cells = x.cells }
        → record { name = name; axes = axes; attrs = attrs; content = contents.Cells array masked } ≡ coordinate_over (var_axes f v) x
    by true a is = let s = shape in cc
    by false a is = let s = shape in cc

abbrev pub text_coordinate : CdfVar → List ℕ → Coord
text_coordinate v t = record { name = v.name; axes = []; attrs = unlisted v.attrs; content = contents.Text t }

text_is : (v : CdfVar) (name : List ℕ) (axes : List Axis) (attrs : List Attr) (text : List ℕ) → name ≡ v.name → axes ≡ [] → attrs ≡ unlisted v.attrs
    → record { name = name; axes = axes; attrs = attrs; content = contents.Text text } ≡ text_coordinate v text
text_is v name axes attrs text n x a = cc

pub text_same : (f : CdfFile) (m : Bool) (v : CdfVar) (name : List ℕ) (axes : List Axis) (attrs : List Attr) (text : List ℕ) → scalar_text f v ≡ Some text
    → name ≡ v.name → axes ≡ [] → attrs ≡ unlisted v.attrs → record { name = name; axes = axes; attrs = attrs; content = contents.Text text } ≡ coordinate_of f m v
text_same f m v name axes attrs text said is_name no_axes are_attrs =
    text_is v name axes attrs text is_name no_axes are_attrs
    ∙ sym (ap (λ (o : Option (List ℕ)). elim o [ Some t ↦ text_coordinate v t | None ↦ coordinate_over (var_axes f v) (variable_of f m v) ]) said)

pub cells_same : (f : CdfFile) (m : Bool) (v : CdfVar) (c : Coord) → scalar_text f v ≡ None → c ≡ coordinate_over (var_axes f v) (variable_of f m v) → c ≡ coordinate_of f m v
cells_same f m v c none is =
    is ∙ sym (ap (λ (o : Option (List ℕ)). elim o [ Some t ↦ text_coordinate v t | None ↦ coordinate_over (var_axes f v) (variable_of f m v) ]) none)
