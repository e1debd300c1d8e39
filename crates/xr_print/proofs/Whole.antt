-- The whole texts are their parts, one after the other.
use Rattle.std.proofs.Common.{◌≡◌, ◌/◌, ℕ, true, List, [], ◌∷◌, ◌++◌, length, map, refl, ap, ◌∙◌, append_assoc}
use Rattle.std.specs.Prelude.{codes, flat_map}
use Rattle.xr_types.specs.Kinds.{kind_name}
use Rattle.xr_types.specs.declared.attr.Attr.{Attr}
use Rattle.xr_types.specs.declared.axis.Axis.{Axis}
use Rattle.xr_types.specs.declared.kind.DType.{DType}
use Rattle.xr_arrays.specs.Arrays.{Array}
use Rattle.xr_arrays.specs.declared.node.Node.{Node}
use Rattle.xr_defs.specs.declared.value.Coord.{Coord}
use Rattle.xr_defs.specs.Text.{array_name, axis_text, masked_text, head_line, rows_text, row_size}
use Rattle.xr_defs.specs.Values as of
use Rattle.xr_types.specs.Names.{shape_over}
use Rattle.xr_defs.specs.Printing.{array_text, set_text, coords_text, attr_line, dim_line, var_line, skipped_line}
use Rattle.xr_values.specs.declared.data_array.DataArray.{DataArray}
use Rattle.xr_values.specs.declared.dataset.Dataset.{Dataset}
use Rattle.xr_values.specs.declared.variable.Variable.{Variable}
use Rattle.xr_values.specs.Stands.{dataset_in, variable_in}
use Rattle.xr_print.specs.Pieces.{listed}
use Rattle.xr_print.specs.Printed.{with_cells, head_text, variable_line, whole_set}
use Rattle.xr_print.proofs.Listed.{listed_is}

-- ---- an array

head_is : (a : of.DataArray) → head_text a.name a.axes a.kind a.masked ≡ head_line a
head_is a =
    let rest : List ℕ = kind_name a.kind ++ (masked_text a.masked ++ 10 ∷ []) in
    ap (λ t. codes "DataArray " ++ (array_name a.name ++ (codes " (" ++ t)))
    (append_assoc (listed true (map axis_text a.axes)) (codes ") ") rest ∙ ap (λ t. t ++ (codes ") " ++ rest)) (listed_is (map axis_text a.axes)))

pub text_pushed : (a : DataArray) (v : Array) (axes : List Axis) (coords : List Coord) (attrs : List Attr) (n : ℕ) (start one two three four : List ℕ) → axes ≡ a.axes → coords ≡ a.coords → attrs ≡ a.attrs → v.kind ≡ a.kind → n ≡ row_size (shape_over axes)
    → start ≡ [] → one ≡ start ++ head_text a.name axes a.kind a.masked → two ≡ one ++ rows_text v.kind (length v.cells / n) n v.cells → three ≡ two ++ coords_text axes coords → four ≡ three ++ flat_map attr_line attrs → four ≡ array_text (with_cells a v.cells)
text_pushed a v axes coords attrs n start one two three four is_axes is_coords is_attrs is_kind is_n is_start is_one is_two is_three is_four =
    let head : List ℕ = head_text a.name axes a.kind a.masked in
    let rows : List ℕ = rows_text v.kind (length v.cells / n) n v.cells in
    let points : List ℕ = coords_text axes coords in
    let ends : List ℕ = flat_map attr_line attrs in
    let whole : List Axis → List Coord → List Attr → DType → ℕ → List ℕ =
    λ x c t k m. head_text a.name x a.kind a.masked ++ (rows_text k (length v.cells / m) m v.cells ++ (coords_text x c ++ flat_map attr_line t)) in
    is_four ∙ ap (λ t. t ++ ends) (is_three ∙ ap (λ t. t ++ points) (is_two ∙ ap (λ t. t ++ rows) (is_one ∙ ap (λ t. t ++ head) is_start)))
    ∙ append_assoc (head ++ rows) points ends ∙ append_assoc head rows (points ++ ends)
    ∙ ap (whole axes coords attrs v.kind) is_n ∙ ap (λ x. whole x coords attrs v.kind (row_size (shape_over x))) is_axes
    ∙ ap (λ c. whole a.axes c attrs v.kind (row_size (shape_over a.axes))) is_coords ∙ ap (λ t. whole a.axes a.coords t v.kind (row_size (shape_over a.axes))) is_attrs
    ∙ ap (λ k. whole a.axes a.coords a.attrs k (row_size (shape_over a.axes))) is_kind
    ∙ ap (λ t. t ++ (rows_text a.kind (length v.cells / row_size (shape_over a.axes)) (row_size (shape_over a.axes)) v.cells ++ (coords_text a.axes a.coords ++ flat_map attr_line a.attrs))) (head_is (with_cells a v.cells))

-- ---- a dataset

variables_are : (nodes : List Node) (vs : List Variable) → flat_map variable_line vs ≡ flat_map var_line (map (variable_in nodes) vs)
variables_are nodes [] = refl
variables_are nodes (v ∷ vs) = ap (λ t. variable_line v ++ t) (variables_are nodes vs)

pub set_is : (nodes : List Node) (s : Dataset) → whole_set s ≡ set_text (dataset_in nodes s)
set_is nodes s =
    ap (λ t. codes "Dataset" ++ (10 ∷ (flat_map dim_line s.axes ++ (coords_text s.axes s.coords ++ (t ++ (flat_map skipped_line s.skipped ++ flat_map attr_line s.attrs)))))) (variables_are nodes s.vars)
