-- What is loaded: whole numbers over different dimensions, not too many of them, nor of cells and positions.
use Rattle.std.proofs.Common.{◌≡◌, ◌≤◌, ℕ, ℤ, Bool, true, false, cond, List, length, Option, not, nat_lt, refl, sym, ap, subst, arith}
use Rattle.std.specs.List.{list_any}
use Rattle.std.proofs.lemmas.List.{length-map}
use Rattle.std.proofs.lemmas.Bool.{or_parts, not-false, ltb-false}
use Rattle.xr_types.specs.declared.attr.Attr.{Attr}
use Rattle.xr_types.specs.declared.kind.DType.{DType}
use Rattle.xr_files.specs.declared.file.CdfVar.{CdfVar}
use Rattle.xr_files.specs.declared.file.CdfFile.{CdfFile}
use Rattle.xr_arrays.specs.declared.node.Node.{Node}
use Rattle.xr_arrays.specs.declared.node.Node.TheVariants.{Source}
use Rattle.xr_files.specs.Classic.{dim_at}
use Rattle.xr_files.specs.Files.{positions}
use Rattle.xr_types.specs.Points.{size}
use Rattle.xr_arrays.specs.Arrays.{Array, IsArray}
use Rattle.xr_arrays.specs.Added.{AddsAtMost}
use Rattle.xr_arrays.specs.Nodes.{IsNode, Pushes, node_value, value, most_axes, most_node_cells}
use Rattle.plan_core.proofs.Added.{adds_one}
use Rattle.plan_core.proofs.Fitting.{source_fits}
use Rattle.xr_defs.specs.Limits.{are_different, most_cells, most_dimensions}
use Rattle.xr_arrays.specs.Numbers.{is_whole}
use Rattle.xr_defs.specs.Decoding.{is_skipped, var_shape, var_dims, variable_of, variable_as_stored, as_truths, is_bool, is_masked}
use Rattle.xr_decode.specs.Cells.{array_in, attrs_as}
use Rattle.xr_decode.specs.Readable.{IsReadableVar}
use Rattle.xr_decode.specs.Stored.{AreBytes}
use Rattle.xr_decode.specs.declared.role.Role.TheVariants.{Coordinate}
use Rattle.xr_decode.specs.Roles.{IsRole}
use Rattle.xr_decode.proofs.Ranges.{is_array}

pub record IsLoaded (f : CdfFile) (v : CdfVar) : Type 0 where
  pub whole : is_whole v.kind ≡ true
  pub different : are_different v.dims ≡ true
  pub low_rank : length v.dims ≤ most_dimensions
  pub few : size (var_shape f v) ≤ most_cells
  pub short : list_any (nat_lt most_cells) (var_shape f v) ≡ false

pub loaded : (f : CdfFile) (v : CdfVar) → is_skipped f v ≡ false → IsLoaded f v
unfolding is_skipped
loaded f v e =
    let a = or_parts _ (list_any (nat_lt most_cells) (var_shape f v)) e in
    let b = or_parts _ (nat_lt most_cells (size (var_shape f v))) a.0 in
    let c = or_parts _ (nat_lt most_dimensions (length v.dims)) b.0 in
    let d = or_parts (not (is_whole v.kind)) (not (are_different v.dims)) c.0 in
    record {
      whole = not-false (is_whole v.kind) d.0;
      different = not-false (are_different v.dims) d.1;
      low_rank = ltb-false most_dimensions (length v.dims) c.1;
      few = ltb-false most_cells (size (var_shape f v)) b.1;
      short = a.1;
    }

-- ---- as a node

pub fits_plan : (done : List Array) (f : CdfFile) (m : Bool) (v : CdfVar) (a : Array) → a ≡ array_in f m v → IsReadableVar f v → is_skipped f v ≡ false → AreBytes v.raw → IsNode done (Source a)
fits_plan done f m v a is r e bytes =
    let l = loaded f v e in
    source_fits done a (subst IsArray (sym is) (is_array f m v r l.whole bytes)) (subst (λ (x : Array). size x.shape ≤ most_node_cells) (sym is) (let few = l.few in omega arith))
    (subst (λ (x : Array). length x.shape ≤ most_axes) (sym is) (let rank = length-map v.dims (λ i. positions f.numrecs (dim_at f.dims i)) in let low = l.low_rank in omega arith))

-- its cells are all that is added
pub cells_added : (old new : List Node) (node : Node) (place : ℕ) (shape : List ℕ) → Pushes old new node place → (value new place).shape ≡ shape → AddsAtMost old new (size shape)
cells_added old new node place shape pushes is = let cells : size (value new place).shape ≡ size shape = ap size is in adds_one old new node place (size shape) pushes (omega arith)

pub source_means : (done : List Array) (a : Array) → node_value done (Source a) ≡ a
unfolding node_value
source_means done a = refl

-- ---- as a variable

pub variable_same : (f : CdfFile) (m : Bool) (v : CdfVar) (name : List ℕ) (dims : List (List ℕ)) (kind : DType) (masked : Bool) (attrs : List Attr) (cells : List (Option ℤ))
    → name ≡ v.name → dims ≡ var_dims f v → kind ≡ (variable_of f m v).kind → masked ≡ is_masked m v → attrs ≡ attrs_as (is_bool v) v → cells ≡ (variable_of f m v).cells
    → record { name = name; dims = dims; kind = kind; masked = masked; attrs = attrs; cells = cells } ≡ variable_of f m v
variable_same f m v name dims kind masked attrs cells is_name are_dims is_kind is_masked are_attrs are_cells = by (is_bool v) is_kind are_attrs are_cells
  where
    by : (b : Bool) → let x = cond b (as_truths (variable_as_stored f m v)) (variable_as_stored f m v) in kind ≡ x.kind → attrs ≡ attrs_as b v → cells ≡ x.cells
        → record { name = name; dims = dims; kind = kind; masked = masked; attrs = attrs; cells = cells } ≡ x
    by true k a c = cc
    by false k a c = cc

pub is_whole_coordinate : (f : CdfFile) (v : CdfVar) → IsRole f v Coordinate → is_whole v.kind ≡ true
is_whole_coordinate f v r = (loaded f v r.0).whole
