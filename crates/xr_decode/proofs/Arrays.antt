-- The array of a variable: its kind, its shape and its cells.
use Rattle.std.proofs.Common.{◌≡◌, ◌*◌, ℕ, ℤ, Bool, true, false, cond, ◌&&◌, List, length, map, Option, option_map, refl, sym, ap, ◌∙◌}
use Rattle.xr_types.specs.declared.attr.NcType.{NcType}
use Rattle.xr_types.specs.declared.attr.NcType.TheVariants.{Byte, Char, Short, Int, Float, Double, UByte, UShort, UInt, Int64, UInt64}
use Rattle.xr_types.specs.declared.kind.DType.{DType}
use Rattle.xr_types.specs.declared.kind.DType.TheVariants as kinds
use Rattle.xr_files.specs.declared.file.CdfVar.{CdfVar}
use Rattle.xr_files.specs.declared.file.CdfFile.{CdfFile}
use Rattle.xr_types.specs.Points.{size}
use Rattle.xr_arrays.specs.Arrays.{Array, hidden}
use Rattle.xr_types.specs.Widths.{width}
use Rattle.xr_arrays.specs.Stored.{unless_fill, stored_array, IsStored}
use Rattle.xr_defs.specs.Decoding.{var_shape, variable_as_stored, as_truths, is_byte, is_bool, truth}
use Rattle.xr_arrays.specs.Numbers.{is_whole, cells_kind, numbers_of}
use Rattle.stored_cells.specs.Masks.{Hides}
use Rattle.stored_cells.proofs.Lengths.{numbers-length}
use Rattle.xr_decode.specs.Readable.{IsReadableVar}
use Rattle.xr_decode.specs.Cells.{fills_used, array_in}
use Rattle.xr_decode.proofs.TruthCells.{hidden_truths}

-- ---- truth values are bytes

byte_by : (kind : NcType) (b : Bool) → (is_byte kind && b) ≡ true → (is_whole kind ≡ true) × (cells_kind kind ≡ kinds.Int8)
byte_by Byte b e = (refl, refl)
byte_by Char b e = absurd cc
byte_by Short b e = absurd cc
byte_by Int b e = absurd cc
byte_by Float b e = absurd cc
byte_by Double b e = absurd cc
byte_by UByte b e = absurd cc
byte_by UShort b e = absurd cc
byte_by UInt b e = absurd cc
byte_by Int64 b e = absurd cc
byte_by UInt64 b e = absurd cc

pub truths_are_bytes : (v : CdfVar) → is_bool v ≡ true → (is_whole v.kind ≡ true) × (cells_kind v.kind ≡ kinds.Int8)
truths_are_bytes v e = byte_by v.kind _ e

-- ---- as many numbers as cells

pub numbers_fill : (f : CdfFile) (v : CdfVar) (ns : List ℤ) (shape : List ℕ) → IsReadableVar f v → is_whole v.kind ≡ true → ns ≡ numbers_of v.kind v.raw → shape ≡ var_shape f v → length ns ≡ size shape
numbers_fill f v ns shape r e are is_shape = ap length are ∙ numbers-length v.kind v.raw (size (var_shape f v)) e (r.whole e) ∙ ap size (sym is_shape)

-- ---- the array

-- a variable as an array, given whether it holds truth values
by_truth : CdfFile → Bool → CdfVar → Bool → Array
by_truth f m v b =
    let x = cond b (as_truths (variable_as_stored f m v)) (variable_as_stored f m v) in
    record { kind = x.kind; shape = var_shape f v; cells = x.cells }

made : DType → List ℕ → List (Option ℤ) → Array
made kind shape cs = record { kind = kind; shape = shape; cells = cs }

pub truths_array : (f : CdfFile) (m : Bool) (v : CdfVar) (kind : DType) (shape : List ℕ) (ns truths fills : List ℤ) (mask : Option (List ℕ))
    → is_bool v ≡ true → kind ≡ kinds.Bool → shape ≡ var_shape f v → ns ≡ numbers_of v.kind v.raw → truths ≡ map truth ns → Hides fills ns mask → fills ≡ fills_used m v
    → record { kind = kind; shape = shape; cells = hidden truths mask } ≡ array_in f m v
unfolding made by_truth
truths_array f m v kind shape ns truths fills mask is is_kind is_shape numbers are h used =
    let stored : hidden ns mask ≡ (variable_as_stored f m v).cells = h.cells ∙ ap (λ fs. map (unless_fill fs) ns) used ∙ ap (map (unless_fill (fills_used m v))) numbers in
    let cells : hidden truths mask ≡ map (λ c. option_map truth c) (variable_as_stored f m v).cells = ap (λ ts. hidden ts mask) are ∙ hidden_truths ns mask ∙ ap (map (λ c. option_map truth c)) stored in
    ap (λ k. made k shape (hidden truths mask)) is_kind ∙ ap (λ s. made kinds.Bool s (hidden truths mask)) is_shape ∙ ap (made kinds.Bool (var_shape f v)) cells ∙ sym (ap (by_truth f m v) is)

pub stored_fits : (f : CdfFile) (v : CdfVar) (shape : List ℕ) (kind : NcType) (raw : List ℕ) → IsReadableVar f v → is_whole v.kind ≡ true → shape ≡ var_shape f v → kind ≡ v.kind → raw ≡ v.raw → IsStored shape kind raw
stored_fits f v shape kind raw r e is_shape is_kind are =
    let long : length v.raw ≡ size (var_shape f v) * width v.kind = r.whole e in
    record { whole = ap is_whole is_kind ∙ e; long = cc }

pub numbers_array : (f : CdfFile) (m : Bool) (v : CdfVar) (shape : List ℕ) (kind : NcType) (raw : List ℕ) (fills : List ℤ)
    → is_bool v ≡ false → shape ≡ var_shape f v → kind ≡ v.kind → raw ≡ v.raw → fills ≡ fills_used m v → stored_array shape kind raw fills ≡ array_in f m v
unfolding by_truth
numbers_array f m v shape kind raw fills is is_shape is_kind are used =
    ap (λ s. stored_array s kind raw fills) is_shape ∙ ap (λ k. stored_array (var_shape f v) k raw fills) is_kind ∙ ap (λ r. stored_array (var_shape f v) v.kind r fills) are
    ∙ ap (stored_array (var_shape f v) v.kind v.raw) used ∙ sym (ap (by_truth f m v) is)
