-- The filling of a variable's values makes up its room.
use Rattle.std.proofs.Common.{◌≡◌, ℕ, ◌+◌, ◌*◌, ◌-◌, ◌≤◌, true, false, cond, ◌&&◌, eqb, List, [], ◌∷◌, ◌++◌, length, Some, None, refl, sym, ap, ◌∙◌, inl, inr, arith}
use Rattle.std.proofs.lemmas.Bool.{and_parts, cases_Bool, eq-eqb, eqb-true, ne_eqb}
use Rattle.std.proofs.lemmas.List.{length-append, length-take-le}
use Rattle.std.specs.List.{find}
use Rattle.std.specs.Str.{bytes_eq}
use Rattle.std.specs.Prelude.{codes}
use Rattle.xr_types.specs.declared.attr.Attr.{Attr}
use Rattle.xr_types.specs.declared.attr.NcType.{NcType}
use Rattle.xr_types.specs.declared.attr.NcType.TheVariants.{Byte, Char, Short, Int, Float, Double, UByte, UShort, UInt, Int64, UInt64}
use Rattle.xr_files.specs.declared.file.CdfVar.{CdfVar}
use Rattle.xr_files.specs.declared.file.CdfFile.{CdfFile}
use Rattle.xr_types.specs.Points.{size}
use Rattle.xr_types.specs.Widths.{width}
use Rattle.xr_files.specs.Classic.{number_of, padding}
use Rattle.xr_files.specs.Files.{padded, shape_of}
use Rattle.xr_files.specs.Canonical.{default_fill, fill_of, filling, is_own_fill, is_record, record_vars, room, slab, with_filling}

-- three times the fill make up any padding behind whole values of the type
enough : NcType → List ℕ → Type 0
enough kind fill = (k : ℕ) → padding (k * width kind) ≤ length fill + (length fill + length fill)

wide : (kind : NcType) (fill : List ℕ) → length fill ≡ width kind → enough kind fill
unfolding enough
wide Byte fill e = λ k. omega arith
wide Char fill e = λ k. omega arith
wide Short fill e = λ k. omega arith
wide Int fill e = λ k. omega arith
wide Float fill e = λ k. omega arith
wide Double fill e = λ k. omega arith
wide UByte fill e = λ k. omega arith
wide UShort fill e = λ k. omega arith
wide UInt fill e = λ k. omega arith
wide Int64 fill e = λ k. omega arith
wide UInt64 fill e = λ k. omega arith

default_enough : (kind : NcType) → enough kind (default_fill kind)
unfolding enough
default_enough Byte = λ k. omega arith
default_enough Char = λ k. omega arith
default_enough Short = λ k. omega arith
default_enough Int = λ k. omega arith
default_enough Float = λ k. omega arith
default_enough Double = λ k. omega arith
default_enough UByte = λ k. omega arith
default_enough UShort = λ k. omega arith
default_enough UInt = λ k. omega arith
default_enough Int64 = λ k. omega arith
default_enough UInt64 = λ k. omega arith

found_enough : (kind : NcType) (attrs : List Attr) → enough kind (elim (find (is_own_fill kind) attrs) [ None ↦ default_fill kind | Some a ↦ a.raw ])
found_enough kind [] = default_enough kind
found_enough kind (a ∷ others) =
    elim (cases_Bool (is_own_fill kind a)) [
      | inl e ↦
          let parts = and_parts (bytes_eq a.name (codes "_FillValue")) (eqb (number_of a.kind) (number_of kind) && eqb (length a.raw) (width kind)) e in
          let own = wide kind a.raw (eqb-true _ _ (and_parts (eqb (number_of a.kind) (number_of kind)) (eqb (length a.raw) (width kind)) parts.1).1) in
          rw e own
      | inr e ↦ rw e (found_enough kind others)
    ]

pub filling_length : (v : CdfVar) (k : ℕ) → length (filling v (padding (k * width v.kind))) ≡ padding (k * width v.kind)
unfolding enough
filling_length v k =
    let fill = fill_of v in
    let some = found_enough v.kind v.attrs k in
    length-take-le (padding (k * width v.kind)) (fill ++ (fill ++ fill)) (omega (arith, some, length-append fill (fill ++ fill), length-append fill fill))

-- what stands behind the values of a variable: nothing, or padding
abbrev pub gap : CdfFile → CdfVar → ℕ
gap f v = cond (is_record f v && eqb (length (record_vars f)) 1) 0 (padding (slab f.dims v))

pub room_is : (f : CdfFile) (v : CdfVar) → room f v ≡ slab f.dims v + gap f v
room_is f v = elim (is_record f v && eqb (length (record_vars f)) 1) as (λ b. cond b (slab f.dims v) (padded (slab f.dims v)) ≡ slab f.dims v + cond b 0 (padding (slab f.dims v))) [ true ↦ omega arith | false ↦ refl ]

gap_length : (f : CdfFile) (v : CdfVar) → length (filling v (gap f v)) ≡ gap f v
gap_length f v = elim (is_record f v && eqb (length (record_vars f)) 1) as (λ b. length (filling v (cond b 0 (padding (slab f.dims v)))) ≡ cond b 0 (padding (slab f.dims v))) [ true ↦ refl | false ↦ filling_length v (size (shape_of f.dims 1 v.dims)) ]

pub filled : (f : CdfFile) (v : CdfVar) (raw : List ℕ) → length raw ≡ slab f.dims v → with_filling f v raw ≡ raw ++ filling v (gap f v)
filled f v raw e = let same : room f v - length raw ≡ gap f v = omega (arith, room_is f v, e) in ap (λ n. raw ++ filling v n) same

pub filled_length : (f : CdfFile) (v : CdfVar) (raw : List ℕ) → length raw ≡ slab f.dims v → length (with_filling f v raw) ≡ room f v
filled_length f v raw e = ap length (filled f v raw e) ∙ length-append raw (filling v (gap f v)) ∙ omega (arith, gap_length f v, room_is f v, e)

pub fixed_gap : (f : CdfFile) (v : CdfVar) → is_record f v ≡ false → gap f v ≡ padding (slab f.dims v)
fixed_gap f v e = ap (λ b. cond (b && eqb (length (record_vars f)) 1) 0 (padding (slab f.dims v))) e

pub many_gap : (f : CdfFile) (v : CdfVar) → (length (record_vars f) ≡ 1 → ⊥) → gap f v ≡ padding (slab f.dims v)
many_gap f v many =
    let e = ne_eqb (length (record_vars f)) 1 many in
    ap (λ b. cond (is_record f v && b) 0 (padding (slab f.dims v))) e ∙ elim (is_record f v) as (λ b. cond (b && false) 0 (padding (slab f.dims v)) ≡ padding (slab f.dims v)) [ true ↦ refl | false ↦ refl ]

pub lone_gap : (f : CdfFile) (v : CdfVar) → is_record f v ≡ true → length (record_vars f) ≡ 1 → gap f v ≡ 0
lone_gap f v e one = ap (λ b. cond (b && eqb (length (record_vars f)) 1) 0 (padding (slab f.dims v))) e ∙ ap (λ b. cond b 0 (padding (slab f.dims v))) (eq-eqb _ 1 one)

-- values with the padding behind them
pub padded_text : (f : CdfFile) (v : CdfVar) (raw : List ℕ) → length raw ≡ slab f.dims v → gap f v ≡ padding (slab f.dims v) → raw ++ filling v (padding (length raw)) ≡ with_filling f v raw
padded_text f v raw e g = ap (λ n. raw ++ filling v n) (ap padding e ∙ sym g) ∙ sym (filled f v raw e)
