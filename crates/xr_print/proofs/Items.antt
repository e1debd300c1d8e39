-- The values of an attribute.
use Rattle.std.proofs.Common.{◌≡◌, ℕ, List, [], ◌∷◌, refl}
use Rattle.std.proofs.lemmas.List.{append-nil}
use Rattle.xr_types.specs.declared.attr.Attr.{Attr}
use Rattle.xr_types.specs.declared.attr.NcType.{NcType}
use Rattle.xr_types.specs.declared.attr.NcType.TheVariants.{Byte, Char, Short, Int, Float, Double, UByte, UShort, UInt, Int64, UInt64}
use Rattle.xr_defs.specs.Text.{after_blanks}
use Rattle.xr_defs.specs.Printing.{attr_items}
use Rattle.xr_print.specs.Pieces.{items_of}

pub one_item : (t : List ℕ) → after_blanks (t ∷ []) ≡ 32 ∷ t
one_item t = append-nil (32 ∷ t)

items_are : (name : List ℕ) (kind : NcType) (raw : List ℕ) → items_of kind raw ≡ attr_items (record { name = name; kind = kind; raw = raw })
items_are name Byte raw = refl
items_are name Char raw = refl
items_are name Short raw = refl
items_are name Int raw = refl
items_are name Float raw = refl
items_are name Double raw = refl
items_are name UByte raw = refl
items_are name UShort raw = refl
items_are name UInt raw = refl
items_are name Int64 raw = refl
items_are name UInt64 raw = refl

pub items_of_attr : (a : Attr) → items_of a.kind a.raw ≡ attr_items a
items_of_attr a = items_are a.name a.kind a.raw
