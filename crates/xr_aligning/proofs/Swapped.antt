-- Two kinds of whole numbers are promoted to the same kind in both orders.
use Rattle.xr_aligning.proofs.Common.{DType, Int16, Int32, Int64, Int8, UInt16, UInt32, UInt64, UInt8, is_integer_kind, promoted, refl, true, ◌≡◌}

-- what holds of each kind of whole numbers
each : (P : DType → Type 0) → P Int8 → P Int16 → P Int32 → P Int64 → P UInt8 → P UInt16 → P UInt32 → P UInt64 → (t : DType) → is_integer_kind t ≡ true → P t
each P a b c d e f g h Int8 is = a
each P a b c d e f g h Int16 is = b
each P a b c d e f g h Int32 is = c
each P a b c d e f g h Int64 is = d
each P a b c d e f g h UInt8 is = e
each P a b c d e f g h UInt16 is = f
each P a b c d e f g h UInt32 is = g
each P a b c d e f g h UInt64 is = h
each P a b c d e f g h t is = absurd cc

pub swapped : (t u : DType) → is_integer_kind t ≡ true → is_integer_kind u ≡ true → promoted t u ≡ promoted u t
swapped t u i j =
    each (λ t. promoted t u ≡ promoted u t)
    (each (λ u. promoted Int8 u ≡ promoted u Int8) refl refl refl refl refl refl refl refl u j)
    (each (λ u. promoted Int16 u ≡ promoted u Int16) refl refl refl refl refl refl refl refl u j)
    (each (λ u. promoted Int32 u ≡ promoted u Int32) refl refl refl refl refl refl refl refl u j)
    (each (λ u. promoted Int64 u ≡ promoted u Int64) refl refl refl refl refl refl refl refl u j)
    (each (λ u. promoted UInt8 u ≡ promoted u UInt8) refl refl refl refl refl refl refl refl u j)
    (each (λ u. promoted UInt16 u ≡ promoted u UInt16) refl refl refl refl refl refl refl refl u j)
    (each (λ u. promoted UInt32 u ≡ promoted u UInt32) refl refl refl refl refl refl refl refl u j)
    (each (λ u. promoted UInt64 u ≡ promoted u UInt64) refl refl refl refl refl refl refl refl u j) t i
