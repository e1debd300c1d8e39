-- Worked rows of the element operations, as NumPy gives them: int8 cells 127, -128, 5, and some of other kinds.
use Rattle.std.proofs.Common.{◌≡◌, pos, negsuc, refl, Some, None}
use Rattle.std.specs.Int.{int_wrap}
use Rattle.xr_types.specs.declared.kind.DType.TheVariants.{Bool, Int8}
use Rattle.xr_arrays.specs.Elements.{elem, choose}
use Rattle.xr_types.specs.declared.operation.OpKind.TheVariants.{Add, FloorDivide, Remainder, And, Or, Xor, Equal, Less, GreaterEqual, Negate, Invert, IsNull, NotNull, FillNa, Cast}

-- 127 + 1, -128 + 1, 5 + 1
adds : (elem Add Int8 (Some (pos 127)) (Some (pos 1)) ≡ Some (negsuc 127)) × (elem Add Int8 (Some (negsuc 127)) (Some (pos 1)) ≡ Some (negsuc 126)) × (elem Add Int8 (Some (pos 5)) (Some (pos 1)) ≡ Some (pos 6))
unfolding int_wrap
adds = (refl, refl, refl)

-- 127 // -1, -128 // -1, 5 // -1
divides : (elem FloorDivide Int8 (Some (pos 127)) (Some (negsuc 0)) ≡ Some (negsuc 126)) × (elem FloorDivide Int8 (Some (negsuc 127)) (Some (negsuc 0)) ≡ Some (negsuc 127)) × (elem FloorDivide Int8 (Some (pos 5)) (Some (negsuc 0)) ≡ Some (negsuc 4))
unfolding int_wrap
divides = (refl, refl, refl)

-- 5 // 0, 5 % 0, -7 // 2, 7 // -2
floors : (elem FloorDivide Int8 (Some (pos 5)) (Some (pos 0)) ≡ Some (pos 0)) × (elem Remainder Int8 (Some (pos 5)) (Some (pos 0)) ≡ Some (pos 0)) × (elem FloorDivide Int8 (Some (negsuc 6)) (Some (pos 2)) ≡ Some (negsuc 3)) × (elem FloorDivide Int8 (Some (pos 7)) (Some (negsuc 1)) ≡ Some (negsuc 3))
unfolding int_wrap
floors = (refl, refl, refl, refl)

-- 127 % -3, -128 % -3, 5 % -3, -5 % 3
remains : (elem Remainder Int8 (Some (pos 127)) (Some (negsuc 2)) ≡ Some (negsuc 1)) × (elem Remainder Int8 (Some (negsuc 127)) (Some (negsuc 2)) ≡ Some (negsuc 1)) × (elem Remainder Int8 (Some (pos 5)) (Some (negsuc 2)) ≡ Some (negsuc 0)) × (elem Remainder Int8 (Some (negsuc 4)) (Some (pos 3)) ≡ Some (pos 1))
remains = (refl, refl, refl, refl)

-- -1 & 12, -8 | 3, -1 ^ 5, ~5, True & False, ~True
bits : (elem And Int8 (Some (negsuc 0)) (Some (pos 12)) ≡ Some (pos 12)) × (elem Or Int8 (Some (negsuc 7)) (Some (pos 3)) ≡ Some (negsuc 4)) × (elem Xor Int8 (Some (negsuc 0)) (Some (pos 5)) ≡ Some (negsuc 5)) × (elem Invert Int8 (Some (pos 5)) None ≡ Some (negsuc 5)) × (elem And Bool (Some (pos 1)) (Some (pos 0)) ≡ Some (pos 0)) × (elem Invert Bool (Some (pos 1)) None ≡ Some (pos 0))
unfolding int_wrap
bits = (refl, refl, refl, refl, refl, refl)

-- 127 < 300, 5 >= 5, 5 == -5, and a missing operand
compares : (elem Less Int8 (Some (pos 127)) (Some (pos 300)) ≡ Some (pos 1)) × (elem GreaterEqual Int8 (Some (pos 5)) (Some (pos 5)) ≡ Some (pos 1)) × (elem Equal Int8 (Some (pos 5)) (Some (negsuc 4)) ≡ Some (pos 0)) × (elem Equal Int8 None (Some (pos 5)) ≡ None)
compares = (refl, refl, refl, refl)

-- -(-128), 300 as int8, 2 as bool, 0 as bool
casts : (elem Negate Int8 (Some (negsuc 127)) None ≡ Some (negsuc 127)) × (elem Cast Int8 (Some (pos 300)) None ≡ Some (pos 44)) × (elem Cast Bool (Some (pos 2)) None ≡ Some (pos 1)) × (elem Cast Bool (Some (pos 0)) None ≡ Some (pos 0)) × (elem Cast Int8 None None ≡ None)
unfolding int_wrap
casts = (refl, refl, refl, refl, refl)

holes : (elem IsNull Int8 None None ≡ Some (pos 1)) × (elem NotNull Int8 None None ≡ Some (pos 0)) × (elem FillNa Int8 None (Some (pos 7)) ≡ Some (pos 7)) × (elem FillNa Int8 (Some (pos 5)) (Some (pos 7)) ≡ Some (pos 5))
holes = (refl, refl, refl, refl)

chooses : (choose (Some (pos 1)) (Some (pos 5)) None ≡ Some (pos 5)) × (choose (Some (pos 0)) (Some (pos 5)) None ≡ None) × (choose None (Some (pos 5)) (Some (pos 6)) ≡ None)
chooses = (refl, refl, refl)
