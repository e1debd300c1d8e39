-- The number of an operation at a point.
use Rattle.std.specs.Prelude.{◌≡◌, ℤ, Option, Some, None}
use Rattle.xr_types.specs.declared.kind.DType.{DType}
use Rattle.xr_arrays.specs.Elements.{elem}
use Rattle.xr_types.specs.declared.operation.OpKind.{OpKind}
use Rattle.elem_kernel.specs.Pairs.{Maps, Pairs}

-- the number r is the operation on the numbers a and b
abbrev pub HoldsNumber : OpKind → DType → Option ℤ → Option ℤ → Option ℤ → Type 0
HoldsNumber op t a b r = Pairs (λ m n z. Some z ≡ elem op t (Some m) (Some n)) a b r

-- the number r is the operation on the number a
abbrev pub HoldsOne : OpKind → DType → Option ℤ → Option ℤ → Type 0
HoldsOne op t a r = Maps (λ m z. Some z ≡ elem op t (Some m) None) a r
