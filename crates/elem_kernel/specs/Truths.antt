-- The truth value of a comparison at a point.
use Rattle.std.specs.Prelude.{◌≡◌, ℕ, ℤ, Option, Some, option_map}
use Rattle.xr_types.specs.declared.kind.DType.{DType}
use Rattle.xr_arrays.specs.Elements.{elem}
use Rattle.xr_types.specs.declared.operation.OpKind.{OpKind}
use Rattle.strided_block.specs.Typed.{truth}
use Rattle.elem_kernel.specs.Pairs.{Pairs}

-- the number r is the truth value of the operation on the numbers a and b
abbrev pub HoldsTruth : OpKind → DType → Option ℤ → Option ℤ → Option ℤ → Type 0
HoldsTruth op t a b r = (byte : Option ℕ) × (r ≡ option_map truth byte) × Pairs (λ m n z. Some (truth z) ≡ elem op t (Some m) (Some n)) a b byte
