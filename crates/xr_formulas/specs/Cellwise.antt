-- An operation on each cell of an array.
use Rattle.std.specs.Prelude.{◌≡◌, Bool, true, false, List}
use Rattle.xr_types.specs.declared.attr.Attr.{Attr}
use Rattle.xr_types.specs.declared.kind.DType.{DType}
use Rattle.xr_types.specs.declared.operation.OpKind.{OpKind}
use Rattle.xr_types.specs.declared.operation.OpKind.TheVariants as ops
use Rattle.xr_arrays.specs.Elements.{takes_one, unary_of, Gives, Suits}
use Rattle.xr_defs.specs.Values.{DataArray, array_of}

-- whether missing cells may stand after it
abbrev pub masked_after : OpKind → Bool → Bool
masked_after ops.IsNull masked = false
masked_after ops.NotNull masked = false
masked_after op masked = masked

-- an operation of one operand that gives one kind of another
pub record Changes (op : OpKind) (kind t : DType) : Type 0 where
  pub one : takes_one op ≡ true
  pub gives : Gives op kind t
  pub suits : Suits op t

-- an array with it on each of its cells
abbrev pub changed : OpKind → DType → List Attr → DataArray → DataArray
changed op kind attrs a = record a { kind = kind; masked = masked_after op a.masked; attrs = attrs; cells = (unary_of op kind (array_of a)).cells }
