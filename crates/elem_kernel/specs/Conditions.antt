-- Which operations a call takes.
use Rattle.std.specs.Prelude.{⊤}
use Rattle.xr_types.specs.declared.operation.OpKind.{OpKind}
use Rattle.xr_types.specs.declared.operation.OpKind.TheVariants as ops

-- `+ - * // %`
abbrev pub IsArithmetic : OpKind → Type 0
IsArithmetic ops.Add = ⊤
IsArithmetic ops.Subtract = ⊤
IsArithmetic ops.Multiply = ⊤
IsArithmetic ops.FloorDivide = ⊤
IsArithmetic ops.Remainder = ⊤
IsArithmetic op = ⊥

-- `& | ^`
abbrev pub IsBitwise : OpKind → Type 0
IsBitwise ops.And = ⊤
IsBitwise ops.Or = ⊤
IsBitwise ops.Xor = ⊤
IsBitwise op = ⊥

-- `== != < <= > >=`
abbrev pub IsComparison : OpKind → Type 0
IsComparison ops.Equal = ⊤
IsComparison ops.NotEqual = ⊤
IsComparison ops.Less = ⊤
IsComparison ops.LessEqual = ⊤
IsComparison ops.Greater = ⊤
IsComparison ops.GreaterEqual = ⊤
IsComparison op = ⊥

-- operations that need another kind than that of truth values: `+ - * // %` and unary `-`
abbrev pub IsOnIntegers : OpKind → Type 0
IsOnIntegers ops.Negate = ⊤
IsOnIntegers op = IsArithmetic op

-- operations on two numbers
abbrev pub IsPlain : OpKind → Type 0
IsPlain ops.And = ⊤
IsPlain ops.Or = ⊤
IsPlain ops.Xor = ⊤
IsPlain ops.Add = ⊤
IsPlain ops.Subtract = ⊤
IsPlain ops.Multiply = ⊤
IsPlain ops.FloorDivide = ⊤
IsPlain ops.Remainder = ⊤
IsPlain op = IsComparison op

-- operations of two operands on cells of one kind that give a cell of that kind: `+ - * // % & | ^` and `fillna`
abbrev pub IsBinary : OpKind → Type 0
IsBinary ops.And = ⊤
IsBinary ops.Or = ⊤
IsBinary ops.Xor = ⊤
IsBinary ops.FillNa = ⊤
IsBinary op = IsArithmetic op

-- operations on two numbers that give a number of their kind: `+ - * // % & | ^`
abbrev pub IsNumeric : OpKind → Type 0
IsNumeric ops.And = ⊤
IsNumeric ops.Or = ⊤
IsNumeric ops.Xor = ⊤
IsNumeric op = IsArithmetic op

-- unary `-` and `~`
abbrev pub IsSign : OpKind → Type 0
IsSign ops.Negate = ⊤
IsSign ops.Invert = ⊤
IsSign op = ⊥

-- `isnull` and `notnull`
abbrev pub IsNullTest : OpKind → Type 0
IsNullTest ops.IsNull = ⊤
IsNullTest ops.NotNull = ⊤
IsNullTest op = ⊥

-- operations of one operand other than a cast
abbrev pub IsUnary : OpKind → Type 0
IsUnary ops.IsNull = ⊤
IsUnary ops.NotNull = ⊤
IsUnary op = IsSign op
