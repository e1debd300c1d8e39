use Rattle.std.proofs.Common.{arith}
use mir.Val.{SFits}
use mir.Syntax.{w32, w64}
use Rattle.elem_kernel.proofs.Rounding.{product_in, product_is, rest_here, rest_and_divisor}
use Rattle.elem_kernel.proofs.division.rest_int.Goals as goal

pub overflow_mul-left : goal.overflow_mul-left
overflow_mul-left c =
    let x = c.args.x in let y = c.args.y in let l = c.from-left.result in let d = c.from-divisor.result in
    let fx : SFits w32 x = c.ranges.x in let fy : SFits w32 y = c.ranges.y in
    let fl : SFits w64 l = record { sfits = c.from-left.type_inv } in let fd : SFits w64 d = record { sfits = c.from-divisor.type_inv } in
    product_in w32 w64 x y l d fx fy c.from-left.ensures c.from-divisor.ensures fl fd (omega arith)

pub returns-then-left-divisor-lt0 : goal.returns-then-left-divisor-lt0
returns-then-left-divisor-lt0 c =
    let x = c.args.x in let y = c.args.y in let l = c.from-left.result in let d = c.from-divisor.result in
    let fx : SFits w32 x = c.ranges.x in let fy : SFits w32 y = c.ranges.y in
    let fl : SFits w64 l = record { sfits = c.from-left.type_inv } in let fd : SFits w64 d = record { sfits = c.from-divisor.type_inv } in
    rest_and_divisor w32 w64 x y l d _ fx fy c.requires.some c.from-left.ensures c.from-divisor.ensures fl fd (product_is w32 w64 x y l d fx fy c.from-left.ensures c.from-divisor.ensures fl fd (omega arith)) c.if-left-divisor-lt0.true (omega arith)

pub returns-else-left-divisor-lt0 : goal.returns-else-left-divisor-lt0
returns-else-left-divisor-lt0 c =
    let x = c.args.x in let y = c.args.y in let l = c.from-left.result in let d = c.from-divisor.result in
    let fx : SFits w32 x = c.ranges.x in let fy : SFits w32 y = c.ranges.y in
    let fl : SFits w64 l = record { sfits = c.from-left.type_inv } in let fd : SFits w64 d = record { sfits = c.from-divisor.type_inv } in
    rest_here w32 w64 x y l _ fx fy c.requires.some c.from-left.ensures fl (product_is w32 w64 x y l d fx fy c.from-left.ensures c.from-divisor.ensures fl fd (omega arith)) c.if-left-divisor-lt0.false
