use Rattle.std.proofs.Common.{arith}
use mir.Val.{SFits}
use mir.Syntax.{w64, w128}
use Rattle.elem_kernel.proofs.Rounding.{product_in, product_is, rest_here, rest_and_divisor}
use Rattle.elem_kernel.proofs.division.rest_long.Goals as goal

pub overflow_mul-left : goal.overflow_mul-left
overflow_mul-left c =
    let x = c.args.x in let y = c.args.y in let l = c.from-left.result in let d = c.from-divisor.result in
    let fx : SFits w64 x = c.ranges.x in let fy : SFits w64 y = c.ranges.y in
    let fl : SFits w128 l = record { sfits = c.from-left.type_inv } in let fd : SFits w128 d = record { sfits = c.from-divisor.type_inv } in
    product_in w64 w128 x y l d fx fy c.from-left.ensures c.from-divisor.ensures fl fd (omega arith)

pub returns-then-left-divisor-lt0 : goal.returns-then-left-divisor-lt0
returns-then-left-divisor-lt0 c =
    let x = c.args.x in let y = c.args.y in let l = c.from-left.result in let d = c.from-divisor.result in
    let fx : SFits w64 x = c.ranges.x in let fy : SFits w64 y = c.ranges.y in
    let fl : SFits w128 l = record { sfits = c.from-left.type_inv } in let fd : SFits w128 d = record { sfits = c.from-divisor.type_inv } in
    rest_and_divisor w64 w128 x y l d _ fx fy c.requires.some c.from-left.ensures c.from-divisor.ensures fl fd (product_is w64 w128 x y l d fx fy c.from-left.ensures c.from-divisor.ensures fl fd (omega arith)) c.if-left-divisor-lt0.true (omega arith)

pub returns-else-left-divisor-lt0 : goal.returns-else-left-divisor-lt0
returns-else-left-divisor-lt0 c =
    let x = c.args.x in let y = c.args.y in let l = c.from-left.result in let d = c.from-divisor.result in
    let fx : SFits w64 x = c.ranges.x in let fy : SFits w64 y = c.ranges.y in
    let fl : SFits w128 l = record { sfits = c.from-left.type_inv } in let fd : SFits w128 d = record { sfits = c.from-divisor.type_inv } in
    rest_here w64 w128 x y l _ fx fy c.requires.some c.from-left.ensures fl (product_is w64 w128 x y l d fx fy c.from-left.ensures c.from-divisor.ensures fl fd (omega arith)) c.if-left-divisor-lt0.false
