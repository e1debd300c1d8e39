use Rattle.std.proofs.Common.{arith}
use mir.Val.{SFits}
use mir.Syntax.{w64, w128}
use Rattle.elem_kernel.proofs.Rounding.{product_in, product_is, floor_here, floor_one_less}
use Rattle.elem_kernel.proofs.division.floor_long.Goals as goal

pub overflow_mul-left : goal.overflow_mul-left
overflow_mul-left c =
    let x = c.args.x in let y = c.args.y in let l = c.from-left.result in let d = c.from.result in
    let fx : SFits w64 x = c.ranges.x in let fy : SFits w64 y = c.ranges.y in
    let fl : SFits w128 l = record { sfits = c.from-left.type_inv } in let fd : SFits w128 d = record { sfits = c.from.type_inv } in
    product_in w64 w128 x y l d fx fy c.from-left.ensures c.from.ensures fl fd (omega arith)

pub returns-then-left-from-lt0 : goal.returns-then-left-from-lt0
returns-then-left-from-lt0 c =
    let x = c.args.x in let y = c.args.y in let l = c.from-left.result in let d = c.from.result in
    let fx : SFits w64 x = c.ranges.x in let fy : SFits w64 y = c.ranges.y in
    let fl : SFits w128 l = record { sfits = c.from-left.type_inv } in let fd : SFits w128 d = record { sfits = c.from.type_inv } in
    let q = c.from-quotient.result in let fq : SFits w128 q = record { sfits = c.from-quotient.type_inv } in
    floor_one_less w64 w128 x y q l _ fx fy c.requires.some c.requires.fits c.from-quotient.ensures c.from-left.ensures fq (product_is w64 w128 x y l d fx fy c.from-left.ensures c.from.ensures fl fd (omega arith)) c.if-left-from-lt0.true (omega arith)

pub returns-else-left-from-lt0 : goal.returns-else-left-from-lt0
returns-else-left-from-lt0 c =
    let x = c.args.x in let y = c.args.y in let l = c.from-left.result in let d = c.from.result in
    let fx : SFits w64 x = c.ranges.x in let fy : SFits w64 y = c.ranges.y in
    let fl : SFits w128 l = record { sfits = c.from-left.type_inv } in let fd : SFits w128 d = record { sfits = c.from.type_inv } in
    let q = c.from-quotient.result in let fq : SFits w128 q = record { sfits = c.from-quotient.type_inv } in
    floor_here w64 w128 x y q l _ fx fy c.requires.some c.requires.fits c.from-quotient.ensures c.from-left.ensures fq (product_is w64 w128 x y l d fx fy c.from-left.ensures c.from.ensures fl fd (omega arith)) c.if-left-from-lt0.false
