use Rattle.std.proofs.Common.{arith}
use mir.Val.{SFits}
use mir.Syntax.{w32, w64}
use Rattle.elem_kernel.proofs.Rounding.{product_in, product_is, floor_here, floor_one_less}
use Rattle.elem_kernel.proofs.division.floor_int.Goals as goal

pub overflow_mul-left : goal.overflow_mul-left
overflow_mul-left c =
    let x = c.args.x in let y = c.args.y in let l = c.from-left.result in let d = c.from.result in
    let fx : SFits w32 x = c.ranges.x in let fy : SFits w32 y = c.ranges.y in
    let fl : SFits w64 l = record { sfits = c.from-left.type_inv } in let fd : SFits w64 d = record { sfits = c.from.type_inv } in
    product_in w32 w64 x y l d fx fy c.from-left.ensures c.from.ensures fl fd (omega arith)

pub returns-then-left-from-lt0 : goal.returns-then-left-from-lt0
returns-then-left-from-lt0 c =
    let x = c.args.x in let y = c.args.y in let l = c.from-left.result in let d = c.from.result in
    let fx : SFits w32 x = c.ranges.x in let fy : SFits w32 y = c.ranges.y in
    let fl : SFits w64 l = record { sfits = c.from-left.type_inv } in let fd : SFits w64 d = record { sfits = c.from.type_inv } in
    let q = c.from-quotient.result in let fq : SFits w64 q = record { sfits = c.from-quotient.type_inv } in
    floor_one_less w32 w64 x y q l _ fx fy c.requires.some c.requires.fits c.from-quotient.ensures c.from-left.ensures fq (product_is w32 w64 x y l d fx fy c.from-left.ensures c.from.ensures fl fd (omega arith)) c.if-left-from-lt0.true (omega arith)

pub returns-else-left-from-lt0 : goal.returns-else-left-from-lt0
returns-else-left-from-lt0 c =
    let x = c.args.x in let y = c.args.y in let l = c.from-left.result in let d = c.from.result in
    let fx : SFits w32 x = c.ranges.x in let fy : SFits w32 y = c.ranges.y in
    let fl : SFits w64 l = record { sfits = c.from-left.type_inv } in let fd : SFits w64 d = record { sfits = c.from.type_inv } in
    let q = c.from-quotient.result in let fq : SFits w64 q = record { sfits = c.from-quotient.type_inv } in
    floor_here w32 w64 x y q l _ fx fy c.requires.some c.requires.fits c.from-quotient.ensures c.from-left.ensures fq (product_is w32 w64 x y l d fx fy c.from-left.ensures c.from.ensures fl fd (omega arith)) c.if-left-from-lt0.false
