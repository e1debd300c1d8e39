use Rattle.std.proofs.Common.{◌+◌, sym, ◌∙◌, arith}
use Rattle.strided_block.proofs.Joins.{now_lt, now_halves, now_ends, now_joined, now_same, now_cut, one_deed, now_deed}
use Rattle.strided_block.proofs.Sounds.{lows}
use Rattle.strided_block.proofs.win.Win.join.Goals as goal

pub number_at-requires : goal.number_at-requires
number_at-requires g c = let l = lows _ c.self.invariant.1 in let a = now_lt _ _ _ _ c.self.view_is c.other.view_is c.args.axis c.self.invariant.1 c.other.invariant.1 c.requires.axis c.requires.halves in omega arith

pub number_at-most-requires : goal.number_at-most-requires
number_at-most-requires g c = let l = lows _ c.self.invariant.1 in let a = now_lt _ _ _ _ c.self.view_is c.other.view_is c.args.axis c.self.invariant.1 c.other.invariant.1 c.requires.axis c.requires.halves in omega arith

pub overflow_add-size : goal.overflow_add-size
overflow_add-size g c =
    let e = now_ends _ _ _ _ c.self.view_is c.other.view_is c.args.axis c.self.invariant.1 c.other.invariant.1 c.requires.axis c.requires.halves in
    let w = c.number_at-most.ensures in let f = c.number_at-most.type_inv in let x = c.number_at.ensures in let y = c.number_at-2.ensures in record { fits = omega arith }

pub joined_deed-requires : goal.joined_deed-requires
joined_deed-requires g c =
    one_deed _ _ c.args.axis c.self.invariant.1 c.other.invariant.1 (now_lt _ _ _ _ c.self.view_is c.other.view_is c.args.axis c.self.invariant.1 c.other.invariant.1 c.requires.axis c.requires.halves)
    (now_halves _ _ _ _ c.self.view_is c.other.view_is c.args.axis c.self.invariant.1 c.other.invariant.1 c.requires.axis c.requires.halves) _ _ _ _ c.self.invariant.0.deed c.other.invariant.0.deed

pub invariant_of-result : goal.invariant_of-result
invariant_of-result g c =
    let lt = now_lt _ _ _ _ c.self.view_is c.other.view_is c.args.axis c.self.invariant.1 c.other.invariant.1 c.requires.axis c.requires.halves in
    let halves = now_halves _ _ _ _ c.self.view_is c.other.view_is c.args.axis c.self.invariant.1 c.other.invariant.1 c.requires.axis c.requires.halves in (
      record {
        base = c.self.invariant.0.base ∙ sym c.meet.ensures.0;
        deed = now_deed _ _ c.args.axis c.self.invariant.1 c.other.invariant.1 lt halves _ _ _ _ _ _ _ halves.block c.meet.ensures.0 c.joined_deed.ensures c.meet.ensures.1 c.self.invariant.0.deed c.other.invariant.0.deed;
      },
      now_joined _ _ _ _ c.self.view_is c.other.view_is c.args.axis c.self.invariant.1 c.other.invariant.1 c.requires.axis c.requires.halves _ c.meet.ensures.0 _ _ _ (λ i. c.number_at.ensures i + c.number_at-2.ensures i) c.with_number.ensures c.meet.ensures.1,
    )

pub returns-clause-place : goal.returns-clause-place
returns-clause-place g c =
    now_cut _ _ _ _ c.self.view_is c.other.view_is c.args.axis c.self.invariant.1 c.other.invariant.1 c.requires.axis c.requires.halves _ c.meet.ensures.0 _ _ _ (λ i. c.number_at.ensures i + c.number_at-2.ensures i) c.with_number.ensures c.meet.ensures.1

pub returns-clause-cells : goal.returns-clause-cells
returns-clause-cells g c =
    now_same _ _ _ _ c.self.view_is c.other.view_is c.args.axis c.self.invariant.1 c.other.invariant.1 c.requires.axis c.requires.halves _ c.meet.ensures.0 _ _ _ (λ i. c.number_at.ensures i + c.number_at-2.ensures i) c.with_number.ensures c.meet.ensures.1
