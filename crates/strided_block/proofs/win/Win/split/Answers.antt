use Rattle.std.proofs.Common.{◌+◌, ◌-◌, length, refl, sym, ap, ◌∙◌, arith}
use Rattle.std.specs.Prelude.{slice_set}
use Rattle.strided_block.proofs.Halves.{ends_within, axis_now, at_now, first_sound, first_says, second_sound, second_says, deed_below, deed_above}
use Rattle.strided_block.proofs.Sounds.{lows}
use Rattle.strided_block.proofs.win.Win.split.Goals as goal

pub number_at-size-requires : goal.number_at-size-requires
number_at-size-requires g c = let l = lows _ c.self.invariant.1 in let a = axis_now _ _ c.self.view_is c.args.axis c.args.at 0 0 0 c.requires.axis c.requires.at in omega arith

pub number_at-requires : goal.number_at-requires
number_at-requires g c = let l = lows _ c.self.invariant.1 in let a = axis_now _ _ c.self.view_is c.args.axis c.args.at 0 0 0 c.requires.axis c.requires.at in omega arith

pub overflow_add-bound : goal.overflow_add-bound
overflow_add-bound g c =
    let i = c.self.inside in let a = axis_now _ _ c.self.view_is c.args.axis c.args.at 0 0 0 c.requires.axis c.requires.at in let le = at_now _ _ c.self.view_is c.args.axis c.args.at 0 0 0 c.requires.axis c.requires.at in
    let d = ends_within i.whole i.low i.shape c.args.axis c.self.invariant.1.fits a in
    let x = c.number_at.ensures in let y = c.number_at-size.ensures in let z = c.number_at-size.type_inv in record { fits = omega arith }

pub split_at-requires : goal.split_at-requires
split_at-requires g c = let l = lows _ c.self.invariant.1 in let a = axis_now _ _ c.self.view_is c.args.axis c.args.at 0 0 0 c.requires.axis c.requires.at in let s = ap length c.as_slice.ensures.value in omega arith

pub with_number-second_low-requires : goal.with_number-second_low-requires
with_number-second_low-requires g c = let l = lows _ c.self.invariant.1 in let a = axis_now _ _ c.self.view_is c.args.axis c.args.at 0 0 0 c.requires.axis c.requires.at in omega arith

pub invariant_of-result : goal.invariant_of-result
invariant_of-result g c = (
  record { base = c.self.invariant.0.base ∙ sym c.cut-one.ensures.0; deed = deed_below _ _ c.cut-one.ensures.0 _ _ _ _ _ _ _ c.part_deed-first.ensures.first c.cut-one.ensures.2 c.self.invariant.0.deed },
  first_sound _ _ c.self.view_is c.args.axis c.args.at _ _ _ c.requires.axis c.requires.at _ _ c.points-step.ensures c.split_at.ensures.back c.as_slice.ensures.value c.number_at-size.ensures (ap (λ n. n + c.args.at) c.number_at.ensures) c.self.invariant.1 _ _ _ c.cut-one.ensures.0 c.twin.ensures _ c.with_number-first_shape.ensures c.cut-one.ensures.2,
)

pub invariant_of-result-2 : goal.invariant_of-result-2
invariant_of-result-2 g c = (
  record { base = c.self.invariant.0.base ∙ sym c.cut-one.ensures.1; deed = deed_above _ _ c.cut-one.ensures.1 _ _ _ _ _ _ _ c.part_deed-first.ensures.second c.cut-one.ensures.3 c.self.invariant.0.deed },
  second_sound _ _ c.self.view_is c.args.axis c.args.at _ _ _ c.requires.axis c.requires.at _ _ c.points-step.ensures c.split_at.ensures.back c.as_slice.ensures.value c.number_at-size.ensures (ap (λ n. n + c.args.at) c.number_at.ensures) c.self.invariant.1 _ _ _ c.cut-one.ensures.1 refl _ _ c.with_number-second_low.ensures (c.with_number-second_shape.ensures ∙ ap (λ n. slice_set c.self.inside.shape c.args.axis (n - c.args.at)) c.number_at-2.ensures) c.cut-one.ensures.3,
)

pub returns-clause-first : goal.returns-clause-first
returns-clause-first g c = first_says _ _ c.self.view_is c.args.axis c.args.at _ _ _ c.requires.axis c.requires.at _ _ c.points-step.ensures c.split_at.ensures.back c.as_slice.ensures.value c.number_at-size.ensures (ap (λ n. n + c.args.at) c.number_at.ensures) c.self.invariant.1 _ _ _ c.cut-one.ensures.0 c.twin.ensures _ c.with_number-first_shape.ensures c.cut-one.ensures.2

pub returns-clause-second : goal.returns-clause-second
returns-clause-second g c = second_says _ _ c.self.view_is c.args.axis c.args.at _ _ _ c.requires.axis c.requires.at _ _ c.points-step.ensures c.split_at.ensures.back c.as_slice.ensures.value c.number_at-size.ensures (ap (λ n. n + c.args.at) c.number_at.ensures) c.self.invariant.1 _ _ _ c.cut-one.ensures.1 refl _ _ c.with_number-second_low.ensures (c.with_number-second_shape.ensures ∙ ap (λ n. slice_set c.self.inside.shape c.args.axis (n - c.args.at)) c.number_at-2.ensures) c.cut-one.ensures.3
