use Rattle.std.proofs.Common.{length, ap, ◌∙◌, arith}
use Rattle.std.specs.Prelude.{slice_set}
use Rattle.strided_block.proofs.Boxes.{point_long}
use Rattle.strided_block.proofs.Lines.{line_start, win_axis, win_cells, win_within, win_apart}
use Rattle.strided_block.proofs.win.Win.places.Goals as goal

pub set-requires : goal.set-requires
set-requires g c = omega (arith, point_long _ _ c.requires.at, c.requires.axis, ap length c.twin-begin.ensures)

pub place_of-first-requires : goal.place_of-first-requires
place_of-first-requires g c = line_start _ _ c.args.axis _ c.requires.axis c.requires.at (c.set.ensures ∙ ap (λ p. slice_set p c.args.axis 0) c.twin-begin.ensures)

pub overflow_add-axis : goal.overflow_add-axis
overflow_add-axis g c = let a = win_axis _ _ c.self.view_is c.self.invariant.1 c.args.axis c.args.at.now c.requires.axis c.requires.at in let m = c.as_slice.ensures.most in let l = ap length c.as_slice.ensures.value in record { fits = omega arith }

pub split_at-requires : goal.split_at-requires
split_at-requires g c = let a = win_axis _ _ c.self.view_is c.self.invariant.1 c.args.axis c.args.at.now c.requires.axis c.requires.at in let l = ap length c.as_slice.ensures.value in omega arith

pub returns-clause-apart : goal.returns-clause-apart
returns-clause-apart g c =
    win_apart _ _ c.self.view_is c.self.invariant.1 c.args.axis c.args.at.now c.requires.axis c.requires.at _ (c.set.ensures ∙ ap (λ p. slice_set p c.args.axis 0) c.twin-begin.ensures) _ _ _ _ c.place_of-first.ensures
    c.points-step.ensures c.split_at.ensures.back c.as_slice.ensures.value

pub returns-clause-within : goal.returns-clause-within
returns-clause-within g c =
    win_within _ _ c.self.view_is c.self.invariant.1 c.args.axis c.args.at.now c.requires.axis c.requires.at _ (c.set.ensures ∙ ap (λ p. slice_set p c.args.axis 0) c.twin-begin.ensures) _ _ _ _ c.place_of-first.ensures
    c.points-step.ensures c.split_at.ensures.back c.as_slice.ensures.value

pub returns-clause-cells : goal.returns-clause-cells
returns-clause-cells g c =
    win_cells _ _ c.self.view_is c.self.invariant.1 c.args.axis c.args.at.now c.requires.axis c.requires.at _ (c.set.ensures ∙ ap (λ p. slice_set p c.args.axis 0) c.twin-begin.ensures) _ _ _ _ c.place_of-first.ensures
    c.points-step.ensures c.split_at.ensures.back c.as_slice.ensures.value
