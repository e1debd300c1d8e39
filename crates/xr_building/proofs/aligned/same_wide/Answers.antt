use Rattle.xr_building.proofs.Common.{Int, arith, length, pos, sym, ◌∙◌, ◌≡◌}
use Rattle.align_join.proofs.Same.{each_by, one_by}
use Rattle.xr_building.proofs.aligned.same_wide.Goals as goal

pub returns-then-not-same_as_wide : goal.returns-then-not-same_as_wide
returns-then-not-same_as_wide c =
    let whole : length c.args.a.now ≡ length c.args.b.now = omega arith in
    sym (one_by Int (pos 0) c.args.a.now c.args.b.now c.loop-at.at (omega arith) (omega arith) (sym c.same_as_wide.ensures ∙ c.if-not-same_as_wide.true))

pub returns : goal.returns
returns c =
    let whole : length c.args.a.now ≡ length c.args.b.now = omega arith in
    sym (each_by Int (pos 0) c.args.a.now c.args.b.now whole (λ k s. c.loop-at.invariant k (omega arith)))
