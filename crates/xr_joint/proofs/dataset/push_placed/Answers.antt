use Rattle.std.proofs.Common.{◌∷◌, ◌++◌, ◌∙◌, [], ap, subst, sym, take}
use Rattle.std.proofs.lemmas.List.{take_all, take_more}
use Rattle.plan_core.proofs.Plans.{grows_by_none, grows_on}
use Rattle.xr_aligning.proofs.Loops.{holds_here}
use Rattle.xr_joint.specs.Joint.{ArePlaced, IsInside}
use Rattle.xr_joint.specs.declared.pieces.JointVariable.{JointVariable}
use Rattle.xr_joint.proofs.Placing.{none_placed, one_placed, origin_inside}
use Rattle.xr_joint.proofs.dataset.push_placed.Goals as goal

pub loop-merged-init : goal.loop-merged-init
loop-merged-init c = record { placed = none_placed c.args.plan.now c.args.out.now; grows = grows_by_none c.args.plan.now }

pub placed_variable-requires : goal.placed_variable-requires
placed_variable-requires c =
    origin_inside c.args.plan.now c.loop-merged.plan c.loop-merged.invariant.grows c.merged-item.result.cells
    (holds_here c.args.vars.now c.loop-merged.merged-index c.merged-item.result c.loop-merged-test.true c.merged-item.is (λ (u : JointVariable). IsInside c.args.plan.now u.cells) c.requires)

pub loop-merged-preserved : goal.loop-merged-preserved
loop-merged-preserved c =
    let old = c.args.plan.now in
    let vars = c.args.vars.now in
    let i = c.loop-merged.merged-index in
    let merged = c.merged-item.result in
    let here = c.loop-merged-test.true in
    let so_far = c.loop-merged.invariant in
    record {
      placed =
          subst (λ vs. ArePlaced old c.placed_variable.new.plan vs c.args.out.now c.put_new.new.out) (sym (take_more vars i merged here ∙ ap (λ v. take i vars ++ v ∷ []) (sym c.merged-item.is)))
          (one_placed old c.loop-merged.plan c.placed_variable.new.plan (take i vars) merged c.in_ok-var.var c.args.out.now c.loop-merged.out c.put_new.new.out
          so_far.grows c.placed_variable.ensures.grows (holds_here vars i merged here c.merged-item.is (λ (u : JointVariable). IsInside old u.cells) c.requires) c.in_ok-var.ensures.placed c.in_ok-put_new.ensures so_far.placed);
      grows = grows_on old c.loop-merged.plan c.placed_variable.new.plan so_far.grows c.placed_variable.ensures.grows;
    }

pub returns-clause-placed : goal.returns-clause-placed
returns-clause-placed c = subst (λ vs. ArePlaced c.args.plan.now c.loop-merged.plan vs c.args.out.now c.loop-merged.out) (take_all c.loop-merged.merged-index c.args.vars.now c.loop-merged-test.false) c.loop-merged.invariant.placed
