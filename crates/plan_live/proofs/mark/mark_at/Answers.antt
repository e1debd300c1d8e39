use Rattle.std.proofs.Common.{◌<◌, sym, subst, refl, arith}
use Rattle.std.specs.List.{All}
use Rattle.plan_core.specs.Needs.{inputs_of}
use Rattle.plan_core.proofs.Needs.{ids_are, ids_before, inputs_before}
use Rattle.plan_live.specs.Live.{IsLive}
use Rattle.plan_live.proofs.Marking.{fed_more}
use Rattle.plan_live.proofs.mark.mark_at.Goals as goal

pub mark_inputs_of-requires : goal.mark_inputs_of-requires
mark_inputs_of-requires c =
    let node = c.index-nodes-at.result in
    let before = ids_before c.args.nodes.now c.args.at node (inputs_of node) c.requires.fit c.requires.inside c.index-nodes-at.is refl in
    let inside = c.requires.inside in
    let long = c.requires.long in
    λ k d lt. let b = before k d lt in omega (arith, b, inside, long)

pub returns-then-live-at-clause-fed : goal.returns-then-live-at-clause-fed
returns-then-live-at-clause-fed c =
    let node = c.index-nodes-at.result in
    let same = ids_are c.args.nodes.now c.args.at node (inputs_of node) c.requires.inside c.index-nodes-at.is refl in
    fed_more c.args.nodes.now c.args.live.now c.mark_inputs_of.new.live c.args.at (inputs_before c.args.nodes.now c.args.at node c.requires.fit c.requires.inside)
    (λ is. subst (All (IsLive c.mark_inputs_of.new.live)) same c.mark_inputs_of.ensures.marked) c.mark_inputs_of.ensures.stay
    (λ k before. c.mark_inputs_of.ensures.others k (subst (All (λ m. m < k)) (sym same) before)) c.requires.fed
