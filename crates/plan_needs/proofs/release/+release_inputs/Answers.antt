use Rattle.std.proofs.Common.{◌∙◌, arith}
use Rattle.plan_core.proofs.Needs.{ids_before}
use Rattle.plan_needs.proofs.release.+release_inputs.Goals as goal

pub bounds-whole-id : goal.bounds-whole-id
bounds-whole-id t c =
    let before = ids_before c.args.nodes.now c.args.at c.index-nodes-at.result c.deref-id-items.result.now c.requires.fit c.requires.inside c.index-nodes-at.is (c.deref-id-items.ensures.value ∙ c.in_ok-ids.ensures) c.loop-id.id-index 0 c.loop-id-test.true in
    omega (arith, before, c.requires.whole)

pub release_inputs-requires : goal.release_inputs-requires
release_inputs-requires t c =
    let before = ids_before c.args.nodes.now c.args.at c.index-nodes-at.result c.deref-id-items.result.now c.requires.fit c.requires.inside c.index-nodes-at.is (c.deref-id-items.ensures.value ∙ c.in_ok-ids.ensures) c.loop-id.id-index 0 c.loop-id-test.true in
    let d = c.decreases in
    let long = c.loop-id.invariant.long in
    (omega (arith, before, d), (c.requires.fit, (omega (arith, before, c.requires.inside), (omega (arith, before, c.requires.done, long), (omega (arith, before, c.requires.whole), omega (arith, before, c.requires.until))))))

pub release-requires-clause-done : goal.release-requires-clause-done
release-requires-clause-done t c =
    let before = ids_before c.args.nodes.now c.args.at c.index-nodes-at.result c.deref-id-items.result.now c.requires.fit c.requires.inside c.index-nodes-at.is (c.deref-id-items.ensures.value ∙ c.in_ok-ids.ensures) c.loop-id.id-index 0 c.loop-id-test.true in
    let long = c.loop-id.invariant.long in
    let same = c.if-not-whole-id.auto.done in
    omega (arith, before, c.requires.done, long, same)

pub release-requires-clause-until : goal.release-requires-clause-until
release-requires-clause-until t c =
    let before = ids_before c.args.nodes.now c.args.at c.index-nodes-at.result c.deref-id-items.result.now c.requires.fit c.requires.inside c.index-nodes-at.is (c.deref-id-items.ensures.value ∙ c.in_ok-ids.ensures) c.loop-id.id-index 0 c.loop-id-test.true in
    omega (arith, before, c.requires.until)
