use Rattle.std.proofs.Common.{◌≡◌, ◌∙◌, ap, sym, subst, arith, length, List, Option}
use Rattle.xr_arrays.specs.Arrays.{Array}
use Rattle.xr_arrays.specs.Nodes.{nothing}
use Rattle.xr_arrays.specs.declared.node.Node.TheVariants.{Source}
use Rattle.plan_needs.specs.Trees.{AreThere}
use Rattle.plan_needs.proofs.Strands.{input_strands, inputs_held}
use Rattle.plan_whole.proofs.whole.evaluate_by.Goals as goal

pub compute-requires-clause-strands : goal.compute-requires-clause-strands
compute-requires-clause-strands c =
    let marked = c.in_ok-until.ensures in
    let node = c.args.node in
    let here : c.loop-at.at ≡ node = omega (arith, c.loop-at-test.false, c.loop-at.auto.at-end) in
    let done = c.deref-2.result.now in
    let many : length done ≡ node = ap length c.deref-2.ensures.value ∙ c.loop-at.invariant.long ∙ here in
    input_strands c.args.nodes.now done c.mark_needed.new.whole c.in_ok-until.until.items node (Source nothing) c.requires.fit c.requires.inside (let l = marked.long in omega (arith, l)) (omega (arith, many)) marked.keep
    (subst (λ (done : List (Option Array)). AreThere c.args.nodes.now done c.mark_needed.new.whole c.in_ok-until.until.items node) (sym c.deref-2.ensures.value) (subst (AreThere c.args.nodes.now c.loop-at.done.items c.mark_needed.new.whole c.in_ok-until.until.items) here c.loop-at.invariant.there))
    (let a = marked.asked in omega (arith, a))

pub compute-requires-clause-held : goal.compute-requires-clause-held
compute-requires-clause-held c none =
    let marked = c.in_ok-until.ensures in
    let node = c.args.node in
    let here : c.loop-at.at ≡ node = omega (arith, c.loop-at-test.false, c.loop-at.auto.at-end) in
    let done = c.deref-2.result.now in
    let many : length done ≡ node = ap length c.deref-2.ensures.value ∙ c.loop-at.invariant.long ∙ here in
    inputs_held c.args.nodes.now done c.mark_needed.new.whole c.in_ok-until.until.items node (Source nothing) c.requires.fit c.requires.inside (let l = marked.long in omega (arith, l)) (omega (arith, many)) marked.keep
    (subst (λ (done : List (Option Array)). AreThere c.args.nodes.now done c.mark_needed.new.whole c.in_ok-until.until.items node) (sym c.deref-2.ensures.value) (subst (AreThere c.args.nodes.now c.loop-at.done.items c.mark_needed.new.whole c.in_ok-until.until.items) here c.loop-at.invariant.there))
    (let a = marked.asked in omega (arith, a)) none
