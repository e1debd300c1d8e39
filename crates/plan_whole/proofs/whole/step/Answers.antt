use Rattle.std.proofs.Common.{◌≡◌, ◌≤◌, ◌∙◌, ◌+◌, ap, sym, subst, arith, length, get_or, List, Option, None}
use Rattle.xr_arrays.specs.Arrays.{Array}
use Rattle.xr_arrays.specs.Nodes.{nothing}
use Rattle.xr_arrays.specs.declared.node.Node.TheVariants.{Source}
use Rattle.plan_core.proofs.Needs.{written_back, on_ok}
use Rattle.plan_needs.specs.Trees.{AreThere}
use Rattle.plan_needs.proofs.Strands.{input_strands, inputs_held, there_more}
use Rattle.plan_whole.proofs.whole.step.Goals as goal

pub next-requires-clause-strands : goal.next-requires-clause-strands
next-requires-clause-strands c some =
    let long : c.args.at ≤ length c.deref.result.now = let l = c.requires.long in let e = ap length c.deref.ensures.value in omega (arith, l, e) in
    input_strands c.args.nodes.now c.deref.result.now c.args.whole.now c.args.until.now c.args.at (Source nothing) c.requires.fit c.requires.inside c.requires.until_there long c.requires.keep
    (subst (λ (done : List (Option Array)). AreThere c.args.nodes.now done c.args.whole.now c.args.until.now c.args.at) (sym c.deref.ensures.value) c.requires.there) some

pub next-requires-clause-held : goal.next-requires-clause-held
next-requires-clause-held c some none =
    let long : c.args.at ≤ length c.deref.result.now = let l = c.requires.long in let e = ap length c.deref.ensures.value in omega (arith, l, e) in
    inputs_held c.args.nodes.now c.deref.result.now c.args.whole.now c.args.until.now c.args.at (Source nothing) c.requires.fit c.requires.inside c.requires.until_there long c.requires.keep
    (subst (λ (done : List (Option Array)). AreThere c.args.nodes.now done c.args.whole.now c.args.until.now c.args.at) (sym c.deref.ensures.value) c.requires.there) some none

pub returns-clause-there : goal.returns-clause-there
returns-clause-there c =
    let items = c.push.new.self.items in
    let freed = c.release_after.new.done in
    let same : length freed ≡ length items = c.release_after.ensures.long ∙ ap length c.deref_mut.ensures.value in
    let long : length items ≡ c.push.new.self.len = ap length (sym c.deref_mut.ensures.value) ∙ c.deref_mut.ensures.len in
    on_ok c.release_after.result _ (subst (λ (done : List (Option Array)). AreThere c.args.nodes.now done c.args.whole.now c.args.until.now (c.args.at + 1)) (sym (written_back c.push.new.self.len freed items same long))
    (there_more c.args.nodes.now c.args.done.now.items items freed c.in_ok-value.value c.args.whole.now c.args.until.now c.args.at c.requires.long c.requires.there c.in_ok-value.ensures c.in_ok-push.ensures.items
    (λ m later. c.release_after.ensures.kept m later ∙ ap (λ (xs : List (Option Array)). get_or xs m None) c.deref_mut.ensures.value)))
