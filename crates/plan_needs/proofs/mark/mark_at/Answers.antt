use Rattle.std.proofs.Common.{◌<◌, ◌≤◌, ◌≡◌, ◌∙◌, sym, ap, subst, arith, get_or, true, false, Bool, ℕ}
use Rattle.std.specs.List.{All}
use Rattle.std.proofs.lemmas.List.{get_or_default}
use Rattle.plan_core.proofs.Needs.{ids_are, ids_before, inputs_before}
use Rattle.plan_core.specs.Needs.{inputs_at}
use Rattle.plan_needs.specs.Trees.{last_use}
use Rattle.plan_needs.proofs.Marks.{keep_more}
use Rattle.plan_needs.proofs.mark.mark_at.Goals as goal

pub mark_all-requires : goal.mark_all-requires
mark_all-requires c =
    let before = ids_before c.args.nodes.now c.args.at c.index-nodes-at.result c.deref.result.now c.requires.fit c.requires.inside c.index-nodes-at.is (c.deref.ensures.value ∙ c.in_ok-ids.ensures) in
    let there = c.requires.there in
    λ k d lt. let b = before k d lt in omega (arith, b, there)

pub hold_inputs-requires-clause-there : goal.hold_inputs-requires-clause-there
hold_inputs-requires-clause-there c =
    let before = ids_before c.args.nodes.now c.args.at c.index-nodes-at.result c.deref-2.result.now c.requires.fit c.requires.inside c.index-nodes-at.is (c.deref-2.ensures.value ∙ c.in_ok-ids.ensures) in
    let there = c.requires.whole_there in
    λ k d lt. let b = before k d lt in omega (arith, b, there)

pub returns-clause-keep : goal.returns-clause-keep
returns-clause-keep c =
    let at = c.args.at in
    let nodes = c.args.nodes.now in
    let same = ids_are nodes at c.index-nodes-at.result c.deref.result.now c.requires.inside c.index-nodes-at.is (c.deref.ensures.value ∙ c.in_ok-ids.ensures) in
    let same_held = ids_are nodes at c.index-nodes-at.result c.deref-2.result.now c.requires.inside c.index-nodes-at.is (c.deref-2.ensures.value ∙ c.in_ok-ids.ensures) in
    let used : c.last_use-user.result ≡ last_use (get_or c.args.whole.now at true) (get_or c.args.until.now at 0) at = c.last_use-user.ensures ∙ ap (λ (w : Bool). last_use w (get_or c.args.until.now at 0) at) (get_or_default c.args.whole.now at false true c.requires.whole_there) in
    keep_more nodes c.args.whole.now c.hold_inputs.new.whole c.args.until.now c.mark_all.new.until at c.mark_all.ensures.long (inputs_before nodes at c.index-nodes-at.result c.requires.fit c.requires.inside)
    (subst (λ (u : ℕ). All (λ m. u ≤ get_or c.mark_all.new.until m 0) (inputs_at nodes at)) used (subst (All (λ m. c.last_use-user.result ≤ get_or c.mark_all.new.until m 0)) same c.mark_all.ensures.marked))
    (λ none. subst (All (λ m. get_or c.hold_inputs.new.whole m true ≡ true)) same_held (c.hold_inputs.ensures.held none))
    c.mark_all.ensures.grows c.hold_inputs.ensures.grows (λ k before. c.mark_all.ensures.others k (subst (All (λ m. m < k)) (sym same) before)) (λ k before. c.hold_inputs.ensures.others k (subst (All (λ m. m < k)) (sym same_held) before)) c.requires.keep

pub returns-clause-kept : goal.returns-clause-kept
returns-clause-kept c =
    let before = ids_before c.args.nodes.now c.args.at c.index-nodes-at.result c.deref.result.now c.requires.fit c.requires.inside c.index-nodes-at.is (c.deref.ensures.value ∙ c.in_ok-ids.ensures) in
    λ k le. c.mark_all.ensures.others k (λ j d lt. let b = before j d lt in omega (arith, b, le))

pub returns-clause-whole_kept : goal.returns-clause-whole_kept
returns-clause-whole_kept c =
    let before = ids_before c.args.nodes.now c.args.at c.index-nodes-at.result c.deref-2.result.now c.requires.fit c.requires.inside c.index-nodes-at.is (c.deref-2.ensures.value ∙ c.in_ok-ids.ensures) in
    λ k le. c.hold_inputs.ensures.others k (λ j d lt. let b = before j d lt in omega (arith, b, le))
