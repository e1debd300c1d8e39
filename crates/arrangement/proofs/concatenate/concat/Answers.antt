use Rattle.std.proofs.Common.{◌∙◌, ap, flat_map}
use Rattle.plan_core.specs.Concats.{row_of}
use Rattle.plan_core.proofs.Takes.{if_ok}
use Rattle.plan_core.proofs.Concats.{joined_here}
use Rattle.arrangement.proofs.concatenate.concat.Goals as goal

pub rearrange-requires-clause-fits : goal.rearrange-requires-clause-fits
rearrange-requires-clause-fits c =
    (joined_here (λ b. b.now) c.args.inputs.now c.index-inputs-0.result c.args.axis c.in_ok-all.all c.shape.result.now c.shape-2.result.now c.deref.result.now c.requires.some c.index-inputs-0.is c.requires.axis c.requires.each c.in_ok-all.ensures.whole c.requires.small
    (c.in_ok-all.ensures.cells ∙ ap (λ k. row_of k (flat_map (λ b. b.now.cells) c.args.inputs.now)) c.kind.ensures) c.shape.ensures c.shape-2.ensures (c.deref.ensures.value ∙ c.in_ok-counts.ensures)).joining

pub rearrange-requires-clause-inside : goal.rearrange-requires-clause-inside
rearrange-requires-clause-inside c =
    (joined_here (λ b. b.now) c.args.inputs.now c.index-inputs-0.result c.args.axis c.in_ok-all.all c.shape.result.now c.shape-2.result.now c.deref.result.now c.requires.some c.index-inputs-0.is c.requires.axis c.requires.each c.in_ok-all.ensures.whole c.requires.small
    (c.in_ok-all.ensures.cells ∙ ap (λ k. row_of k (flat_map (λ b. b.now.cells) c.args.inputs.now)) c.kind.ensures) c.shape.ensures c.shape-2.ensures (c.deref.ensures.value ∙ c.in_ok-counts.ensures)).inside

pub returns : goal.returns
returns c =
    if_ok c.rearrange.result _ _
    (λ v is. is ∙ (joined_here (λ b. b.now) c.args.inputs.now c.index-inputs-0.result c.args.axis c.in_ok-all.all c.shape.result.now c.shape-2.result.now c.deref.result.now c.requires.some c.index-inputs-0.is c.requires.axis c.requires.each c.in_ok-all.ensures.whole c.requires.small
    (c.in_ok-all.ensures.cells ∙ ap (λ k. row_of k (flat_map (λ b. b.now.cells) c.args.inputs.now)) c.kind.ensures) c.shape.ensures c.shape-2.ensures (c.deref.ensures.value ∙ c.in_ok-counts.ensures)).is)
    c.rearrange.ensures
