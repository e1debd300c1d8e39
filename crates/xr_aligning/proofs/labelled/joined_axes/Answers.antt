use Rattle.xr_aligning.proofs.Common.{Axis, Bor, List, ap, map, own_axes, ◌++◌, ◌∙◌}
use Rattle.xr_aligning.proofs.Given.{axes_answered, axes_kept, axes_loose}
use Rattle.xr_aligning.proofs.labelled.joined_axes.Goals as goal

pub returns-clause-axes : goal.returns-clause-axes
returns-clause-axes c = λ nodes.
    axes_answered c.args.how c.args.filled nodes c.args.values.now (map (λ (v : Bor (List Axis)). v.now) c.as_slice.result.now)
    (ap (map (λ (v : Bor (List Axis)). v.now)) c.as_slice.ensures ∙ c.in_ok-push_axes.ensures.axes ∙ ap (λ os. map (λ (v : Bor (List Axis)). v.now) os ++ map own_axes c.args.values.now) c.new-lists.ensures) c.aligned.result c.aligned.ensures

pub returns-clause-loose : goal.returns-clause-loose
returns-clause-loose c = λ nodes inside.
    axes_loose c.args.how c.args.filled nodes c.args.values.now (map (λ (v : Bor (List Axis)). v.now) c.as_slice.result.now)
    (ap (map (λ (v : Bor (List Axis)). v.now)) c.as_slice.ensures ∙ c.in_ok-push_axes.ensures.axes ∙ ap (λ os. map (λ (v : Bor (List Axis)). v.now) os ++ map own_axes c.args.values.now) c.new-lists.ensures) c.aligned.result inside c.aligned.ensures

pub returns-clause-kept : goal.returns-clause-kept
returns-clause-kept c = λ nodes inside.
    axes_kept c.args.how c.args.filled nodes c.args.values.now (map (λ (v : Bor (List Axis)). v.now) c.as_slice.result.now)
    (ap (map (λ (v : Bor (List Axis)). v.now)) c.as_slice.ensures ∙ c.in_ok-push_axes.ensures.axes ∙ ap (λ os. map (λ (v : Bor (List Axis)). v.now) os ++ map own_axes c.args.values.now) c.new-lists.ensures) c.aligned.result inside c.aligned.ensures
