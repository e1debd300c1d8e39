use Rattle.xr_arrays.specs.Labels.{labels_of}
use Rattle.align_join.proofs.Keeping.{keep_next, keep_end}
use Rattle.align_join.proofs.lists.inner.Goals as goal

pub loop-list-preserved : goal.loop-list-preserved
loop-list-preserved c =
    keep_next labels_of (λ x. x.now) c.args.others.now c.loop-list.list-index c.list-item.result c.loop-list.labels.items c.in_ok-labels-2.labels.items _ c.loop-list-test.true c.list-item.is c.in_ok-labels-2.ensures c.loop-list.invariant

pub returns : goal.returns
returns c = keep_end labels_of (λ x. x.now) c.args.others.now c.loop-list.list-index c.loop-list.labels.items _ c.loop-list-test.false c.loop-list.invariant
