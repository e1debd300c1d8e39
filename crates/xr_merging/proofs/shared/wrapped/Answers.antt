use Rattle.std.proofs.Common.{◌∙◌, map, ap}
use Rattle.xr_types.specs.Kinds.{wrap_to}
use Rattle.xr_merging.specs.Columns.{shared_number}
use Rattle.xr_merging.proofs.Sharing.{numbers_more}
use Rattle.xr_merging.proofs.shared.wrapped.Goals as goal

pub loop-at-preserved : goal.loop-at-preserved
loop-at-preserved g c =
    ap (map g.T.Elem.number) c.in_ok-push.ensures.ok
    ∙ numbers_more g.T.Elem.number (λ k. wrap_to g.T.Elem.kind (shared_number c.args.arrays.now k)) c.loop-at.out c.loop-at.at c.wrapped_at.result c.loop-at.invariant c.wrapped_at.ensures
