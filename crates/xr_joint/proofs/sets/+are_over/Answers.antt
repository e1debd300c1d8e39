use Rattle.std.proofs.Common.{refl, sym, subst}
use Rattle.xr_joint.specs.Fitting.{IsOpenIn}
use Rattle.xr_joint.specs.Joint.{AllOver}
use Rattle.xr_joint.proofs.Firsts.{first_holds, whole}
use Rattle.xr_joint.proofs.Over.{slices_over}
use Rattle.xr_joint.proofs.sets.+are_over.Goals as goal

pub returns-then-have_sizes : goal.returns-then-have_sizes
returns-then-have_sizes t c = λ nodes is all.
    let both = first_holds (IsOpenIn nodes) c.args.sets.now c.set-item.result c.in-len1-up.len_at_least c.set-item.is all in
    subst (AllOver nodes c.args.axes.now) (sym (whole c.args.sets.now c.set-item.result c.in-len1-up.len_at_least c.set-item.is))
    (slices_over nodes c.args.axes.now c.as_slice.result.now c.set-item.result c.as_slice-in-len1-up.result.now c.as_slice.ensures c.as_slice-in-len1-up.ensures.variables both.0 (c.if-have_sizes.ensures refl), c.are_over.ensures nodes is both.1)
