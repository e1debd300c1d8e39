use Rattle.xr_aligning.proofs.Common.{IsContentAfter, ap, joined_in, map, subst, ◌∙◌}
use Rattle.xr_aligning.proofs.Formed.{coord_fitted}
use Rattle.xr_aligning.proofs.coords.coord_after.Goals as goal

pub returns : goal.returns
returns c = λ is.
    let change = c.args.change.now in
    let coord = c.args.coord.now in
    let content = subst (λ axes. IsContentAfter change axes coord.content c.in_ok-content.content) c.as_slice-axes.ensures c.in_ok-content.ensures in
    coord_fitted change.joined.now change.fill change.own.now c.requires.arrive coord _ is (content.within is.over) (content.takes is.over)
    (λ i. record {
      name = c.in_ok-deep_copy.ensures i;
      axes = (c.in_ok-axes_after.ensures ∙ ap (map (joined_in change.joined.now)) c.as_slice-axes.ensures) i;
      attrs = c.in_ok-deep_copy-2.ensures i;
      content = content.is is.over i;
    })
