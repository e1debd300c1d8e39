use Rattle.xr_aligning.proofs.Common.{Bor, Fit, StepsFit, TakesFit, length, map, steps_from, subst, sym, value, ◌∙◌, ◌≡◌, ◌≤◌}
use Rattle.xr_aligning.proofs.Along.{steps_fit}
use Rattle.xr_aligning.proofs.cells.node_after.Goals as goal

pub push_chain-requires : goal.push_chain-requires
push_chain-requires c =
    let old = c.args.plan.now in
    let a = value old c.args.node in
    let fs = map (λ (f : Bor Fit). f.now) c.args.fits.now in
    let fill = c.in_ok-fill.fill in
    let shape : c.as_slice.result.now ≡ a.shape = c.as_slice.ensures ∙ c.in_ok-sizes.ensures ∙ sym c.requires.has_shape in
    let fit = subst (TakesFit (steps_from fill 0 fs) c.as_slice.result.now) (sym c.requires.has_kind) c.in_ok-steps.ensures.fits in
    record {
      start = c.requires.placed;
      steps = subst (λ ss. StepsFit ss a) (sym c.in_ok-steps.ensures.is)
          (steps_fit fill 0 fs a (subst (λ s. length s ≤ 16) shape c.in_ok-steps.ensures.rank) (subst (λ s. TakesFit (steps_from fill 0 fs) s a.kind) shape fit));
    }
