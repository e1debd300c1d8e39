use Rattle.xr_aligning.proofs.Common.{Bor, Fit, List, TakesFill, ap, content_after, is_within, map, sizes, subst, sym, ◌∙◌}
use Rattle.xr_aligning.proofs.Called.{sizes_over}
use Rattle.xr_aligning.proofs.coords.content_within.Goals as goal

pub returns : goal.returns
returns c =
    let change = c.args.change.now in
    record {
      is = λ there. c.in_ok-left.ensures.content ∙ ap (λ (fs : List Fit). content_after change.fill fs c.args.content.now) (ap (map (λ (f : Bor Fit). f.now)) c.as_slice-own.ensures ∙ c.in_ok-own.ensures there);
      within = λ there. ap is_within (sym (ap sizes (ap (map (λ (f : Bor Fit). f.now)) c.as_slice-own.ensures ∙ c.in_ok-own.ensures there) ∙ sizes_over change.joined.now c.args.axes.now)) ∙ sym c.is_within.ensures ∙ c.if-not-is_within.false;
      takes = λ there. subst (λ (fs : List Fit). TakesFill change.fill fs c.args.content.now) (ap (map (λ (f : Bor Fit). f.now)) c.as_slice-own.ensures ∙ c.in_ok-own.ensures there) c.in_ok-left.ensures.takes;
    }
