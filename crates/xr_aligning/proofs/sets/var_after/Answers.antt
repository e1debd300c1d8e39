use Rattle.xr_aligning.proofs.Common.{Bor, Fit, IsCell, IsValueOf, List, any_hole, ap, axes_called, cells_after, fill_in, fit_of, is_within, map, masked_with, sizes, subst, sym, value, ◌∙◌, ◌≡◌}
use Rattle.xr_aligning.proofs.Called.{sizes_over}
use Rattle.xr_aligning.proofs.SetsAfter.{var_after, var_sized}
use Rattle.xr_aligning.proofs.sets.var_after.Goals as goal

pub node_after-requires : goal.node_after-requires
node_after-requires c =
    let change = c.args.change.now in
    var_sized c.args.plan.now change.joined.now change.own.now c.args.var.now _ c.requires.var
    (ap (map (λ (f : Bor Fit). f.now)) c.as_slice-own.ensures ∙ c.in_ok-own.ensures ∙ ap (λ dims. map (fit_of change.joined.now) (axes_called change.own.now dims)) c.as_slice.ensures)

pub returns-clause-after : goal.returns-clause-after
returns-clause-after c =
    let change = c.args.change.now in
    let joined = change.joined.now in
    let v = c.args.var.now in
    let fits : map (λ (f : Bor Fit). f.now) c.as_slice-own.result.now ≡ map (fit_of joined) (axes_called change.own.now v.dims) =
    ap (map (λ (f : Bor Fit). f.now)) c.as_slice-own.ensures ∙ c.in_ok-own.ensures ∙ ap (λ dims. map (fit_of joined) (axes_called change.own.now dims)) c.as_slice.ensures in
    var_after c.args.plan.now c.node_after.new.plan joined change.own.now change.fill c.requires.change.arrive v c.requires.var
    (ap is_within (sym (ap sizes fits ∙ sizes_over joined (axes_called change.own.now v.dims))) ∙ sym c.is_within.ensures ∙ c.if-not-is_within.false)
    (subst (λ (fs : List Fit). IsCell v.kind (fill_in (any_hole fs) change.fill)) fits c.in_ok-node.ensures.cell)
    _ _ _ _ _
    c.in_ok-deep_copy.ensures
    c.in_ok-deep_copy-2.ensures
    (c.masked_with.ensures ∙ ap (masked_with v.masked change.fill) (c.any_hole.ensures ∙ ap any_hole fits))
    c.in_ok-deep_copy-3.ensures
    (subst (λ (fs : List Fit). IsValueOf c.node_after.new.plan (cells_after change.fill fs (value c.args.plan.now v.node)) c.in_ok-node.node) fits c.in_ok-node.ensures.value)
