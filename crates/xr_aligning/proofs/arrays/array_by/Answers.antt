use Rattle.xr_aligning.proofs.Common.{AllByRecursion, AreFitted, Arrive, Bor, Fit, IsCell, IsCoordinate, IsThere, IsValueOf, List, [], any_hole, ap, are_distinct, axis_names, cells_after, fill_in, fit_of, is_within, joined_in, map, masked_with, sizes, subst, sym, true, value, ◌∙◌, ◌≡◌}
use Rattle.xr_parts.proofs.Axes.{own_axes}
use Rattle.xr_aligning.proofs.Called.{sizes_over}
use Rattle.xr_aligning.proofs.ArraysAfter.{after, node_sized}
use Rattle.xr_aligning.proofs.arrays.array_by.Goals as goal

pub node_after-requires : goal.node_after-requires
node_after-requires c =
    let change = c.args.change.now in
    let on = c.args.on.now in
    let there : AllByRecursion (IsThere change.own.now) c.as_slice.result.now = subst (AllByRecursion (IsThere change.own.now)) (c.requires.own ∙ sym c.as_slice.ensures) (own_axes change.own.now (subst (λ xs. are_distinct (axis_names xs) ≡ true) (sym c.requires.own) c.requires.on.formed.axes.distinct)) in
    node_sized c.args.plan.now change.joined.now on _ c.requires.on (ap (map (λ (f : Bor Fit). f.now)) c.as_slice-own.ensures ∙ c.in_ok-own.ensures there ∙ ap (map (fit_of change.joined.now)) c.as_slice.ensures)

pub returns-clause-after : goal.returns-clause-after
returns-clause-after c = λ loose.
    let change = c.args.change.now in
    let joined = change.joined.now in
    let on = c.args.on.now in
    let there : AllByRecursion (IsThere change.own.now) c.as_slice.result.now = subst (AllByRecursion (IsThere change.own.now)) (c.requires.own ∙ sym c.as_slice.ensures) (own_axes change.own.now (subst (λ xs. are_distinct (axis_names xs) ≡ true) (sym c.requires.own) c.requires.on.formed.axes.distinct)) in
    let fits : map (λ (f : Bor Fit). f.now) c.as_slice-own.result.now ≡ map (fit_of joined) on.axes = ap (map (λ (f : Bor Fit). f.now)) c.as_slice-own.ensures ∙ c.in_ok-own.ensures there ∙ ap (map (fit_of joined)) c.as_slice.ensures in
    let arrive : Arrive joined on.axes = subst (Arrive joined) c.requires.own c.requires.change.arrive in
    after c.args.plan.now c.node_after.new.plan joined change.fill on c.requires.on loose arrive
    (ap is_within (sym (ap sizes fits ∙ sizes_over joined on.axes)) ∙ sym c.is_within.ensures ∙ c.if-not-is_within.false)
    (subst (λ (fs : List Fit). IsCell on.kind (fill_in (any_hole fs) change.fill)) fits c.in_ok-node.ensures.cell)
    _ _ _ _ _ _
    c.in_ok-deep_copy.ensures
    (c.in_ok-axes_after.ensures ∙ ap (map (joined_in joined)) c.as_slice-3.ensures)
    (c.masked_with.ensures ∙ ap (masked_with on.masked change.fill) (c.any_hole.ensures ∙ ap any_hole fits))
    c.in_ok-deep_copy-2.ensures
    (subst (λ own. AreFitted joined change.fill own [] on.coords c.in_ok-coords.coords) c.requires.own (subst (λ cs. AreFitted joined change.fill change.own.now [] cs c.in_ok-coords.coords) c.as_slice-2.ensures (c.in_ok-coords.ensures (subst (λ cs. AllByRecursion (IsCoordinate change.own.now) cs) (sym c.as_slice-2.ensures) (subst (λ own. AllByRecursion (IsCoordinate own) on.coords) (sym c.requires.own) c.requires.on.formed.coords)))))
    (subst (λ (fs : List Fit). IsValueOf c.node_after.new.plan (cells_after change.fill fs (value c.args.plan.now on.node)) c.in_ok-node.node) fits c.in_ok-node.ensures.value)
