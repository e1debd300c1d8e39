use Rattle.xr_aligning.proofs.Common.{AllByRecursion, Axis, Dataset, IsApart, IsDatasetIn, Stays, among, ap, axis_names, dataset_in, length, most_variables, subst, sym, true, ◌+◌, ◌∙◌, ◌≡◌, ◌≤◌}
use Rattle.xr_relations.specs.Aligning.{with_variable as with_put}
use Rattle.xr_aligning.proofs.Assigning.{set_distinct, set_inside, set_is, value_axes}
use Rattle.xr_aligning.proofs.assigned.placed.Goals as goal

pub returns-clause-placed : goal.returns-clause-placed
returns-clause-placed c = λ loose called.
    let old = c.args.plan.now in
    let new = c.array_after.new.plan in
    let s = c.args.set.now in
    let axes = c.args.axes.now in
    let name = c.args.name.now in
    let a = c.args.array.now in
    let b = c.in_ok-value.value in
    let after = c.in_ok-value.ensures.after loose in
    let over = value_axes old new axes a b after in
    let short = c.are_short.ensures.each c.if-not-are_short.false in
    let stay = subst (AllByRecursion (Stays axes)) c.requires.rest (c.axes_stay.ensures c.if-not-axes_stay.false) in
    let named = subst (AllByRecursion (λ (x : Axis). among (axis_names axes) x.name ≡ true)) c.as_slice.ensures (c.are_named.ensures c.if-not-are_named.false) in
    let is = c.in_ok-placed.ensures.is in
    record {
      is = ap (dataset_in new) is ∙ set_is old new c.in_ok-value.ensures.grows s c.requires.set axes loose short name a b after.inside over stay named called ∙ ap (with_put axes (dataset_in old s) name) after.is;
      inside = λ few. subst (IsDatasetIn new) (sym is) (set_inside old new c.in_ok-value.ensures.grows s c.requires.set axes loose short name a b after.inside over stay named called (set_distinct old s c.requires.set) (subst (λ (t : Dataset). AllByRecursion (IsApart axes t.coords) t.vars) is c.in_ok-placed.ensures.apart) (subst (λ (t : Dataset). length t.coords + length t.vars ≤ most_variables) is few));
    }
