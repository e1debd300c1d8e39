use Rattle.xr_aligning.proofs.Common.{AllByRecursion, AreFitted, ArePut, Arrive, Bor, Fit, IsCoordinate, IsThere, IsVarHere, List, Variable, [], ap, fit_of, joined_in, list_all, map, most_cells, nat_le, sizes, subst, sym, ◌∙◌, ◌≡◌}
use Rattle.xr_aligning.proofs.Holes.{own_there}
use Rattle.xr_aligning.proofs.Given.{set_frame}
use Rattle.xr_aligning.proofs.SetsAfter.{set_after, vars_of}
use Rattle.xr_aligning.proofs.sets.set_after.Goals as goal

pub put_vars-requires : goal.put_vars-requires
put_vars-requires c =
    let change = c.args.change.now in
    record { change = c.requires.change; vars = subst (λ vs. AllByRecursion (IsVarHere c.args.plan.now change.own.now) vs) (sym c.as_slice-3.ensures.variables) (subst (λ own. AllByRecursion (IsVarHere c.args.plan.now own) c.args.set.now.vars) (sym c.requires.own) (vars_of c.args.plan.now c.args.set.now c.requires.set)) }

pub returns-clause-after : goal.returns-clause-after
returns-clause-after c = λ loose keep.
    let change = c.args.change.now in
    let joined = change.joined.now in
    let s = c.args.set.now in
    let there : AllByRecursion (IsThere change.own.now) s.axes = own_there change.own.now s.axes s.coords c.requires.own (set_frame c.args.plan.now s c.requires.set) in
    let fits : map (λ (f : Bor Fit). f.now) c.as_slice.result.now ≡ map (fit_of joined) s.axes =
    ap (map (λ (f : Bor Fit). f.now)) c.as_slice.ensures ∙ c.in_ok-fits.ensures (subst (AllByRecursion (IsThere change.own.now)) (sym c.as_slice-own.ensures) there) ∙ ap (map (fit_of joined)) c.as_slice-own.ensures in
    let arrive : Arrive joined s.axes = subst (Arrive joined) c.requires.own c.requires.change.arrive in
    let coords : AreFitted joined change.fill s.axes [] s.coords c.in_ok-coords.coords =
    subst (λ own. AreFitted joined change.fill own [] s.coords c.in_ok-coords.coords) c.requires.own
    (subst (λ cs. AreFitted joined change.fill change.own.now [] cs c.in_ok-coords.coords) c.as_slice-2.ensures
    (c.in_ok-coords.ensures (subst (λ cs. AllByRecursion (IsCoordinate change.own.now) cs) (sym c.as_slice-2.ensures) (subst (λ own. AllByRecursion (IsCoordinate own) s.coords) (sym c.requires.own) c.requires.set.formed.coords)))) in
    let put : ArePut c.args.plan.now c.put_vars.new.plan joined s.axes change.fill [] s.vars c.put_vars.new.out =
    subst (λ own. ArePut c.args.plan.now c.put_vars.new.plan joined own change.fill [] s.vars c.put_vars.new.out) c.requires.own
    (subst (λ vs. ArePut c.args.plan.now c.put_vars.new.plan joined change.own.now change.fill [] vs c.put_vars.new.out) c.as_slice-3.ensures.variables
    (subst (λ (before : List Variable). ArePut c.args.plan.now c.put_vars.new.plan joined change.own.now change.fill before c.as_slice-3.result.now c.put_vars.new.out) c.new-vars.ensures c.in_ok-put_vars.ensures.put)) in
    set_after c.args.plan.now c.put_vars.new.plan joined change.fill s c.requires.set loose arrive keep
    (ap (λ (fs : List Fit). list_all (λ n. nat_le n most_cells) (sizes fs)) (sym fits) ∙ sym c.are_short.ensures ∙ c.if-not-are_short.false)
    c.put_vars.new.out put _ _ _ _
    (c.in_ok-axes.ensures ∙ ap (map (joined_in joined)) c.as_slice-own.ensures) coords c.in_ok-attrs.ensures c.in_ok-skipped.ensures
