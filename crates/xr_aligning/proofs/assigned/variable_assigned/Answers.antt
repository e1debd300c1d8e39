use Rattle.xr_aligning.proofs.Common.{AreLoose, Err, IsPlaced, ap, err_from_is_err_and, is_name, length, named_text, ne_eqb, subst, sym, true, ◌==◌, ◌∙◌, ◌≡◌}
use Rattle.xr_aligning.proofs.Checked.{call_done, call_fails, call_large, unnamed}
use Rattle.xr_aligning.proofs.assigned.variable_assigned.Goals as goal

pub returns-then-as_str-eq0-clause-answers : goal.returns-then-as_str-eq0-clause-answers
returns-then-as_str-eq0-clause-answers c = unnamed c.args.plan.now c.args.set.now c.args.name.now c.args.array.now (ap (λ t. length t == 0) (sym c.as_str.ensures) ∙ ap (λ n. n == 0) c.if-as_str-eq0.true)

pub returns-in_err-axes-clause-answers : goal.returns-in_err-axes-clause-answers
returns-in_err-axes-clause-answers c =
    call_fails c.args.plan.now c.args.set.now c.args.name.now c.args.array.now (ap (λ t. length t == 0) (sym c.as_str.ensures) ∙ ne_eqb (length c.as_str.result.now) 0 c.if-as_str-eq0.false) c.args.plan.now c.from_residual-in_err-axes.result c.in_err-axes.field-0.0
    (let p = err_from_is_err_and c.from_residual-in_err-axes.result c.from_residual-in_err-axes.ensures.1 in p.1 ∙ ap Err p.2) (c.in_err-axes.ensures.axes c.args.plan.now)

pub returns-then-not-is_set_within-clause-answers : goal.returns-then-not-is_set_within-clause-answers
returns-then-not-is_set_within-clause-answers c =
    let old = c.args.plan.now in
    let s = c.args.set.now in
    let name = c.args.name.now in
    let a = c.args.array.now in
    let e = ap (λ t. length t == 0) (sym c.as_str.ensures) ∙ ne_eqb (length c.as_str.result.now) 0 c.if-as_str-eq0.false in
    let loose = subst AreLoose (sym c.as_slice.ensures) (c.in_ok-axes.ensures.loose old c.requires.set c.requires.array) in
    let placed = subst (λ axes. IsPlaced old c.placed.new.plan axes s name a c.in_ok-made.made) c.as_slice.ensures (c.in_ok-made.ensures.placed loose (subst (λ t. is_name t ≡ true) c.as_str.ensures (named_text c.as_str.result.now c.as_str.utf8 c.if-as_str-eq0.false))) in
    call_large old s name a e c.placed.new.plan c.in_ok-axes.axes c.in_ok-made.made (c.in_ok-axes.ensures.axes old) placed (sym c.is_set_within.ensures ∙ c.if-not-is_set_within.true)

pub returns-clause-answers : goal.returns-clause-answers
returns-clause-answers c =
    let old = c.args.plan.now in
    let s = c.args.set.now in
    let name = c.args.name.now in
    let a = c.args.array.now in
    let e = ap (λ t. length t == 0) (sym c.as_str.ensures) ∙ ne_eqb (length c.as_str.result.now) 0 c.if-as_str-eq0.false in
    let loose = subst AreLoose (sym c.as_slice.ensures) (c.in_ok-axes.ensures.loose old c.requires.set c.requires.array) in
    let placed = subst (λ axes. IsPlaced old c.placed.new.plan axes s name a c.in_ok-made.made) c.as_slice.ensures (c.in_ok-made.ensures.placed loose (subst (λ t. is_name t ≡ true) c.as_str.ensures (named_text c.as_str.result.now c.as_str.utf8 c.if-as_str-eq0.false))) in
    call_done old s name a e c.placed.new.plan c.in_ok-axes.axes c.in_ok-made.made (c.in_ok-axes.ensures.axes old) placed (sym c.is_set_within.ensures ∙ c.if-not-is_set_within.false)
