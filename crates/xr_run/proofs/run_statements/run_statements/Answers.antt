use Rattle.std.proofs.Common.{◌≡◌, ◌+◌, ◌∙◌, subst, sym, refl, Bool, rules, arith}
use Rattle.std.specs.Prelude.{IsTrue}
use Rattle.xr_run.proofs.Stepped.{left_broken, left_so_far, leads_none, leads_more, leads_same, leads_stopped, leads_all, keeps_more, tallied_stopped}
use Rattle.xr_run.proofs.run_statements.run_statements.Goals as goal

pub loop-i-init : goal.loop-i-init
loop-i-init g c = record {
  store_tells = refl;
  out_tells = refl;
  store_faults = refl;
  out_faults = refl;
  inside = c.new-names.ensures.inside _;
  leads = λ s. leads_none _ _ _ _ _ (c.new-names.ensures.none _);
}

pub returns-in-Err-clause-ends : goal.returns-in-Err-clause-ends
returns-in-Err-clause-ends g c = λ s.
    let told = subst (λ (b : Bool). IsTrue b) (sym c.loop-i.invariant.store_tells) s in
    let number : c.in-Ok.number ≡ c.loop-i.i + 1 = search (rules, arith) in
    rw c.status_of.ensures
    (leads_stopped c.args.statements.now _ _ (g.O.Sink.tells c.loop-i.out) _ c.loop-i.i c.in-Ok.number _ _ _ _ _ _ c.index-statements-i.result c.in-Err.stopped (c.loop-i.invariant.leads s) c.loop-i-test.true c.index-statements-i.is number (c.in-Err.ensures.step told))

pub returns-in-Err-clause-keeps : goal.returns-in-Err-clause-keeps
returns-in-Err-clause-keeps g c = λ s.
    let told = subst (λ (b : Bool). IsTrue b) (sym c.loop-i.invariant.store_tells) s in
    keeps_more c.args.statements.now _ _ _ c.loop-i.i _ _ _ _ c.index-statements-i.result (c.loop-i.invariant.leads s) c.loop-i-test.true c.index-statements-i.is (c.step.ensures.keeps told)

pub returns-in-Err-clause-tallied : goal.returns-in-Err-clause-tallied
returns-in-Err-clause-tallied g c =
    rw c.status_of.ensures (tallied_stopped _ _ _ _ _ _ c.in-Ok.number c.in-Err.stopped c.loop-i.invariant.store_faults c.loop-i.invariant.out_faults c.in-Err.ensures.tallied)

pub loop-i-preserved : goal.loop-i-preserved
loop-i-preserved g c = record {
  store_tells = c.step.ensures.store_tells ∙ c.loop-i.invariant.store_tells;
  out_tells = c.step.ensures.out_tells ∙ c.loop-i.invariant.out_tells;
  store_faults = c.in-Ok-step.ensures.tallied.0 ∙ c.loop-i.invariant.store_faults;
  out_faults = c.in-Ok-step.ensures.tallied.1 ∙ c.loop-i.invariant.out_faults;
  inside = c.forget_others.ensures.inside;
  leads = λ s.
      let told = subst (λ (b : Bool). IsTrue b) (sym c.loop-i.invariant.store_tells) s in
      leads_same c.args.statements.now _ _ _ (c.loop-i.i + 1) _ _ _ _
      (leads_more c.args.statements.now _ _ _ _ c.loop-i.i _ _ _ _ _ _ c.index-statements-i.result (c.loop-i.invariant.leads s) c.loop-i-test.true c.index-statements-i.is c.loop-i.invariant.out_tells (c.step.ensures.keeps told) (c.in-Ok-step.ensures.step told))
      c.forget_others.ensures.same;
}

pub returns-clause-ends : goal.returns-clause-ends
returns-clause-ends g c = λ s. leads_all c.args.statements.now _ _ _ c.loop-i.i _ _ _ (c.loop-i.invariant.leads s) c.loop-i-test.false

pub returns-clause-keeps : goal.returns-clause-keeps
returns-clause-keeps g c = λ s. (c.loop-i.invariant.leads s).keeps

pub returns-in-Err-clause-left : goal.returns-in-Err-clause-left
returns-in-Err-clause-left g c = λ s.
    let told = subst (λ (b : Bool). IsTrue b) (sym c.loop-i.invariant.store_tells) s in
    left_broken c.args.statements.now _ _ _ _ c.loop-i.i _ _ _ _ _ c.index-statements-i.result c.in-Err.stopped (c.loop-i.invariant.leads s) c.loop-i-test.true c.index-statements-i.is c.loop-i.invariant.out_tells (c.in-Err.ensures.broken told)

pub returns-clause-left : goal.returns-clause-left
returns-clause-left g c = λ s. left_so_far c.args.statements.now _ _ _ c.loop-i.i _ _ _ (c.loop-i.invariant.leads s)
