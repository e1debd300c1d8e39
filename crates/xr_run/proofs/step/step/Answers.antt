use Rattle.std.proofs.Common.{Bool, refl, sym, subst}
use Rattle.std.specs.Prelude.{IsTrue}
use Rattle.xr_syntax.specs.Syntax.{line_of}
use Rattle.xr_run.specs.Named.{names_of}
use Rattle.xr_run.proofs.Broken.{broken_off, part_none}
use Rattle.xr_run.proofs.Carried.{kept_by, performed, unperformed}
use Rattle.xr_run.proofs.NamesKept.{names_kept, stay_names}
use Rattle.xr_run.proofs.step.step.Goals as goal

pub returns-in-Ok-clause-step : goal.returns-in-Ok-clause-step
returns-in-Ok-clause-step g c = λ s.
    let e = c.in-Ok.ensures in
    let told = subst (λ (b : Bool). IsTrue b) (sym e.tells) s in
    let start = c.args.cx.now.plan in
    let mid = c.effect_of.new.cx.plan in
    performed mid (line_of c.args.statement.now) c.in-Ok.effect (names_of start c.args.names.now) (names_of mid c.args.names.now) (names_of mid c.perform.new.names)
    (g.S.Store.held c.args.store.now) (g.S.Store.held c.effect_of.new.store) (g.S.Store.held c.perform.new.store) (g.O.Sink.tells c.args.out.now) (g.O.Sink.taken c.args.out.now) (g.O.Sink.taken c.perform.new.out)
    _ _ _ _ c.perform.result (names_kept start mid c.args.names.now e.grows c.requires.inside) (e.keeps s) (e.effect s) (c.perform.ensures.performs mid told) c.perform.ensures.tallied

pub returns-in-Ok-clause-inside : goal.returns-in-Ok-clause-inside
returns-in-Ok-clause-inside g c =
    let e = c.in-Ok.ensures in
    let start = c.args.cx.now.plan in
    let mid = c.effect_of.new.cx.plan in
    c.perform.ensures.inside mid (stay_names start mid c.args.names.now e.grows c.requires.inside) e.inside

pub returns-in-Ok-clause-keeps : goal.returns-in-Ok-clause-keeps
returns-in-Ok-clause-keeps g c = λ s.
    let e = c.in-Ok.ensures in
    let told = subst (λ (b : Bool). IsTrue b) (sym e.tells) s in
    kept_by (line_of c.args.statement.now) c.in-Ok.effect (names_of c.args.cx.now.plan c.args.names.now)
    (g.S.Store.held c.args.store.now) (g.S.Store.held c.effect_of.new.store) (g.S.Store.held c.perform.new.store) (e.keeps s) (e.fits s) (c.perform.ensures.keeps told)

pub returns-in-Err-clause-step : goal.returns-in-Err-clause-step
returns-in-Err-clause-step g c = λ s.
    let e = c.in-Err.ensures in
    let start = c.args.cx.now.plan in
    let mid = c.effect_of.new.cx.plan in
    unperformed mid (line_of c.args.statement.now) (names_of start c.args.names.now) (names_of mid c.args.names.now) (g.S.Store.held c.args.store.now) (g.S.Store.held c.effect_of.new.store)
    (g.O.Sink.tells c.args.out.now) (g.O.Sink.taken c.args.out.now) c.in-Err.stopped (names_kept start mid c.args.names.now e.grows c.requires.inside) (e.keeps s) (e.effect s)

pub returns-in-Err-clause-inside : goal.returns-in-Err-clause-inside
returns-in-Err-clause-inside g c = stay_names c.args.cx.now.plan c.effect_of.new.cx.plan c.args.names.now c.in-Err.ensures.grows c.requires.inside

pub returns-in-Ok-clause-broken : goal.returns-in-Ok-clause-broken
returns-in-Ok-clause-broken g c = λ s.
    let e = c.in-Ok.ensures in
    let told = subst (λ (b : Bool). IsTrue b) (sym e.tells) s in
    broken_off c.effect_of.new.cx.plan (line_of c.args.statement.now) c.in-Ok.effect (names_of c.args.cx.now.plan c.args.names.now)
    (g.S.Store.held c.args.store.now) (g.S.Store.held c.effect_of.new.store) (g.S.Store.held c.perform.new.store) (g.O.Sink.tells c.args.out.now) (g.O.Sink.taken c.args.out.now) (g.O.Sink.taken c.perform.new.out)
    c.perform.result (e.keeps s) (e.effect s) (e.fits s) (c.perform.ensures.broken told)

pub returns-in-Err-clause-broken : goal.returns-in-Err-clause-broken
returns-in-Err-clause-broken g c = λ s. part_none (line_of c.args.statement.now) (names_of c.args.cx.now.plan c.args.names.now) _ _ _ _ _ (c.in-Err.ensures.keeps s) refl
