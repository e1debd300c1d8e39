use Rattle.std.proofs.Common.{Ok, ◌∙◌, ap, sym}
use Rattle.xr_syntax.specs.Syntax.{tree_of}
use Rattle.xr_runs.specs.Runs.{with_name}
use Rattle.xr_values.specs.Meaning.{meaning}
use Rattle.xr_run.specs.Named.{names_of}
use Rattle.xr_run.specs.Steps.{at}
use Rattle.xr_run.proofs.NamesKept.{names_kept, stay_names}
use Rattle.xr_run.proofs.Placing.{placed_done, placed_stops}
use Rattle.xr_run.proofs.step.place.Goals as goal

pub placed_value-requires-clause-names : goal.placed_value-requires-clause-names
placed_value-requires-clause-names g c = stay_names c.args.cx.now.plan _ c.args.names.now c.in-Ok.ensures.grows c.requires.inside

pub returns-in-Ok-placed_value-clause-effect : goal.returns-in-Ok-placed_value-clause-effect
returns-in-Ok-placed_value-clause-effect g c = λ s text.
    let first = c.in-Ok.ensures in
    let start = c.args.cx.now.plan in
    let mid = c.eval.new.cx.plan in
    let new = c.placed_value.new.plan in
    let files = g.S.Store.held c.args.store.now in
    placed_done (names_of start c.args.names.now) (names_of mid c.args.names.now) files c.args.name.now c.args.variable.now (tree_of c.args.expr.now) (meaning mid c.in-Ok.value) (first.value s) (names_kept start mid c.args.names.now first.grows c.requires.inside) text
    (meaning new c.in-Ok-placed_value.set) c.in-Ok-placed_value.ensures.value
    ∙ ap (λ n. Ok (with_name (at (names_of start c.args.names.now) files text) n (meaning new c.in-Ok-placed_value.set))) (sym c.in_ok-deep_copy-in-Ok-placed_value.ensures)

pub returns-in-Ok-clause-effect : goal.returns-in-Ok-clause-effect
returns-in-Ok-clause-effect g c = λ s.
    let first = c.in-Ok.ensures in
    let start = c.args.cx.now.plan in
    let mid = c.eval.new.cx.plan in
    placed_stops c.placed_value.new.plan (names_of start c.args.names.now) (names_of mid c.args.names.now) (g.S.Store.held c.args.store.now) c.args.name.now c.args.variable.now (tree_of c.args.expr.now) (meaning mid c.in-Ok.value) (first.value s)
    (names_kept start mid c.args.names.now first.grows c.requires.inside) c.in-Err-placed_value.stopped c.in-Err-placed_value.ensures.value
