use Rattle.std.proofs.Common.{Bool, sym, subst}
use Rattle.std.specs.Prelude.{IsTrue, codes}
use Rattle.xr_syntax.specs.Syntax.{tree_of, all_arguments}
use Rattle.xr_values.specs.Meaning.{meaning, given}
use Rattle.xr_values.proofs.Meaning.{meaning_kept, stays_value}
use Rattle.xr_run.specs.Named.{names_of}
use Rattle.xr_run.proofs.Carried.{put_file, unargued, unwritten, wrote_file}
use Rattle.xr_run.proofs.NamesKept.{names_kept, stay_names}
use Rattle.xr_run.proofs.step.write.Goals as goal

pub eval_arguments-requires-clause-inside : goal.eval_arguments-requires-clause-inside
eval_arguments-requires-clause-inside g c = λ κs live. stay_names c.args.cx.now.plan _ c.args.names.now c.in-Ok.ensures.grows c.requires.inside

pub written-requires-clause-inside : goal.written-requires-clause-inside
written-requires-clause-inside g c = λ κs live. stays_value _ _ c.in-Ok.value c.in-Ok-eval_arguments.ensures.grows c.in-Ok.ensures.inside

pub returns-in-Ok-written-clause-effect : goal.returns-in-Ok-written-clause-effect
returns-in-Ok-written-clause-effect g c = λ s.
    let first = c.in-Ok.ensures in
    let second = c.in-Ok-eval_arguments.ensures in
    let told = subst (λ (b : Bool). IsTrue b) (sym first.tells) s in
    let start = c.args.cx.now.plan in
    let mid = c.eval.new.cx.plan in
    let later = c.eval_arguments.new.cx.plan in
    wrote_file c.written.new.cx.plan (names_of start c.args.names.now) (names_of mid c.args.names.now) (g.S.Store.held c.args.store.now) (g.S.Store.held c.eval.new.store)
    (tree_of c.args.receiver.now) (codes "to_netcdf") (all_arguments c.args.arguments.now) (meaning mid c.in-Ok.value) (meaning later c.in-Ok.value)
    (first.value s) (names_kept start mid c.args.names.now first.grows c.requires.inside) (first.keeps s)
    (given later c.in-Ok-eval_arguments.args) (second.value told) (meaning_kept mid later c.in-Ok.value second.grows first.inside)
    c.in-Ok-written.name c.in-Ok-written.pieces c.in-Ok-written.ensures.put

pub returns-in-Ok-written-clause-fits : goal.returns-in-Ok-written-clause-fits
returns-in-Ok-written-clause-fits g c = λ s.
    let first = c.in-Ok.ensures in
    let second = c.in-Ok-eval_arguments.ensures in
    let told = subst (λ (b : Bool). IsTrue b) (sym first.tells) s in
    let start = c.args.cx.now.plan in
    let mid = c.eval.new.cx.plan in
    let later = c.eval_arguments.new.cx.plan in
    put_file c.written.new.cx.plan (names_of start c.args.names.now) (names_of mid c.args.names.now) (g.S.Store.held c.args.store.now) (g.S.Store.held c.eval.new.store)
    (tree_of c.args.receiver.now) (codes "to_netcdf") (all_arguments c.args.arguments.now) (meaning mid c.in-Ok.value) (meaning later c.in-Ok.value)
    (first.value s) (names_kept start mid c.args.names.now first.grows c.requires.inside) (first.keeps s)
    (given later c.in-Ok-eval_arguments.args) (second.value told) (meaning_kept mid later c.in-Ok.value second.grows first.inside)
    c.in-Ok-written.name c.in-Ok-written.pieces c.in-Ok-written.ensures.put

pub returns-in-Ok-eval_arguments-clause-effect : goal.returns-in-Ok-eval_arguments-clause-effect
returns-in-Ok-eval_arguments-clause-effect g c = λ s.
    let first = c.in-Ok.ensures in
    let second = c.in-Ok-eval_arguments.ensures in
    let told = subst (λ (b : Bool). IsTrue b) (sym first.tells) s in
    let start = c.args.cx.now.plan in
    let mid = c.eval.new.cx.plan in
    let later = c.eval_arguments.new.cx.plan in
    unwritten c.written.new.cx.plan (names_of start c.args.names.now) (names_of mid c.args.names.now) (g.S.Store.held c.args.store.now) (g.S.Store.held c.eval.new.store)
    (tree_of c.args.receiver.now) (codes "to_netcdf") (all_arguments c.args.arguments.now) (meaning mid c.in-Ok.value) (meaning later c.in-Ok.value)
    (first.value s) (names_kept start mid c.args.names.now first.grows c.requires.inside) (first.keeps s)
    (given later c.in-Ok-eval_arguments.args) (second.value told) (meaning_kept mid later c.in-Ok.value second.grows first.inside)
    c.in-Err-written.stopped c.in-Err-written.ensures.put

pub returns-in-Ok-clause-effect : goal.returns-in-Ok-clause-effect
returns-in-Ok-clause-effect g c = λ s.
    let first = c.in-Ok.ensures in
    let told = subst (λ (b : Bool). IsTrue b) (sym first.tells) s in
    let start = c.args.cx.now.plan in
    let mid = c.eval.new.cx.plan in
    let later = c.eval_arguments.new.cx.plan in
    unargued later (names_of start c.args.names.now) (names_of mid c.args.names.now) (g.S.Store.held c.args.store.now) (g.S.Store.held c.eval.new.store)
    (tree_of c.args.receiver.now) (codes "to_netcdf") (all_arguments c.args.arguments.now) (meaning mid c.in-Ok.value) (meaning mid c.in-Ok.value)
    (first.value s) (names_kept start mid c.args.names.now first.grows c.requires.inside) (first.keeps s)
    (given later) c.in-Err-eval_arguments.stopped (c.in-Err-eval_arguments.ensures.value told)
