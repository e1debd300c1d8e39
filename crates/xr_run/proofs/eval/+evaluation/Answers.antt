use mir.Syntax.{w128}
use mir.Val.{SFits}
use Rattle.std.proofs.Common.{Bool, List, All, ap, sym, refl, subst, ◌∙◌, Err, rules}
use Rattle.std.specs.Prelude.{IsTrue, Vec}
use Rattle.std.specs.declared.alloc.Global.{Global}
use Rattle.std.proofs.lemmas.Int.{to_z-of_z}
use Rattle.std.proofs.lemmas.List.Elements.{All-nil}
use Rattle.xr_types.specs.declared.text.TextBytes.{TextBytes}
use Rattle.xr_arrays.specs.declared.node.Node.{Node}
use Rattle.xr_types.specs.Results.{◌>>=◌}
use Rattle.xr_defs.specs.Meanings.{Values, Entries, With, Entry}
use Rattle.xr_operations.specs.Arithmetic.{binary_called}
use Rattle.xr_syntax.specs.Syntax.{tree_of, all_arguments, all_trees, all_entries}
use Rattle.xr_runs.specs.Evaluation.{value_of, given_of, values_of, entries_of}
use Rattle.plan_core.proofs.Plans.{grows_by_none, grows_on}
use Rattle.xr_values.specs.declared.value.Value.{Value}
use Rattle.xr_values.proofs.Meaning.{no_values, no_entries, meaning_kept, stays_value, given_kept, stay_args, stay_values}
use Rattle.xr_values.specs.Meaning.{meaning, given, IsValueIn, IsEntryIn}
use Rattle.xr_values.specs.Meaning.{all_values as values_meant}
use Rattle.xr_values.specs.Meaning.{all_entries as entries_meant}
use Rattle.xr_run.specs.Named.{names_of}
use Rattle.xr_run.specs.Answers.{GivesOrFails}
use Rattle.xr_run.specs.Arguments.{and_argument, given_rest, values_rest, entries_rest}
use Rattle.xr_run.proofs.Lists.{given_is, values_are, entries_are}
use Rattle.xr_run.proofs.Layers.{name_tree, number_tree, text_tree, constant_tree, unary_tree, index_tree, binary_tree, call_tree, method_tree, items_tree, table_tree}
use Rattle.xr_run.proofs.ValuesKept.{values_kept, entries_kept, stay_entries}
use Rattle.xr_run.proofs.NamesKept.{names_kept, stay_names}
use Rattle.xr_run.proofs.Forms.{name_from, number_from, text_from, constant_from, unary_fails, unary_from, index_from, index_fails, receiver_fails}
use Rattle.xr_run.proofs.Forms.{no_fault, operand_fails, binary_last, binary_rest, call_from, call_fails, method_from, method_fails, items_from, items_fail, table_from, table_fails}
use Rattle.xr_run.proofs.Forms.{given_more, given_stops, given_ends, values_more, values_stop, values_end, entries_more, entries_stop, entries_end}
use Rattle.xr_run.proofs.eval.+evaluation.Goals as goal

abbrev values_in : List Node → Vec Value Global → Values
values_in nodes v = values_meant nodes v.items

abbrev entries_in : List Node → Vec (TextBytes × Value) Global → Entries
entries_in nodes v = entries_meant nodes v.items

pub eval-returns-in-Name-clause-value : goal.eval-returns-in-Name-clause-value
eval-returns-in-Name-clause-value g t c = λ s.
    let start = c.args.cx.now.plan in
    name_from (meaning start) (names_of c.args.cx.now.plan c.args.names.now) (g.S.Store.held c.args.store.now) (tree_of c.args.expr.now) c.in-Name.name c.value_named.result (name_tree _ _ c.in-Name.is) (c.value_named.ensures.value start)

pub eval-returns-in-Number-clause-value : goal.eval-returns-in-Number-clause-value
eval-returns-in-Number-clause-value g t c = λ s.
    let start = c.args.cx.now.plan in
    let fits : SFits w128 c.in-Number.n = search rules in
    let means = simp to_z-of_z at (c.number_value.ensures.value start) in
    number_from (names_of c.args.cx.now.plan c.args.names.now) (g.S.Store.held c.args.store.now) (tree_of c.args.expr.now) c.in-Number.n (meaning start c.number_value.result) (number_tree _ _ c.in-Number.is) means

pub eval-returns-in-Text-clause-value : goal.eval-returns-in-Text-clause-value
eval-returns-in-Text-clause-value g t c = λ s.
    let start = c.args.cx.now.plan in
    text_from (names_of c.args.cx.now.plan c.args.names.now) (g.S.Store.held c.args.store.now) (tree_of c.args.expr.now) c.in-Text.text c.in_ok-deep_copy-in-Text.field-0 (meaning start c.text_value.result) (text_tree _ _ c.in-Text.is) c.in_ok-deep_copy-in-Text.ensures (c.text_value.ensures.value start)

pub eval-returns-in-Constant-clause-value : goal.eval-returns-in-Constant-clause-value
eval-returns-in-Constant-clause-value g t c = λ s.
    let start = c.args.cx.now.plan in
    constant_from (names_of c.args.cx.now.plan c.args.names.now) (g.S.Store.held c.args.store.now) (tree_of c.args.expr.now) c.in-Constant.c (meaning start c.constant_value.result) (constant_tree _ _ c.in-Constant.is) (c.constant_value.ensures.value start)

pub eval-returns-in-Ok-clause-value : goal.eval-returns-in-Ok-clause-value
eval-returns-in-Ok-clause-value g t c = λ s.
    let value = ap (λ x. value_of (names_of c.args.cx.now.plan c.args.names.now) (g.S.Store.held c.args.store.now) (tree_of x)) (sym c.deref.ensures) ∙ c.in-Ok.ensures.value s in
    unary_from (meaning c.unary_value.new.plan) (names_of c.args.cx.now.plan c.args.names.now) (g.S.Store.held c.args.store.now) (tree_of c.args.expr.now) _ c.in-Unary.op _ c.unary_value.result (unary_tree _ _ _ c.in-Unary.is) value c.unary_value.ensures.value

pub eval-returns-in-Unary-clause-value : goal.eval-returns-in-Unary-clause-value
eval-returns-in-Unary-clause-value g t c = λ s.
    let failed = c.in-Err.stopped in
    let later = c.eval.new.cx.plan in
    let h = subst (λ x. GivesOrFails (meaning later) (Err failed) (value_of (names_of c.args.cx.now.plan c.args.names.now) (g.S.Store.held c.args.store.now) (tree_of x))) c.deref.ensures (c.in-Err.ensures.value s) in
    unary_fails (meaning later) (meaning later) (names_of c.args.cx.now.plan c.args.names.now) (g.S.Store.held c.args.store.now) (tree_of c.args.expr.now) _ _ failed (unary_tree _ _ _ c.in-Unary.is) h

pub eval-returns-in-Method-clause-value : goal.eval-returns-in-Method-clause-value
eval-returns-in-Method-clause-value g t c = λ s.
    let failed = c.in-Err-eval-2.stopped in
    let later = c.eval-in-Method.new.cx.plan in
    let h = subst (λ x. GivesOrFails (meaning later) (Err failed) (value_of (names_of c.args.cx.now.plan c.args.names.now) (g.S.Store.held c.args.store.now) (tree_of x))) c.deref-in-Method.ensures (c.in-Err-eval-2.ensures.value s) in
    receiver_fails (meaning later) (meaning later) (names_of c.args.cx.now.plan c.args.names.now) (g.S.Store.held c.args.store.now) (tree_of c.args.expr.now) _ c.in-Method.name _ failed (method_tree _ _ _ _ c.in-Method.is) h

pub eval-returns-in-Ok-eval-3-clause-value : goal.eval-returns-in-Ok-eval-3-clause-value
eval-returns-in-Ok-eval-3-clause-value g t c = λ s.
    let value = ap (λ x. value_of (names_of c.args.cx.now.plan c.args.names.now) (g.S.Store.held c.args.store.now) (tree_of x)) (sym c.deref-in-Index.ensures) ∙ c.in-Ok-eval-3.ensures.value s in
    index_from (meaning c.picked_value.new.plan) (names_of c.args.cx.now.plan c.args.names.now) (g.S.Store.held c.args.store.now) (tree_of c.args.expr.now) _ c.in-Index.name _ c.picked_value.result (index_tree _ _ _ c.in-Index.is) value c.picked_value.ensures.value

pub eval-returns-in-Index-clause-value : goal.eval-returns-in-Index-clause-value
eval-returns-in-Index-clause-value g t c = λ s.
    let failed = c.in-Err-eval-3.stopped in
    let later = c.eval-in-Index.new.cx.plan in
    let h = subst (λ x. GivesOrFails (meaning later) (Err failed) (value_of (names_of c.args.cx.now.plan c.args.names.now) (g.S.Store.held c.args.store.now) (tree_of x))) c.deref-in-Index.ensures (c.in-Err-eval-3.ensures.value s) in
    index_fails (meaning later) (meaning later) (names_of c.args.cx.now.plan c.args.names.now) (g.S.Store.held c.args.store.now) (tree_of c.args.expr.now) _ c.in-Index.name failed (index_tree _ _ _ c.in-Index.is) h

pub eval-returns-in-Ok-eval_arguments-clause-value : goal.eval-returns-in-Ok-eval_arguments-clause-value
eval-returns-in-Ok-eval_arguments-clause-value g t c = λ s.
    let e = c.in-Ok-eval_arguments.ensures in
    let told = subst (λ (b : Bool). IsTrue b) (sym e.tells) s in
    let start = c.args.cx.now.plan in
    let has = ap (λ xs. given_of (names_of start c.args.names.now) (g.S.Store.held c.args.store.now) (all_arguments xs)) (sym c.as_slice.ensures.value) ∙ e.value s in
    call_from (meaning c.call_function.new.cx.plan) (names_of c.args.cx.now.plan c.args.names.now) (g.S.Store.held c.args.store.now) (g.S.Store.held c.eval_arguments.new.store) (tree_of c.args.expr.now) c.in-Call.name (all_arguments c.in-Call.arguments.items) (given c.eval_arguments.new.cx.plan c.in-Ok-eval_arguments.args) c.call_function.result (call_tree _ _ _ c.in-Call.is) has (e.keeps s) (c.call_function.ensures.value told)

pub eval-returns-in-Call-clause-value : goal.eval-returns-in-Call-clause-value
eval-returns-in-Call-clause-value g t c = λ s.
    let failed = c.in-Err-eval_arguments.stopped in
    let seen = given c.eval_arguments.new.cx.plan in
    let h = subst (λ xs. GivesOrFails seen (Err failed) (given_of (names_of c.args.cx.now.plan c.args.names.now) (g.S.Store.held c.args.store.now) (all_arguments xs))) c.as_slice.ensures.value (c.in-Err-eval_arguments.ensures.value s) in
    call_fails (meaning c.eval_arguments.new.cx.plan) seen (names_of c.args.cx.now.plan c.args.names.now) (g.S.Store.held c.args.store.now) (tree_of c.args.expr.now) c.in-Call.name (all_arguments c.in-Call.arguments.items) failed (call_tree _ _ _ c.in-Call.is) h

pub eval-returns-in-Ok-eval_arguments-2-clause-value : goal.eval-returns-in-Ok-eval_arguments-2-clause-value
eval-returns-in-Ok-eval_arguments-2-clause-value g t c = λ s.
    let first = c.in-Ok-eval-2.ensures in
    let second = c.in-Ok-eval_arguments-2.ensures in
    let told = subst (λ (b : Bool). IsTrue b) (sym first.tells) s in
    let start = c.args.cx.now.plan in
    let mid = c.eval-in-Method.new.cx.plan in
    let later = c.eval_arguments-in-Ok-eval-2.new.cx.plan in
    let value = ap (λ x. value_of (names_of start c.args.names.now) (g.S.Store.held c.args.store.now) (tree_of x)) (sym c.deref-in-Method.ensures) ∙ first.value s in
    let has = ap (λ xs. given_of (names_of mid c.args.names.now) (g.S.Store.held c.eval-in-Method.new.store) (all_arguments xs)) (sym c.as_slice-in-Ok-eval-2.ensures.value) ∙ second.value told in
    let same_names = names_kept start mid c.args.names.now first.grows c.requires.inside in
    let kept = meaning_kept mid later c.in-Ok-eval-2.value second.grows first.inside in
    method_from (meaning c.method_value.new.cx.plan) (names_of start c.args.names.now) (names_of mid c.args.names.now) (g.S.Store.held c.args.store.now) (g.S.Store.held c.eval-in-Method.new.store) (tree_of c.args.expr.now) (tree_of c.in-Method.receiver.value) c.in-Method.name (all_arguments c.in-Method.arguments.items) (meaning mid c.in-Ok-eval-2.value) (meaning later c.in-Ok-eval-2.value) (given later c.in-Ok-eval_arguments-2.args) c.method_value.result
    (method_tree _ _ _ _ c.in-Method.is) value same_names (first.keeps s) has kept c.method_value.ensures.value

pub eval-returns-in-Ok-eval-2-clause-value : goal.eval-returns-in-Ok-eval-2-clause-value
eval-returns-in-Ok-eval-2-clause-value g t c = λ s.
    let first = c.in-Ok-eval-2.ensures in
    let told = subst (λ (b : Bool). IsTrue b) (sym first.tells) s in
    let start = c.args.cx.now.plan in
    let mid = c.eval-in-Method.new.cx.plan in
    let later = c.eval_arguments-in-Ok-eval-2.new.cx.plan in
    let value = ap (λ x. value_of (names_of start c.args.names.now) (g.S.Store.held c.args.store.now) (tree_of x)) (sym c.deref-in-Method.ensures) ∙ first.value s in
    let failed = c.in-Err-eval_arguments-2.stopped in
    let h = subst (λ xs. GivesOrFails (given later) (Err failed) (given_of (names_of mid c.args.names.now) (g.S.Store.held c.eval-in-Method.new.store) (all_arguments xs))) c.as_slice-in-Ok-eval-2.ensures.value (c.in-Err-eval_arguments-2.ensures.value told) in
    method_fails (meaning later) (given later) (names_of start c.args.names.now) (names_of mid c.args.names.now) (g.S.Store.held c.args.store.now) (g.S.Store.held c.eval-in-Method.new.store) (tree_of c.args.expr.now) (tree_of c.in-Method.receiver.value) c.in-Method.name (all_arguments c.in-Method.arguments.items) (meaning mid c.in-Ok-eval-2.value) failed
    (method_tree _ _ _ _ c.in-Method.is) value (names_kept start mid c.args.names.now first.grows c.requires.inside) (first.keeps s) h

pub eval-returns-in-Ok-eval_items-clause-value : goal.eval-returns-in-Ok-eval_items-clause-value
eval-returns-in-Ok-eval_items-clause-value g t c = λ s.
    let later = c.eval_items.new.cx.plan in
    let has = ap (λ xs. values_of (names_of c.args.cx.now.plan c.args.names.now) (g.S.Store.held c.args.store.now) (all_trees xs)) (sym c.as_slice-in-List.ensures.value) ∙ c.in-Ok-eval_items.ensures.value s in
    items_from (names_of c.args.cx.now.plan c.args.names.now) (g.S.Store.held c.args.store.now) (tree_of c.args.expr.now) (all_trees c.in-List.items.items) (values_meant later c.in-Ok-eval_items.values.items) (meaning later c.list_value.result) (items_tree _ _ c.in-List.is) has (c.list_value.ensures.value later)

pub eval-returns-in-List-clause-value : goal.eval-returns-in-List-clause-value
eval-returns-in-List-clause-value g t c = λ s.
    let failed = c.in-Err-eval_items.stopped in
    let seen = values_in c.eval_items.new.cx.plan in
    let h = subst (λ xs. GivesOrFails seen (Err failed) (values_of (names_of c.args.cx.now.plan c.args.names.now) (g.S.Store.held c.args.store.now) (all_trees xs))) c.as_slice-in-List.ensures.value (c.in-Err-eval_items.ensures.value s) in
    items_fail (meaning c.eval_items.new.cx.plan) seen (names_of c.args.cx.now.plan c.args.names.now) (g.S.Store.held c.args.store.now) (tree_of c.args.expr.now) (all_trees c.in-List.items.items) failed (items_tree _ _ c.in-List.is) h

pub eval-returns-in-Ok-eval_entries-clause-value : goal.eval-returns-in-Ok-eval_entries-clause-value
eval-returns-in-Ok-eval_entries-clause-value g t c = λ s.
    let later = c.eval_entries.new.cx.plan in
    let has = ap (λ xs. entries_of (names_of c.args.cx.now.plan c.args.names.now) (g.S.Store.held c.args.store.now) (all_entries xs)) (sym c.as_slice-in-Table.ensures.value) ∙ c.in-Ok-eval_entries.ensures.value s in
    table_from (names_of c.args.cx.now.plan c.args.names.now) (g.S.Store.held c.args.store.now) (tree_of c.args.expr.now) (all_entries c.in-Table.entries.items) (entries_meant later c.in-Ok-eval_entries.values.items) (meaning later c.table_value.result) (table_tree _ _ c.in-Table.is) has (c.table_value.ensures.value later)

pub eval-returns-clause-value : goal.eval-returns-clause-value
eval-returns-clause-value g t c = λ s.
    let failed = c.in-Err-eval_entries.stopped in
    let seen = entries_in c.eval_entries.new.cx.plan in
    let h = subst (λ xs. GivesOrFails seen (Err failed) (entries_of (names_of c.args.cx.now.plan c.args.names.now) (g.S.Store.held c.args.store.now) (all_entries xs))) c.as_slice-in-Table.ensures.value (c.in-Err-eval_entries.ensures.value s) in
    table_fails (meaning c.eval_entries.new.cx.plan) seen (names_of c.args.cx.now.plan c.args.names.now) (g.S.Store.held c.args.store.now) (tree_of c.args.expr.now) (all_entries c.in-Table.entries.items) failed (table_tree _ _ c.in-Table.is) h

pub eval_arguments-loop-argument-init : goal.eval_arguments-loop-argument-init
eval_arguments-loop-argument-init g t c =
    let start = c.args.cx.now.plan in
    record {
      value = λ s.
          ap (λ y. given_rest (names_of start c.args.names.now) (g.S.Store.held c.args.store.now) y c.args.arguments.now) (c.new-args.ensures.means start) ∙ sym (given_is _ _ c.args.arguments.now);
      keeps = λ s. refl;
      tells = refl;
      faults = refl;
      grows = grows_by_none start;
      inside = c.new-args.ensures.inside start;
    }

pub eval_arguments-loop-argument-preserved : goal.eval_arguments-loop-argument-preserved
eval_arguments-loop-argument-preserved g t c =
    let before = c.loop-argument.invariant in
    let e = c.in-Ok.ensures in
    let added = c.in_ok-push_argument-in-Ok.ensures in
    let start = c.args.cx.now.plan in
    let mid = c.loop-argument.cx.plan in
    let later = c.eval.new.cx.plan in
    let kept = given_kept mid later c.loop-argument.args e.grows before.inside in
    record {
      value = λ s.
          let told = subst (λ (b : Bool). IsTrue b) (sym before.tells) s in
          given_more (names_of start c.args.names.now) (names_of mid c.args.names.now) (g.S.Store.held c.args.store.now) (g.S.Store.held c.loop-argument.store) (given mid c.loop-argument.args) _ c.args.arguments.now c.loop-argument.argument-index c.argument-item.result (meaning later c.in-Ok.value) (given_of (names_of start c.args.names.now) (g.S.Store.held c.args.store.now) (all_arguments c.args.arguments.now)) c.loop-argument-test.true c.argument-item.is (names_kept start mid c.args.names.now before.grows c.requires.inside) (before.keeps s) (e.value told) (added.value later ∙ ap (λ y. and_argument y c.argument-item.result.0 (meaning later c.in-Ok.value)) kept) (before.value s);
      keeps = λ s. e.keeps (subst (λ (b : Bool). IsTrue b) (sym before.tells) s) ∙ before.keeps s;
      tells = e.tells ∙ before.tells;
      faults = e.tallied ∙ before.faults;
      grows = grows_on start mid later before.grows e.grows;
      inside = added.inside later (stay_args mid later c.loop-argument.args e.grows before.inside) e.inside;
    }

pub eval_arguments-returns-in-Err-clause-value : goal.eval_arguments-returns-in-Err-clause-value
eval_arguments-returns-in-Err-clause-value g t c = λ s.
    let before = c.loop-argument.invariant in
    let told = subst (λ (b : Bool). IsTrue b) (sym before.tells) s in
    let start = c.args.cx.now.plan in
    let mid = c.loop-argument.cx.plan in
    let later = c.eval.new.cx.plan in
    given_stops (meaning later) (given later) (names_of start c.args.names.now) (names_of mid c.args.names.now) (g.S.Store.held c.args.store.now) (g.S.Store.held c.loop-argument.store) (given mid c.loop-argument.args) c.args.arguments.now c.loop-argument.argument-index c.argument-item.result c.in-Err.stopped (given_of (names_of start c.args.names.now) (g.S.Store.held c.args.store.now) (all_arguments c.args.arguments.now)) c.loop-argument-test.true c.argument-item.is (names_kept start mid c.args.names.now before.grows c.requires.inside) (before.keeps s) (c.in-Err.ensures.value told) (before.value s)

pub eval_arguments-returns-clause-value : goal.eval_arguments-returns-clause-value
eval_arguments-returns-clause-value g t c = λ s.
    given_ends (names_of c.args.cx.now.plan c.args.names.now) (g.S.Store.held c.args.store.now) (given c.loop-argument.cx.plan c.loop-argument.args) c.args.arguments.now c.loop-argument.argument-index (given_of (names_of c.args.cx.now.plan c.args.names.now) (g.S.Store.held c.args.store.now) (all_arguments c.args.arguments.now)) c.loop-argument-test.false (c.loop-argument.invariant.value s)

pub eval_items-loop-item-init : goal.eval_items-loop-item-init
eval_items-loop-item-init g t c =
    let start = c.args.cx.now.plan in
    record {
      value = λ s.
          ap (λ xs. values_rest (names_of start c.args.names.now) (g.S.Store.held c.args.store.now) (values_meant start xs) c.args.items.now) c.new-values.ensures.items
          ∙ ap (λ y. values_rest (names_of start c.args.names.now) (g.S.Store.held c.args.store.now) y c.args.items.now) (no_values start) ∙ sym (values_are _ _ c.args.items.now);
      keeps = λ s. refl;
      tells = refl;
      faults = refl;
      grows = grows_by_none start;
      inside = subst (λ xs. All (IsValueIn start) xs) (sym c.new-values.ensures.items) (All-nil (IsValueIn start));
    }

pub eval_items-loop-item-preserved : goal.eval_items-loop-item-preserved
eval_items-loop-item-preserved g t c =
    let before = c.loop-item.invariant in
    let e = c.in-Ok.ensures in
    let added = c.in_ok-push_item-in-Ok.ensures in
    let start = c.args.cx.now.plan in
    let mid = c.loop-item.cx.plan in
    let later = c.eval.new.cx.plan in
    let kept = values_kept mid later c.loop-item.values.items e.grows before.inside in
    record {
      value = λ s.
          let told = subst (λ (b : Bool). IsTrue b) (sym before.tells) s in
          values_more (names_of start c.args.names.now) (names_of mid c.args.names.now) (g.S.Store.held c.args.store.now) (g.S.Store.held c.loop-item.store) (values_meant mid c.loop-item.values.items) _ c.args.items.now c.loop-item.item-index c.item-item.result (meaning later c.in-Ok.value) (values_of (names_of start c.args.names.now) (g.S.Store.held c.args.store.now) (all_trees c.args.items.now)) c.loop-item-test.true c.item-item.is (names_kept start mid c.args.names.now before.grows c.requires.inside) (before.keeps s) (e.value told) (added.value later ∙ ap (λ y. With y (meaning later c.in-Ok.value)) kept) (before.value s);
      keeps = λ s. e.keeps (subst (λ (b : Bool). IsTrue b) (sym before.tells) s) ∙ before.keeps s;
      tells = e.tells ∙ before.tells;
      faults = e.tallied ∙ before.faults;
      grows = grows_on start mid later before.grows e.grows;
      inside = added.inside later (stay_values mid later c.loop-item.values.items e.grows before.inside) e.inside;
    }

pub eval_items-returns-in-Err-clause-value : goal.eval_items-returns-in-Err-clause-value
eval_items-returns-in-Err-clause-value g t c = λ s.
    let before = c.loop-item.invariant in
    let told = subst (λ (b : Bool). IsTrue b) (sym before.tells) s in
    let start = c.args.cx.now.plan in
    let mid = c.loop-item.cx.plan in
    let later = c.eval.new.cx.plan in
    values_stop (meaning later) (values_in later) (names_of start c.args.names.now) (names_of mid c.args.names.now) (g.S.Store.held c.args.store.now) (g.S.Store.held c.loop-item.store) (values_meant mid c.loop-item.values.items) c.args.items.now c.loop-item.item-index c.item-item.result c.in-Err.stopped (values_of (names_of start c.args.names.now) (g.S.Store.held c.args.store.now) (all_trees c.args.items.now)) c.loop-item-test.true c.item-item.is (names_kept start mid c.args.names.now before.grows c.requires.inside) (before.keeps s) (c.in-Err.ensures.value told) (before.value s)

pub eval_items-returns-clause-value : goal.eval_items-returns-clause-value
eval_items-returns-clause-value g t c = λ s.
    values_end (names_of c.args.cx.now.plan c.args.names.now) (g.S.Store.held c.args.store.now) (values_meant c.loop-item.cx.plan c.loop-item.values.items) c.args.items.now c.loop-item.item-index (values_of (names_of c.args.cx.now.plan c.args.names.now) (g.S.Store.held c.args.store.now) (all_trees c.args.items.now)) c.loop-item-test.false (c.loop-item.invariant.value s)

pub eval_entries-loop-entry-init : goal.eval_entries-loop-entry-init
eval_entries-loop-entry-init g t c =
    let start = c.args.cx.now.plan in
    record {
      value = λ s.
          ap (λ xs. entries_rest (names_of start c.args.names.now) (g.S.Store.held c.args.store.now) (entries_meant start xs) c.args.entries.now) c.new-values.ensures.items
          ∙ ap (λ y. entries_rest (names_of start c.args.names.now) (g.S.Store.held c.args.store.now) y c.args.entries.now) (no_entries start) ∙ sym (entries_are _ _ c.args.entries.now);
      keeps = λ s. refl;
      tells = refl;
      faults = refl;
      grows = grows_by_none start;
      inside = subst (λ xs. All (IsEntryIn start) xs) (sym c.new-values.ensures.items) (All-nil (IsEntryIn start));
    }

pub eval_entries-loop-entry-preserved : goal.eval_entries-loop-entry-preserved
eval_entries-loop-entry-preserved g t c =
    let before = c.loop-entry.invariant in
    let e = c.in-Ok.ensures in
    let added = c.in_ok-push_entry-in-Ok.ensures in
    let start = c.args.cx.now.plan in
    let mid = c.loop-entry.cx.plan in
    let later = c.eval.new.cx.plan in
    let kept = entries_kept mid later c.loop-entry.values.items e.grows before.inside in
    record {
      value = λ s.
          let told = subst (λ (b : Bool). IsTrue b) (sym before.tells) s in
          entries_more (names_of start c.args.names.now) (names_of mid c.args.names.now) (g.S.Store.held c.args.store.now) (g.S.Store.held c.loop-entry.store) (entries_meant mid c.loop-entry.values.items) _ c.args.entries.now c.loop-entry.entry-index c.entry-item.result (meaning later c.in-Ok.value) (entries_of (names_of start c.args.names.now) (g.S.Store.held c.args.store.now) (all_entries c.args.entries.now)) c.loop-entry-test.true c.entry-item.is (names_kept start mid c.args.names.now before.grows c.requires.inside) (before.keeps s) (e.value told) (added.value later ∙ ap (λ y. Entry y c.entry-item.result.0 (meaning later c.in-Ok.value)) kept) (before.value s);
      keeps = λ s. e.keeps (subst (λ (b : Bool). IsTrue b) (sym before.tells) s) ∙ before.keeps s;
      tells = e.tells ∙ before.tells;
      faults = e.tallied ∙ before.faults;
      grows = grows_on start mid later before.grows e.grows;
      inside = added.inside later (stay_entries mid later c.loop-entry.values.items e.grows before.inside) e.inside;
    }

pub eval_entries-returns-in-Err-clause-value : goal.eval_entries-returns-in-Err-clause-value
eval_entries-returns-in-Err-clause-value g t c = λ s.
    let before = c.loop-entry.invariant in
    let told = subst (λ (b : Bool). IsTrue b) (sym before.tells) s in
    let start = c.args.cx.now.plan in
    let mid = c.loop-entry.cx.plan in
    let later = c.eval.new.cx.plan in
    entries_stop (meaning later) (entries_in later) (names_of start c.args.names.now) (names_of mid c.args.names.now) (g.S.Store.held c.args.store.now) (g.S.Store.held c.loop-entry.store) (entries_meant mid c.loop-entry.values.items) c.args.entries.now c.loop-entry.entry-index c.entry-item.result c.in-Err.stopped (entries_of (names_of start c.args.names.now) (g.S.Store.held c.args.store.now) (all_entries c.args.entries.now)) c.loop-entry-test.true c.entry-item.is (names_kept start mid c.args.names.now before.grows c.requires.inside) (before.keeps s) (c.in-Err.ensures.value told) (before.value s)

pub eval_entries-returns-clause-value : goal.eval_entries-returns-clause-value
eval_entries-returns-clause-value g t c = λ s.
    entries_end (names_of c.args.cx.now.plan c.args.names.now) (g.S.Store.held c.args.store.now) (entries_meant c.loop-entry.cx.plan c.loop-entry.values.items) c.args.entries.now c.loop-entry.entry-index (entries_of (names_of c.args.cx.now.plan c.args.names.now) (g.S.Store.held c.args.store.now) (all_entries c.args.entries.now)) c.loop-entry-test.false (c.loop-entry.invariant.value s)

pub eval-returns-in-Name-clause-tallied : goal.eval-returns-in-Name-clause-tallied
eval-returns-in-Name-clause-tallied g t c = no_fault (meaning c.args.cx.now.plan) c.value_named.result _ _ (c.value_named.ensures.value c.args.cx.now.plan)

pub eval-eval_arguments-requires-in-Ok-eval-2-clause-inside : goal.eval-eval_arguments-requires-in-Ok-eval-2-clause-inside
eval-eval_arguments-requires-in-Ok-eval-2-clause-inside g t c = λ κs live. stay_names c.args.cx.now.plan _ c.args.names.now c.in-Ok-eval-2.ensures.grows c.requires.inside

pub eval-method_value-requires-clause-inside : goal.eval-method_value-requires-clause-inside
eval-method_value-requires-clause-inside g t c = λ κs live. stays_value _ _ c.in-Ok-eval-2.value c.in-Ok-eval_arguments-2.ensures.grows c.in-Ok-eval-2.ensures.inside

pub eval_arguments-eval-requires-clause-inside : goal.eval_arguments-eval-requires-clause-inside
eval_arguments-eval-requires-clause-inside g t c = λ κs live. stay_names c.args.cx.now.plan _ c.args.names.now c.loop-argument.invariant.grows c.requires.inside

pub eval_entries-eval-requires-clause-inside : goal.eval_entries-eval-requires-clause-inside
eval_entries-eval-requires-clause-inside g t c = λ κs live. stay_names c.args.cx.now.plan _ c.args.names.now c.loop-entry.invariant.grows c.requires.inside

pub eval_items-eval-requires-clause-inside : goal.eval_items-eval-requires-clause-inside
eval_items-eval-requires-clause-inside g t c = λ κs live. stay_names c.args.cx.now.plan _ c.args.names.now c.loop-item.invariant.grows c.requires.inside

pub eval-eval_right-requires-clause-inside : goal.eval-eval_right-requires-clause-inside
eval-eval_right-requires-clause-inside g t c = λ κs live. stay_names c.args.cx.now.plan _ c.args.names.now c.in-Ok-eval.ensures.grows c.requires.inside

pub eval-returns-in-Ok-eval-clause-value : goal.eval-returns-in-Ok-eval-clause-value
eval-returns-in-Ok-eval-clause-value g t c = λ s.
    let first = c.in-Ok-eval.ensures in
    let told = subst (λ (b : Bool). IsTrue b) (sym first.tells) s in
    let start = c.args.cx.now.plan in
    let mid = c.eval-in-Binary.new.cx.plan in
    let later = c.eval_right.new.cx.plan in
    let value = ap (λ x. value_of (names_of start c.args.names.now) (g.S.Store.held c.args.store.now) (tree_of x)) (sym c.deref-in-Binary.ensures) ∙ first.value s in
    let rest = subst (λ x. GivesOrFails (meaning later) c.eval_right.result (value_of (names_of mid c.args.names.now) (g.S.Store.held c.eval-in-Binary.new.store) (tree_of x) >>= λ w. binary_called c.in-Binary.op (meaning mid c.in-Ok-eval.left) w)) c.deref-in-Ok-eval.ensures (c.eval_right.ensures.value told) in
    binary_rest (meaning later) (names_of start c.args.names.now) (names_of mid c.args.names.now) (g.S.Store.held c.args.store.now) (g.S.Store.held c.eval-in-Binary.new.store) (tree_of c.args.expr.now) _ _ c.in-Binary.op (meaning mid c.in-Ok-eval.left) c.eval_right.result
    (binary_tree _ _ _ _ c.in-Binary.is) value (names_kept start mid c.args.names.now first.grows c.requires.inside) (first.keeps s) rest

pub eval-returns-in-Binary-clause-value : goal.eval-returns-in-Binary-clause-value
eval-returns-in-Binary-clause-value g t c = λ s.
    let failed = c.in-Err-eval.stopped in
    let later = c.eval-in-Binary.new.cx.plan in
    let h = subst (λ x. GivesOrFails (meaning later) (Err failed) (value_of (names_of c.args.cx.now.plan c.args.names.now) (g.S.Store.held c.args.store.now) (tree_of x))) c.deref-in-Binary.ensures (c.in-Err-eval.ensures.value s) in
    operand_fails (meaning later) (meaning later) (names_of c.args.cx.now.plan c.args.names.now) (g.S.Store.held c.args.store.now) (tree_of c.args.expr.now) _ _ _ failed (binary_tree _ _ _ _ c.in-Binary.is) h

pub eval_right-binary_value-requires-clause-left : goal.eval_right-binary_value-requires-clause-left
eval_right-binary_value-requires-clause-left g t c = stays_value _ _ c.args.left c.in-Ok.ensures.grows c.requires.left

pub eval_right-returns-in-Ok-clause-value : goal.eval_right-returns-in-Ok-clause-value
eval_right-returns-in-Ok-clause-value g t c = λ s.
    let start = c.args.cx.now.plan in
    let later = c.eval.new.cx.plan in
    binary_last (meaning c.binary_value.new.plan) (names_of start c.args.names.now) (g.S.Store.held c.args.store.now) (tree_of c.args.expr.now) c.args.op (meaning start c.args.left) (meaning later c.args.left) (meaning later c.in-Ok.right) c.binary_value.result
    (c.in-Ok.ensures.value s) (meaning_kept start later c.args.left c.in-Ok.ensures.grows c.requires.left) c.binary_value.ensures.value

-- what stands in the expression itself adds no node
pub eval-returns-in-Name-clause-grows : goal.eval-returns-in-Name-clause-grows
eval-returns-in-Name-clause-grows g t c = grows_by_none c.args.cx.now.plan

pub eval-returns-in-Number-clause-grows : goal.eval-returns-in-Number-clause-grows
eval-returns-in-Number-clause-grows g t c = grows_by_none c.args.cx.now.plan

pub eval-returns-in_err-deep_copy-in-Text-clause-grows : goal.eval-returns-in_err-deep_copy-in-Text-clause-grows
eval-returns-in_err-deep_copy-in-Text-clause-grows g t c = grows_by_none c.args.cx.now.plan

pub eval-returns-in-Text-clause-grows : goal.eval-returns-in-Text-clause-grows
eval-returns-in-Text-clause-grows g t c = grows_by_none c.args.cx.now.plan

pub eval-returns-in-Constant-clause-grows : goal.eval-returns-in-Constant-clause-grows
eval-returns-in-Constant-clause-grows g t c = grows_by_none c.args.cx.now.plan
