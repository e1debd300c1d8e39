use Rattle.std.proofs.Common.{◌≡◌, drop, All}
use Rattle.std.specs.Prelude.{IsTrue}
use Rattle.xr_syntax.specs.Syntax.{all_arguments, all_trees, all_entries}
use Rattle.xr_runs.specs.Evaluation.{given_of, values_of, entries_of}
use Rattle.plan_core.specs.Plans.{Grows}
use Rattle.xr_values.specs.Meaning.{given, IsValueIn, IsEntryIn, AreArgsIn}
use Rattle.xr_values.specs.Meaning.{all_values as values_meant}
use Rattle.xr_values.specs.Meaning.{all_entries as entries_meant}
use Rattle.xr_run.specs.Arguments.{given_rest, values_rest, entries_rest}
use Rattle.xr_run.specs.Named.{names_of}
use Rattle.xr_run.proofs.eval.+evaluation.Given as goal

abbrev pub invariant-eval_arguments-loop-argument : goal.invariant-eval_arguments-loop-argument
invariant-eval_arguments-loop-argument g l = record {
  value : IsTrue (g.S.Store.tells l.fn.store)
      → given_rest (names_of l.fn.cx.plan l.names) (g.S.Store.held l.fn.store) (given l.cx.plan l.args) (drop l.argument-index l.arguments)
      ≡ given_of (names_of l.fn.cx.plan l.names) (g.S.Store.held l.fn.store) (all_arguments l.arguments);
  keeps : IsTrue (g.S.Store.tells l.fn.store) → g.S.Store.held l.store ≡ g.S.Store.held l.fn.store;
  tells : g.S.Store.tells l.store ≡ g.S.Store.tells l.fn.store;
  faults : g.S.Store.faults l.store ≡ g.S.Store.faults l.fn.store;
  grows : Grows l.fn.cx.plan l.cx.plan;
  inside : AreArgsIn l.cx.plan l.args;
}

abbrev pub invariant-eval_entries-loop-entry : goal.invariant-eval_entries-loop-entry
invariant-eval_entries-loop-entry g l = record {
  value : IsTrue (g.S.Store.tells l.fn.store)
      → entries_rest (names_of l.fn.cx.plan l.names) (g.S.Store.held l.fn.store) (entries_meant l.cx.plan l.values.items) (drop l.entry-index l.entries)
      ≡ entries_of (names_of l.fn.cx.plan l.names) (g.S.Store.held l.fn.store) (all_entries l.entries);
  keeps : IsTrue (g.S.Store.tells l.fn.store) → g.S.Store.held l.store ≡ g.S.Store.held l.fn.store;
  tells : g.S.Store.tells l.store ≡ g.S.Store.tells l.fn.store;
  faults : g.S.Store.faults l.store ≡ g.S.Store.faults l.fn.store;
  grows : Grows l.fn.cx.plan l.cx.plan;
  inside : All (IsEntryIn l.cx.plan) l.values.items;
}

abbrev pub invariant-eval_items-loop-item : goal.invariant-eval_items-loop-item
invariant-eval_items-loop-item g l = record {
  value : IsTrue (g.S.Store.tells l.fn.store)
      → values_rest (names_of l.fn.cx.plan l.names) (g.S.Store.held l.fn.store) (values_meant l.cx.plan l.values.items) (drop l.item-index l.items)
      ≡ values_of (names_of l.fn.cx.plan l.names) (g.S.Store.held l.fn.store) (all_trees l.items);
  keeps : IsTrue (g.S.Store.tells l.fn.store) → g.S.Store.held l.store ≡ g.S.Store.held l.fn.store;
  tells : g.S.Store.tells l.store ≡ g.S.Store.tells l.fn.store;
  faults : g.S.Store.faults l.store ≡ g.S.Store.faults l.fn.store;
  grows : Grows l.fn.cx.plan l.cx.plan;
  inside : All (IsValueIn l.cx.plan) l.values.items;
}
