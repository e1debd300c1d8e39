use Rattle.std.proofs.Common.{◌≡◌}
use Rattle.std.specs.Prelude.{IsTrue}
use Rattle.xr_run.specs.Named.{names_of, AreNamesIn}
use Rattle.xr_run.proofs.Stepped.{Leads}
use Rattle.xr_run.proofs.run_statements.run_statements.Given as goal

abbrev pub invariant-loop-i : goal.invariant-loop-i
invariant-loop-i g l = record {
  store_tells : g.S.Store.tells l.store ≡ g.S.Store.tells l.fn.store;
  out_tells : g.O.Sink.tells l.out ≡ g.O.Sink.tells l.fn.out;
  store_faults : g.S.Store.faults l.store ≡ g.S.Store.faults l.fn.store;
  out_faults : g.O.Sink.faults l.out ≡ g.O.Sink.faults l.fn.out;
  inside : AreNamesIn l.cx.plan l.names;
  leads : IsTrue (g.S.Store.tells l.fn.store)
      → Leads l.statements (g.S.Store.held l.fn.store) (g.O.Sink.tells l.fn.out) (g.O.Sink.taken l.fn.out) l.i (names_of l.cx.plan l.names) (g.S.Store.held l.store) (g.O.Sink.taken l.out);
}
