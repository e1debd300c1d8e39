use Rattle.std.proofs.Common.{map, ap₂, ◌∙◌}
use Rattle.xr_runs.specs.Runs.{put_each}
use Rattle.xr_values.specs.Meaning.{meaning}
use Rattle.xr_run.specs.Named.{names_of}
use Rattle.xr_run.proofs.Performed.{bound, bound_each, wrote}
use Rattle.xr_run.proofs.step.perform.Goals as goal

pub returns-in-Ok-clause-performs : goal.returns-in-Ok-clause-performs
returns-in-Ok-clause-performs g c = λ nodes s. bound nodes c.args.effect c.in-Bind.name c.in-Bind.value _ _ _ _ _ c.in-Bind.is (c.in-Ok.ensures.ok nodes)

pub returns-in-Ok-put_pieces-clause-performs : goal.returns-in-Ok-put_pieces-clause-performs
returns-in-Ok-put_pieces-clause-performs g c = λ nodes s.
    wrote nodes c.args.effect c.in-Write.name c.in-Write.pieces _ (g.S.Store.held c.args.store.now) (g.S.Store.held c.put_pieces.new.self) _ _ c.in-Write.is (c.in-Ok-put_pieces.ensures.here s) (c.in-Ok-put_pieces.ensures.others s)

pub returns-in-Ok-set_each-clause-performs : goal.returns-in-Ok-set_each-clause-performs
returns-in-Ok-set_each-clause-performs g c = λ nodes s.
    bound_each nodes c.args.effect c.in-BindEach.targets c.in-BindEach.values (names_of nodes c.args.names.now) (names_of nodes c.set_each.new.self) _ _ _ c.in-BindEach.is
    (c.in-Ok-set_each.ensures.ok nodes ∙ ap₂ (λ ns vs. put_each (names_of nodes c.args.names.now) ns (map (meaning nodes) vs)) c.as_slice.ensures c.as_slice-in-BindEach.ensures)
