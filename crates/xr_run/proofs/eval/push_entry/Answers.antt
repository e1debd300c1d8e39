use Rattle.std.proofs.Common.{ap, ◌∙◌}
use Rattle.xr_defs.specs.Meanings.{Entry}
use Rattle.xr_values.specs.Meaning.{meaning, all_entries}
use Rattle.xr_values.proofs.Meaning.{all_entered}
use Rattle.xr_run.proofs.eval.push_entry.Goals as goal

pub returns-clause-value : goal.returns-clause-value
returns-clause-value c = λ nodes.
    ap (all_entries nodes) c.in_ok-push.ensures.items ∙ all_entered nodes c.args.entries.now.items c.in_ok-key.key c.args.value
    ∙ ap (λ k. Entry (all_entries nodes c.args.entries.now.items) k (meaning nodes c.args.value)) c.in_ok-key.ensures
