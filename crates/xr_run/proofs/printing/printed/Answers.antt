use Rattle.std.proofs.Common.{All, Ok, ap, sym, subst, ◌∙◌}
use Rattle.xr_runs.specs.Calls.{text_printed}
use Rattle.xr_defs.specs.Printing.{set_text}
use Rattle.xr_arguments.proofs.Variants.{is_set}
use Rattle.xr_arguments.proofs.Inside.{inside_array, inside_set}
use Rattle.xr_print.specs.Conditions.{HasTimes, HoldsTime}
use Rattle.xr_values.specs.declared.dataset.Dataset.{Dataset}
use Rattle.xr_values.specs.Stands.{dataset_in, IsArrayIn}
use Rattle.xr_run.proofs.Timed.{set_times, set_scalars}
use Rattle.xr_run.proofs.printing.printed.Goals as goal

pub array_printed-requires-clause-inside : goal.array_printed-requires-clause-inside
array_printed-requires-clause-inside g c = λ κs live.
    subst (IsArrayIn c.args.cx.now.plan) (sym c.deref.ensures) (inside_array c.args.cx.now.plan c.args.value.now c.in-Array.array c.in-Array.is c.requires.inside)

pub set_text-requires-clause-times : goal.set_text-requires-clause-times
set_text-requires-clause-times g c =
    subst (λ (s : Dataset). All HasTimes s.axes) (sym c.deref-in-Set.ensures)
    (set_times c.args.cx.now.plan c.in-Set.set.value (inside_set c.args.cx.now.plan c.args.value.now c.in-Set.set c.in-Set.is c.requires.inside))

pub set_text-requires-clause-scalar_times : goal.set_text-requires-clause-scalar_times
set_text-requires-clause-scalar_times g c =
    subst (λ (s : Dataset). All HoldsTime s.coords) (sym c.deref-in-Set.ensures)
    (set_scalars c.args.cx.now.plan c.in-Set.set.value (inside_set c.args.cx.now.plan c.args.value.now c.in-Set.set c.in-Set.is c.requires.inside))

pub returns-in_ok-set_text-in-Set-clause-text : goal.returns-in_ok-set_text-in-Set-clause-text
unfolding text_printed
returns-in_ok-set_text-in-Set-clause-text g c =
    let nodes = c.args.cx.now.plan in
    ap text_printed (is_set nodes c.args.value.now c.in-Set.set c.in-Set.is)
    ∙ ap Ok (sym (c.in_ok-set_text-in-Set.ensures nodes ∙ ap (λ (s : Dataset). set_text (dataset_in nodes s)) c.deref-in-Set.ensures))
