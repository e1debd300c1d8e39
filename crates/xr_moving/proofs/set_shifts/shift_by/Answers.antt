use Rattle.std.proofs.Common.{◌≡◌, Ok, map, subst}
use Rattle.xr_types.specs.Results.{all_of}
use Rattle.xr_values.specs.Meaning.{meaning}
use Rattle.xr_values.specs.Stands.{variable_in}
use Rattle.xr_moving.specs.Steps.{check_range}
use Rattle.xr_moving.proofs.ShiftedSets.{shift_made}
use Rattle.xr_moving.proofs.set_shifts.shift_by.Goals as goal

pub returns : goal.returns
returns c nodes others is literal =
    let w = meaning others c.args.value.now in
    let r = subst (λ vs. all_of (check_range c.args.by w) (map (variable_in nodes) vs) ≡ Ok tt) c.as_slice-2.ensures.variables
    (subst (λ bys. all_of (check_range bys w) (map (variable_in nodes) c.as_slice-2.result.now) ≡ Ok tt) c.as_slice.ensures (c.in_ok-check_ranges.ensures nodes others)) in
    shift_made nodes c.args.on.now c.args.by w c.cell_of-fill.result c.in_ok-made.made literal (c.cell_of-fill.ensures others) r (c.in_ok-made.ensures nodes is)
