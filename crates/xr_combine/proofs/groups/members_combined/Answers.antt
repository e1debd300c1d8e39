use Rattle.std.proofs.Common.{◌∙◌, ap, subst, sym}
use Rattle.std.specs.Prelude.{option_map}
use Rattle.xr_combination.specs.Combine.{group_combined}
use Rattle.xr_combination.specs.Pieces.{no_set}
use Rattle.xr_values.specs.Meaning.{meaning}
use Rattle.xr_values.specs.Stands.{dataset_in, IsDatasetIn}
use Rattle.xr_combine.specs.Sets.{held, sets_in, AnswersShared, AreSetsIn}
use Rattle.xr_combine.specs.Steps.{members_combined}
use Rattle.xr_combine.proofs.Picking.{picked_hold, those_picked}
use Rattle.xr_combine.proofs.groups.members_combined.Goals as goal

pub group_combined-requires-clause-inside : goal.group_combined-requires-clause-inside
group_combined-requires-clause-inside g c = λ κs lives.
    let old = c.args.plan.now in
    subst (AreSetsIn old) (sym c.as_slice.ensures) (picked_hold (IsDatasetIn old) (held c.args.sets.now) c.args.positions.now (held c.in_ok-members.members) c.in_ok-members.ensures c.requires.inside)

pub returns-clause-answers : goal.returns-clause-answers
unfolding members_combined
returns-clause-answers g c =
    let old = c.args.plan.now in
    subst (λ ss. AnswersShared c.group_combined.new.plan c.group_combined.result (group_combined c.args.how (option_map (λ v. meaning old v.now) c.args.fill) ss))
    (ap (sets_in old) c.as_slice.ensures ∙ those_picked (dataset_in old) no_set (held c.args.sets.now) c.args.positions.now (held c.in_ok-members.members) c.in_ok-members.ensures) c.group_combined.ensures.answers
