use Rattle.std.proofs.Common.{◌∙◌, ap, subst, sym}
use Rattle.std.specs.Prelude.{option_map}
use Rattle.xr_combination.specs.Combine.{concat_sets}
use Rattle.xr_combination.specs.Pieces.{no_set}
use Rattle.xr_values.specs.Meaning.{meaning}
use Rattle.xr_values.specs.Stands.{dataset_in, IsDatasetIn}
use Rattle.xr_combine.specs.Sets.{held, sets_in, AnswersShared, AreSetsIn}
use Rattle.xr_combine.specs.Steps.{line_concatenated}
use Rattle.xr_combine.proofs.Picking.{picked_hold, those_picked}
use Rattle.xr_combine.proofs.lines.line_concatenated.Goals as goal

pub concat_sets-requires-clause-inside : goal.concat_sets-requires-clause-inside
concat_sets-requires-clause-inside g c = λ κs lives.
    let old = c.args.plan.now in
    subst (AreSetsIn old) (sym c.as_slice.ensures) (picked_hold (IsDatasetIn old) (held c.args.tiles.now) c.args.positions.now (held c.in_ok-sets.sets) c.in_ok-sets.ensures c.requires.inside)

pub returns-clause-answers : goal.returns-clause-answers
unfolding line_concatenated
returns-clause-answers g c =
    let old = c.args.plan.now in
    subst (λ ss. AnswersShared c.concat_sets.new.plan c.concat_sets.result (concat_sets c.args.how (option_map (λ v. meaning old v.now) c.args.fill) c.args.dim.now ss))
    (ap (sets_in old) c.as_slice.ensures ∙ those_picked (dataset_in old) no_set (held c.args.tiles.now) c.args.positions.now (held c.in_ok-sets.sets) c.in_ok-sets.ensures) c.concat_sets.ensures.answers
