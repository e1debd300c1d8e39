use Rattle.std.proofs.Common.{◌∙◌, List, Err, ap, subst, sym}
use Rattle.std.specs.Prelude.{option_map}
use Rattle.std.proofs.lemmas.Result.{err_from_is_err_and}
use Rattle.xr_combination.specs.Pieces.{each_of}
use Rattle.xr_merging.specs.Each.{behind}
use Rattle.xr_arrays.specs.declared.node.Node.{Node}
use Rattle.xr_values.specs.Answers.{Fails}
use Rattle.xr_values.specs.Meaning.{meaning}
use Rattle.xr_combine.specs.Sets.{sets_in}
use Rattle.xr_combine.specs.Steps.{members_combined}
use Rattle.xr_combine.proofs.Behind.{first_fails, none_behind, one_behind}
use Rattle.xr_combine.proofs.Failing.{behind_fails}
use Rattle.xr_combine.proofs.Kept.{sets_hold, sets_kept, sets_stay}
use Rattle.xr_combine.proofs.groups.+push_groups.Goals as goal

pub push_groups-requires-clause-inside : goal.push_groups-requires-clause-inside
push_groups-requires-clause-inside g t c = λ κs lives. sets_stay c.args.plan.now c.members_combined.new.plan c.members_combined.ensures.grows c.args.sets.now c.requires.inside

pub push_groups-requires-clause-before : goal.push_groups-requires-clause-before
push_groups-requires-clause-before g t c = λ κs lives.
    let old = c.args.plan.now in
    let mid = c.members_combined.new.plan in
    sets_hold mid c.args.out.now c.push.new.self c.in_ok-set-in-len1-up.set c.in_ok-push-in-len1-up.ensures.ok (sets_stay old mid c.members_combined.ensures.grows c.args.out.now c.requires.before) c.in_ok-set-in-len1-up.ensures.answers.1

pub returns-in-empty-clause-answers : goal.returns-in-empty-clause-answers
returns-in-empty-clause-answers g t c =
    let old = c.args.plan.now in
    none_behind (members_combined c.args.how (option_map (λ v. meaning old v.now) c.args.fill) (sets_in old c.args.sets.now)) c.args.groups.now old c.args.out.now c.in-empty.len_below c.requires.before

pub returns-in_err-set-in-len1-up-clause-answers : goal.returns-in_err-set-in-len1-up-clause-answers
returns-in_err-set-in-len1-up-clause-answers g t c =
    let old = c.args.plan.now in
    let f = members_combined c.args.how (option_map (λ v. meaning old v.now) c.args.fill) (sets_in old c.args.sets.now) in
    let e = c.in_err-set-in-len1-up.field-0.0 in
    let p = err_from_is_err_and c.from_residual.result c.from_residual.ensures.1 in
    behind_fails c.members_combined.new.plan c.from_residual.result e c.args.out.now (behind (sets_in old c.args.out.now) (each_of f c.args.groups.now)) (p.1 ∙ ap Err p.2)
    (first_fails f c.args.groups.now c.group-item.result c.in-len1-up.len_at_least c.group-item.is old c.args.out.now e (subst (λ ps. Fails e (f ps)) c.as_slice.ensures c.in_err-set-in-len1-up.ensures.answers))

pub returns-in_ok-push-in-len1-up-clause-answers : goal.returns-in_ok-push-in-len1-up-clause-answers
returns-in_ok-push-in-len1-up-clause-answers g t c =
    let old = c.args.plan.now in
    let mid = c.members_combined.new.plan in
    let made = λ (nodes : List Node). members_combined c.args.how (option_map (λ v. meaning nodes v.now) c.args.fill) (sets_in nodes c.args.sets.now) in
    one_behind (made old) c.args.groups.now c.group-item.result c.in-len1-up.len_at_least c.group-item.is (made mid) old mid c.push_groups.new.plan c.args.out.now c.push.new.self c.push_groups.new.out c.in_ok-set-in-len1-up.set c.push_groups.result
    (λ i. members_combined c.args.how (c.requires.fixed.means mid old i) (sets_kept old mid c.members_combined.ensures.grows c.args.sets.now c.requires.inside i))
    c.members_combined.ensures.grows c.requires.before (ap (made old) (sym c.as_slice.ensures) ∙ c.in_ok-set-in-len1-up.ensures.answers.0) c.in_ok-push-in-len1-up.ensures.ok c.push_groups.ensures.answers
