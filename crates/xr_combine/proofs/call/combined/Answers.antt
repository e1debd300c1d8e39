use Rattle.std.proofs.Common.{◌∙◌, ◌≡◌, ap, get_or, map, subst, sym}
use Rattle.std.specs.Prelude.{option_map}
use Rattle.xr_combination.specs.Combine.{groups}
use Rattle.xr_combination.specs.Pieces.{no_set}
use Rattle.xr_values.specs.Meaning.{meaning}
use Rattle.xr_values.specs.Stands.{dataset_in}
use Rattle.xr_combine.specs.Sets.{held, sets_in, AnswersSeveral, AreSetsIn}
use Rattle.xr_combine.proofs.Grouped.{groups_told}
use Rattle.xr_combine.proofs.call.combined.Goals as goal

pub groups_combined-requires-clause-inside : goal.groups_combined-requires-clause-inside
groups_combined-requires-clause-inside g c = λ κs lives. let old = c.args.plan.now in subst (AreSetsIn old) (sym c.as_slice-3.ensures) (c.in_ok-sets.ensures.inside old c.requires.inside)

pub returns-clause-answers : goal.returns-clause-answers
returns-clause-answers g c =
    let old = c.args.plan.now in
    let sets = c.as_slice-3.result.now in
    let members = c.as_slice-4.result.now in
    let same : map (λ s. s.now) c.as_slice-2.result.now ≡ held sets = ap (map (λ s. s.now)) c.as_slice-2.ensures ∙ c.in_ok-members.ensures ∙ ap held (c.as_slice.ensures ∙ sym c.as_slice-3.ensures) in
    subst (AnswersSeveral c.groups_combined.new.plan c.groups_combined.result)
    (groups_told c.args.how (option_map (λ v. meaning old v.now) c.args.fill) (map (meaning old) c.args.values.now) (sets_in old sets) members (ap (sets_in old) c.as_slice-3.ensures ∙ c.in_ok-sets.ensures.are old)
    (subst (λ hs. map (map (λ i. get_or (map (dataset_in old) hs) i no_set)) members ≡ groups (map (dataset_in old) hs)) same
    (ap (map (map (λ i. get_or (map (dataset_in old) (map (λ s. s.now) c.as_slice-2.result.now)) i no_set))) c.as_slice-4.ensures ∙ c.in_ok-groups.ensures old)))
    c.groups_combined.ensures.answers
