use Rattle.std.proofs.Common.{◌∙◌, [], map, ap}
use Rattle.std.specs.Prelude.{fold}
use Rattle.std.specs.BTreeSet.{insert_key}
use Rattle.xr_combination.specs.Combine.{names_cmp}
use Rattle.xr_tiling.specs.Groups.{positions_of, texts, texts_of}
use Rattle.xr_tiling.proofs.Grouping.{groups_are}
use Rattle.xr_tiling.proofs.groups.grouped.Goals as goal

pub returns : goal.returns
returns c = λ nodes.
    groups_are nodes (map (λ s. s.now) c.args.sets.now) (map texts_of c.in_ok-all.all) (map (λ g. texts g.now) c.in_ok-groups.groups.items) c.in_ok-members.members c.in_ok-all.ensures
    (c.in_ok-groups.ensures ∙ ap (λ vs. fold (insert_key names_cmp) [] (map texts_of vs)) c.as_slice.ensures)
    (c.in_ok-members.ensures ∙ (λ i. map (λ g. positions_of g (map texts_of (c.as_slice-3.ensures i)) 0) (map (λ g. texts g.now) (c.as_slice-2.ensures.value i))))
