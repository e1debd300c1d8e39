use Rattle.std.proofs.Common.{◌≡◌, drop, [], map}
use Rattle.std.specs.Prelude.{fold}
use Rattle.std.specs.BTreeSet.{insert_key}
use Rattle.xr_combination.specs.Combine.{names_cmp}
use Rattle.xr_tiling.specs.Groups.{texts, texts_of}
use Rattle.xr_tiling.proofs.groups.group_names.Given as goal

abbrev pub invariant-loop-names : goal.invariant-loop-names
invariant-loop-names l = fold (insert_key names_cmp) (map (λ g. texts g.now) l.groups.keys) (map texts_of (drop l.names-index l.all)) ≡ fold (insert_key names_cmp) [] (map texts_of l.all)
