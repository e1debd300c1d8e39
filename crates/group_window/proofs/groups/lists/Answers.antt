use Rattle.std.proofs.Common.{◌∙◌, ap, refl, length}
use Rattle.xr_groups.specs.Groups as of
use Rattle.group_window.proofs.Ranked.{ranked_lists}
use Rattle.group_window.proofs.groups.lists.Goals as goal

pub returns : goal.returns
returns g c =
    ranked_lists g.K.Ord.cmp g.met.K.Ord.total c.args.distinct.now c.args.keys.now (length c.args.distinct.now) c.in_ok-places.places.items c.in_ok-lists.lists c.requires.sorted c.in_ok-places.ensures refl
    (c.in_ok-lists.ensures ∙ ap (of.bin_lists (length c.args.distinct.now)) c.deref.ensures.value) c.requires.keys
