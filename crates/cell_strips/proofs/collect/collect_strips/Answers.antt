use Rattle.std.proofs.Common.{◌∙◌}
use Rattle.cell_strips.proofs.Results.{are_of}
use Rattle.cell_strips.proofs.collect.collect_strips.Goals as goal

pub array-requires : goal.array-requires
array-requires g c =
    (are_of (g.S.Strips.whole c.args.source.now) c.in_ok-shape.shape c.in_ok-all.all.cells c.in_ok-all.all.mask c.requires.array (c.in_ok-shape.ensures ∙ c.requires.shape) c.in_ok-all.ensures.kind c.in_ok-all.ensures.cells c.in_ok-all.ensures.whole.covers c.in_ok-all.ensures.whole.range).fits

pub returns : goal.returns
returns g c =
    c.array.ensures ∙ (are_of (g.S.Strips.whole c.args.source.now) c.in_ok-shape.shape c.in_ok-all.all.cells c.in_ok-all.all.mask c.requires.array (c.in_ok-shape.ensures ∙ c.requires.shape) c.in_ok-all.ensures.kind c.in_ok-all.ensures.cells c.in_ok-all.ensures.whole.covers c.in_ok-all.ensures.whole.range).is
