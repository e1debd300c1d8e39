use Rattle.xr_merging.proofs.Attributes.{attrs_of}
use Rattle.xr_merging.proofs.contents.joined_attrs.Goals as goal

pub returns : goal.returns
returns c = attrs_of c.args.lists.now c.in_ok-parts.parts _ (λ nodes. c.in_ok-parts.ensures.carried nodes)
