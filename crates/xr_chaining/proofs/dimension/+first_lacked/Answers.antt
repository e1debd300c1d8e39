use Rattle.xr_chaining.specs.Sets.{is_lacked_in}
use Rattle.xr_chaining.proofs.Searched.{found_later}
use Rattle.xr_chaining.proofs.dimension.+first_lacked.Goals as goal

pub returns-in-None : goal.returns-in-None
returns-in-None t c = λ nodes.
    found_later nodes (is_lacked_in nodes c.args.sets.now) c.args.rest.now c.set-item.result c.as_slice.result.now c.first_lacked_of.result _ c.in-len1-up.len_at_least c.set-item.is c.as_slice.ensures.variables c.in-None.is
    (c.first_lacked_of.ensures nodes) (c.first_lacked.ensures nodes)
