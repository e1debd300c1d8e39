use Rattle.std.proofs.Common.{◌∙◌, sym}
use Rattle.xr_joint.proofs.Firsts.{others, whole}
use Rattle.xr_concat.proofs.Listed.{first_is}
use Rattle.xr_concat.proofs.call.first.Goals as goal

pub returns-in-len1-up-clause-is : goal.returns-in-len1-up-clause-is
returns-in-len1-up-clause-is c = λ nodes names vs told.
    first_is nodes names c.args.args.now vs c.value-item.result (others c.as_slice.result.now) (sym c.as_slice.ensures.value ∙ whole c.as_slice.result.now c.value-item.result c.in-len1-up.len_at_least c.value-item.is) told
