use Rattle.xr_merge.proofs.Attrs.{set_attrs}
use Rattle.xr_merge.proofs.attributes.attrs_in.Goals as goal

pub returns-in-Set : goal.returns-in-Set
returns-in-Set c = λ nodes. set_attrs nodes c.args.value.now c.in-Set.set c.deref.result.now c.in-Set.is c.deref.ensures
