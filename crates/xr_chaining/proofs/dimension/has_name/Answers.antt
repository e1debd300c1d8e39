use Rattle.std.proofs.Common.{◌∙◌, ap, sym}
use Rattle.xr_combination.specs.Concat.{has_name}
use Rattle.xr_chaining.proofs.Variants.{array_means, set_means}
use Rattle.xr_chaining.proofs.dimension.has_name.Goals as goal

pub returns-in-Array : goal.returns-in-Array
returns-in-Array c = λ nodes. c.array_has_name.ensures nodes ∙ ap (has_name c.args.dim.now) (sym (array_means nodes c.args.value.now c.in-Array.array c.deref.result.now c.in-Array.is c.deref.ensures))

pub returns-in-Set : goal.returns-in-Set
returns-in-Set c = λ nodes. c.set_has_name.ensures nodes ∙ ap (has_name c.args.dim.now) (sym (set_means nodes c.args.value.now c.in-Set.set c.deref-in-Set.result.now c.in-Set.is c.deref-in-Set.ensures))
