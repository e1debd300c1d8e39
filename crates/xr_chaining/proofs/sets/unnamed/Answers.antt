use Rattle.std.proofs.Common.{◌∙◌}
use Rattle.xr_chaining.proofs.Variants.{array_inside, array_is, array_is_no_set, other_is, other_is_no_set, set_inside, set_is, set_stays}
use Rattle.xr_chaining.proofs.sets.unnamed.Goals as goal

pub returns-in-Array : goal.returns-in-Array
returns-in-Array c = record {
  is = λ nodes. array_is nodes c.args.value.now c.in-Array.array c.deref.result.now c.in-Array.is c.deref.ensures c.unnamed_set.result c.unnamed_set.ensures;
  inside = λ nodes inside. array_inside nodes c.args.value.now c.in-Array.array c.deref.result.now c.in-Array.is c.deref.ensures c.unnamed_set.result c.unnamed_set.ensures inside;
  set = λ nodes inside set. array_is_no_set nodes c.args.value.now c.in-Array.array c.deref.result.now c.in-Array.is c.deref.ensures c.unnamed_set.result set;
}

pub returns-in-Set : goal.returns-in-Set
returns-in-Set c = record {
  is = λ nodes. set_is nodes c.args.value.now c.in-Set.set c.deref-in-Set.result.now c.in-Set.is c.deref-in-Set.ensures c.set_again.result c.set_again.ensures;
  inside = λ nodes inside. set_inside nodes c.args.value.now c.in-Set.set c.deref-in-Set.result.now c.in-Set.is c.deref-in-Set.ensures c.set_again.result c.set_again.ensures inside;
  set = λ nodes inside set. set_stays nodes c.args.value.now c.in-Set.set c.deref-in-Set.result.now c.in-Set.is c.deref-in-Set.ensures c.set_again.result c.set_again.ensures inside;
}

pub returns-in_default : goal.returns-in_default
returns-in_default c = record {
  is = λ nodes. c.no_set.ensures.is nodes ∙ other_is nodes c.args.value.now c.in_default.not-Array c.in_default.not-Set;
  inside = λ nodes inside. c.no_set.ensures.inside nodes;
  set = λ nodes inside set. other_is_no_set nodes c.args.value.now _ c.in_default.not-Array c.in_default.not-Set set;
}
