use Rattle.xr_parts.proofs.Described.{attr_on, stay_put}
use Rattle.xr_parts.proofs.attributes.attrs_assigned.Goals as goal

pub loop-argument-preserved : goal.loop-argument-preserved
loop-argument-preserved c = record {
  so_far = λ nodes. attr_on nodes c.loop-argument.attrs c.put_attr.new.attrs c.in_ok-attr_given.field-0 _ c.loop-argument.argument-index c.argument-item.result _
      c.loop-argument-test.true c.argument-item.is (c.in_ok-attr_given.ensures.answers nodes) c.in_ok-put_attr.ensures (c.loop-argument.invariant.so_far nodes);
  formed = λ are. stay_put c.loop-argument.attrs c.put_attr.new.attrs c.in_ok-attr_given.field-0 c.in_ok-put_attr.ensures (c.loop-argument.invariant.formed are) c.in_ok-attr_given.ensures.formed;
}
