use Rattle.std.proofs.Common.{◌∙◌, length, sym}
use Rattle.std.specs.Map.Iter.{deref_pair}
use Rattle.std.proofs.lemmas.Map.Iter.{iter_end}
use Rattle.values_live.proofs.Naming.{shown_more, shown_all}
use Rattle.values_live.proofs.unnamed.mark_values.Goals as goal

pub loop-value-preserved : goal.loop-value-preserved
loop-value-preserved c = record {
  shown =
      shown_more (length c.args.live.now) c.loop-value.live c.mark_value.new.live c.loop-value.yielded (c.in-Some.field-0-0, c.in-Some.value) c.mark_value.ensures.stay
      (λ nodes long inside. c.mark_value.ensures.marked nodes (long ∙ sym c.loop-value.auto.live) inside) c.loop-value.invariant.shown;
  stay = λ k is. c.mark_value.ensures.stay k (c.loop-value.invariant.stay k is);
}

pub returns : goal.returns
returns c =
    let all =
    iter_end deref_pair c.args.values.now.entries c.loop-value.yielded c.into_iter-value-iterator.result c.loop-value.value-iterator c.next.new.self c.next.result
    (c.into_iter-value-iterator.ensures.into_iter_gives ∙ c.iter-value-items.ensures.rest) c.loop-value.yielded_by c.in-None.is c.next.ensures.steps in
    shown_all (length c.args.live.now) c.loop-value.live c.args.values.now c.loop-value.yielded all.0 c.loop-value.invariant.shown
