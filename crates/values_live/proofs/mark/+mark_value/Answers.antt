use Rattle.std.proofs.Common.{◌∙◌, ap, sym, subst, length, All}
use Rattle.plan_core.proofs.Concats.{all_done}
use Rattle.xr_values.specs.Meaning.{IsValueIn, IsEntryIn}
use Rattle.xr_values.specs.declared.dataset.Dataset.{Dataset}
use Rattle.values_live.specs.Marked.{IsValueLive, IsEntryLive}
use Rattle.values_live.proofs.Marking.{values_more, entries_more, absent_live, missing_live, truth_live, number_live, text_live, slice_live, times_live, list_live, table_live, array_live, grouped_array_live, set_live, grouped_set_live}
use Rattle.values_live.proofs.mark.+mark_value.Goals as goal

pub loop-item-preserved : goal.loop-item-preserved
loop-item-preserved t c =
    let old = c.loop-item.live in
    record {
      marked = λ nodes long inside.
          values_more old c.mark_value.new.live c.deref-item-items.result.now c.loop-item.item-index c.item-item.result c.loop-item-test.true c.item-item.is c.mark_value.ensures.stay
          (c.mark_value.ensures.marked nodes (long ∙ sym c.loop-item.auto.live) (subst (IsValueIn nodes) (sym c.item-item.is) (inside c.loop-item.item-index c.item-item.result c.loop-item-test.true))) (c.loop-item.invariant.marked nodes long inside);
      stay = λ k is. c.mark_value.ensures.stay k (c.loop-item.invariant.stay k is);
    }

pub loop-entry-preserved : goal.loop-entry-preserved
loop-entry-preserved t c =
    let old = c.loop-entry.live in
    let call = c.mark_value-in-loop-entry in
    record {
      marked = λ nodes long inside.
          entries_more old call.new.live c.deref-entry-items.result.now c.loop-entry.entry-index c.entry-item.result c.loop-entry-test.true c.entry-item.is call.ensures.stay
          (call.ensures.marked nodes (long ∙ sym c.loop-entry.auto.live) (subst (IsEntryIn nodes) (sym c.entry-item.is) (inside c.loop-entry.entry-index c.entry-item.result c.loop-entry-test.true))) (c.loop-entry.invariant.marked nodes long inside);
      stay = λ k is. call.ensures.stay k (c.loop-entry.invariant.stay k is);
    }

pub returns-in-Absent-clause-marked : goal.returns-in-Absent-clause-marked
returns-in-Absent-clause-marked t c = λ nodes long inside. absent_live c.args.live.now nodes c.args.value.now inside c.in-Absent.is

pub returns-in-Missing-clause-marked : goal.returns-in-Missing-clause-marked
returns-in-Missing-clause-marked t c = λ nodes long inside. missing_live c.args.live.now nodes c.args.value.now inside c.in-Missing.is

pub returns-in-Truth-clause-marked : goal.returns-in-Truth-clause-marked
returns-in-Truth-clause-marked t c = λ nodes long inside. truth_live c.args.live.now nodes c.args.value.now inside c.in-Truth.field-0 c.in-Truth.is

pub returns-in-Number-clause-marked : goal.returns-in-Number-clause-marked
returns-in-Number-clause-marked t c = λ nodes long inside. number_live c.args.live.now nodes c.args.value.now inside c.in-Number.field-0 c.in-Number.is

pub returns-in-Text-clause-marked : goal.returns-in-Text-clause-marked
returns-in-Text-clause-marked t c = λ nodes long inside. text_live c.args.live.now nodes c.args.value.now inside c.in-Text.field-0 c.in-Text.is

pub returns-in-Slice-clause-marked : goal.returns-in-Slice-clause-marked
returns-in-Slice-clause-marked t c = λ nodes long inside. slice_live c.args.live.now nodes c.args.value.now inside c.in-Slice.field-0 c.in-Slice.field-1 c.in-Slice.field-2 c.in-Slice.is

pub returns-in-Times-clause-marked : goal.returns-in-Times-clause-marked
returns-in-Times-clause-marked t c = λ nodes long inside. times_live c.args.live.now nodes c.args.value.now inside c.in-Times.field-0 c.in-Times.field-1 c.in-Times.is

pub returns-in-Array-clause-marked : goal.returns-in-Array-clause-marked
returns-in-Array-clause-marked t c = λ nodes long inside.
    array_live c.mark.new.live nodes c.args.value.now inside (length c.args.live.now) long c.in-Array.array c.deref.result.now c.deref.ensures c.mark.ensures.marked c.in-Array.is

pub returns-in-Set-clause-marked : goal.returns-in-Set-clause-marked
returns-in-Set-clause-marked t c = λ nodes long inside.
    set_live c.mark_variables.new.live nodes c.args.value.now inside (length c.args.live.now) long c.in-Set.set c.as_slice.result.now (c.as_slice.ensures.variables ∙ ap (λ (s : Dataset). s.vars) c.deref-in-Set.ensures) c.mark_variables.ensures.marked c.in-Set.is

pub returns-in-GroupedArray-clause-marked : goal.returns-in-GroupedArray-clause-marked
returns-in-GroupedArray-clause-marked t c = λ nodes long inside.
    grouped_array_live c.mark-in-GroupedArray.new.live nodes c.args.value.now inside (length c.args.live.now) long c.in-GroupedArray.array c.in-GroupedArray.field-1 c.deref-in-GroupedArray.result.now c.deref-in-GroupedArray.ensures c.mark-in-GroupedArray.ensures.marked c.in-GroupedArray.is

pub returns-in-GroupedSet-clause-marked : goal.returns-in-GroupedSet-clause-marked
returns-in-GroupedSet-clause-marked t c = λ nodes long inside.
    grouped_set_live c.mark_variables-in-GroupedSet.new.live nodes c.args.value.now inside (length c.args.live.now) long c.in-GroupedSet.set c.in-GroupedSet.field-1 c.as_slice-in-GroupedSet.result.now
    (c.as_slice-in-GroupedSet.ensures.variables ∙ ap (λ (s : Dataset). s.vars) c.deref-in-GroupedSet.ensures) c.mark_variables-in-GroupedSet.ensures.marked c.in-GroupedSet.is

pub returns-after-loop-item-clause-marked : goal.returns-after-loop-item-clause-marked
returns-after-loop-item-clause-marked t c = λ nodes long inside.
    let live = c.loop-item.live in
    let same = c.deref-item-items.ensures.value in
    list_live live nodes c.args.value.now inside c.in-List.items c.in-List.is
    (λ are. subst (All (IsValueLive live)) same (all_done (IsValueLive live) c.deref-item-items.result.now c.loop-item.item-index c.loop-item-test.false (c.loop-item.invariant.marked nodes long (subst (All (IsValueIn nodes)) (sym same) are))))

pub returns-after-loop-entry-clause-marked : goal.returns-after-loop-entry-clause-marked
returns-after-loop-entry-clause-marked t c = λ nodes long inside.
    let live = c.loop-entry.live in
    let same = c.deref-entry-items.ensures.value in
    table_live live nodes c.args.value.now inside c.in-Table.entries c.in-Table.is
    (λ are. subst (All (IsEntryLive live)) same (all_done (IsEntryLive live) c.deref-entry-items.result.now c.loop-entry.entry-index c.loop-entry-test.false (c.loop-entry.invariant.marked nodes long (subst (All (IsEntryIn nodes)) (sym same) are))))
