use Rattle.xr_values.specs.Meaning.{meaning, IsValueIn}
use Rattle.xr_run.specs.Named.{names_of}
use Rattle.xr_run.proofs.Puts.{each_after, next_put}
use Rattle.xr_run.proofs.names.NameMap.set_each.Goals as goal

pub loop-name-preserved : goal.loop-name-preserved
loop-name-preserved c =
    let so_far = c.loop-name.invariant in
    let rest = c.loop-name.rest.now in
    let value = c.value-item.result in
    let some = c.in-len1-up.len_at_least in
    record {
      put = λ nodes.
          next_put (meaning nodes) (names_of nodes c.loop-name.self) c.args.names.now c.loop-name.name-index rest _ (so_far.put nodes) (names_of nodes c.set.new.self) c.name-item.result value _ c.loop-name-test.true c.name-item.is some c.value-item.is
          (c.in_ok-set-in-len1-up.ensures.ok nodes) (c.in_ok-copy-in-len1-up.ensures.means nodes);
      inside = λ nodes before values. c.in_ok-set-in-len1-up.ensures.inside nodes (so_far.inside nodes before values) (c.in_ok-copy-in-len1-up.ensures.inside nodes (each_after (IsValueIn nodes) rest value some c.value-item.is (so_far.rest nodes values)).0);
      rest = λ nodes values. (each_after (IsValueIn nodes) rest value some c.value-item.is (so_far.rest nodes values)).1;
    }
