use Rattle.xr_files.specs.Files.{var_of}
use Rattle.cdf_reader.proofs.Reversed.{moved}
use Rattle.cdf_reader.proofs.values.vars_of.Goals as goal

pub loop-head-preserved : goal.loop-head-preserved
loop-head-preserved c = λ h dims distance.
    rw c.in_ok-push.ensures.items (moved (var_of c.args.bytes.now h c.args.places.numrecs) c.pop.new.self.items c.in-Some.head c.in_ok-var_at.field-0 c.loop-head.vars.items _ (c.in_ok-var_at.ensures h dims distance)
    (rw c.in-Some.ensures.items at (c.loop-head.invariant h dims distance)))
