use Rattle.std.specs.List.{flat_map}
use Rattle.xr_files.specs.Canonical.{record_text, record_vars}
use Rattle.cdf_writer.proofs.Steps.{range_step}
use Rattle.cdf_writer.proofs.values.put_each_record.Goals as goal

pub loop-index-preserved : goal.loop-index-preserved
loop-index-preserved c =
    let f = c.args.file.now in
    range_step (λ r. flat_map (record_text f r) (record_vars f)) c.loop-index.index c.args.out.now.items c.loop-index.out.items c.put_record.new.out.items c.loop-index.invariant c.in_ok-put_record.ensures
