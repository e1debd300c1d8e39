use Rattle.std.proofs.Common.{ap, rules}
use Rattle.xr_outside.specs.Memory.{put_all}
use Rattle.xr_outside.proofs.Puts.{put_more, added_as, found_empty}
use Rattle.xr_outside.proofs.memory.log_of.Goals as goal

pub loop-file-init : goal.loop-file-init
loop-file-init c = ap (put_all c.args.files.now) (found_empty _ _ (search rules))

pub loop-file-preserved : goal.loop-file-preserved
loop-file-preserved c =
    let added = added_as _ _ c.file-item.result.name c.file-item.result.bytes _ _ _ _ c.as_bytes.ensures c.as_slice.ensures c.in_ok-add.ensures.pool c.in_ok-add.ensures.puts in
    put_more c.args.files.now c.loop-file.file-index c.file-item.result _ _ _ c.loop-file-test.true c.file-item.is added c.loop-file.invariant
