use Rattle.xr_run.proofs.Long.{long_file}
use Rattle.xr_run.proofs.functions.open_file.Goals as goal

pub returns-in-Ok-TooLong-clause-value : goal.returns-in-Ok-TooLong-clause-value
returns-in-Ok-TooLong-clause-value g c = λ s.
    let long = rw c.in-Ok-TooLong.field-0-is at (c.in-Ok-TooLong.ensures.answer s) in
    long_file (g.S.Store.held c.args.store.now) c.args.name.now long.0 c.args.mask long.1 long.2
