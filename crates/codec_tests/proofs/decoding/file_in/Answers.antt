use Rattle.xr_decode.proofs.Spelled.{spelled_readable}
use Rattle.codec_tests.proofs.decoding.file_in.Goals as goal

pub returns-in-Ok : goal.returns-in-Ok
returns-in-Ok c = spelled_readable c.args.bytes.now _ c.in-Ok.ensures.found
