use Rattle.std.proofs.Common.{subst}
use Rattle.std.specs.Str.{IsUtf8}
use Rattle.xr_encode.proofs.Bytes.{texts_more, utf8_bytes}
use Rattle.xr_encode.proofs.text.read_texts.Goals as goal

pub loop-text-preserved : goal.loop-text-preserved
loop-text-preserved c =
    texts_more c.args.texts.now c.loop-text.text-index c.text-item.result c.loop-text-test.true c.text-item.is (utf8_bytes c.text-item.result (subst IsUtf8 c.as_str-text.ensures c.as_str-text.utf8)) c.loop-text.invariant
