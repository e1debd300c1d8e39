use Rattle.codec_tests.proofs.TestSets.{alone_in}
use Rattle.codec_tests.proofs.encoding.alone.Goals as goal

pub returns : goal.returns
returns c =
    rw (c.in_ok-plan.ensures, c.in_ok-push.ensures.ok, c.new-axes.ensures, c.in_ok-axis.ensures, c.in_ok-put.ensures.ok, c.new-vars.ensures, c.in_ok-variable.ensures, c.new.ensures, c.new-2.ensures, c.new-3.ensures, c.new-4.ensures, c.kind-kind.ensures) (alone_in c.args.cells c.args.size c.args.labels c.args.masked c.requires.few c.requires.index c.requires.shape c.requires.whole c.requires.range c.requires.seen)
